-- Adding the next option and then the others adds all that remain.
use Rattle.std.proofs.Common.{◌≡◌, ◌∙◌, ℕ, ◌-◌, ◌≤◌, List, Bor, fold, get_or, length, take, drop, ap, arith}
use Rattle.std.proofs.lemmas.List.{take_all}
use Rattle.clap.specs.Words.{App, app_of}
use Rattle.clap.specs.declared.builder.action.ArgAction.{ArgAction}
use Rattle.program_args.specs.Grammar.{with_option}
use Rattle.program_args.proofs.grammar.with_options.Goals as goal

fold_first : {A B : Type 0} (f : B → A → B) (b : B) (xs : List A) (d : A) → 1 ≤ length xs
    → fold f (f b (get_or xs 0 d)) (take (length xs - 1) (drop 1 xs)) ≡ fold f b xs
fold_first f b xs d some = grind (arith, take_all)

abbrev adds : App → Bor (List ℕ) × ArgAction → App
adds app option = with_option app (option.0.now, option.1)

pub loop-rest-preserved : goal.loop-rest-preserved
loop-rest-preserved c =
    let rest = c.loop-rest.rest.now in
    ap (λ (app : App). fold adds app (take (length rest - 1) (drop 1 rest))) c.in_ok-made.ensures
    ∙ fold_first adds (app_of c.loop-rest.made) rest _ c.in-len1-up.len_at_least ∙ c.loop-rest.invariant
