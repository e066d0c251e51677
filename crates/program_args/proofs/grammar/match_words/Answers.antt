-- What `clap` promises for simple commands holds for this one.
use Rattle.std.proofs.Common.{◌∙◌, subst, inl, inr, Result, Ok, Err, ap}
use Rattle.clap.specs.Words.{IsAmong}
use Rattle.program_args.specs.declared.reader.ArgsError.{ArgsError}
use Rattle.program_args.specs.declared.reader.ArgsError.TheVariants.{Memory}
use Rattle.program_args.proofs.grammar.match_words.Goals as goal

pub returns-in-Ok-clause-matches : goal.returns-in-Ok-clause-matches
returns-in-Ok-clause-matches c = (c.in-Ok.ensures.matches c.requires.simple).0

pub returns-in-Ok-clause-faultless : goal.returns-in-Ok-clause-faultless
returns-in-Ok-clause-faultless c = c.in-Ok.ensures.kinds c.requires.free

abbrev error_in : {T : Type 0} → Result T ArgsError → ArgsError
error_in (Ok x) = Memory
error_in (Err error) = error

pub returns-in-Err-clause-refused : goal.returns-in-Err-clause-refused
returns-in-Err-clause-refused c = λ is none.
    let usage = c.args_error_of_clap.ensures (ap error_in is) in
    elim (c.in-Err.ensures.kinds c.requires.free) [
      | inl memory ↦ absurd (usage (c.kind.ensures ∙ memory))
      | inr among ↦ absurd (subst (IsAmong _) none among)
    ]
