use Rattle.std.proofs.Common.{◌≡◌, ◌+◌, ◌-◌, ◌*◌, ◌≤◌, ◌∷◌, ◌++◌, [], take, drop, sym, refl, ap, ◌∙◌, append_assoc, arith}
use Rattle.std.proofs.lemmas.List.{append-nil}
use Rattle.e820_model.specs.declared.entry.Entry.{Entry}
use Rattle.std.proofs.Common.{List}
use Rattle.e820_table.specs.Made.{generated_entries_from, frames_of_entry, generated_entries}
use Rattle.e820_table.proofs.MadeLaws.{Split, none_more, one_more, page_of_all, split_more}
use Rattle.e820_table.proofs.generator.made.Goals as goal

pub loop-index-preserved : goal.loop-index-preserved
loop-index-preserved c =
    let l = c.loop-index in
    let x = c.next_generator_state-number.result in
    let e = c.generated_entry-entry.result in
    let front = l.page.items ++ l.ext.items in
    let place : e.addr ≡ l.base = rw c.generated_entry-entry.ensures refl in
    let size : e.size ≡ 4096 * frames_of_entry x = rw c.generated_entry-entry.ensures refl in
    let short : e.size ≤ 65536 = rw size (omega arith) in
    let split : Split c.put_entry.new.page.items c.put_entry.new.ext.items (front ++ e ∷ []) =
    split_more l.page.items l.ext.items front c.put_entry.new.page.items c.put_entry.new.ext.items e
    (record {
      whole = refl;
      fits = l.invariant.fits;
      alone = l.invariant.alone;
      page_space = l.invariant.page_space;
      others_space = l.invariant.extension_space;
    })
    c.in_ok-put_entry.ensures.room c.in_ok-put_entry.ensures.full (omega arith) in
    let after : List Entry = generated_entries_from (c.args.n - (l.index + 1)) (l.index + 1) (l.base + e.size) x in
    let step : generated_entries_from (c.args.n - l.index) l.index l.base l.number ≡ e ∷ after =
    one_more (c.args.n - l.index) (c.args.n - (l.index + 1)) l.index l.base l.number x e (omega arith)
    c.next_generator_state-number.ensures c.generated_entry-entry.ensures in
    record {
      entries = ap (λ (es : List Entry). es ++ after) split.whole ∙ append_assoc front (e ∷ []) after
          ∙ ap (λ (es : List Entry). front ++ es) (sym step) ∙ l.invariant.entries;
      fits = split.fits;
      so_many = omega (arith, c.in_ok-put_entry.ensures.one, l.invariant.so_many);
      alone = split.alone;
      low = omega arith;
      page_space = split.page_space;
      extension_space = split.others_space;
    }

pub returns-clause-page : goal.returns-clause-page
returns-clause-page c =
    let l = c.loop-index in
    let all : l.page.items ++ l.ext.items ≡ generated_entries c.args.n =
    sym (append-nil (l.page.items ++ l.ext.items))
    ∙ ap (λ (es : List Entry). (l.page.items ++ l.ext.items) ++ es)
    (sym (none_more (c.args.n - l.index) l.index l.base l.number (omega arith))) ∙ l.invariant.entries in
    sym (page_of_all l.page.items l.ext.items 128 l.invariant.fits l.invariant.alone).0 ∙ ap (take 128) all

pub returns-clause-extension : goal.returns-clause-extension
returns-clause-extension c =
    let l = c.loop-index in
    let all : l.page.items ++ l.ext.items ≡ generated_entries c.args.n =
    sym (append-nil (l.page.items ++ l.ext.items))
    ∙ ap (λ (es : List Entry). (l.page.items ++ l.ext.items) ++ es)
    (sym (none_more (c.args.n - l.index) l.index l.base l.number (omega arith))) ∙ l.invariant.entries in
    sym (page_of_all l.page.items l.ext.items 128 l.invariant.fits l.invariant.alone).1 ∙ ap (drop 128) all
