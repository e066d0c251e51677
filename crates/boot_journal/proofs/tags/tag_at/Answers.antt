use Rattle.std.proofs.Common.{ℕ, ◌+◌, List, sym, ◌∙◌, ap, arith}
use Rattle.std.proofs.lemmas.List.{take_rest, length-drop}
use Rattle.memblock_model.specs.declared.item.Item.{Item}
use Rattle.memblock_model.specs.Labels.{tag_for}
use Rattle.boot_journal.proofs.ByteLaws.{turn, items_after_last_trim}
use Rattle.boot_journal.proofs.tags.tag_at.Goals as goal

pub loop-i-preserved : goal.loop-i-preserved
loop-i-preserved c =
    let rest : List Item = c.loop-i.rest.now in
    let i : ℕ = c.in-Some.i in
    let all = take_rest rest (i + 1) in
    record {
      few = rw all (omega (arith, length-drop (i + 1) rest));
      label = rw (all, c.marks_after_trim-whole.ensures) (sym (turn c.loop-i.whole rest i c.args.x (sym c.in-Some.ensures.first))
          ∙ c.loop-i.invariant.label);
    }

pub returns : goal.returns
returns c = c.tag_for.ensures ∙ ap tag_for (c.marks_after_items.ensures ∙ sym
    (items_after_last_trim c.loop-i.whole c.loop-i.rest.now c.args.x (sym c.in_default.ensures.first)) ∙ c.loop-i.invariant.label)
