-- The calls append the parts of the text one after another.
use Rattle.std.proofs.Common.{List, ℕ, ◌++◌, codes, decimal, sym, subst, append_assoc, arith}
use Rattle.std.proofs.lemmas.Grind.{common_steps}
use Rattle.bm_base.specs.PutsText.{PutsText}
use Rattle.report_memory.specs.OwnersText.{memblock_table_name}
use Rattle.report_memory.proofs.PutLaws.{goes_on}
use Rattle.report_stages.proofs.script.put_refused_growth.Goals as goal

pub returns : goal.returns
returns c =
    let front : List ℕ = codes "no gap for table " ++ memblock_table_name c.args.which in
    subst (λ (t : List ℕ). PutsText c.args.text.now c.put_word_dec.new.text c.put_word_dec.result t)
    (sym (append_assoc front (codes " room ") (decimal c.args.room)))
    (goes_on c.args.text.now c.put_text-2.new.out c.put_word_dec.new.text c.put_word_dec.result front
    (codes " room " ++ decimal c.args.room) c.put_word_dec.ensures (grind (arith, common_steps)) (grind (arith, common_steps)))
