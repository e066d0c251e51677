-- A text is read as its words are.
use Rattle.text_words.specs.declared.separators.Separators.TheVariants.{Script}
use Rattle.text_words.proofs.SpellingLaws.{has_words}
use Rattle.script_reader.proofs.GrammarLaws.{act_read, nothing_read, fault_read}
use Rattle.page_alloc.proofs.SpellingLaws.{page_reads}
use Rattle.page_alloc.proofs.laws.page_lines_are_read_as_spelled.Goals as goal

pub returns-clause-act : goal.returns-clause-act
returns-clause-act c seen text words act has =
    let read = act_read page_reads words act in
    rw (has_words Script text words has) (λ is. (read.0 is).0, λ spells. read.1 (spells, tt))

pub returns-clause-nothing : goal.returns-clause-nothing
returns-clause-nothing c seen text words has = rw (has_words Script text words has) (nothing_read page_reads words)

pub returns-clause-fault : goal.returns-clause-fault
returns-clause-fault c seen text words fault has = rw (has_words Script text words has) (fault_read page_reads words fault)
