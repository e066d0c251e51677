-- Reading a line depends only on its words.
use Rattle.text_words.specs.declared.separators.Separators.TheVariants.{Script}
use Rattle.text_words.proofs.SpellingLaws.{has_words}
use Rattle.script_reader.proofs.GrammarLaws.{nothing_read, fault_read}
use Rattle.script_reader.proofs.SpellingLaws.{script_reads, act_read}
use Rattle.script_reader.proofs.laws.lines_of_spelling.Goals as goal

pub returns-clause-act : goal.returns-clause-act
returns-clause-act c seen text words act has = rw (has_words Script text words has) (act_read seen words act)

pub returns-clause-nothing : goal.returns-clause-nothing
returns-clause-nothing c seen text words has = rw (has_words Script text words has) (nothing_read (script_reads seen) words)

pub returns-clause-fault : goal.returns-clause-fault
returns-clause-fault c seen text words fault has = rw (has_words Script text words has) (fault_read (script_reads seen) words fault)
