use Rattle.script_reader.proofs.ScriptSpellingLaws.{script_asks, script_fault}
use Rattle.script_reader.proofs.laws.scripts_of_spelling.Goals as goal

pub returns-clause-lines : goal.returns-clause-lines
returns-clause-lines c = script_asks

pub returns-clause-fault : goal.returns-clause-fault
returns-clause-fault c = script_fault
