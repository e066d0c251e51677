-- Inside a table the byte is that of its encoding; outside both tables the edit's clauses give it.
use Rattle.growth_model.proofs.ToldLaws.{edit-told, move-told}
use Rattle.growth_model.proofs.byte_laws.edits_change_only_table_bytes.Goals as goal

pub returns-clause-edited : goal.returns-clause-edited
returns-clause-edited c = edit-told

pub returns-clause-moved : goal.returns-clause-moved
returns-clause-moved c = move-told
