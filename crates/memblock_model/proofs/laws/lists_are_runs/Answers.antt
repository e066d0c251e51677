-- Each of the two lists is made with a test that decides equality.
use Rattle.address_runs.proofs.RunsLaws.{runs_of_are_runs}
use Rattle.memblock_model.specs.Same.{same_owner}
use Rattle.memblock_model.specs.Items.{owner_of, owner_runs_of}
use Rattle.memblock_model.specs.Tables.{table_of, records_of}
use Rattle.memblock_model.proofs.SameLaws.{same_owner_decides_equality}
use Rattle.memblock_model.proofs.TableLaws.{records_for-runs}
use Rattle.memblock_model.proofs.laws.lists_are_runs.Goals as goal

pub returns-clause-owners : goal.returns-clause-owners
unfolding owner_runs_of
returns-clause-owners c = λ items ends. runs_of_are_runs same_owner same_owner_decides_equality (owner_of items) ends

pub returns-clause-records : goal.returns-clause-records
unfolding records_of
returns-clause-records c = λ w items ends. records_for-runs (table_of w items) ends
