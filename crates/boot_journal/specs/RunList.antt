-- What contracts see of a list of runs (ranges of bytes with one owner) that grows at both ends.
use Rattle.std.specs.Prelude.{ℕ, List}
use Rattle.address_runs.specs.Runs.{RunOf}
use Rattle.memblock_model.specs.declared.owner.Owner.{Owner}

-- the list's runs, in ascending order, and the number of runs that it has memory for
pub record RunListView : Type 0 where
  pub items : List (RunOf Owner)
  pub room : ℕ
