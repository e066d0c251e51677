-- Rows of equal consecutive blocks, and lists of rows.
use Rattle.std.specs.Prelude.{◌≡◌, ◌⊎◌, ℕ, zero, suc, ◌+◌, ◌*◌, ◌^◌, ◌<◌, List, [], ◌∷◌, ◌++◌}
use Rattle.bm_base.specs.declared.zone.Zone.{Zone}
use Rattle.buddy_blocks.specs.declared.block.Block.{Block}
use Rattle.buddy_blocks.specs.declared.block.BlockRow.{BlockRow}

-- `k` blocks of this order, node and zone; the first begins at frame `x`, and each other one where
-- the one before it ends
unfoldable pub row_from : ℕ → ℕ → ℕ → Zone → ℕ → List Block
row_from order x n z zero = []
row_from order x n z (suc k) = record { order = order; first = x; node = n; zone = z } ∷ row_from order (x + 2 ^ order) n z k

-- the blocks of a row
abbrev pub blocks_of_row : BlockRow → List Block
blocks_of_row r = row_from r.order r.first r.node r.zone r.count

-- the blocks of all rows, in their order
abbrev pub blocks_of_rows : List BlockRow → List Block
blocks_of_rows [] = []
blocks_of_rows (r ∷ rs) = blocks_of_row r ++ blocks_of_rows rs

-- the frame after the last one of a row
abbrev pub row_end : BlockRow → ℕ
row_end r = r.first + r.count * 2 ^ r.order

-- rows `r` and `q` could be joined: both are of the largest order, on one node and in one zone,
-- and `q` begins where `r` ends
pub record AreJoinableRows (r q : BlockRow) : Type 0 where
  pub great : r.order ≡ 10
  pub order : q.order ≡ r.order
  pub node : q.node ≡ r.node
  pub zone : q.zone ≡ r.zone
  pub touch : q.first ≡ row_end r

-- row `r` can't be joined with the first row of the list, if there is one
abbrev pub CannotJoinNextRow : BlockRow → List BlockRow → Type 0
CannotJoinNextRow r [] = Unit {0}
CannotJoinNextRow r (q ∷ qs) = AreJoinableRows r q → ⊥

-- the list of rows is canonical: no row is empty, each block below the largest order is a row of
-- its own, and no two rows of the largest order can be joined
abbrev pub AreCanonicalRows : List BlockRow → Type 0
AreCanonicalRows [] = Unit {0}
AreCanonicalRows (r ∷ rs) = (0 < r.count) × ((r.order ≡ 10) ⊎ (r.count ≡ 1)) × CannotJoinNextRow r rs × AreCanonicalRows rs
