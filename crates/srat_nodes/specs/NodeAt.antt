-- The node of an address, from the blocks of memory with nodes (`numa_cleanup_meminfo`,
-- `numa_register_memblks`).
use Rattle.std.specs.Prelude.{ℕ, ◌==◌, Bool, ◌&&◌, ◌||◌, not, nat_le, nat_lt, max, min, if◌then◌else◌, Option, Some, None, List, [], ◌∷◌}
use Rattle.std.specs.List.{list_any, list_all}
use Rattle.address_runs.specs.Runs.{RunOf, run_end, lies_in}

-- a block: a range of addresses and its node (`struct numa_memblk`)
abbrev pub NumaBlock : Type 0
NumaBlock = RunOf ℕ

-- whether some address of the block is at or above `from`, and below `until`
abbrev pub block_meets : ℕ → ℕ → NumaBlock → Bool
block_meets from until c = nat_lt (max from c.base) (min until (run_end c))

-- whether the address lies between the blocks: at or above the end of `a`, and below the start of
-- `b`
abbrev pub lies_between_blocks : NumaBlock → NumaBlock → ℕ → Bool
lies_between_blocks a b x = nat_le (run_end a) x && nat_lt x b.base

-- whether no address from the start of the lower block `a` to the end of the upper block `b` is in
-- a block of a node other than n
abbrev pub meets_no_other_node : List NumaBlock → ℕ → NumaBlock → NumaBlock → Bool
meets_no_other_node blocks n a b = list_all (λ c. (c.value == n) || not (block_meets a.base (run_end b) c)) blocks

-- whether the address is in a block of node n
abbrev pub is_in_block_of_node : List NumaBlock → ℕ → ℕ → Bool
is_in_block_of_node blocks n x = list_any (λ b. (b.value == n) && lies_in b x) blocks

-- whether the address is between two blocks of node n, and no address from the start of the lower
-- to the end of the upper one is in a block of another node
abbrev pub is_in_gap_of_node : List NumaBlock → ℕ → ℕ → Bool
is_in_gap_of_node blocks n x =
    list_any (λ a.
    (a.value == n) && list_any (λ b. (b.value == n) && (lies_between_blocks a b x && meets_no_other_node blocks n a b)) blocks) blocks

-- whether the address belongs to node n: it is in a block of the node, or in a gap between two of
-- its blocks that no other node's block meets
abbrev pub belongs_to_node : List NumaBlock → ℕ → ℕ → Bool
belongs_to_node blocks n x = is_in_block_of_node blocks n x || is_in_gap_of_node blocks n x

-- the node of the first block of the second list to whose node the address belongs; None if there
-- is no such block. Whether it belongs to a node is decided by the first list.
abbrev pub first_node_among : List NumaBlock → ℕ → List NumaBlock → Option ℕ
first_node_among blocks x [] = None
first_node_among blocks x (b ∷ bs) = if belongs_to_node blocks b.value x then Some b.value else first_node_among blocks x bs

-- the node of an address: the node of the first block to whose node the address belongs
-- (`belongs_to_node`), or None. If blocks of different nodes share no address, an address belongs
-- to at most one node.
unfoldable pub node_at : List NumaBlock → ℕ → Option ℕ
node_at blocks x = first_node_among blocks x blocks

-- whether the two nodes are equal
abbrev pub same_node : ℕ → ℕ → Bool
same_node a b = a == b
