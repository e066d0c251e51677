-- Tests of whether two tables, labels or owners are equal.
use Rattle.std.specs.Prelude.{ℕ, ◌==◌, Bool, true, false, ◌&&◌, Option, Some, None}
use Rattle.memblock_model.specs.Labels.{LabelView}
use Rattle.memblock_model.specs.declared.owner.Which.{Which}
use Rattle.memblock_model.specs.declared.owner.Which.TheVariants as which
use Rattle.memblock_model.specs.declared.owner.Owner.{Owner}
use Rattle.memblock_model.specs.declared.owner.Owner.TheVariants as owner

abbrev pub same_which : Which → Which → Bool
same_which which.Memory which.Memory = true
same_which which.Memory which.Reserved = false
same_which which.Reserved which.Memory = false
same_which which.Reserved which.Reserved = true

-- whether both have no node, or both have the same node
abbrev pub same_node_or_none : Option ℕ → Option ℕ → Bool
same_node_or_none None None = true
same_node_or_none None (Some n) = false
same_node_or_none (Some m) None = false
same_node_or_none (Some m) (Some n) = m == n

-- whether both are true, or both false
abbrev pub same_bool : Bool → Bool → Bool
same_bool true b = b
same_bool false true = false
same_bool false false = true

-- whether all parts of both labels are equal
abbrev pub same_label : LabelView → LabelView → Bool
same_label a b = same_node_or_none a.node b.node && same_bool a.mirror b.mirror

-- a different number for each variant of `Owner`
abbrev pub variant_of : Owner → ℕ
variant_of owner.Kernel = 0
variant_of owner.Low64K = 1
variant_of owner.Initrd = 2
variant_of owner.Low1M = 3
variant_of owner.Soft = 4
variant_of (owner.Table w) = 5
variant_of (owner.NodeData n) = 6
variant_of owner.Crash = 7
variant_of owner.CrashLow = 8
variant_of owner.Roots = 9
variant_of (owner.Root n) = 10
variant_of (owner.Usage n) = 11
variant_of (owner.Map n) = 12
variant_of (owner.Script n) = 13

-- the number in an owner: of a node, a section root, a section, or an ID of the script. For `Table`
-- it is 1 for the reserved table and 0 for the memory table. For owners without a number it is 0.
abbrev pub owner_number : Owner → ℕ
owner_number (owner.Table which.Reserved) = 1
owner_number (owner.NodeData n) = n
owner_number (owner.Root n) = n
owner_number (owner.Usage n) = n
owner_number (owner.Map n) = n
owner_number (owner.Script n) = n
owner_number o = 0

-- whether both owners have the same variant and the same number
abbrev pub same_owner : Owner → Owner → Bool
same_owner a b = (variant_of a == variant_of b) && (owner_number a == owner_number b)
