-- The report `nodes`: why the SRAT is or isn't used (`numa_init`, which logs other words), the
-- proximity domain of each node, and which ranges got which node. The formats are this project's
-- own.
use Rattle.std.specs.Prelude.{ℕ, List, [], ◌++◌, codes, decimal}
use Rattle.memblock_model.specs.declared.item.Item.{Item}
use Rattle.memblock_model.specs.declared.item.Item.TheVariants as item
use Rattle.srat_nodes.specs.declared.reasons.Why.{Why}
use Rattle.srat_nodes.specs.declared.reasons.Why.TheVariants as why
use Rattle.numa_nodes.specs.Assignment.{NodesView}
use Rattle.report_memory.specs.Lines.{indexed_lines, range_text}

-- the text that says whether the SRAT is used, and if not, why. A block is a range of memory in the
-- SRAT. After `overlap` come the indices, among the enabled blocks, of two blocks of different
-- nodes that overlap. After `not covered` comes the number of frames of memory that lie in no
-- block.
abbrev pub srat_use_text : Why → List ℕ
srat_use_text why.Used = codes "used"
srat_use_text why.Off = codes "off"
srat_use_text why.Absent = codes "absent"
srat_use_text why.NoBlocks = codes "no blocks"
srat_use_text why.TooManyDomains = codes "too many domains"
srat_use_text why.TooManyBlocks = codes "too many blocks"
srat_use_text (why.Overlap i j) = codes "overlap " ++ decimal i ++ codes " " ++ decimal j
srat_use_text (why.NotCovered frames) = codes "not covered " ++ decimal frames

-- the line that says whether the SRAT is used, as in `numa absent`
abbrev pub srat_use_line : Why → List ℕ
srat_use_line reason = codes "numa " ++ srat_use_text reason ++ codes "\n"

-- the line of a node, as in `domain 5 node 0`: its proximity domain in the SRAT, and its number,
-- which is its index in the list
abbrev pub domain_line : ℕ → ℕ → List ℕ
domain_line node domain = codes "domain " ++ decimal domain ++ codes " node " ++ decimal node ++ codes "\n"

-- the line with the number of frames of memory that lie in no block (range of memory) of the SRAT;
-- 0 if the SRAT isn't used
abbrev pub uncovered_line : ℕ → List ℕ
uncovered_line frames = codes "uncovered " ++ decimal frames ++ codes "\n"

-- the line of a journal item that gives a range its node, as in `node 0
-- 0x0000000000001000..0x000000000009ffff`. Other items have no line, and the index `n` isn't
-- printed.
abbrev pub node_line : ℕ → Item → List ℕ
node_line n (item.Node range node) = codes "node " ++ decimal node ++ codes " " ++ range_text range ++ codes "\n"
node_line n other = []

-- the report `nodes`, from the nodes of a boot and from the journal items that give ranges their
-- nodes. If the SRAT isn't used, the report has no `domain` lines.
abbrev pub nodes_text : NodesView → List Item → List ℕ
nodes_text nodes items =
    srat_use_line nodes.why ++ indexed_lines domain_line 0 nodes.domains ++ uncovered_line nodes.uncovered
    ++ indexed_lines node_line 0 items
