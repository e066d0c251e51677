-- The report `sections`: the addresses of the data of memory sections, as lines of this project's
-- own. It has the table of roots (`mem_section`), each root, and the page structures and the usage
-- data of each section with memory (`sparse_init_nid`).
use Rattle.std.specs.Prelude.{ℕ, List, ◌++◌, codes, decimal}
use Rattle.bm_base.specs.Text.{hex_text}
use Rattle.sparse_sections.specs.declared.places.RootPlace.{RootPlace}
use Rattle.sparse_sections.specs.Roots.{RootsView}
use Rattle.section_maps.specs.declared.placed.Placed.{Placed}
use Rattle.report_memory.specs.Lines.{indexed_lines}

-- the line of the table of roots: its address
abbrev pub roots_line : ℕ → List ℕ
roots_line table = codes "roots " ++ hex_text table ++ codes "\n"

-- the line of a section root, as in `root 0 0x000000007ffd8000`: its number and its address; the
-- index `n` isn't printed
abbrev pub root_line : ℕ → RootPlace → List ℕ
root_line n root = codes "root " ++ decimal root.number ++ codes " " ++ hex_text root.place ++ codes "\n"

-- the line of a section: its number, its node, the address of its page structures (`map`) and that
-- of its usage data (`usage`); the index `n` isn't printed
abbrev pub section_line : ℕ → Placed → List ℕ
section_line n s =
    codes "section " ++ decimal s.section ++ codes " node " ++ decimal s.node ++ codes " map " ++ hex_text s.map ++ codes " usage "
    ++ hex_text s.usage ++ codes "\n"

-- a line for the table of roots, and one for each root
abbrev pub roots_text : RootsView → List ℕ
roots_text roots = roots_line roots.table ++ indexed_lines root_line 0 roots.roots

-- the report `sections`: the table of roots, each root, and each section with memory
abbrev pub sections_text : RootsView → List Placed → List ℕ
sections_text roots placed = roots_text roots ++ indexed_lines section_line 0 placed
