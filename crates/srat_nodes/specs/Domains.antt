-- The numbers of nodes: domains in the order in which the firmware first names them
-- (`acpi_map_pxm_to_node`).
use Rattle.std.specs.Prelude.{ℕ, ◌==◌, Bool, if◌then◌else◌, List, [], ◌∷◌, ◌++◌, map, fold, unwrap_or}
use Rattle.std.specs.List.{list_any, position}
use Rattle.srat_reader.specs.declared.table.SratBlock.{SratBlock}

-- whether the domain is in the list
abbrev pub is_named_domain : List ℕ → ℕ → Bool
is_named_domain domains d = list_any (λ e. e == d) domains

-- the list with one more domain, unless the domain is in it already
abbrev pub with_domain : List ℕ → ℕ → List ℕ
with_domain domains d = if is_named_domain domains d then domains else domains ++ d ∷ []

-- the domains of the list, each once, in the order in which they are first named
unfoldable pub domains_once : List ℕ → List ℕ
domains_once names = fold with_domain [] names

-- the domains that the enabled entries name, each once: first those of processors, then those of
-- memory
abbrev pub named_domains : List ℕ → List SratBlock → List ℕ
named_domains processors blocks = domains_once (processors ++ map (λ (b : SratBlock). b.domain) blocks)

-- the node of a domain: its index in `domains`, from 0; node 0 for a domain that isn't in the list
abbrev pub node_of_domain : List ℕ → ℕ → ℕ
node_of_domain domains d = unwrap_or (position (λ e. e == d) domains) 0
