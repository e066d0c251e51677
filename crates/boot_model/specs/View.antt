-- What contracts see of the inputs and the results of a boot.
use Rattle.std.specs.Prelude.{map, Vec}
use Rattle.std.specs.Option.{option_map}
use Rattle.std.specs.declared.alloc.Global.{Global}
use Rattle.boot_options.specs.Options.{options_view}
use Rattle.srat_reader.specs.Table.{srat_view}
use Rattle.efi_map.specs.declared.efi.EfiMap.{EfiMap}
use Rattle.numa_nodes.specs.Assignment.{nodes_view}
use Rattle.sparse_sections.specs.Roots.{roots_view}
use Rattle.sparse_sections.specs.declared.places.Roots.{Roots}
use Rattle.section_maps.specs.declared.placed.Placed.{Placed}
use Rattle.buddy_handover.specs.BuddyView.{node_of_free_frame}
use Rattle.page_alloc.specs.PagesView.{page_state_of}
use Rattle.slit_zonelists.specs.SlitView.{slit_view}
use Rattle.boot_model.specs.declared.booted.Booted.{Booted}
use Rattle.boot_model.specs.declared.inputs.Inputs.{Inputs}
use Rattle.boot_model.specs.Boot.{EfiMapView, ExtraView, InputsView, BootedView}
use Rattle.boot_model.specs.declared.extra.Extra.{Extra}
use Rattle.boot_model.specs.Mirrors.{frame_range_of}
use Rattle.boot_model.specs.Sections.{SectionPlaces}

-- what contracts see of the EFI map: its entries and its mirrored frames
abbrev pub efi_map_view : EfiMap → EfiMapView
efi_map_view m = record { entries = m.entries.items; mirrors = map frame_range_of m.mirrors.items }

-- what contracts see of the inputs
abbrev pub inputs_view : Inputs → InputsView
inputs_view i = record {
  entries = i.zero.entries.items;
  initrd = i.zero.initrd;
  extension = i.ext.items;
  options = options_view i.options;
  domains = option_map srat_view i.srat;
  width = i.width;
  kernel = i.kernel;
  mirrors = map frame_range_of i.mirrors.items;
  upward = i.upward;
  lines = i.lines.items;
  page_lines = i.page_lines.items;
  slit = option_map slit_view i.slit;
  efi = option_map efi_map_view i.efi;
}

-- what contracts see of an `Extra`: the profile, and the lines of early claims
abbrev pub extra_view : Extra → ExtraView
extra_view e = record { profile = e.profile; claims = e.claims.items }

-- what contracts see of the places of the sections
abbrev pub sections_view : Roots → Vec Placed Global → SectionPlaces
sections_view roots placed = record { roots = roots_view roots; placed = placed.items }

-- what contracts see of the results of a boot
abbrev pub booted_view : Booted → BootedView
booted_view b = record {
  width = b.width;
  map = b.map.items;
  options = options_view b.options;
  items = b.journal.items;
  heads = b.heads;
  nodes = nodes_view b.nodes;
  crash = b.crash;
  sections = sections_view b.roots b.placed;
  claim_answers = b.claim_answers.items;
  answers = b.answers.items;
  spans = b.spans.items;
  free = node_of_free_frame b.buddy;
  lists = b.lists;
  page_answers = b.page_answers.items;
  after = page_state_of b.after;
}
