-- Widths of physical addresses (`MAX_PHYSMEM_BITS`: `pgtable_l5_enabled() ? 52 : 46`).
use Rattle.std.specs.Prelude.{ℕ, ◌^◌}
use Rattle.bm_base.specs.declared.width.Width.{Width}
use Rattle.bm_base.specs.declared.width.Width.TheVariants.{Bits46, Bits52}

-- the first address above all possible memory: 2^46 or 2^52
abbrev pub address_limit_of : Width → ℕ
address_limit_of Bits46 = 2 ^ 46
address_limit_of Bits52 = 2 ^ 52

-- the size in bytes of the kernel's table of section roots (`mem_section`): 8 for each of
-- `NR_SECTION_ROOTS` roots, and a root covers 256 sections of 128 MiB
abbrev pub root_table_size_of : Width → ℕ
root_table_size_of Bits46 = 16384
root_table_size_of Bits52 = 1048576
