-- Total memory (`memblock_phys_mem_size`).
use Rattle.std.specs.Prelude.{ℕ, ◌^◌, is_some}
use Rattle.e820_model.specs.Usable.{count_below}
use Rattle.memblock_model.specs.Labels.{Labels}

-- the number of addresses that are memory, not rounded
unfoldable pub memory_bytes : Labels → ℕ
memory_bytes f = count_below (λ x. is_some (f x)) (2 ^ 64)
