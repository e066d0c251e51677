-- Ranges of addresses, written `BASE,SIZE` on the program's own command line.
use Rattle.std.specs.Prelude.{ℕ, ◌^◌, if◌then◌else◌, nat_lt, List, Option, Some, None}
use Rattle.bm_base.specs.Range.{RangeView, end_of}
use Rattle.bm_base.specs.OptionSteps.{◌>>=◌}
use Rattle.text_words.specs.Parts.{split_once}
use Rattle.boot_options.specs.MapOptions.{whole_size}

-- the range, or `None` if its base plus its size exceeds 2^64 - 1
abbrev pub range_if_in_space : RangeView → Option RangeView
range_if_in_space range = if nat_lt (end_of range) (2 ^ 64) then Some range else None

-- the range that the text `BASE,SIZE` gives. Both parts are numbers of bytes in the kernel's
-- notation (`memparse`), as in `16M,32M`. `None` if the text has another form, or if BASE plus SIZE
-- exceeds 2^64 - 1.
abbrev pub base_size_range : List ℕ → Option RangeView
base_size_range text = do
  halves ← split_once 44 text
  base ← whole_size halves.0
  size ← whole_size halves.1
  range_if_in_space (record { base = base; size = size })
