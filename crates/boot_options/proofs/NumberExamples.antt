-- A worked example of the one kernel constant that a definition cites by name.
use Rattle.std.proofs.Common.{◌≡◌, ◌+◌, refl}
use Rattle.boot_options.specs.declared.options.TheConstants.{LONGEST_LINE}

-- `COMMAND_LINE_SIZE` on x86 is 2,048 bytes, with the zero byte that ends the line
longest_line : LONGEST_LINE + 1 ≡ 2048
longest_line = refl
