-- The commands of both programs are of the simple kind whose matches the port defines.
use Rattle.std.proofs.Common.{◌≡◌, true, refl}
use Rattle.clap.specs.Words.{is_simple, is_simple_and_free}
use Rattle.program_args.specs.Grammar.{bootmem61_command, bootmem_command}

-- each command is simple, so the port says what it finds
pub simple : is_simple bootmem_command ≡ true
unfolding bootmem_command
simple = refl

pub simple_and_free : is_simple_and_free bootmem_command ≡ true
unfolding bootmem_command
simple_and_free = refl

pub simple61 : is_simple bootmem61_command ≡ true
unfolding bootmem61_command
simple61 = refl

pub simple_and_free61 : is_simple_and_free bootmem61_command ≡ true
unfolding bootmem61_command
simple_and_free61 = refl
