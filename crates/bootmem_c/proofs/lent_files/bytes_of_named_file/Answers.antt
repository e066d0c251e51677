-- The search over the lent files finds the bytes that the definition gives.
use Rattle.std.proofs.Common.{arith}
use Rattle.std.proofs.lemmas.Grind.{common_steps}
use Rattle.bootmem_c.proofs.LentLaws.{bytes_of_found}
use Rattle.bootmem_c.proofs.lent_files.bytes_of_named_file.Goals as goal

pub returns-in_err-file_named : goal.returns-in_err-file_named
returns-in_err-file_named c = grind (arith, common_steps, bytes_of_found c.args.files.now c.args.name.now)

pub returns : goal.returns
returns c = grind (arith, common_steps, bytes_of_found c.args.files.now c.args.name.now)
