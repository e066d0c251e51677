-- The search by name finds the file whose bytes the definition returns.
use Rattle.std.proofs.Common.{arith}
use Rattle.std.proofs.lemmas.Grind.{common_steps}
use Rattle.bm_io.proofs.HeldFilesLaws.{bytes_of_found}
use Rattle.bm_io.proofs.mem_files.bytes_named.Goals as goal

pub returns-in_err-file_named : goal.returns-in_err-file_named
returns-in_err-file_named c = grind (arith, common_steps, bytes_of_found c.args.files.now c.args.name.now)

pub returns : goal.returns
returns c = grind (arith, common_steps, bytes_of_found c.args.files.now c.args.name.now)
