-- If the fetch succeeds, no fault is counted and the bytes are read. If it fails, a fault is
-- counted.
use Rattle.std.proofs.Common.{Some}
use Rattle.boot_inputs.proofs.fetching.fetch.Goals as goal

pub returns-clause-cause : goal.returns-clause-cause
returns-clause-cause g c =
    c.read.ensures.cause (g.F.Files.faults c.args.files.now) (g.F.Files.faults c.fetch_bytes.new.files) (λ input. Some c.args.name.now)
