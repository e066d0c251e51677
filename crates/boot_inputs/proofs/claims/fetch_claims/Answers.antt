-- Fetched bytes are read, and no fault was counted for them.
use Rattle.boot_inputs.proofs.claims.fetch_claims.Goals as goal

pub returns-in_ok-bytes-in-Some-clause-cause : goal.returns-in_ok-bytes-in-Some-clause-cause
returns-in_ok-bytes-in-Some-clause-cause g c =
    c.claims_or_reason.ensures.cause (g.F.Files.faults c.args.files.now) (g.F.Files.faults c.fetch_bytes.new.files)
    (g.N.Names.named c.args.names.now)
