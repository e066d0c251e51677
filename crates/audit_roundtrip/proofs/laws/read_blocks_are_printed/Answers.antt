use Rattle.audit_roundtrip.proofs.PrintedLaws.{blocks_printed}
use Rattle.audit_roundtrip.proofs.laws.read_blocks_are_printed.Goals as goal

pub returns : goal.returns
returns c = blocks_printed
