use Rattle.audit_roundtrip.proofs.ToldLaws.{blocks_back}
use Rattle.audit_roundtrip.proofs.laws.blocks_are_read_back.Goals as goal

pub returns : goal.returns
returns c = blocks_back
