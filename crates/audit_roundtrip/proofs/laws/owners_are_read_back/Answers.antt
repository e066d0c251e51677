use Rattle.audit_roundtrip.proofs.ToldLaws.{owners_back}
use Rattle.audit_roundtrip.proofs.laws.owners_are_read_back.Goals as goal

pub returns : goal.returns
returns c = owners_back
