use Rattle.audit_roundtrip.proofs.ToldLaws.{map_back}
use Rattle.audit_roundtrip.proofs.laws.map_is_read_back.Goals as goal

pub returns : goal.returns
returns c = map_back
