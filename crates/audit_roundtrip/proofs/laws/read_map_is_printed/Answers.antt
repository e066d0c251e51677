use Rattle.audit_roundtrip.proofs.PrintedLaws.{map_printed}
use Rattle.audit_roundtrip.proofs.laws.read_map_is_printed.Goals as goal

pub returns : goal.returns
returns c = map_printed
