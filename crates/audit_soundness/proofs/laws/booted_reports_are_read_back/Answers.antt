use Rattle.audit_soundness.proofs.SavedLaws.{blocks_read, map_read, owners_read}
use Rattle.audit_soundness.proofs.laws.booted_reports_are_read_back.Goals as goal

pub returns : goal.returns
returns c = record { map = map_read; owners = owners_read; blocks = blocks_read }
