use Rattle.e820_model.proofs.ClaimLaws.{greatest_among, greatest_above}
use Rattle.e820_model.proofs.laws.greatest_is_greatest.Goals as goal

pub returns : goal.returns
returns c = record { among = greatest_among; above = greatest_above }
