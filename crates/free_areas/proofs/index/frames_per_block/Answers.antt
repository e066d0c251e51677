use Rattle.std.proofs.Common.{arith}
use Rattle.std.proofs.Math.Pow.{pow_mono}
use Rattle.free_areas.proofs.index.frames_per_block.Goals as goal

pub returns-clause-few : goal.returns-clause-few
returns-clause-few c = let small = c.requires in let most = pow_mono {i = c.args.order} {j = 10} small in omega (arith, most)
