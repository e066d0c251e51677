use Rattle.std.proofs.Common.{arith}
use Rattle.std.proofs.lemmas.Nat.{one_shl}
use Rattle.memblock_cases.proofs.of_memblock_find.search.Goals as goal

pub find-requires-clause-aligned : goal.find-requires-clause-aligned
find-requires-clause-aligned c = (c.args.wanted.3, one_shl c.args.wanted.3 64 (omega arith))
