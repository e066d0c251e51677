use Rattle.memblock_ranges.proofs.CountLaws.{few-pieces, one-piece}
use Rattle.memblock_ranges.proofs.laws.uncovered_pieces_are_few.Goals as goal

pub returns-clause-few : goal.returns-clause-few
returns-clause-few c = few-pieces

pub returns-clause-one : goal.returns-clause-one
returns-clause-one c = one-piece
