-- The best place is the top place of mirrored memory, or else that of any memory.
use Rattle.memblock_model.proofs.SearchLaws.{best_place_in-fits, best_place_in-mirrored, best_place_in-other, best_place_in-plain, best_place_in-none}
use Rattle.memblock_model.proofs.laws.best_is_mirrored_first.Goals as goal

pub returns-clause-fits : goal.returns-clause-fits
returns-clause-fits c = best_place_in-fits

pub returns-clause-mirrored : goal.returns-clause-mirrored
returns-clause-mirrored c = best_place_in-mirrored

pub returns-clause-other : goal.returns-clause-other
returns-clause-other c = best_place_in-other

pub returns-clause-unmirrored : goal.returns-clause-unmirrored
returns-clause-unmirrored c = best_place_in-plain

pub returns-clause-none : goal.returns-clause-none
returns-clause-none c = λ up memory reserved q b h. best_place_in-none up memory reserved q h b
