use Rattle.memblock_find.proofs.OneLaws.{top_says, best_says, free_says}
use Rattle.memblock_find.proofs.laws.searches_follow_the_items.Goals as goal

pub returns-clause-best : goal.returns-clause-best
returns-clause-best c = best_says

pub returns-clause-top : goal.returns-clause-top
returns-clause-top c = top_says

pub returns-clause-free : goal.returns-clause-free
returns-clause-free c = free_says
