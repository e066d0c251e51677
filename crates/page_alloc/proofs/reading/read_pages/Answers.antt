use Rattle.page_alloc.proofs.ReadingLaws.{have_orders}
use Rattle.page_alloc.proofs.reading.read_pages.Goals as goal

pub returns-in-Ok-clause-orders : goal.returns-in-Ok-clause-orders
returns-in-Ok-clause-orders c = have_orders _ c.in-Ok.ensures.limits
