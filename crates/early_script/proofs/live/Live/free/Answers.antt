-- The live IDs lose the ID that is freed.
use Rattle.early_script.proofs.IdsLaws.{bytes-without}
use Rattle.early_script.proofs.live.Live.free.Goals as goal

pub invariant_of-self : goal.invariant_of-self
invariant_of-self c =
    rw c.remove.ensures.entries (bytes-without c.self.inside.ids.entries c.args.id c.self.invariant)
