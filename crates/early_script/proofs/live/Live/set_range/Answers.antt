-- The live IDs get one more ID, with a range that isn't empty.
use Rattle.early_script.proofs.IdsLaws.{bytes-with}
use Rattle.early_script.proofs.live.Live.set_range.Goals as goal

pub invariant_of-self-2 : goal.invariant_of-self-2
invariant_of-self-2 c =
    rw c.in_ok-insert.ensures.entries (bytes-with c.self.inside.ids.entries c.args.id c.args.range c.requires c.self.invariant)
