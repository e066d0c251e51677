use Rattle.std.proofs.Common.{◌≡◌, ◌++◌, ◌∷◌, take, drop}
use Rattle.phys_store.proofs.prepare.replace.Given as goal

-- the extents after the new one, up to the next that stays, have been removed
abbrev pub invariant-loop-gone : goal.invariant-loop-gone
invariant-loop-gone l = l.extents.items ≡ take l.first l.fn.extents.items ++ l.fn.extent ∷ drop l._gone l.fn.extents.items
