-- Examples: small lists of items that are to be written.
use Rattle.std.proofs.Common.{◌≡◌, [], ◌∷◌, Some, None, Ok, Err, true, false, refl}
use Rattle.bm_base.specs.Range.{RangeView}
use Rattle.memblock_model.specs.declared.owner.Which.TheVariants as which
use Rattle.memblock_model.specs.declared.owner.Owner.TheVariants as owner
use Rattle.memblock_model.specs.declared.item.Item.TheVariants as item
use Rattle.growth_model.specs.Change.{RefusedGrowth}
use Rattle.growth_model.specs.Requests.{StepsKeepMemory, carry_out_items, items_or_refusal, is_memory_item, memory_items}

abbrev page : RangeView
page = record { base = 0x1000; size = 0x1000 }

abbrev full : RefusedGrowth
full = record { which = which.Reserved; room = 128 }

-- the end of a change with and without a refusal
ended_examples : (items_or_refusal (item.Trim ∷ []) (record { steps = (item.Free page ∷ []) ∷ []; refused = None })
    ≡ Ok (item.Trim ∷ item.Free page ∷ []))
    × (items_or_refusal (item.Trim ∷ []) (record { steps = (item.Free page ∷ []) ∷ []; refused = Some full }) ≡ Err full)
ended_examples = (refl, refl)

-- items that need no growth
carries_two : carry_out_items (item.Trim ∷ item.Limit 0x2000 ∷ []) (item.Free page ∷ [])
    ≡ Ok (item.Free page ∷ item.Trim ∷ item.Limit 0x2000 ∷ [])
unfolding carry_out_items
carries_two = refl

-- a claim and a search direction don't change memory; a trim and a mirrored range do
kinds_of_items : (is_memory_item (item.Claim page owner.Kernel) ≡ false) × (is_memory_item item.Trim ≡ true)
    × (is_memory_item (item.Upward true) ≡ false) × (is_memory_item (item.Mirror page) ≡ true)
kinds_of_items = (refl, refl, refl, refl)

some_of_memory : memory_items (item.Mem page ∷ item.Claim page owner.Kernel ∷ item.Limit 0x2000 ∷ item.Free page ∷ [])
    ≡ item.Mem page ∷ item.Limit 0x2000 ∷ []
some_of_memory = refl

-- a claim after the growth of its table is quiet
quiet_steps : StepsKeepMemory ((item.Grown which.Reserved 0x4000 256 ∷ item.Claim page (owner.Table which.Reserved) ∷ [])
    ∷ (item.Claim page owner.Kernel ∷ []) ∷ [])
quiet_steps = (refl, (refl, tt))
