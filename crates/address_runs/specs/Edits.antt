-- What an edit of a range does to each address, whatever the addresses carry: a label, an owner, a
-- node.
use Rattle.std.specs.Prelude.{◌≡◌, ◌≤◌, ℕ, Bool, true, false, ◌&&◌, is_none, if◌then◌else◌, Option, Some, None, unwrap_or}
use Rattle.std.specs.Option.{option_map}
use Rattle.bm_base.specs.Range.{RangeView, covers}

module _ {X : Type 0} where
  -- what an address carries after an edit that applies `change` to each address of the range. The
  -- function `f` says what each address carried before. `None` means that an address carries
  -- nothing.
  abbrev pub change_range : (Option X → Option X) → RangeView → (ℕ → Option X) → ℕ → Option X
  change_range change r f x = if covers r x then change (f x) else f x

  -- the edit that gives the value to the addresses of the range that carry nothing
  -- (`memblock_add_range`); the others keep what they carry
  abbrev pub cover_range : RangeView → X → (ℕ → Option X) → ℕ → Option X
  cover_range r v f x = change_range (λ carried. Some (unwrap_or carried v)) r f x

  -- the edit that removes what the addresses of the range carry (`memblock_remove_range`)
  abbrev pub uncover_range : RangeView → (ℕ → Option X) → ℕ → Option X
  uncover_range r f x = change_range (λ carried. None) r f x

  -- the edit that changes the values that addresses of the range carry; addresses that carry
  -- nothing still do (`memblock_set_node`)
  abbrev pub relabel_range : RangeView → (X → X) → (ℕ → Option X) → ℕ → Option X
  relabel_range r change f x = change_range (option_map change) r f x

  -- the edit that gives the value to all addresses of the range, whatever they carry
  abbrev pub replace_in_range : RangeView → X → (ℕ → Option X) → ℕ → Option X
  replace_in_range r v f x = change_range (λ carried. Some v) r f x

  -- gives the value to the addresses of the range that carry nothing by `f`, and `None` to all
  -- other addresses
  abbrev pub gaps_in_range : RangeView → X → (ℕ → Option X) → ℕ → Option X
  gaps_in_range r v f x = if covers r x && is_none (f x) then Some v else None

  -- whether both are `None`, or both are values that the test calls equal
  abbrev pub agree : (X → X → Bool) → Option X → Option X → Bool
  agree same None None = true
  agree same None (Some b) = false
  agree same (Some a) None = false
  agree same (Some a) (Some b) = same a b

  -- by the function, no address at or above `at` carries anything
  abbrev pub IsEmptyFrom : ℕ → (ℕ → Option X) → Type 0
  IsEmptyFrom at f = (x : ℕ) → at ≤ x → f x ≡ None
