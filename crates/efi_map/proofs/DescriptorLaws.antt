-- Lists of descriptors that follow one another in the file.
use Rattle.std.proofs.Common.{◌≡◌, ℕ, zero, suc, ◌+◌, ◌-◌, ◌*◌, ◌^◌, ◌<◌, ◌≤◌, true, false, Option, Some, None, List, [], ◌∷◌, ◌++◌, map, length, append_assoc, refl, sym, ◌∙◌, ap, inl, inr, arith}
use Rattle.std.proofs.lemmas.Bool.Decides.{nat_tests}
use Rattle.std.proofs.lemmas.Bool.{cases_Bool}
use Rattle.bm_base.specs.Range.{RangeView}
use Rattle.e820_model.specs.declared.entry.Entry.{Entry}
use Rattle.e820_model.specs.Claims.{EntriesFit}
use Rattle.efi_map.specs.Descriptors.{Descriptor, is_descriptor_too_far, entry_of_descriptor, mirror_of_descriptor}
use Rattle.efi_map.specs.Map.{nth_descriptor, descriptors_from, far_descriptor_from, prepend_mirror, mirrors_of_descriptors}

-- the descriptors from index `i` on are the one at `i` and those after it
pub one_more : (stride i n : ℕ) (bytes : List ℕ) → i < n
    → descriptors_from stride i (n - i) bytes ≡ nth_descriptor stride i bytes ∷ descriptors_from stride (i + 1) (n - (i + 1)) bytes
unfolding descriptors_from
one_more stride i n bytes below = let left : n - i ≡ suc (n - (i + 1)) = omega arith in rw left refl

pub none_more : (stride i n : ℕ) (bytes : List ℕ) → n ≤ i → descriptors_from stride i (n - i) bytes ≡ []
unfolding descriptors_from
none_more stride i n bytes le = let left : n - i ≡ 0 = omega arith in rw left refl

-- if the first descriptor of a list is too far, the search returns its index; otherwise the search
-- goes on with the next one
pub far_here : (i : ℕ) (d : Descriptor) (ds : List Descriptor) → is_descriptor_too_far d ≡ true → far_descriptor_from i (d ∷ ds) ≡ Some i
unfolding far_descriptor_from
far_here i d ds far = rw far refl

pub far_later : (i : ℕ) (d : Descriptor) (ds : List Descriptor) → is_descriptor_too_far d ≡ false
    → far_descriptor_from i (d ∷ ds) ≡ far_descriptor_from (i + 1) ds
unfolding far_descriptor_from
far_later i d ds near = rw near refl

-- if no descriptor of a list is too far, neither the first one nor any of the others is
pub first_near : (i : ℕ) (d : Descriptor) (ds : List Descriptor) → far_descriptor_from i (d ∷ ds) ≡ None → is_descriptor_too_far d ≡ false
first_near i d ds none = elim (cases_Bool (is_descriptor_too_far d)) as (λ _. is_descriptor_too_far d ≡ false) [
  | inl far ↦ let found : far_descriptor_from i (d ∷ ds) ≡ Some i = far_here i d ds far in cc
  | inr near ↦ near
]

-- if no descriptor is too far, all entries end below 2^64
pub space_of_near : (i : ℕ) (ds : List Descriptor) → far_descriptor_from i ds ≡ None → EntriesFit (map entry_of_descriptor ds)
space_of_near i [] none = tt
space_of_near i (d ∷ ds) none =
    let near = first_near i d ds none in
    (grind (arith, nat_tests, near), space_of_near (i + 1) ds (sym (far_later i d ds near) ∙ none))

-- one step of the search for a descriptor that is too far, from index `i` on
pub far_hit : (stride i n : ℕ) (bytes : List ℕ) → i < n → is_descriptor_too_far (nth_descriptor stride i bytes) ≡ true
    → far_descriptor_from i (descriptors_from stride i (n - i) bytes) ≡ Some i
far_hit stride i n bytes below far = rw (one_more stride i n bytes below) (far_here i _ _ far)

pub far_miss : (stride i n : ℕ) (bytes : List ℕ) → i < n → is_descriptor_too_far (nth_descriptor stride i bytes) ≡ false
    → far_descriptor_from i (descriptors_from stride i (n - i) bytes)
    ≡ far_descriptor_from (i + 1) (descriptors_from stride (i + 1) (n - (i + 1)) bytes)
far_miss stride i n bytes below near = rw (one_more stride i n bytes below) (far_later i _ _ near)

pub far_end : (stride i n : ℕ) (bytes : List ℕ) → n ≤ i → far_descriptor_from i (descriptors_from stride i (n - i) bytes) ≡ None
unfolding far_descriptor_from
far_end stride i n bytes le = rw (none_more stride i n bytes le) refl

-- if no descriptor from index `i` on is too far, the one at `i` isn't
pub near_now : (stride i n : ℕ) (bytes : List ℕ) → i < n → far_descriptor_from i (descriptors_from stride i (n - i) bytes) ≡ None
    → is_descriptor_too_far (nth_descriptor stride i bytes) ≡ false
near_now stride i n bytes below none = first_near i _ (descriptors_from stride (i + 1) (n - (i + 1)) bytes)
    (rw (one_more stride i n bytes below) at none)

pub fits : (d : Descriptor) → is_descriptor_too_far d ≡ false → d.base + 4096 * d.pages < 2 ^ 64
fits d near = grind (arith, nat_tests, near)

-- the values from index `i` on are that of the descriptor at `i` and those after it
pub entries_on : (es : List Entry) (stride i n : ℕ) (bytes : List ℕ) → i < n
    → (es ++ entry_of_descriptor (nth_descriptor stride i bytes) ∷ [])
    ++ map entry_of_descriptor (descriptors_from stride (i + 1) (n - (i + 1)) bytes)
    ≡ es ++ map entry_of_descriptor (descriptors_from stride i (n - i) bytes)
entries_on es stride i n bytes below = rw (one_more stride i n bytes below) (append_assoc es _ _)

abbrev pub with_mirror : List RangeView → Option RangeView → List RangeView
with_mirror ms None = ms
with_mirror ms (Some range) = ms ++ range ∷ []

mirror_on : (ms : List RangeView) (o : Option RangeView) (others : List RangeView)
    → with_mirror ms o ++ others ≡ ms ++ prepend_mirror o others
mirror_on ms None others = refl
mirror_on ms (Some range) others = append_assoc ms (range ∷ []) others

pub mirrors_on : (ms : List RangeView) (o : Option RangeView) (stride i n : ℕ) (bytes : List ℕ) → i < n
    → o ≡ mirror_of_descriptor (nth_descriptor stride i bytes)
    → with_mirror ms o ++ mirrors_of_descriptors (descriptors_from stride (i + 1) (n - (i + 1)) bytes)
    ≡ ms ++ mirrors_of_descriptors (descriptors_from stride i (n - i) bytes)
unfolding mirrors_of_descriptors
mirrors_on ms o stride i n bytes below same = rw (one_more stride i n bytes below, ← same) (mirror_on ms o _)

-- `descriptors_from` of n has n descriptors
pub counted : (stride i n : ℕ) (bytes : List ℕ) → length (descriptors_from stride i n bytes) ≡ n
unfolding descriptors_from
counted stride i zero bytes = refl
counted stride i (suc n) bytes = ap suc (counted stride (i + 1) n bytes)
