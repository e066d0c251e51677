-- Without an item that marks memory as mirrored, no byte is mirrored.
use Rattle.std.proofs.Common.{◌≡◌, ℕ, true, false, List, [], ◌∷◌, ◌++◌, refl, sym, ◌∙◌, inl, inr, arith}
use Rattle.std.proofs.lemmas.Bool.{true≢false}
use Rattle.std.proofs.lemmas.List.Sums.{fold-append}
use Rattle.std.specs.List.{fold}
use Rattle.memblock_model.specs.declared.item.Item.{Item}
use Rattle.memblock_model.specs.declared.item.Item.TheVariants as item
use Rattle.memblock_model.specs.Labels.{Labels}
use Rattle.memblock_model.specs.Items.{trim_frames, memory_after, no_memory, memory_of}
use Rattle.memblock_model.specs.Search.{is_allowed_mirror}
use Rattle.memblock_model.proofs.LabelLaws.{trim_frames-cases, trim_frames-whole}
use Rattle.boot_journal.specs.Mirrors.{has_mirrors_after, has_mirrors}

-- whether some item marks memory as mirrored, after one more item
pub has_mirrors-push : (items : List Item) (i : Item) → has_mirrors (items ++ i ∷ []) ≡ has_mirrors_after (has_mirrors items) i
has_mirrors-push items i = fold-append has_mirrors_after false items (i ∷ [])

trimmed_suits : (f : Labels) (x : ℕ) → is_allowed_mirror true (f x) ≡ false → is_allowed_mirror true (trim_frames f x) ≡ false
trimmed_suits f x plain =
    elim (trim_frames-cases f x) as (λ _. is_allowed_mirror true (trim_frames f x) ≡ false) [
      | inl one ↦ rw (trim_frames-whole f x one) plain
      | inr none ↦ rw none refl
    ]

-- `has_mirrors` stays true after an item that marks memory as mirrored
marked : (items : List Item) → fold has_mirrors_after true items ≡ true
marked [] = refl
marked (item.Mirror range ∷ is) = marked is
marked (i ∷ is) = marked is

unmirrored_from : (f : Labels) (items : List Item) → has_mirrors items ≡ false → ((x : ℕ) → is_allowed_mirror true (f x) ≡ false)
    → (x : ℕ) → is_allowed_mirror true (fold memory_after f items x) ≡ false
unmirrored_from f [] none plain x = plain x
unmirrored_from f (item.Mirror range ∷ is) none plain x = absurd (true≢false (sym (marked is) ∙ none))
unmirrored_from f (item.Mem range ∷ is) none plain x =
    unmirrored_from (memory_after f (item.Mem range)) is none (λ y. grind (arith, plain y)) x
unmirrored_from f (item.Node range node ∷ is) none plain x =
    unmirrored_from (memory_after f (item.Node range node)) is none (λ y. grind (arith, plain y)) x
unmirrored_from f (item.Trim ∷ is) none plain x = unmirrored_from (trim_frames f) is none (λ y. trimmed_suits f y (plain y)) x
unmirrored_from f (i ∷ is) none plain x = unmirrored_from f is none plain x

pub unmirrored : (items : List Item) → has_mirrors items ≡ false → (x : ℕ) → is_allowed_mirror true (memory_of items x) ≡ false
unmirrored items none x = unmirrored_from no_memory items none (λ y. refl) x
