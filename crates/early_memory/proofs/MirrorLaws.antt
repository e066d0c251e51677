-- Mirrored memory: how ranges of mirrored frames change the label of each byte.
use Rattle.std.proofs.Common.{◌≡◌, ℕ, ◌/◌, Bool, true, false, ◌||◌, is_some, if◌then◌else◌, Option, Some, None, List, [], ◌∷◌, refl, ◌∙◌, arith}
use Rattle.std.proofs.lemmas.Bool.Decides.{nat_tests}
use Rattle.std.specs.List.{fold}
use Rattle.std.specs.Option.{option_map}
use Rattle.bm_base.specs.Range.{covers}
use Rattle.e820_model.specs.Map.{TypeAt}
use Rattle.e820_model.specs.Usable.{is_usable_frame, types_below}
use Rattle.memblock_model.specs.Labels.{LabelView, Labels, plain_label, with_mirror}
use Rattle.memblock_model.specs.Items.{memory_after}
use Rattle.address_runs.specs.Edits.{relabel_range}
use Rattle.early_memory.specs.EarlyInputs.{FrameRange, bytes_of_frames}
use Rattle.early_memory.specs.Memory.{is_mirrored, mirrored_memory, usable_memory}
use Rattle.early_memory.specs.FirstItems.{mirror_items}

-- mirroring one more range; memory that is already mirrored stays so
abbrev mirrored_if : Bool → Option LabelView → Option LabelView
mirrored_if b o = if b then option_map with_mirror o else o

one_more : (here others : Bool) (o : Option LabelView) → mirrored_if others (mirrored_if here o) ≡ mirrored_if (here || others) o
one_more true true None = refl
one_more true true (Some label) = refl
one_more true false o = refl
one_more false others o = refl

-- the items of all ranges mirror the bytes of each
pub mirrors-memory : (mirrors : List FrameRange) (f : Labels) (x : ℕ)
    → fold memory_after f (mirror_items mirrors) x ≡ mirrored_memory mirrors f x
mirrors-memory [] f x = refl
mirrors-memory (r ∷ rs) f x =
    mirrors-memory rs (relabel_range (bytes_of_frames r) with_mirror f) x
    ∙ one_more (covers (bytes_of_frames r) x) (is_mirrored rs x) (f x)

-- exactly the usable bytes are memory, mirrored or not
some_by : (mirrored usable : Bool) → is_some (mirrored_if mirrored (if usable then Some plain_label else None)) ≡ usable
some_by true true = refl
some_by true false = refl
some_by false true = refl
some_by false false = refl

pub mirrored-usable : (limit : ℕ) (f : TypeAt) (mirrors : List FrameRange) (x : ℕ)
    → is_some (mirrored_memory mirrors (usable_memory limit f) x) ≡ is_usable_frame (types_below limit f) (x / 4096)
mirrored-usable limit f mirrors x = some_by (is_mirrored mirrors x) (is_usable_frame (types_below limit f) (x / 4096))

-- all bytes of a frame are mirrored, or none is
same_frames : (mirrors : List FrameRange) (x y : ℕ) → x / 4096 ≡ y / 4096 → is_mirrored mirrors x ≡ is_mirrored mirrors y
same_frames [] x y frame = refl
same_frames (r ∷ rs) x y frame =
    let one : covers (bytes_of_frames r) x ≡ covers (bytes_of_frames r) y = grind (arith, nat_tests) in
    rw (one, same_frames rs x y frame) refl

-- if two bytes of a frame have one label, they have one label after mirroring too
pub mirrored-alike : (mirrors : List FrameRange) (f : Labels) (x y : ℕ) → x / 4096 ≡ y / 4096 → f x ≡ f y
    → mirrored_memory mirrors f x ≡ mirrored_memory mirrors f y
mirrored-alike mirrors f x y frame same = rw (same_frames mirrors x y frame, same) refl
