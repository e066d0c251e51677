-- Ranges of whole frames: their frames, and the bytes of these.
use Rattle.std.proofs.Common.{◌≡◌, ℕ, ◌-◌, ◌*◌, ◌/◌, ◌%◌, Bool, true, false, not, nat_lt, if◌then◌else◌, Option, Some, None, List, [], ◌∷◌, map, IfOk, IfSome, Result, Ok, Err, refl, subst, arith}
use Rattle.std.specs.Int.{next_multiple_of}
use Rattle.std.specs.List.{All}
use Rattle.std.proofs.lemmas.Bool.Decides.{nat_tests}
use Rattle.std.proofs.lemmas.Option.{cond_some}
use Rattle.std.proofs.lemmas.List.Elements.{All-cons, All-nil}
use Rattle.bm_base.specs.Range.{RangeView, end_of}
use Rattle.bm_base.specs.Frames.{frames_within}
use Rattle.efi_map.specs.declared.efi.EfiFault.{EfiFault}
use Rattle.efi_map.specs.declared.efi.EfiFault.TheVariants as faults
use Rattle.efi_map.specs.Descriptors.{Descriptor, bytes_of_descriptor, entry_of_descriptor, has_attribute, mirror_of_descriptor}
use Rattle.efi_map.specs.Map.{EfiContent, descriptors_of, efi_of, far_descriptor_from, has_efi_header, has_efi_length, prepend_mirror, mirrors_of_descriptors, efi_unless_far}
use Rattle.early_memory.specs.EarlyInputs.{bytes_of_frames}
use Rattle.boot_model.specs.Mirrors.{IsMirror, frame_range_of}

-- the bytes of the frames of a mirrored range are the range
pub mirror-frames : (r : RangeView) → IsMirror r → bytes_of_frames (frame_range_of r) ≡ r
mirror-frames r mirror =
    let base : 4096 * (r.base / 4096) ≡ r.base = omega (arith, mirror.at_frame) in
    let size : 4096 * (r.size / 4096) ≡ r.size = omega (arith, mirror.of_frames) in
    rw (base, size) refl

-- a range cut to whole frames, if it has some, may be mirrored
whole-mirrors : (r m : RangeView) → frames_within r ≡ Some m → IsMirror m
whole-mirrors r m is =
    let from : ℕ = next_multiple_of r.base 4096 in
    let until : ℕ = end_of r - end_of r % 4096 in
    let same = cond_some (nat_lt from until) (record { base = from; size = until - from }) m is in
    subst IsMirror same.1 (record { some = grind (arith, nat_tests, same.0); at_frame = omega arith; of_frames = omega arith })

if_some : (o : Option RangeView) → ((m : RangeView) → o ≡ Some m → IsMirror m) → IfSome o IsMirror
if_some None mirror = tt
if_some (Some m) mirror = mirror m refl

pub cut-mirrors : (r : RangeView) → IfSome (frames_within r) IsMirror
cut-mirrors r = if_some (frames_within r) (whole-mirrors r)

-- a mirrored range that a descriptor gives consists of whole frames
mirror_whole : (mirrors : Bool) (r m : RangeView) → (if mirrors then frames_within r else None) ≡ Some m → IsMirror m
mirror_whole true r m is = whole-mirrors r m is
mirror_whole false r m is = absurd (cc is)

in_front : (o : Option RangeView) (ms : List RangeView) → ((m : RangeView) → o ≡ Some m → IsMirror m) → All IsMirror ms
    → All IsMirror (prepend_mirror o ms)
in_front None ms first rest = rest
in_front (Some m) ms first rest = All-cons IsMirror m ms (first m refl) rest

descriptors-whole : (ds : List Descriptor) → All IsMirror (mirrors_of_descriptors ds)
unfolding mirrors_of_descriptors
descriptors-whole [] = All-nil IsMirror
descriptors-whole (d ∷ ds) =
    in_front (mirror_of_descriptor d) (mirrors_of_descriptors ds) (λ m is.
    mirror_whole (has_attribute 0x10000 d) (bytes_of_descriptor d) m is)
    (descriptors-whole ds)

unless_whole : (ds : List Descriptor) (far : Option ℕ) (efi : EfiContent) → efi_unless_far ds far ≡ Ok efi → All IsMirror efi.mirrors
unless_whole ds (Some index) efi is = absurd (cc is)
unless_whole ds None efi is =
    let same : efi ≡ record { entries = map entry_of_descriptor ds; mirrors = mirrors_of_descriptors ds } =
    cc is in rw same (descriptors-whole ds)

given_whole : (header fits : Bool) (bytes : List ℕ) (efi : EfiContent)
    → (if header then Err faults.Header else (if fits then Err faults.Length
    else efi_unless_far (descriptors_of bytes) (far_descriptor_from 0 (descriptors_of bytes)))) ≡ Ok efi → All IsMirror efi.mirrors
given_whole false false bytes efi is = unless_whole (descriptors_of bytes) (far_descriptor_from 0 (descriptors_of bytes)) efi is
given_whole header fits bytes efi is = absurd (cc is)

if_ok : (said : Result EfiContent EfiFault) → ((efi : EfiContent) → said ≡ Ok efi → All IsMirror efi.mirrors)
    → IfOk said (λ efi. All IsMirror efi.mirrors)
if_ok (Ok efi) whole = whole efi refl
if_ok (Err fault) whole = tt

pub efi-mirrors : (bytes : List ℕ) → IfOk (efi_of bytes) (λ efi. All IsMirror efi.mirrors)
efi-mirrors bytes = if_ok (efi_of bytes) (given_whole (not (has_efi_header bytes)) (not (has_efi_length bytes)) bytes)
