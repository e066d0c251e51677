-- The map that a boot reports determines which frames are usable.
use Rattle.std.proofs.Common.{◌≡◌, ◌↔◌, ℕ, ◌+◌, ◌*◌, ◌≤◌, Bool, Ok, sym, ◌∙◌, subst, arith}
use Rattle.std.proofs.lemmas.Bool.Decides.{nat_tests}
use Rattle.bm_base.specs.Frames.{bytes_of_frame}
use Rattle.bm_base.proofs.EachLaws.{each_in-all, each_in-each}
use Rattle.e820_model.specs.Map.{kinds}
use Rattle.boot_model.specs.Boot.{ExtraView, InputsView, BootedView, claims, lies_in_memory, reach, booted_address_limit, whole_boot_with, types_in_reach}
use Rattle.e820_model.proofs.UsableLaws.{memory_reached, is_usable_frame-each}
use Rattle.boot_model.proofs.BootLaws.{usable_lies}
use Rattle.conservation.specs.ByMap.{IsUsableByMap}
use Rattle.conservation.specs.Headline.{IsUsable}
use Rattle.conservation.proofs.ClaimedLaws.{covers_frame, frame_covers}
use Rattle.conservation.proofs.ToldLaws.{is_told_of}

-- a usable frame lies below the limit of physical addresses
in_reach : (inputs : InputsView) (frame : ℕ) → IsUsable inputs frame → 4096 * frame + 4096 ≤ reach inputs
in_reach inputs frame usable =
    let x : ℕ = 4096 * frame + 4095 in
    let last = is_usable_frame-each (types_in_reach inputs) frame usable x (omega arith) (omega arith) in
    let both = sym (memory_reached (reach inputs) (kinds (claims inputs)) x) ∙ last in
    grind (arith, nat_tests, both)

pub usable_mapped : (extra : ExtraView) (inputs : InputsView) (t : BootedView) (frame : ℕ) → whole_boot_with extra inputs ≡ Ok t
    → (IsUsable inputs frame ↔ IsUsableByMap (booted_address_limit t) t.map frame)
usable_mapped extra inputs t frame ends =
    let of = is_told_of extra inputs t ends in
    let lies : ℕ → Bool = lies_in_memory of.made.map in
    subst (λ (u : BootedView). IsUsable inputs frame ↔ IsUsableByMap (booted_address_limit u) u.map frame) of.tells (
      λ usable.
          (let low = in_reach inputs frame usable in
          let each = sym (usable_lies extra inputs of.made frame of.boots low) ∙ usable in (
            low,
            λ x inside. (let ends = covers_frame frame x inside in
                each_in-each (bytes_of_frame frame) lies each x ends.0 ends.1),
          )),
      λ mapped.
          usable_lies extra inputs of.made frame of.boots mapped.0
          ∙ each_in-all (bytes_of_frame frame) lies (λ x above below. mapped.1 x (frame_covers frame x above below)),
    )
