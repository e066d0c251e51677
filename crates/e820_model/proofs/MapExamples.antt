-- Worked examples: the types of addresses, and their runs.
use Rattle.std.proofs.Common.{◌≡◌, ℕ, ◌^◌, ◌+◌, ◌<◌, Some, None, List, [], ◌∷◌, refl, arith}
use Rattle.std.proofs.lemmas.Bool.Decides.{nat_tests}
use Rattle.address_runs.specs.Runs.{RunOf, value_at}
use Rattle.e820_model.specs.Claims.{type_of}
use Rattle.e820_model.specs.Map.{kinds, map_of, claims_of, AreValidClaims}
use Rattle.e820_model.proofs.ClaimLaws.{top, type_top, map_unique}

run : ℕ → ℕ → ℕ → RunOf ℕ
run base size kind = record { base = base; size = size; value = kind }

-- RAM of 2 MiB with 512 KiB of ACPI data in it, from 1 MiB on
abbrev ram_and_acpi : List (RunOf ℕ)
ram_and_acpi = run 0 0x200000 1 ∷ (run 0x100000 0x80000 3 ∷ [])

are_claims : AreValidClaims ram_and_acpi
unfolding run
are_claims = (omega arith, omega arith, omega arith, omega arith, (omega arith, omega arith, omega arith, omega arith, tt))

past_the_end : ¬ AreValidClaims (run 0xFFFFFFFFFFFFF000 0x1000 1 ∷ [])
unfolding run
past_the_end claims = let small : 0xFFFFFFFFFFFFF000 + 0x1000 < 2 ^ 64 = claims.1 in absurd (omega arith)

-- the type of an address, or none if nothing claims it
kinds_examples : (kinds (claims_of ram_and_acpi) 0x17FFFF ≡ Some 3) × (kinds (claims_of ram_and_acpi) 0x180000 ≡ Some 1)
    × (kinds (claims_of ram_and_acpi) 0x200000 ≡ None)
unfolding run
kinds_examples =
    let known : (x : ℕ) → type_of (claims_of ram_and_acpi) x ≡ top ram_and_acpi x = λ x. type_top ram_and_acpi x are_claims in
    (rw (known 0x17FFFF) refl, rw (known 0x180000) refl, rw (known 0x200000) refl)

-- the map: ACPI data splits the RAM
abbrev three_runs : List (RunOf ℕ)
three_runs = run 0 0x100000 1 ∷ (run 0x100000 0x80000 3 ∷ (run 0x180000 0x80000 1 ∷ []))

each_of_three : (x : ℕ) → value_at three_runs x ≡ kinds (claims_of ram_and_acpi) x
unfolding run
each_of_three x = rw (type_top ram_and_acpi x are_claims) (grind (arith, nat_tests))

acpi_parts_ram : three_runs ≡ map_of (claims_of ram_and_acpi)
unfolding run
acpi_parts_ram = map_unique ram_and_acpi three_runs are_claims (record {
  runs = (
    omega arith,
    (omega arith, λ touch same. absurd (omega arith)),
    (omega arith, (omega arith, λ touch same. absurd (omega arith)), (omega arith, tt, tt)),
  );
  each = each_of_three;
})
