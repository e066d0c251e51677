-- The words of `bootmem` name no file of early claims.
use Rattle.std.proofs.Common.{◌≡◌, ℕ, Bool, true, false, List, [], codes, Option, Some, None, refl, if◌then◌else◌}
use Rattle.clap.specs.Words.{matches_of}
use Rattle.bm_base.specs.OptionSteps.{◌>>=◌, some_if}
use Rattle.bm_base.specs.Range.{RangeView}
use Rattle.boot_inputs.specs.declared.input.Input.TheVariants as inputs
use Rattle.program_args.specs.Args.{ArgValues, BootmemArgsView, args_by_values, arg_value_in, bootmem_args, has_one_source, read_args, report_list_in, address_width_in}
use Rattle.program_args.specs.Entries.{made_entry_count}
use Rattle.program_args.specs.Grammar.{bootmem_command, is_faultless_for}
use Rattle.program_args.specs.Kernel.{kernel_range_of}
use Rattle.program_args.specs.Mirrors.{mirrors_of_value}

-- an accepted command line names no file of early claims
abbrev pub HasNoClaims : Option BootmemArgsView → Type 0
HasNoClaims None = Unit {0}
HasNoClaims (Some args) = args.named inputs.Claims ≡ None

no_claims_after_steps : (make : Option ℕ → RangeView → List ℕ → List RangeView → BootmemArgsView) (source : Option (Unit {0}))
    (made : Option (Option ℕ)) (kernel : Option RangeView) (list : Option (List ℕ)) (mirrors : Option (List RangeView))
    → ((m : Option ℕ) (k : RangeView) (l : List ℕ) (r : List RangeView) → (make m k l r).named inputs.Claims ≡ None)
    → HasNoClaims (source >>= λ _. made >>= λ m. kernel >>= λ k. list >>= λ l. mirrors >>= λ r. Some (make m k l r))
no_claims_after_steps make None made kernel list mirrors each = tt
no_claims_after_steps make (Some s) None kernel list mirrors each = tt
no_claims_after_steps make (Some s) (Some m) None list mirrors each = tt
no_claims_after_steps make (Some s) (Some m) (Some k) None mirrors each = tt
no_claims_after_steps make (Some s) (Some m) (Some k) (Some l) None each = tt
no_claims_after_steps make (Some s) (Some m) (Some k) (Some l) (Some r) each = each m k l r

no_claims_by_values : (value : ArgValues) → HasNoClaims (args_by_values bootmem_args [] value)
no_claims_by_values value =
    no_claims_after_steps _ (some_if (has_one_source value)) (made_entry_count (value (codes "make")))
    (kernel_range_of (address_width_in value) (value (codes "kernel"))) (report_list_in [] value)
    (mirrors_of_value (value (codes "mirror")))
    (λ m k l r. refl)

if_accepted : (accepted : Bool) (found : Option BootmemArgsView) → HasNoClaims found → HasNoClaims (if accepted then found else None)
if_accepted true found none = none
if_accepted false found none = tt

pub names_no_claims : (words : List (List ℕ)) → HasNoClaims (read_args words)
names_no_claims words =
    if_accepted (is_faultless_for bootmem_command words) _ (no_claims_by_values (arg_value_in (matches_of bootmem_command words)))
