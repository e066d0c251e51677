-- A whole run, by laws and computation: `bootmem --report map zp`. `zp` contains a zero page with
-- two entries; the second reserves the end of the first.
use Rattle.std.proofs.Common.{◌≡◌, ℕ, ◌-◌, ◌^◌, ◌<◌, ◌≤◌, ◌==◌, ◌&&◌, nat_lt, nat_le, if◌then◌else◌, List, [], ◌∷◌, ◌++◌, codes, Some, None, Ok, refl, sym, ap, ◌∙◌, arith}
use Rattle.std.proofs.lemmas.Bool.Decides.{nat_tests}
use Rattle.std.specs.Fmt.{digits}
use Rattle.std.specs.Prelude.{replicate}
use Rattle.std.specs.Str.{bytes_eq}
use Rattle.address_runs.specs.Runs.{RunOf, value_at, AreRuns}
use Rattle.address_runs.proofs.RunsLaws.{runs_of_function_are_equal}
use Rattle.e820_model.specs.declared.entry.Entry.{Entry}
use Rattle.e820_model.specs.Claims.{Claims, claims_of_entries, type_of, settled_claims, union_of_claims, after_bios_trim}
use Rattle.e820_model.specs.Map.{kinds, map_of, type_unless_zero}
use Rattle.e820_model.specs.Usable.{is_memory, types_below, usable_frames}
use Rattle.e820_model.proofs.ClaimLaws.{greatest_is, map_runs}
use Rattle.e820_model.proofs.UsableLaws.{count_same, count_frames_between, memory_reached, usable_count}
use Rattle.bm_base.specs.Frames.{bytes_of_frame}
use Rattle.bm_base.specs.declared.width.Width.TheVariants.{Bits46}
use Rattle.bm_base.proofs.EachLaws.{each_in-same}
use Rattle.e820_table.specs.Entries.{entry_at}
use Rattle.e820_table.specs.Initrd.{initrd_of, is_initrd_far}
use Rattle.memblock_model.specs.declared.item.Item.{Item}
use Rattle.growth_model.specs.Requests.{carry_out_items}
use Rattle.early_memory.specs.FirstItems.{early_items}
use Rattle.early_memory.proofs.FewLaws.{NeedNone, few_from_nothing}
use Rattle.bm_base.specs.ResultSteps.{◌>>=◌}
use Rattle.boot_model.specs.Boot.{InputsView, BootSoFar, begin_with_map, inputs_without_files, boot, claims, no_extra, early_inputs, memory_stage, judge_map, no_options, reach}
use Rattle.boot_model.proofs.BootLaws.{goes_on}
use Rattle.boot_model.proofs.CarriedLaws.{memory_made_by}
use Rattle.program_args.specs.Grammar.{options}
use Rattle.program_args.specs.Kernel.{default_kernel}
use Rattle.program_args.specs.Spelling.{AreSpellings, Spelling, two_word_option, spelled_values, named}
use Rattle.program_args.specs.Args.{BootmemArgsView, read_args, file_name_in}
use Rattle.program_args.proofs.MatchedLaws.{accepted_as_given}
use Rattle.program_end.specs.Program.{FileContents}
use Rattle.debugfs_reports.specs.declared.report.Report.TheVariants as reports
use Rattle.program_run.specs.Outcome.{bootmem_outcome}

-- RAM from 1 MiB up to 128 MiB
abbrev ram : Entry
ram = record { addr = 0x100000; size = 0x7F00000; kind = 1 }

abbrev reserved : Entry
reserved = record { addr = 0x7FE0000; size = 0x20000; kind = 2 }

abbrev page : List ℕ
page =
    replicate 0x1E8 0 ++ (2 ∷ replicate (0x2D0 - 0x1E9) 0)
    ++ (0 ∷ 0 ∷ 0x10 ∷ 0 ∷ 0 ∷ 0 ∷ 0 ∷ 0 ∷ 0 ∷ 0 ∷ 0xF0 ∷ 7 ∷ 0 ∷ 0 ∷ 0 ∷ 0 ∷ 1 ∷ 0 ∷ 0 ∷ 0 ∷ [])
    ++ (0 ∷ 0 ∷ 0xFE ∷ 7 ∷ 0 ∷ 0 ∷ 0 ∷ 0 ∷ 0 ∷ 0 ∷ 2 ∷ 0 ∷ 0 ∷ 0 ∷ 0 ∷ 0 ∷ 2 ∷ 0 ∷ 0 ∷ 0 ∷ [])
    ++ replicate (4096 - 0x2D0 - 40) 0

abbrev held : FileContents
held name = if bytes_eq name (codes "zp") then Some page else None

abbrev inputs : InputsView
inputs = record (inputs_without_files Bits46 (record { base = 0x1000000; size = 0x2000000 })) { entries = ram ∷ reserved ∷ [] }

-- the type of each address: the greater one, if both entries cover it
kind_at : ℕ → ℕ
kind_at x = if nat_lt x 0x100000 then 0 else (if nat_lt x 0x7FE0000 then 1 else (if nat_lt x 0x8000000 then 2 else 0))

small : (x : ℕ) → kind_at x < 2 ^ 32
unfolding kind_at
small x = grind (arith, nat_tests)

entries_give : (x : ℕ) → type_of (claims_of_entries inputs.entries) x ≡ kind_at x
unfolding kind_at
entries_give x = greatest_is (claims_of_entries inputs.entries x) (kind_at x) (small x)
    (λ some. grind (arith, nat_tests))
    (λ k higher low. grind (arith, nat_tests))

-- each address has only claims of the type `kind_at`
IsOnly : Claims → Type 0
IsOnly c = (x k : ℕ) → c x k ≡ (nat_lt 0 k && k == kind_at x)

only_settled : (c : Claims) → ((x : ℕ) → type_of c x ≡ kind_at x) → IsOnly (settled_claims c)
unfolding IsOnly
only_settled c gives x k = rw (gives x) refl

only_gives : (c : Claims) → IsOnly c → (x : ℕ) → type_of c x ≡ kind_at x
unfolding IsOnly
only_gives c only x = greatest_is (c x) (kind_at x) (small x)
    (λ some. rw (only x (kind_at x)) (grind (arith, nat_tests)))
    (λ k higher low. rw (only x k) (grind (arith, nat_tests)))

only_added : (c : Claims) → IsOnly c → IsOnly (union_of_claims c (claims_of_entries []))
unfolding IsOnly
only_added c only x k = rw (only x k) (grind (arith, nat_tests))

only_trimmed : (c : Claims) → IsOnly c → IsOnly (after_bios_trim c)
unfolding IsOnly kind_at
only_trimmed c only x k = rw (only x k, only x 1) (grind (arith, nat_tests))

only_claims : IsOnly (claims inputs)
only_claims =
    only_trimmed _ (only_settled _
    (only_gives _ (only_added _ (only_settled _ (only_gives _ (only_added _ (only_settled _ entries_give)))))))

-- the runs of the map
abbrev runs : List (RunOf ℕ)
runs = record { base = 0x100000; size = 0x7EE0000; value = 1 } ∷ record { base = 0x7FE0000; size = 0x20000; value = 2 } ∷ []

kinds_are : (x : ℕ) → kinds (claims inputs) x ≡ value_at runs x
unfolding kind_at
kinds_are x = ap type_unless_zero (only_gives (claims inputs) only_claims x) ∙ grind (arith, nat_tests)

none_above : (x : ℕ) → 2 ^ 64 ≤ x → kinds (claims inputs) x ≡ None
unfolding kind_at
none_above x far = kinds_are x ∙ grind (arith, nat_tests)

are_runs : AreRuns runs
are_runs = (omega arith, (omega arith, λ touch same. omega (arith, same)), (omega arith, tt, tt))

map_is : map_of (claims inputs) ≡ runs
map_is =
    runs_of_function_are_equal (kinds (claims inputs)) _ _ (map_runs (claims inputs) none_above)
    (record { runs = are_runs; each = λ x. sym (kinds_are x) })

-- the RAM has 32,480 whole frames, all below the limit of physical addresses
memory_is : (x : ℕ) → is_memory (types_below (reach inputs) (kinds (claims inputs)) x) ≡ (nat_le 0x100000 x && nat_lt x 0x7FE0000)
memory_is x = memory_reached (reach inputs) (kinds (claims inputs)) x ∙ rw (kinds_are x) (grind (arith, nat_tests))

frames_are : usable_frames (types_below (reach inputs) (kinds (claims inputs))) ≡ 32480
frames_are =
    usable_count (types_below (reach inputs) (kinds (claims inputs)))
    ∙ count_same _ _ (2 ^ 52) (λ frame low. each_in-same (bytes_of_frame frame) _ _ (λ x from below. memory_is x))
    ∙ count_frames_between 0x100000 0x7FE0000 (2 ^ 52)

-- the items that are written before nodes are known; they are few enough that no table grows
abbrev args : List Item
args = early_items (early_inputs inputs) runs

few_wanted : NeedNone 0 0 args
few_wanted = (omega arith, omega arith, (omega arith, omega arith, (omega arith, omega arith, (omega arith, omega arith, tt))))

wanted_is_made : carry_out_items args [] ≡ Ok args
wanted_is_made = few_from_nothing args few_wanted

-- the boot doesn't stop before memory is made
memory_is_made : (judge_map inputs >>= memory_stage inputs) ≡ Ok (record (begin_with_map runs no_options) { items = args })
memory_is_made = rw (map_is, frames_are) (memory_made_by inputs (begin_with_map runs no_options) args wanted_is_made)

-- the words of the command line
abbrev spellings : List Spelling
spellings = two_word_option (codes "report") (codes "map") ∷ named (codes "zp") ∷ []

are_spellings : AreSpellings options spellings
are_spellings = ((refl, refl), refl, (refl, refl, tt))

abbrev asked : BootmemArgsView
asked = record {
  named = file_name_in (spelled_values options spellings);
  begun = inputs_without_files Bits46 default_kernel;
  reports = reports.Map ∷ [];
  made = None;
}

words_ask : read_args (codes "--report" ∷ codes "map" ∷ codes "zp" ∷ []) ≡ Some asked
words_ask = accepted_as_given spellings are_spellings

-- if the later stages don't stop, this text is written
first_run : (made : BootSoFar) → boot inputs ≡ Ok made → bootmem_outcome (read_args (codes "--report" ∷ codes "map" ∷ codes "zp" ∷ [])) held
    ≡ Ok (codes "0x0000000000100000..0x0000000007fdffff 1 usable\n0x0000000007fe0000..0x0000000007ffffff 2 reserved\n")
unfolding boot entry_at digits initrd_of is_initrd_far
first_run made ends =
    let map : made.map ≡ runs = (goes_on no_extra inputs made ends).map ∙ map_is in
    ap (λ words. bootmem_outcome words held) words_ask ∙ rw (ends, map) refl
