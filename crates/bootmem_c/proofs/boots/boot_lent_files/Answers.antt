-- What is proved of the words that were read holds for the call's words.
use Rattle.std.proofs.Common.{◌∙◌, ℕ, Bool, List, Option, Err, ap, map, string_bytes}
use Rattle.std.specs.Prelude.{IfErr, IfOk}
use Rattle.bm_io.specs.MemFiles.{file_bytes}
use Rattle.boot_model.specs.View.{booted_view}
use Rattle.bootmem_c.specs.declared.profile.BootProfile.{BootProfile}
use Rattle.bootmem_c.specs.declared.words.StringsError.{StringsError}
use Rattle.bootmem_c.specs.Boots.{HasOutcomeReason, IsBootBy}
use Rattle.bootmem_c.specs.Call.{outcome_by}
use Rattle.bootmem_c.specs.Lent.{lent_files, lent_words}
use Rattle.bootmem_c.specs.Profiles.{profile_of_number}
use Rattle.bootmem_c.proofs.RunLaws.{nothing_said, of_call}
use Rattle.bootmem_c.proofs.boots.boot_lent_files.Goals as goal

pub returns-in-Ok-clause-boots : goal.returns-in-Ok-clause-boots
returns-in-Ok-clause-boots c =
    of_call (λ (chosen : Option BootProfile) (utf8 : Bool) (words : List (List ℕ)).
    IfOk c.boot_strings.result (λ booted. IsBootBy chosen utf8 words (file_bytes (lent_files c.args.files.now)) (booted_view booted)))
    (profile_of_number c.args.profile) c.in-Some.profile c.deref.result.now (lent_words c.args.words.now)
    c.in-Some.ensures (ap (map string_bytes) c.deref.ensures.value ∙ c.in-Ok.ensures.texts) c.in-Ok.ensures.utf8
    c.boot_strings.ensures.boots

pub returns-in-Ok-clause-fails : goal.returns-in-Ok-clause-fails
returns-in-Ok-clause-fails c =
    of_call (λ (chosen : Option BootProfile) (utf8 : Bool) (words : List (List ℕ)).
    IfErr c.boot_strings.result
    (λ failure. HasOutcomeReason failure (outcome_by chosen utf8 words (file_bytes (lent_files c.args.files.now)))))
    (profile_of_number c.args.profile) c.in-Some.profile c.deref.result.now (lent_words c.args.words.now)
    c.in-Some.ensures (ap (map string_bytes) c.deref.ensures.value ∙ c.in-Ok.ensures.texts) c.in-Ok.ensures.utf8
    c.boot_strings.ensures.fails

pub returns-in-Err-NotUtf8-clause-fails : goal.returns-in-Err-NotUtf8-clause-fails
returns-in-Err-NotUtf8-clause-fails c =
    nothing_said (profile_of_number c.args.profile) (lent_words c.args.words.now) (file_bytes (lent_files c.args.files.now))
    (c.in-Err-NotUtf8.ensures.other (ap (λ (e : StringsError). Err e) c.in-Err-NotUtf8.field-0-is))
