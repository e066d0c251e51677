-- What holds of the run over the words that were read holds for the call. With words that aren't
-- UTF-8 nothing runs.
use Rattle.std.proofs.Common.{◌≡◌, ◌∙◌, ℕ, Bool, List, Option, Err, ap, inl, map, string_bytes, sym}
use Rattle.std.specs.Prelude.{◌⊎◌, IsOkAnd}
use Rattle.bm_io.specs.MemFiles.{file_bytes}
use Rattle.bootmem_c.specs.declared.profile.BootProfile.{BootProfile}
use Rattle.bootmem_c.specs.declared.words.StringsError.{StringsError}
use Rattle.bootmem_c.specs.Call.{HasReportsBy, call_line_by, outcome_by, outcome_status}
use Rattle.bootmem_c.specs.Lent.{lent_files, lent_words}
use Rattle.bootmem_c.specs.Profiles.{profile_of_number}
use Rattle.bootmem_c.proofs.RunLaws.{none_asked, nothing_asked, of_call}
use Rattle.bootmem_c.proofs.run.run_lent_files.Goals as goal

pub returns-in-Ok-clause-status : goal.returns-in-Ok-clause-status
returns-in-Ok-clause-status c =
    of_call (λ (chosen : Option BootProfile) (utf8 : Bool) (words : List (List ℕ)).
    (c.run_strings.result ≡ outcome_status (outcome_by chosen utf8 words (file_bytes (lent_files c.args.files.now))))
    ⊎ (c.run_strings.result ≡ 7))
    (profile_of_number c.args.profile) c.in-Some.profile c.deref.result.now (lent_words c.args.words.now)
    c.in-Some.ensures (ap (map string_bytes) c.deref.ensures.value ∙ c.in-Ok.ensures.texts) c.in-Ok.ensures.utf8
    c.run_strings.ensures.status

pub returns-in-Ok-clause-written : goal.returns-in-Ok-clause-written
returns-in-Ok-clause-written c = λ zero.
    of_call (λ (chosen : Option BootProfile) (utf8 : Bool) (words : List (List ℕ)).
    IsOkAnd (outcome_by chosen utf8 words (file_bytes (lent_files c.args.files.now))) (λ text. c.run_strings.new.report.text ≡ text))
    (profile_of_number c.args.profile) c.in-Some.profile c.deref.result.now (lent_words c.args.words.now)
    c.in-Some.ensures (ap (map string_bytes) c.deref.ensures.value ∙ c.in-Ok.ensures.texts) c.in-Ok.ensures.utf8
    (c.run_strings.ensures.written zero)

pub returns-in-Ok-clause-headline : goal.returns-in-Ok-clause-headline
returns-in-Ok-clause-headline c = λ zero.
    of_call (λ (chosen : Option BootProfile) (utf8 : Bool) (words : List (List ℕ)).
    HasReportsBy chosen utf8 words (file_bytes (lent_files c.args.files.now)) c.run_strings.new.report.text)
    (profile_of_number c.args.profile) c.in-Some.profile c.deref.result.now (lent_words c.args.words.now)
    c.in-Some.ensures (ap (map string_bytes) c.deref.ensures.value ∙ c.in-Ok.ensures.texts) c.in-Ok.ensures.utf8
    (c.run_strings.ensures.headline zero)

pub returns-in-Ok-clause-line : goal.returns-in-Ok-clause-line
returns-in-Ok-clause-line c = λ some other short.
    of_call (λ (chosen : Option BootProfile) (utf8 : Bool) (words : List (List ℕ)).
    c.run_strings.new.line.text ≡ call_line_by chosen utf8 words (file_bytes (lent_files c.args.files.now)))
    (profile_of_number c.args.profile) c.in-Some.profile c.deref.result.now (lent_words c.args.words.now)
    c.in-Some.ensures (ap (map string_bytes) c.deref.ensures.value ∙ c.in-Ok.ensures.texts) c.in-Ok.ensures.utf8
    (c.run_strings.ensures.line some other short)

pub returns-in-Err-NotUtf8-clause-status : goal.returns-in-Err-NotUtf8-clause-status
returns-in-Err-NotUtf8-clause-status c =
    inl (sym (nothing_asked (profile_of_number c.args.profile) (lent_words c.args.words.now) (file_bytes (lent_files c.args.files.now))
    (c.in-Err-NotUtf8.ensures.other (ap (λ (e : StringsError). Err e) c.in-Err-NotUtf8.field-0-is))))

pub returns-in-Err-NotUtf8-clause-line : goal.returns-in-Err-NotUtf8-clause-line
returns-in-Err-NotUtf8-clause-line c = λ some other short.
    c.requires.no_line ∙ none_asked (profile_of_number c.args.profile) (lent_words c.args.words.now)
    (file_bytes (lent_files c.args.files.now))
    (c.in-Err-NotUtf8.ensures.other (ap (λ (e : StringsError). Err e) c.in-Err-NotUtf8.field-0-is))
