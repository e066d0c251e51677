-- The inputs that the files give with the EFI memory map and without it.
use Rattle.std.proofs.Common.{◌≡◌, ◌⊎◌, ◌∙◌, ℕ, Bool, true, false, List, [], ◌∷◌, ◌++◌, Option, Some, None, Result, Ok, Err, refl, sym, ap, inl, inr, arith}
use Rattle.std.specs.Prelude.{IfOk, if◌then◌else◌, map, not}
use Rattle.std.specs.Option.{option_and_then}
use Rattle.bm_base.specs.ResultSteps.{◌>>=◌, map_error}
use Rattle.e820_model.specs.declared.entry.Entry.{Entry}
use Rattle.e820_model.specs.Claims.{Claims, final_claims}
use Rattle.boot_options.specs.Options.{OptionsView, options_of}
use Rattle.boot_options.specs.declared.fault.OptionFault.{OptionFault}
use Rattle.efi_map.specs.Descriptors.{Descriptor, entry_of_descriptor}
use Rattle.efi_map.specs.declared.efi.EfiFault.TheVariants as efi
use Rattle.e820_table.specs.ZeroPage.{ZeroPageView}
use Rattle.srat_reader.specs.Table.{SratView}
use Rattle.script_reader.specs.declared.act.Line.{Line}
use Rattle.page_alloc.specs.declared.act.PageLine.{PageLine}
use Rattle.slit_zonelists.specs.SlitView.{SlitView}
use Rattle.efi_map.specs.declared.efi.EfiFault.{EfiFault}
use Rattle.efi_map.specs.Map.{EfiContent, descriptors_of, efi_of, far_descriptor_from, has_efi_header, has_efi_length, efi_unless_far}
use Rattle.boot_model.specs.Boot.{EfiMapView, InputsView, added_entries, claims, efi_entries}
use Rattle.boot_inputs.specs.declared.fault.Fault.{Fault}
use Rattle.boot_inputs.specs.declared.fault.Fault.TheVariants as faults
use Rattle.boot_inputs.specs.declared.input.Input.TheVariants as inputs
use Rattle.boot_inputs.specs.CommandLine.{command_line, options_or_fault, set_command_line}
use Rattle.boot_inputs.specs.Efi.{efi_file, efi_or_fault, put_efi}
use Rattle.boot_inputs.specs.Extension.{extension_file, extension_or_fault, put_extension}
use Rattle.boot_inputs.specs.File.{File, with_value}
use Rattle.boot_inputs.specs.Inputs.{FileNames, inputs_after_file, inputs_after_files, inputs_of, answer_or_faulty_file, step_or_unread_file, inputs_after_optional_file, within_limit}
use Rattle.program_end.specs.Program.{FileContents}
use Rattle.boot_inputs.specs.Pages.{pages_file, page_script_or_fault, set_page_script}
use Rattle.boot_inputs.specs.Script.{script_or_fault, set_early_script, script_file}
use Rattle.boot_inputs.specs.Slit.{slit_or_fault, set_slit, slit_file}
use Rattle.boot_inputs.specs.Srat.{set_srat, srat_file, srat_or_fault}
use Rattle.boot_inputs.specs.ZeroPage.{zero_page_or_fault, set_zero_page, zero_page}
use Rattle.boot_model.proofs.StageLaws.{GoesBy, goes_by}
use Rattle.boot_inputs.specs.WithoutEfi.{HasMapWithoutEfi, IsBeforeFiles, LacksDescriptors, LacksEfiWord, without_efi, without_efi_map}
use Rattle.boot_inputs.proofs.EfiWordLaws.{options_not}

-- `before` becomes `after` by what the file of these bytes says
record Says (file : File) (bytes : Option (List ℕ)) (before after : InputsView) : Type 0 where
  pub read : List ℕ
  pub held : bytes ≡ Some read
  pub says : file.says read before ≡ Ok after

read_says : (file : File) (before after : InputsView) (bytes : List ℕ)
    → answer_or_faulty_file file.input (within_limit file.limit bytes >>= λ read. file.says read before) ≡ Ok after
    → file.says bytes before ≡ Ok after
read_says file before after bytes is = grind arith

held_says : (file : File) (before after : InputsView) (bytes : Option (List ℕ))
    → step_or_unread_file file.input bytes (λ read.
    answer_or_faulty_file file.input (within_limit file.limit read >>= λ r. file.says r before)) ≡ Ok after
    → Says file bytes before after
held_says file before after None is = absurd (cc is)
held_says file before after (Some bytes) is = record { read = bytes; held = refl; says = read_says file before after bytes is }

-- the step for a file changes nothing, or does what the file says
step_says : (held : FileContents) (file : File) (before after : InputsView) (name : Option (List ℕ))
    → inputs_after_optional_file held file before name ≡ Ok after
    → (before ≡ after) ⊎ Says file (option_and_then held name) before after
step_says held file before after None is = inl (cc is)
step_says held file before after (Some name) is = inr (held_says file before after (held name) is)

-- the file doesn't change this part of the inputs
abbrev Keeps : {A : Type 0} → (InputsView → A) → File → Type 0
Keeps part file = (bytes : List ℕ) (before after : InputsView) → file.says bytes before ≡ Ok after → part after ≡ part before

abbrev AllKeep : {A : Type 0} → (InputsView → A) → List File → Type 0
AllKeep part [] = Unit {0}
AllKeep part (file ∷ files) = Keeps part file × AllKeep part files

value_keeps : {A B : Type 0} (part : InputsView → B) (put : A → InputsView → InputsView) (said : Result A Fault) (before after : InputsView)
    → ((value : A) (given : InputsView) → part (put value given) ≡ part given) → with_value put before said ≡ Ok after
    → part after ≡ part before
value_keeps part put (Ok value) before after puts is = let same : put value before ≡ after = cc in ap part (sym same) ∙ puts value before
value_keeps part put (Err fault) before after puts is = absurd (cc is)

step_keeps : {A : Type 0} (part : InputsView → A) (held : FileContents) (named : FileNames) (file : File) (before after : InputsView)
    → Keeps part file
    → inputs_after_file held named file before ≡ Ok after → part after ≡ part before
step_keeps part held named file before after keeps is = elim (step_says held file before after (named file.input) is) [
  | inl same ↦ ap part (sym same)
  | inr said ↦ keeps said.read before after said.says
]

files_keep : {A : Type 0} (part : InputsView → A) (held : FileContents) (named : FileNames) (files : List File) (before after : InputsView)
    → AllKeep part files
    → inputs_after_files held named files before ≡ Ok after → part after ≡ part before
files_keep part held named [] before after keep is = let same : before ≡ after = cc in ap part (sym same)
files_keep part held named (file ∷ files) before after keep is =
    let by = goes_by (inputs_after_file held named file before) (inputs_after_files held named files) after is in
    files_keep part held named files by.middle after keep.1 by.rest ∙ step_keeps part held named file before by.middle keep.0 by.first

then_append : {A B C E : Type 0} (x : Result A E) (f : A → Result B E) (g : B → Result C E) (both : A → Result C E)
    → ((a : A) → both a ≡ (f a >>= g)) → (x >>= both) ≡ ((x >>= f) >>= g)
then_append (Ok a) f g both are = are a
then_append (Err error) f g both are = refl

pub inputs_after_files-append : (held : FileContents) (named : FileNames) (files others : List File) (begun : InputsView)
    → inputs_after_files held named (files ++ others) begun
    ≡ (inputs_after_files held named files begun >>= inputs_after_files held named others)
inputs_after_files-append held named [] others begun = refl
inputs_after_files-append held named (file ∷ files) others begun =
    then_append (inputs_after_file held named file begun) (inputs_after_files held named files) (inputs_after_files held named others)
    (inputs_after_files held named (files ++ others)) (inputs_after_files-append held named files others)

-- reading a list of files in two parts is reading the first part, and then the second
split : (held : FileContents) (named : FileNames) (files others : List File) (begun given : InputsView)
    → inputs_after_files held named (files ++ others) begun ≡ Ok given
    → GoesBy (inputs_after_files held named files begun) (inputs_after_files held named others) given
split held named files others begun given is =
    goes_by (inputs_after_files held named files begun) (inputs_after_files held named others) given
    (sym (inputs_after_files-append held named files others begun) ∙ is)

-- reading a list of one file is the step for that file
last_step : (held : FileContents) (named : FileNames) (file : File) (before after : InputsView)
    → inputs_after_files held named (file ∷ []) before ≡ Ok after
    → inputs_after_file held named file before ≡ Ok after
last_step held named file before after is =
    let by = goes_by (inputs_after_file held named file before) (inputs_after_files held named []) after is in
    let same : by.middle ≡ after = cc (by.rest) in
    by.first ∙ ap (λ (g : InputsView). Ok g) same

-- a command line without `add_efi_memmap` doesn't ask for the EFI memory map
line_not : (before after : InputsView) (said : Result OptionsView OptionFault) → IfOk said (λ chosen. chosen.add_efi ≡ false)
    → with_value set_command_line before (map_error faults.CommandLine said) ≡ Ok after → after.options.add_efi ≡ false
line_not before after (Ok chosen) not is =
    let same : set_command_line chosen before ≡ after = cc in ap (λ (g : InputsView). g.options.add_efi) (sym same) ∙ not
line_not before after (Err fault) not is = absurd (cc is)

options_lack : (held : FileContents) (named : FileNames) (before after : InputsView) → LacksEfiWord held named
    → before.options.add_efi ≡ false
    → inputs_after_file held named command_line before ≡ Ok after → after.options.add_efi ≡ false
options_lack held named before after lacks none is = elim (step_says held command_line before after (named inputs.CommandLine) is) [
  | inl same ↦ ap (λ (g : InputsView). g.options.add_efi) (sym same) ∙ none
  | inr said ↦ line_not before after (options_of said.read) (options_not said.read (rw said.held at lacks)) said.says
]

-- a map without descriptors has no entries
entries-of : (headless broken : Bool) (ds : List Descriptor) (far : Option ℕ) → IfOk
    (if headless then Err efi.Header else (if broken then Err efi.Length else efi_unless_far ds far)) (λ m.
    m.entries ≡ map entry_of_descriptor ds)
entries-of true broken ds far = tt
entries-of false true ds far = tt
entries-of false false ds None = refl
entries-of false false ds (Some index) = tt

map_empty : (before after : InputsView) (ds : List Descriptor) (said : Result EfiContent EfiFault)
    → IfOk said (λ m. m.entries ≡ map entry_of_descriptor ds)
    → ds ≡ [] → with_value put_efi before (map_error faults.Efi said) ≡ Ok after → efi_entries after.efi ≡ []
map_empty before after ds (Ok m) are none is =
    let same : put_efi m before ≡ after = cc in
    ap (λ (g : InputsView). efi_entries g.efi) (sym same) ∙ are ∙ ap (map entry_of_descriptor) none
map_empty before after ds (Err fault) are none is = absurd (cc is)

entries_lack : (held : FileContents) (named : FileNames) (before after : InputsView) → LacksDescriptors held named → before.efi ≡ None
    → inputs_after_file held named efi_file before ≡ Ok after → efi_entries after.efi ≡ []
entries_lack held named before after lacks none is = elim (step_says held efi_file before after (named inputs.Efi) is) [
  | inl same ↦ ap (λ (g : InputsView). efi_entries g.efi) (sym same) ∙ ap efi_entries none
  | inr said ↦
      let bytes : List ℕ = said.read in
      map_empty before after (descriptors_of bytes) (efi_of bytes)
      (entries-of (not (has_efi_header bytes)) (not (has_efi_length bytes)) (descriptors_of bytes)
      (far_descriptor_from 0 (descriptors_of bytes)))
      (rw said.held at lacks) said.says
]

-- the files before the command line
abbrev until_line : List File
until_line = zero_page ∷ extension_file ∷ []

abbrev after_line : List File
after_line = srat_file ∷ script_file ∷ pages_file ∷ slit_file ∷ []

-- the files before the EFI memory map don't change these parts of the inputs
start_keeps : {A : Type 0} (part : InputsView → A) → ((page : ZeroPageView) (g : InputsView) → part (set_zero_page page g) ≡ part g)
    → ((es : List Entry) (g : InputsView) → part (put_extension es g) ≡ part g) → AllKeep part until_line
start_keeps part page extension = (
  (λ bytes before after. value_keeps part set_zero_page (zero_page_or_fault bytes) before after page),
  ((λ bytes before after. value_keeps part put_extension (extension_or_fault bytes) before after extension), tt),
)

rest_keeps : {A : Type 0} (part : InputsView → A) → ((t : SratView) (g : InputsView) → part (set_srat t g) ≡ part g)
    → ((ls : List Line) (g : InputsView) → part (set_early_script ls g) ≡ part g)
    → ((ls : List PageLine) (g : InputsView) → part (set_page_script ls g) ≡ part g)
    → ((m : SlitView) (g : InputsView) → part (set_slit m g) ≡ part g)
    → AllKeep part after_line
rest_keeps part domains lines pages distances = (
  (λ bytes before after. value_keeps part set_srat (srat_or_fault bytes) before after domains),
  (
    (λ bytes before after. value_keeps part set_early_script (script_or_fault bytes) before after lines),
    (
      (λ bytes before after. value_keeps part set_page_script (page_script_or_fault bytes) before after pages),
      ((λ bytes before after. value_keeps part set_slit (slit_or_fault bytes) before after distances), tt),
    ),
  ),
)

-- The inputs before the EFI memory map is read: they have no such map, and their options are those
-- of the command line.
record AreRead (held : FileContents) (named : FileNames) (begun given : InputsView) : Type 0 where
  before : InputsView
  first : inputs_after_files held named (until_line ++ (command_line ∷ after_line)) begun ≡ Ok before
  step : inputs_after_file held named efi_file before ≡ Ok given
  no_map : before.efi ≡ None
  lacks : LacksEfiWord held named → before.options.add_efi ≡ false

are_read : (held : FileContents) (named : FileNames) (begun given : InputsView) → IsBeforeFiles begun
    → inputs_of held named begun ≡ Ok given
    → AreRead held named begun given
are_read held named begun given start is =
    let by = split held named (until_line ++ (command_line ∷ after_line)) (efi_file ∷ []) begun given is in
    let at_line = split held named until_line (command_line ∷ after_line) begun by.middle by.first in
    let over_line = split held named (command_line ∷ []) after_line at_line.middle by.middle at_line.rest in
    let line = last_step held named command_line at_line.middle over_line.middle over_line.first in
    let part : InputsView → OptionsView × Option EfiMapView = λ g. (g.options, g.efi) in
    let early = files_keep part held named until_line begun at_line.middle
    (start_keeps part (λ page g. refl) (λ es g. refl)) at_line.first in
    let asked = step_keeps (λ (g : InputsView). g.efi) held named command_line at_line.middle over_line.middle
    (λ bytes before after.
    value_keeps (λ (g : InputsView). g.efi) set_command_line (options_or_fault bytes) before after (λ chosen g. refl)) line in
    let late = files_keep part held named after_line over_line.middle by.middle
    (rest_keeps part (λ t g. refl) (λ ls g. refl) (λ ls g. refl) (λ m g. refl)) over_line.rest in
    record {
      before = by.middle;
      first = by.first;
      step = last_step held named efi_file by.middle given by.rest;
      no_map = ap (λ (p : OptionsView × Option EfiMapView). p.1) late ∙ asked ∙ ap (λ (p : OptionsView × Option EfiMapView). p.1) early
          ∙ start.efi;
      lacks = λ lacks. ap (λ (p : OptionsView × Option EfiMapView). p.0.add_efi) late
          ∙ options_lack held named at_line.middle over_line.middle
          lacks (ap (λ (p : OptionsView × Option EfiMapView). p.0.add_efi) early ∙ ap (λ (c : OptionsView). c.add_efi) start.options) line;
    }

-- without an EFI memory map no entries are added
none_added : (asked : Bool) → (if asked then efi_entries None else []) ≡ []
none_added true = refl
none_added false = refl

no_entries_added : (asked : Bool) (entries : List Entry) → entries ≡ [] → (if asked then entries else []) ≡ []
no_entries_added true entries none = none
no_entries_added false entries none = refl

-- if no entries are added, the boot's map is that of the inputs without the EFI file
same_map : (held : FileContents) (named : FileNames) (begun given : InputsView) → AreRead held named begun given → added_entries given ≡ []
    → HasMapWithoutEfi held named begun given
same_map held named begun given read none =
    let other : without_efi_map given ≡ without_efi_map read.before = step_keeps without_efi_map held named efi_file read.before given
    (λ bytes before after. value_keeps without_efi_map put_efi (efi_or_fault bytes) before after (λ m g. refl)) read.step in
    let own : read.before ≡ without_efi_map read.before = ap (λ (e : Option EfiMapView). record read.before { efi = e }) read.no_map in
    let same : claims given ≡ claims (without_efi_map given) =
    ap (final_claims given.entries given.extension given.options.edits) (none ∙ sym (none_added given.options.add_efi)) in
    record {
      inputs = inputs_after_files-append held (without_efi named) (until_line ++ (command_line ∷ after_line)) (efi_file ∷ []) begun
          ∙ rw read.first (ap (λ (g : InputsView). Ok g) (own ∙ sym other));
      claims = λ x. ap (λ (c : Claims). c x) same;
      judged = rw (none, none_added given.options.add_efi) refl;
    }

pub unasked : (held : FileContents) (named : FileNames) (begun given : InputsView) → IsBeforeFiles begun
    → inputs_of held named begun ≡ Ok given
    → LacksEfiWord held named → HasMapWithoutEfi held named begun given
unasked held named begun given start is lacks =
    let read = are_read held named begun given start is in
    let asked : given.options ≡ read.before.options = step_keeps (λ (g : InputsView). g.options) held named efi_file read.before given
    (λ bytes before after. value_keeps (λ (g : InputsView). g.options) put_efi (efi_or_fault bytes) before after (λ m g. refl)) read.step in
    let not : given.options.add_efi ≡ false = ap (λ (c : OptionsView). c.add_efi) asked ∙ read.lacks lacks in
    same_map held named begun given read (rw not refl)

pub empty : (held : FileContents) (named : FileNames) (begun given : InputsView) → IsBeforeFiles begun
    → inputs_of held named begun ≡ Ok given
    → LacksDescriptors held named → HasMapWithoutEfi held named begun given
empty held named begun given start is lacks =
    let read = are_read held named begun given start is in
    same_map held named begun given read (no_entries_added given.options.add_efi (efi_entries given.efi)
    (entries_lack held named read.before given lacks read.no_map read.step))
