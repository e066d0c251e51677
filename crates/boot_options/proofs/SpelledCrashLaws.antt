-- A value that is read as a form of `crashkernel=` spells that form.
use Rattle.std.proofs.Common.{◌≡◌, ◌↔◌, ℕ, ◌==◌, if◌then◌else◌, Bool, true, false, is_some, Option, Some, None, List, [], ◌∷◌, ◌++◌, refl, subst, ap, sym, ◌∙◌, append_assoc, codes}
use Rattle.std.proofs.lemmas.Bool.{eqb-true, ltb-true}
use Rattle.std.proofs.lemmas.List.{append-nil}
use Rattle.std.proofs.lemmas.Slice.Eq.{bytes_eq-Decides}
use Rattle.std.specs.Option.{option_map}
use Rattle.std.specs.Str.{bytes_eq}
use Rattle.bm_base.specs.OptionSteps.{◌>>=◌}
use Rattle.bm_base.specs.Size.{IsSize}
use Rattle.text_words.specs.declared.separators.Separators.TheVariants.{Byte}
use Rattle.text_words.specs.Parts.{split_once, prepend_text, parts_in}
use Rattle.boot_options.specs.declared.crash.CrashRange.{CrashRange}
use Rattle.boot_options.specs.MapOptions.{whole_size}
use Rattle.boot_options.specs.Crash.{CrashFormView, High, Low, Plain, crash_range_of, crash_ranges_of, end_of_range, crash_form_of, range_if_in_order, is_above, one_range, text_and_base, ranges_form, simple_form, suffix_form, form_by_suffix, text_and_base_at, form_without_colon}
use Rattle.boot_options.specs.Spelling.{SpellRanges, SpellsBase, SpellsEnd, SpellsForm, SpellsRange, a_base, by_ranges, high, join_with_commas, low, no_base, one_size}
use Rattle.boot_options.proofs.CrashSpellingLaws.{form-read}
use Rattle.boot_options.proofs.SpelledLaws.{join_with_commas-parts, map-some, then-both, whole_size-spelled}

-- a text that is cut at a mark is the part before the mark, the mark, and the part after it
pub split_once-spelled : (mark : ℕ) (text : List ℕ) (halves : List ℕ × List ℕ) → split_once mark text ≡ Some halves
    → text ≡ halves.0 ++ (mark ∷ halves.1)
split_once-spelled mark [] halves is = cc
split_once-spelled mark (b ∷ bs) halves is = by_test (b == mark) refl (split_once-spelled mark bs) is
  where
    by_test : (t : Bool) → b == mark ≡ t
        → ((halves : List ℕ × List ℕ) → split_once mark bs ≡ Some halves → bs ≡ halves.0 ++ (mark ∷ halves.1))
        → (if t then Some ([], bs) else option_map (prepend_text (b ∷ [])) (split_once mark bs)) ≡ Some halves
        → b ∷ bs ≡ halves.0 ++ (mark ∷ halves.1)
    by_test true test spelled is =
        let same : ([], bs) ≡ halves = cc in
        subst (λ (halves : List ℕ × List ℕ). b ∷ bs ≡ halves.0 ++ (mark ∷ halves.1)) same (ap (λ (n : ℕ). n ∷ bs) (eqb-true b mark test))
    by_test false test spelled is =
        let rest = map-some (split_once mark bs) (prepend_text (b ∷ [])) halves is in
        subst (λ (halves : List ℕ × List ℕ). b ∷ bs ≡ halves.0 ++ (mark ∷ halves.1)) rest.2
        (ap (λ (bs : List ℕ). b ∷ bs) (spelled rest.0 rest.1))

-- the end of a range, and then a range, that are read are spelled
end-spelled : (text : List ℕ) (end : Option ℕ) (start : ℕ) → end_of_range text ≡ Some end → is_above end start ≡ true
    → SpellsEnd text end start
end-spelled [] None start is above = refl
end-spelled [] (Some end) start is above = cc
end-spelled (b ∷ bs) end start is above =
    let size = map-some (whole_size (b ∷ bs)) (λ end. Some end) end is in
    by_end end size.0 size.2 (whole_size-spelled (b ∷ bs) size.0 size.1) above
  where
    by_end : (end : Option ℕ) (n : ℕ) → Some n ≡ end → IsSize (b ∷ bs) n → is_above end start ≡ true → SpellsEnd (b ∷ bs) end start
    by_end None n same size above = cc
    by_end (Some end) n same size above = let number : n ≡ end = cc in (rw (← number) size, ltb-true start end above)

range_if_in_order-is : (r found : CrashRange) → range_if_in_order r ≡ Some found → (r ≡ found) × (is_above r.end r.start ≡ true)
range_if_in_order-is r found = by_test (is_above r.end r.start) refl
  where
    by_test : (t : Bool) → is_above r.end r.start ≡ t → (if t then Some r else None) ≡ Some found
        → (r ≡ found) × (is_above r.end r.start ≡ true)
    by_test true test is = (cc, test)
    by_test false test is = cc

range-spelled : (text : List ℕ) (r : CrashRange) → crash_range_of text ≡ Some r → SpellsRange text r
range-spelled text r is =
    let halves = then-both (split_once 58 text) _ r is in
    let bounds = then-both (split_once 45 halves.0.0) _ r halves.2 in
    let start = then-both (whole_size bounds.0.0) _ r bounds.2 in
    let end = then-both (end_of_range bounds.0.1) _ r start.2 in
    let size = then-both (whole_size halves.0.1) (λ size.
    range_if_in_order (record { start = start.0; end = end.0; size = size })) r end.2 in
    let order = range_if_in_order-is (record { start = start.0; end = end.0; size = size.0 }) r size.2 in
    let at_colon : text ≡ halves.0.0 ++ (58 ∷ halves.0.1) = split_once-spelled 58 text halves.0 halves.1 in
    let at_dash : halves.0.0 ≡ bounds.0.0 ++ (45 ∷ bounds.0.1) = split_once-spelled 45 halves.0.0 bounds.0 bounds.1 in
    subst (SpellsRange text) order.0 (record {
      start_text = bounds.0.0;
      end_text = bounds.0.1;
      size_text = halves.0.1;
      text = at_colon ∙ ap (λ (front : List ℕ). front ++ (58 ∷ halves.0.1)) at_dash
          ∙ append_assoc bounds.0.0 (45 ∷ bounds.0.1) (58 ∷ halves.0.1);
      start = whole_size-spelled bounds.0.0 start.0 start.1;
      end = end-spelled bounds.0.1 end.0 start.0 end.1 order.1;
      size = whole_size-spelled halves.0.1 size.0 size.1;
    })

ranges-spelled : (texts : List (List ℕ)) (rs : List CrashRange) → crash_ranges_of texts ≡ Some rs → SpellRanges texts rs
ranges-spelled [] [] is = tt
ranges-spelled [] (r ∷ rs) is = cc
ranges-spelled (text ∷ texts) rs is =
    let range = then-both (crash_range_of text) (λ range. crash_ranges_of texts >>= λ ranges. Some (range ∷ ranges)) rs is in
    let rest = then-both (crash_ranges_of texts) (λ ranges. Some (range.0 ∷ ranges)) rs range.2 in
    let same : range.0 ∷ rest.0 ≡ rs = cc rest.2 in
    subst (SpellRanges (text ∷ texts)) same (range-spelled text range.0 range.1, ranges-spelled texts rest.0 rest.1)

-- a base that is read is spelled
place-spelled : (text : List ℕ) (place : List ℕ × ℕ) → text_and_base text ≡ Some place
    → (b : List ℕ) × SpellsBase b place.1 × (text ≡ place.0 ++ b)
place-spelled text place = by_cut (split_once 64 text) (split_once-spelled 64 text)
  where
    by_cut : (o : Option (List ℕ × List ℕ)) → ((halves : List ℕ × List ℕ) → o ≡ Some halves → text ≡ halves.0 ++ (64 ∷ halves.1))
        → text_and_base_at text o ≡ Some place → (b : List ℕ) × SpellsBase b place.1 × (text ≡ place.0 ++ b)
    by_cut None spelled is =
        let same : (text, 0) ≡ place = cc in
        subst (λ (place : List ℕ × ℕ). (b : List ℕ) × SpellsBase b place.1 × (text ≡ place.0 ++ b)) same
        ([], no_base, sym (append-nil text))
    by_cut (Some halves) spelled is =
        let base = map-some (whole_size halves.1) (λ base. (halves.0, base)) place is in
        subst (λ (place : List ℕ × ℕ). (b : List ℕ) × SpellsBase b place.1 × (text ≡ place.0 ++ b)) base.2
        (64 ∷ halves.1, a_base halves.1 base.0 (whole_size-spelled halves.1 base.0 base.1), spelled halves refl)

-- each form that is read is spelled
ranges_form-spelled : (value : List ℕ) (form : CrashFormView) → ranges_form value ≡ Some form → SpellsForm value form
ranges_form-spelled value form is =
    let place = then-both (text_and_base value) _ form is in
    let ranges = then-both (crash_ranges_of (parts_in (Byte 44) place.0.0))
    (λ ranges. Some (Plain (record { ranges = ranges; base = place.0.1 }))) form place.2 in
    let base = place-spelled value place.0 place.1 in
    let parts = join_with_commas-parts place.0.0 in
    let form_is : Plain (record { ranges = ranges.0; base = place.0.1 }) ≡ form = cc ranges.2 in
    let spell : SpellRanges (parts.0 ∷ parts.1) ranges.0 =
    ranges-spelled (parts.0 ∷ parts.1) ranges.0 (sym (ap crash_ranges_of parts.2) ∙ ranges.1) in
    let whole : value ≡ join_with_commas (parts.0 ∷ parts.1) ++ base.0 = rw parts.3 base.2 in
    subst (SpellsForm value) form_is
    (subst (λ text. SpellsForm text (Plain (record { ranges = ranges.0; base = place.0.1 }))) (sym whole)
    (by_ranges parts.0 base.0 parts.1 ranges.0 place.0.1 spell base.1))

simple_form-spelled : (value : List ℕ) (form : CrashFormView) → simple_form value ≡ Some form → SpellsForm value form
simple_form-spelled value form is =
    let place = then-both (text_and_base value) _ form is in
    let size = then-both (whole_size place.0.0) (λ size. Some (Plain (one_range size place.0.1))) form place.2 in
    let base = place-spelled value place.0 place.1 in
    let form_is : Plain (one_range size.0 place.0.1) ≡ form = cc size.2 in
    subst (SpellsForm value) form_is
    (subst (λ text. SpellsForm text (Plain (one_range size.0 place.0.1))) (sym base.2)
    (one_size place.0.0 base.0 size.0 place.0.1 (whole_size-spelled place.0.0 size.0 size.1) base.1))

form_by_suffix-spelled : (s name : List ℕ) (size : ℕ) (form : CrashFormView) → IsSize s size → form_by_suffix name size ≡ Some form
    → SpellsForm (s ++ (44 ∷ name)) form
form_by_suffix-spelled s name size form size_is = by_tests (bytes_eq name (codes "high")) refl (bytes_eq name (codes "low")) refl
  where
    by_tests : (h : Bool) → bytes_eq name (codes "high") ≡ h → (l : Bool) → bytes_eq name (codes "low") ≡ l
        → (if h then Some (High size) else (if l then Some (Low size) else None)) ≡ Some form → SpellsForm (s ++ (44 ∷ name)) form
    by_tests true h_is l l_is is =
        let form_is : High size ≡ form = cc in
        rw ((bytes_eq-Decides name (codes "high")).0 h_is, ← form_is) (high s size size_is)
    by_tests false h_is true l_is is =
        let form_is : Low size ≡ form = cc in
        rw ((bytes_eq-Decides name (codes "low")).0 l_is, ← form_is) (low s size size_is)
    by_tests false h_is false l_is is = cc

suffix_form-spelled : (value : List ℕ) (halves : List ℕ × List ℕ) (form : CrashFormView) → value ≡ halves.0 ++ (44 ∷ halves.1)
    → suffix_form halves ≡ Some form → SpellsForm value form
suffix_form-spelled value halves form whole is =
    let size = then-both (whole_size halves.0) (λ size. form_by_suffix halves.1 size) form is in
    rw whole (form_by_suffix-spelled halves.0 halves.1 size.0 form (whole_size-spelled halves.0 size.0 size.1) size.2)

form-spelled : (value : List ℕ) (form : CrashFormView) → crash_form_of value ≡ Some form → SpellsForm value form
unfolding crash_form_of
form-spelled value form = by_colon (is_some (split_once 58 value))
  where
    by_comma : (o : Option (List ℕ × List ℕ)) → ((halves : List ℕ × List ℕ) → o ≡ Some halves → value ≡ halves.0 ++ (44 ∷ halves.1))
        → form_without_colon value o ≡ Some form → SpellsForm value form
    by_comma None spelled is = simple_form-spelled value form is
    by_comma (Some halves) spelled is = suffix_form-spelled value halves form (spelled halves refl) is

    by_colon : (t : Bool) → (if t then ranges_form value else form_without_colon value (split_once 44 value)) ≡ Some form
        → SpellsForm value form
    by_colon true is = ranges_form-spelled value form is
    by_colon false is = by_comma (split_once 44 value) (split_once-spelled 44 value) is

pub form-exactly : (value : List ℕ) (form : CrashFormView) → crash_form_of value ≡ Some form ↔ SpellsForm value form
form-exactly value form = (form-spelled value form, form-read value form)
