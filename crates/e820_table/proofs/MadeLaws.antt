-- Lemmas on made tables: how the list grows by an entry, and how it is split between the page and
-- the extension.
use Rattle.std.proofs.Common.{◌≡◌, ℕ, suc, ◌+◌, ◌^◌, ◌<◌, ◌≤◌, List, [], ◌∷◌, ◌++◌, length, take, drop, refl, sym, ap, ◌∙◌, append_assoc, length-append, arith, ⊎_elim}
use Rattle.std.proofs.lemmas.Bool.{cases_lt}
use Rattle.std.proofs.lemmas.List.{append-nil, drop_all, take_all}
use Rattle.std.proofs.Math.Seq.{drop_at, take_at}
use Rattle.e820_model.specs.declared.entry.Entry.{Entry}
use Rattle.e820_model.specs.Claims.{EntriesFit}
use Rattle.e820_table.proofs.EntryLaws.{EntriesFit-push}
use Rattle.e820_table.specs.Made.{generated_entries_from, generated_entry, next_generator_state}

-- the list of at least one made entry begins with the entry made now, and the others come after it
pub one_more : (n left index base x y : ℕ) (e : Entry) → n ≡ suc left → y ≡ next_generator_state x → e ≡ generated_entry index base y
    → generated_entries_from n index base x ≡ e ∷ generated_entries_from left (index + 1) (base + e.size) y
unfolding generated_entries_from
one_more n left index base x y e some next is = rw (some, is, next) refl

pub none_more : (n index base x : ℕ) → n ≡ 0 → generated_entries_from n index base x ≡ []
unfolding generated_entries_from
none_more n index base x none = rw none refl

-- if a list has at most n members, and others follow it only if it has n, its members are the
-- first n of both together
pub page_of_all : (page others : List Entry) (n : ℕ) → length page ≤ n → (length page < n → others ≡ [])
    → (take n (page ++ others) ≡ page) × (drop n (page ++ others) ≡ others)
page_of_all page others n fits alone =
    ⊎_elim (λ room. (let none : others ≡ [] = alone room in
    let all : page ++ others ≡ page = rw none (append-nil page) in
    rw all (take_all n page fits, drop_all n page fits ∙ sym none)))
    (λ full. (let same : length page ≡ n = omega arith in (take_at page others n same, drop_at page others n same)))
    (cases_lt (length page) n)

-- the entries of the page and of the extension: together they are `all`; the extension is empty
-- while the page has room; all entries end in the address space
pub record Split (page others all : List Entry) : Type 0 where
  pub whole : page ++ others ≡ all
  pub fits : length page ≤ 128
  pub alone : length page < 128 → others ≡ []
  pub page_space : EntriesFit page
  pub others_space : EntriesFit others

-- appending an entry, to the page while it has room, keeps the split
pub split_more : (page others all page_new others_new : List Entry) (e : Entry) → Split page others all
    → (length page < 128 → (page_new ≡ page ++ e ∷ []) × (others_new ≡ others))
    → (128 ≤ length page → (page_new ≡ page) × (others_new ≡ others ++ e ∷ []))
    → e.addr + e.size < 2 ^ 64 → Split page_new others_new (all ++ e ∷ [])
split_more page others all page_new others_new e split room full ends =
    ⊎_elim (λ below. (let new = room below in let none : others ≡ [] = split.alone below in
    rw (new.0, new.1, none) (record {
      whole = append-nil (page ++ e ∷ []) ∙ ap (λ (es : List Entry). es ++ e ∷ []) (sym (append-nil page) ∙ rw none at split.whole);
      fits = simp length-append (omega arith);
      alone = λ more. refl;
      page_space = EntriesFit-push page e split.page_space ends;
      others_space = tt;
    })))
    (λ at_end. (let new = full (omega arith) in
    rw (new.0, new.1) (record {
      whole = sym (append_assoc page others (e ∷ [])) ∙ ap (λ (es : List Entry). es ++ e ∷ []) split.whole;
      fits = split.fits;
      alone = λ more. absurd (omega arith);
      page_space = split.page_space;
      others_space = EntriesFit-push others e split.others_space ends;
    })))
    (cases_lt (length page) 128)
