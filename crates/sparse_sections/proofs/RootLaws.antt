-- One root after another: the sequence ends as its remaining roots end.
use Rattle.std.proofs.Common.{◌≡◌, ℕ, ◌+◌, ◌<◌, ◌≤◌, true, false, Option, Some, None, List, [], ◌∷◌, length, drop, get_or, Result, Ok, Err, add-one, drop-cons, refl}
use Rattle.std.proofs.lemmas.List.{drop_all}
use Rattle.bm_base.specs.declared.width.Width.{Width}
use Rattle.bm_base.specs.Width.{root_table_size_of}
use Rattle.memblock_model.specs.declared.item.Item.{Item}
use Rattle.memblock_model.specs.declared.owner.Owner.TheVariants as owner
use Rattle.memblock_model.specs.declared.query.Request.{Request}
use Rattle.memblock_grow.specs.declared.stop.Section.{Section}
use Rattle.memblock_grow.specs.declared.stop.What.TheVariants as what
use Rattle.memblock_grow.specs.declared.stop.StageStop.{StageStop}
use Rattle.stage_steps.specs.Causes.{error_of_stage_cause}
use Rattle.stage_steps.specs.Steps.{EndsAsStage, return_value, read_items_allocating, fold_steps, ◌>>=◌}
use Rattle.stage_steps.specs.Requests.{place_or_stop}
use Rattle.stage_steps.proofs.DoingLaws.{ends-second, ends-first, ends-listed, ends-returns}
use Rattle.sparse_sections.specs.declared.places.RootPlace.{RootPlace}
use Rattle.sparse_sections.specs.Roots.{root_of, is_last_root, first_of_each_root, cache_line_request, place_root, place_each_root, RootsView, place_roots}

abbrev pub no_section : Section
no_section = record { number = 0; node = 0 }

-- all roots end as those of the sections that remain
pub record Goes (entry : List Item) (sections : List Section) (now : List Item) (place_roots : List RootPlace) (last : Option ℕ)
    (rest : List Section) : Type 0 where
  pub ends : (r : Result (List RootPlace) StageStop) (new : List Item)
      → EndsAsStage (fold_steps place_root place_roots (first_of_each_root last rest)) error_of_stage_cause r now new
      → EndsAsStage (place_each_root sections) error_of_stage_cause r entry new

pub goes-first : (entry : List Item) (sections : List Section) (place_roots : List RootPlace) → place_roots ≡ []
    → Goes entry sections entry place_roots None sections
goes-first entry sections place_roots none = record {
  ends = λ r new h.
      let firsts : List Section = first_of_each_root None sections in
      let no_roots : List Item → List RootPlace = λ items. [] in
      ends-second [] r error_of_stage_cause entry entry new (read_items_allocating no_roots) (λ before. fold_steps place_root before firsts)
      (ends-listed no_roots error_of_stage_cause entry)
      (rw none at h);
}

-- the section at the index, and those after it
left-at : (sections : List Section) (i : ℕ) (d : Section) → i < length sections
    → drop i sections ≡ get_or sections i d ∷ drop (i + 1) sections
left-at sections i d few = rw (add-one, drop-cons sections i d few) refl

pub goes-same : (entry : List Item) (sections : List Section) (now : List Item) (before : List RootPlace) (last : Option ℕ) (i : ℕ)
    (d : Section) → i < length sections → is_last_root last (root_of (get_or sections i d)) ≡ true → Goes entry sections now before last
    (drop i sections)
    → Goes entry sections now before last (drop (i + 1) sections)
goes-same entry sections now before last i d few same goes =
    let here = rw (left-at sections i d few) at goes in record { ends = λ r new h. here.ends r new (rw same h) }

pub goes-next : (entry : List Item) (sections : List Section) (now mid : List Item) (before place_roots : List RootPlace) (last : Option ℕ)
    (i : ℕ) (d : Section) → i < length sections → is_last_root last (root_of (get_or sections i d)) ≡ false
    → EndsAsStage (place_root before (get_or sections i d)) error_of_stage_cause (Ok place_roots) now mid
    → Goes entry sections now before last (drop i sections)
    → Goes entry sections mid place_roots (Some (root_of (get_or sections i d))) (drop (i + 1) sections)
goes-next entry sections now mid before place_roots last i d few other was goes =
    let s : Section = get_or sections i d in
    let here = rw (left-at sections i d few) at goes in
    record {
      ends = λ r new h.
          here.ends r new (rw other (ends-second place_roots r error_of_stage_cause now mid new (place_root before s)
          (λ next. fold_steps place_root next (first_of_each_root (Some (root_of s)) (drop (i + 1) sections))) was h));
    }

pub goes-fails : (e : StageStop) (entry : List Item) (sections : List Section) (now new : List Item) (before : List RootPlace)
    (last : Option ℕ) (i : ℕ) (d : Section) → i < length sections → is_last_root last (root_of (get_or sections i d)) ≡ false
    → EndsAsStage {A = List RootPlace} (place_root before (get_or sections i d)) error_of_stage_cause (Err e) now new
    → Goes entry sections now before last (drop i sections)
    → EndsAsStage {A = List RootPlace} (place_each_root sections) error_of_stage_cause (Err e) entry new
goes-fails e entry sections now new before last i d few other failed goes =
    let s : Section = get_or sections i d in
    let here = rw (left-at sections i d few) at goes in
    here.ends (Err e) new (rw other (ends-first e error_of_stage_cause now new (place_root before s)
    (λ next. fold_steps place_root next (first_of_each_root (Some (root_of s)) (drop (i + 1) sections))) failed))

pub goes-all : (entry : List Item) (sections : List Section) (now : List Item) (place_roots : List RootPlace) (last : Option ℕ) (i : ℕ)
    → length sections ≤ i → Goes entry sections now place_roots last (drop i sections)
    → EndsAsStage (place_each_root sections) error_of_stage_cause (Ok place_roots) entry now
goes-all entry sections now place_roots last i all goes =
    let here = rw (drop_all i sections all) at goes in here.ends (Ok place_roots) now (ends-returns place_roots error_of_stage_cause now)

-- how the stage ends: the table, and then the roots
pub place_roots-fail : (e : StageStop) (width : Width) (q : Request) (sections : List Section) (old new : List Item)
    → q ≡ cache_line_request (root_table_size_of width) None
    → EndsAsStage {A = ℕ} (place_or_stop what.Roots q owner.Roots) error_of_stage_cause (Err e) old new
    → EndsAsStage {A = RootsView} (place_roots width sections) error_of_stage_cause (Err e) old new
unfolding place_roots
place_roots-fail e width q sections old new request h =
    ends-first e error_of_stage_cause old new (place_or_stop what.Roots (cache_line_request (root_table_size_of width) None) owner.Roots)
    (λ table. place_each_root sections >>= λ places. return_value (record { table = table; roots = places }))
    (rw request at h)

place_roots-after : (r : Result RootsView StageStop) (table : ℕ) (width : Width) (q : Request) (sections : List Section)
    (old mid new : List Item)
    → q ≡ cache_line_request (root_table_size_of width) None
    → EndsAsStage (place_or_stop what.Roots q owner.Roots) error_of_stage_cause (Ok table) old mid
    → EndsAsStage (place_each_root sections
    >>= λ places. return_value (record { table = table; roots = places })) error_of_stage_cause r mid new
    → EndsAsStage (place_roots width sections) error_of_stage_cause r old new
unfolding place_roots
place_roots-after r table width q sections old mid new request was h =
    ends-second table r error_of_stage_cause old mid new
    (place_or_stop what.Roots (cache_line_request (root_table_size_of width) None) owner.Roots)
    (λ table. place_each_root sections >>= λ places. return_value (record { table = table; roots = places }))
    (rw request at was) h

pub place_roots-stop : (e : StageStop) (table : ℕ) (width : Width) (q : Request) (sections : List Section) (old mid new : List Item)
    → q ≡ cache_line_request (root_table_size_of width) None
    → EndsAsStage (place_or_stop what.Roots q owner.Roots) error_of_stage_cause (Ok table) old mid
    → EndsAsStage {A = List RootPlace} (place_each_root sections) error_of_stage_cause (Err e) mid new
    → EndsAsStage {A = RootsView} (place_roots width sections) error_of_stage_cause (Err e) old new
place_roots-stop e table width q sections old mid new request was h =
    place_roots-after (Err e) table width q sections old mid new request was
    (ends-first e error_of_stage_cause mid new (place_each_root sections)
    (λ places. return_value (record { table = table; roots = places })) h)

pub place_roots-all : (table : ℕ) (places : List RootPlace) (width : Width) (q : Request) (sections : List Section)
    (old mid new : List Item)
    → q ≡ cache_line_request (root_table_size_of width) None
    → EndsAsStage (place_or_stop what.Roots q owner.Roots) error_of_stage_cause (Ok table) old mid
    → EndsAsStage (place_each_root sections) error_of_stage_cause (Ok places) mid new
    → EndsAsStage (place_roots width sections) error_of_stage_cause (Ok (record { table = table; roots = places })) old new
place_roots-all table places width q sections old mid new request was h =
    place_roots-after (Ok (record { table = table; roots = places })) table width q sections old mid new request was
    (ends-second places (Ok (record { table = table; roots = places })) error_of_stage_cause mid new new
    (place_each_root sections) (λ places. return_value (record { table = table; roots = places })) h
    (ends-returns (record { table = table; roots = places }) error_of_stage_cause new))
