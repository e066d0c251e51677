-- One map after another, and all maps of a group: the sequence ends as its remaining steps end.
use Rattle.std.proofs.Common.{◌≡◌, ◌≢◌, ℕ, ◌+◌, ◌*◌, ◌<◌, ◌≤◌, true, false, List, [], ◌∷◌, ◌++◌, length, take, drop, get_or, Result, Ok, Err, refl, append_assoc, arith}
use Rattle.std.proofs.lemmas.List.{drop_all, drop_more, take_more, length-take-le}
use Rattle.memblock_model.specs.declared.item.Item.{Item}
use Rattle.memblock_model.specs.declared.owner.Owner.TheVariants as owner
use Rattle.memblock_model.specs.declared.query.Request.{Request}
use Rattle.memblock_grow.specs.declared.stop.Section.{Section}
use Rattle.memblock_grow.specs.declared.stop.What.{What}
use Rattle.memblock_grow.specs.declared.stop.What.TheVariants as what
use Rattle.memblock_grow.specs.declared.stop.StageStop.{StageStop}
use Rattle.memblock_grow.specs.declared.stop.StageStop.TheVariants as stop
use Rattle.stage_steps.specs.Causes.{StageCause, error_of_stage_cause}
use Rattle.stage_steps.specs.Steps.{StageStep, EndsAsStage, return_value}
use Rattle.stage_steps.specs.Requests.{place_or_stop, or_else}
use Rattle.stage_steps.proofs.DoingLaws.{ends-second, ends-first, ends-returns}
use Rattle.stage_steps.proofs.RequestLaws.{else-first, else-stops, else-second}
use Rattle.section_maps.specs.declared.placed.Placed.{Placed}
use Rattle.section_maps.specs.Maps.{usage_request, map_request, consecutive_places, place_each_map, place_map_buffer, place_group}

abbrev pub no_section : Section
no_section = record { number = 0; node = 0 }

-- a section with its addresses
abbrev pub placed_at : ℕ → ℕ → Section → Placed
placed_at usage map s = record { section = s.number; node = s.node; map = map; usage = usage }

-- the addresses of a group with one more section
consecutive_places-push : (usage map : ℕ) (ss : List Section) (s : Section)
    → consecutive_places usage map (ss ++ s ∷ []) ≡ consecutive_places usage map ss
    ++ placed_at (usage + 40 * length ss) (map + 0x200000 * length ss) s ∷ []
consecutive_places-push usage map [] s =
    let u : usage + 40 * 0 ≡ usage = omega arith in
    let m : map + 0x200000 * 0 ≡ map = omega arith in
    rw (u, m) refl
consecutive_places-push usage map (t ∷ ts) s =
    let u : usage + 40 + 40 * length ts ≡ usage + 40 * length (t ∷ ts) = omega arith in
    let m : map + 0x200000 + 0x200000 * length ts ≡ map + 0x200000 * length (t ∷ ts) = omega arith in
    rw (consecutive_places-push (usage + 40) (map + 0x200000) ts s, u, m) refl

pub consecutive_places-next : (usage map i : ℕ) (ss : List Section) (d : Section) (before now : List Placed) → i < length ss
    → now ≡ before ++ consecutive_places usage map (take i ss)
    → now ++ placed_at (usage + 40 * i) (map + 0x200000 * i) (get_or ss i d) ∷ [] ≡ before ++ consecutive_places usage map (take (i + 1) ss)
consecutive_places-next usage map i ss d before now few so_far =
    let long : length (take i ss) ≡ i = length-take-le i ss (omega arith) in
    let more = rw long at (consecutive_places-push usage map (take i ss) (get_or ss i d)) in
    rw (so_far, append_assoc, take_more ss i d few, more) refl

-- the maps of sections, placed one by one: the sequence ends as the remaining maps do
pub record Goes (entry : List Item) (usage : ℕ) (first : List Placed) (sections : List Section) (now : List Item) (at : ℕ)
    (place_or_stop : List Placed) (rest : List Section) : Type 0 where
  pub ends : (r : Result (List Placed) StageStop) (new : List Item)
      → EndsAsStage (place_each_map at place_or_stop rest) error_of_stage_cause r now new
      → EndsAsStage (place_each_map usage first sections) error_of_stage_cause r entry new

-- the map of one section
abbrev pub one_map : Section → StageStep StageCause ℕ
one_map s = place_or_stop (what.Map s.number) (map_request 1 s.node false) (owner.Map s.number)

module _ {entry : List Item} {usage : ℕ} {first : List Placed} {sections : List Section} {now : List Item} {at : ℕ}
    {before : List Placed} where
  left-at : (i : ℕ) (d : Section) → i < length sections → Goes entry usage first sections now at before (drop i sections)
      → Goes entry usage first sections now at before (get_or sections i d ∷ drop (i + 1) sections)
  left-at i d few goes = rw (drop_more sections i d few) at goes

  pub goes-next : (i : ℕ) (d : Section) (mid : List Item) (map : ℕ) (longer : List Placed) → i < length sections
      → Goes entry usage first sections now at before (drop i sections)
      → EndsAsStage (one_map (get_or sections i d)) error_of_stage_cause (Ok map) now mid
      → longer ≡ before ++ placed_at at map (get_or sections i d) ∷ []
      → Goes entry usage first sections mid (at + 40) longer (drop (i + 1) sections)
  goes-next i d mid map longer few goes was is = record {
    ends = λ r new h. (left-at i d few goes).ends r new
        (ends-second map r error_of_stage_cause now mid new (one_map (get_or sections i d))
        (λ map. place_each_map (at + 40) (before ++ placed_at at map (get_or sections i d) ∷ []) (drop (i + 1) sections)) was (rw is at h));
  }

  pub goes-stops : (e : StageStop) (i : ℕ) (d : Section) (new : List Item) → i < length sections
      → Goes entry usage first sections now at before (drop i sections)
      → EndsAsStage {A = ℕ} (one_map (get_or sections i d)) error_of_stage_cause (Err e) now new
      → EndsAsStage {A = List Placed} (place_each_map usage first sections) error_of_stage_cause (Err e) entry new
  goes-stops e i d new few goes failed =
      (left-at i d few goes).ends (Err e) new
      (ends-first e error_of_stage_cause now new (one_map (get_or sections i d))
      (λ map. place_each_map (at + 40) (before ++ placed_at at map (get_or sections i d) ∷ []) (drop (i + 1) sections)) failed)

  pub goes-all : (i : ℕ) → length sections ≤ i → Goes entry usage first sections now at before (drop i sections)
      → EndsAsStage (place_each_map usage first sections) error_of_stage_cause (Ok before) entry now
  goes-all i all goes =
      let here = rw (drop_all i sections all) at goes in here.ends (Ok before) now (ends-returns before error_of_stage_cause now)

-- the maps of a group in one buffer, or one by one
abbrev pub maps_in : ℕ → List Placed → Section → List Section → StageStep StageCause (List Placed)
maps_in usage before first sections = or_else (place_map_buffer usage before first sections) (place_each_map usage before sections)

module _ (usage : ℕ) (before : List Placed) (first : Section) (sections : List Section) (q : Request) (old : List Item)
    (asked : q ≡ map_request (length sections) first.node true) where
  abbrev one_buffer : StageStep StageCause ℕ
  one_buffer = place_or_stop (what.Map first.number) (map_request (length sections) first.node true) (owner.Map first.number)

  buffer-fails : (e : StageStop) (new : List Item)
      → EndsAsStage {A = ℕ} (place_or_stop (what.Map first.number) q (owner.Map first.number)) error_of_stage_cause (Err e) old new
      → EndsAsStage {A = List Placed} (place_map_buffer usage before first sections) error_of_stage_cause (Err e) old new
  buffer-fails e new h =
      ends-first e error_of_stage_cause old new one_buffer (λ map. return_value (before ++ consecutive_places usage map sections))
      (rw asked at h)

  pub buffer-placed : (map : ℕ) (now : List Placed) (new : List Item) → now ≡ before ++ consecutive_places usage map sections
      → EndsAsStage (place_or_stop (what.Map first.number) q (owner.Map first.number)) error_of_stage_cause (Ok map) old new
      → EndsAsStage (maps_in usage before first sections) error_of_stage_cause (Ok now) old new
  buffer-placed map now new is h =
      else-first (place_map_buffer usage before first sections) (place_each_map usage before sections) old now new
      (ends-second map (Ok now) error_of_stage_cause old new new one_buffer (λ map.
      return_value (before ++ consecutive_places usage map sections)) (rw asked at h)
      (rw is refl, refl))

  pub buffer-stops : (e : StageStop) (new : List Item) → ((thing : What) → e ≢ stop.NoPlace thing)
      → EndsAsStage {A = ℕ} (place_or_stop (what.Map first.number) q (owner.Map first.number)) error_of_stage_cause (Err e) old new
      → EndsAsStage {A = List Placed} (maps_in usage before first sections) error_of_stage_cause (Err e) old new
  buffer-stops e new other h =
      else-stops (place_map_buffer usage before first sections) (place_each_map usage before sections) old e new other
      (buffer-fails e new h)

  pub buffer-each : (r : Result (List Placed) StageStop) (thing : What) (mid new : List Item)
      → EndsAsStage {A = ℕ} (place_or_stop (what.Map first.number) q (owner.Map first.number)) error_of_stage_cause
      (Err (stop.NoPlace thing)) old mid
      → EndsAsStage (place_each_map usage before sections) error_of_stage_cause r mid new
      → EndsAsStage (maps_in usage before first sections) error_of_stage_cause r old new
  buffer-each r thing mid new h rest =
      else-second (place_map_buffer usage before first sections) (place_each_map usage before sections) old r thing mid new
      (buffer-fails (stop.NoPlace thing) mid h) rest

-- a group: its usage data, and then its maps
module _ (before : List Placed) (first : Section) (sections : List Section) (q : Request) (old : List Item)
    (asked : q ≡ usage_request (length sections) first.node) where
  pub group-second : (r : Result (List Placed) StageStop) (usage : ℕ) (mid new : List Item)
      → EndsAsStage (place_or_stop (what.Usage first.number) q (owner.Usage first.number)) error_of_stage_cause (Ok usage) old mid
      → EndsAsStage (maps_in usage before first sections) error_of_stage_cause r mid new
      → EndsAsStage (place_group before first sections) error_of_stage_cause r old new
  group-second r usage mid new was h =
      ends-second usage r error_of_stage_cause old mid new
      (place_or_stop (what.Usage first.number) (usage_request (length sections) first.node) (owner.Usage first.number))
      (λ usage. maps_in usage before first sections) (rw asked at was) h

  pub group-first : (e : StageStop) (new : List Item)
      → EndsAsStage {A = ℕ} (place_or_stop (what.Usage first.number) q (owner.Usage first.number)) error_of_stage_cause (Err e) old new
      → EndsAsStage {A = List Placed} (place_group before first sections) error_of_stage_cause (Err e) old new
  group-first e new h =
      ends-first e error_of_stage_cause old new
      (place_or_stop (what.Usage first.number) (usage_request (length sections) first.node) (owner.Usage first.number))
      (λ usage. maps_in usage before first sections) (rw asked at h)
