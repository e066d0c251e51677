-- How two steps in turn end.
use Rattle.std.proofs.Common.{◌≡◌, inl, inr, ⊎_elim, Option, None, List, [], ◌∷◌, ◌++◌, take, Result, Ok, Err, refl, sym, ◌∙◌, append_assoc, arith}
use Rattle.std.proofs.lemmas.List.{append-nil}
use Rattle.memblock_model.specs.declared.item.Item.{Item}
use Rattle.growth_model.specs.Change.{items_of_steps}
use Rattle.growth_model.specs.Ends.{StopsBeforeStep}
use Rattle.growth_model.specs.Tables.{HasFirstItem}
use Rattle.growth_model.proofs.EndLaws.{cut-first, cut-second}
use Rattle.growth_model.proofs.SoundLaws.{more-begun}
use Rattle.stage_steps.specs.Steps.{StepEffect, StageStep, append_groups, items_after_step, return_value, read_items_allocating, continue_if_ok, ◌>>=◌, EndsAsStage}

pub append_groups-append : (items : List Item) (a b : List (List Item))
    → append_groups items (a ++ b) ≡ append_groups (append_groups items a) b
append_groups-append items [] b = refl
append_groups-append items (s ∷ ss) b = append_groups-append (items ++ s) ss b

pub append_groups-joined : (items : List Item) (ss : List (List Item)) → append_groups items ss ≡ items ++ items_of_steps ss
append_groups-joined items [] = sym (append-nil items)
append_groups-joined items (s ∷ ss) = append_groups-joined (items ++ s) ss ∙ append_assoc items s (items_of_steps ss)

-- all groups of the first step are written, and some of the second
cut-after : (old new : List Item) (a b : List (List Item)) → StopsBeforeStep (append_groups old a) new b → StopsBeforeStep old new (a ++ b)
cut-after old new a b cut = cut-second old new a b (rw (append_groups-joined old a) at cut)

cut_by : {E A B : Type 0} (answer : Result A E) (old new : List Item) (steps : List (List Item)) (next : A → StepEffect E B)
    → StopsBeforeStep old new steps → StopsBeforeStep old new (continue_if_ok steps answer next).steps
cut_by (Ok a) old new steps next cut = cut-first old new steps (next a).steps cut
cut_by (Err e) old new steps next cut = cut

module _ {E F A B : Type 0} where
  -- how two steps end if the first returned a value
  pub ends-second : (a : A) (r : Result B F) (error : Option E → F) (old mid new : List Item) (f : StageStep E A) (next : A → StageStep E B)
      → EndsAsStage f error (Ok a) old mid → EndsAsStage (next a) error r mid new → EndsAsStage (f >>= next) error r old new
  ends-second a (Ok b) error old mid new f next was h =
      let rest = rw was.1 at h in
      rw was.0 (rest.0, rest.1 ∙ sym (append_groups-append old (f old).steps (next a (items_after_step old (f old))).steps))
  ends-second a (Err e) error old mid new f next was h =
      let second = (next a (items_after_step old (f old))).steps in
      rw was.0 (⊎_elim
      (λ told. inl (told.0, told.1, told.2, told.3 ∙ sym (append_groups-append old (f old).steps second)))
      (λ cut. inr (cut.0, cut-after old new (f old).steps second cut.1)) (rw was.1 at h))

  -- how two steps end if the first failed, or this program ran out of memory in it
  pub ends-first : (e : F) (error : Option E → F) (old new : List Item) (f : StageStep E A) (next : A → StageStep E B)
      → EndsAsStage {A = A} f error (Err e) old new → EndsAsStage {A = B} (f >>= next) error (Err e) old new
  ends-first e error old new f next h = ⊎_elim
      (λ told. rw told.1 (inl (told.0, refl, told.2, told.3)))
      (λ cut. inr (cut.0, cut_by (f old).answer old new (f old).steps (λ a. next a (items_after_step old (f old))) cut.1)) h

module _ {E F A : Type 0} where
  -- how `read_items_allocating` ends: with the value, or out of memory
  pub ends-listed : (f : List Item → A) (error : Option E → F) (items : List Item)
      → EndsAsStage (read_items_allocating f) error (Ok (f items)) items items
  ends-listed f error items = (refl, sym (append-nil items))

  pub ends-wanting : (f : List Item → A) (error : Option E → F) (items : List Item)
      → EndsAsStage (read_items_allocating f) error (Err (error None)) items items
  ends-wanting f error items = inr (refl, record { count = 0; short = omega arith; stands = sym (append-nil items) })

  pub ends-returns : (a : A) (error : Option E → F) (items : List Item) → EndsAsStage (return_value a) error (Ok a) items items
  ends-returns a error items = (refl, refl)

pub begun-appended : (items : List Item) (ss : List (List Item)) → HasFirstItem items → HasFirstItem (append_groups items ss)
begun-appended items [] begun = begun
begun-appended items (s ∷ ss) begun = begun-appended (items ++ s) ss (more-begun items s begun)

pub ends-begun : {E F A : Type 0} (r : Result A F) (error : Option E → F) (old new : List Item) (f : StageStep E A) → HasFirstItem old
    → EndsAsStage f error r old new → HasFirstItem new
ends-begun (Ok a) error old new f begun h = rw h.1 (begun-appended old (f old).steps begun)
ends-begun (Err e) error old new f begun h = ⊎_elim
    (λ told. rw told.3 (begun-appended old (f old).steps begun))
    (λ cut. rw cut.1.stands (more-begun old (items_of_steps (take cut.1.count (f old).steps)) begun)) h
