-- After the stage each byte of memory has a node below 1,024, which is the same for all bytes of a
-- frame.
use Rattle.std.proofs.Common.{◌≡◌, ℕ, ◌-◌, ◌%◌, ◌*◌, ◌/◌, ◌^◌, ◌<◌, ◌≤◌, Bool, true, false, ◌||◌, is_some, Option, Some, None, List, [], ◌∷◌, ◌++◌, length, Ok, refl, sym, ◌∙◌, ap, inl, inr, arith}
use Rattle.std.proofs.lemmas.Bool.{cases_lt, cases_Bool, true≢false}
use Rattle.std.proofs.lemmas.Bool.Decides.{nat_tests}
use Rattle.std.proofs.Math.Seq.{drop-append_seam, take-append_seam}
use Rattle.std.proofs.lemmas.List.Elements.{All-drop, All-tail, All-take}
use Rattle.std.proofs.lemmas.Option.{none-some, same_Some}
use Rattle.std.specs.Option.{option_map, option_or}
use Rattle.bm_base.specs.Range.{covers}
use Rattle.address_runs.specs.Edits.{IsEmptyFrom, relabel_range}
use Rattle.address_runs.specs.Runs.{AreRuns, range_of_run, lies_in, run_end, value_at}
use Rattle.address_runs.proofs.RunsLaws.{none_below, rest_from}
use Rattle.srat_reader.specs.Table.{SratView}
use Rattle.memblock_model.specs.declared.item.Item.{Item}
use Rattle.memblock_model.specs.Items.{limit_of, memory_of}
use Rattle.memblock_model.specs.Labels.{LabelView, Labels, with_node}
use Rattle.srat_nodes.specs.declared.reasons.Why.TheVariants as why
use Rattle.srat_nodes.specs.NodeAt.{NumaBlock}
use Rattle.srat_nodes.specs.SratNodesView.{SratNodesView, judge_srat}
use Rattle.srat_nodes.specs.Kept.{frame_base}
use Rattle.srat_nodes.proofs.GivenLaws.{given-covers, given-frames, given-runs, given-small}
use Rattle.stage_steps.specs.Steps.{items_after_step}
use Rattle.stage_steps.specs.Nodes.{IsConstantInFrames, IsMemoryWithNodes}
use Rattle.numa_nodes.specs.Assignment.{NodesView, assign_nodes, node_ranges}
use Rattle.numa_nodes.specs.Steps.{CanGetNodes}
use Rattle.numa_nodes.proofs.AssignLaws.{ranges-cases}
use Rattle.numa_nodes.proofs.MemoryLaws.{after-answer, noded_all}

-- the label after it was given the node; it is unchanged if there is no node to give
abbrev relabel : Option ℕ → Option LabelView → Option LabelView
relabel None o = o
relabel (Some n) o = option_map (with_node (Some n)) o

-- runs give each byte its node
noded-runs : (rs : List NumaBlock) (f : Labels) (x : ℕ) → AreRuns rs → noded_all rs f x ≡ relabel (value_at rs x) (f x)
unfolding noded_all
noded-runs [] f x runs = refl
noded-runs (r ∷ rs) f x runs =
    let g : Labels = relabel_range (range_of_run r) (with_node (Some r.value)) f in
    elim (cases_Bool (lies_in r x)) as (λ _. noded_all (r ∷ rs) f x ≡ relabel (value_at (r ∷ rs) x) (f x)) [
      | inl here ↦
          let before : x < run_end r = grind (arith, nat_tests) in
          let none : value_at rs x ≡ None = none_below (run_end r) x rs runs.2 (rest_from r rs runs) before in
          rw here (rw (none, here) at (noded-runs rs g x runs.2))
      | inr not_here ↦ rw not_here (rw not_here at (noded-runs rs g x runs.2))
    ]

noded-append : (rs ss : List NumaBlock) (f : Labels) → noded_all (rs ++ ss) f ≡ noded_all ss (noded_all rs f)
unfolding noded_all
noded-append [] ss f = refl
noded-append (r ∷ rs) ss f = noded-append rs ss (relabel_range (range_of_run r) (with_node (Some r.value)) f)

-- if one of two lists gives a node, the label has that node
abbrev labelled : Option ℕ → Option LabelView → Option LabelView
labelled node o = option_map (with_node node) o

both-relabel : (a b : Option ℕ) (o : Option LabelView) → (is_some o ≡ true → (is_some a || is_some b) ≡ true)
    → relabel b (relabel a o) ≡ labelled (option_or b a) o
both-relabel (Some n) (Some m) None covered = refl
both-relabel (Some n) (Some m) (Some l) covered = refl
both-relabel None (Some m) o covered = refl
both-relabel (Some n) None o covered = refl
both-relabel None None None covered = refl
both-relabel None None (Some l) covered = absurd (true≢false (sym (covered refl)))

-- the node of a run is below 1,024
value-small : (rs : List NumaBlock) (x n : ℕ) → CanGetNodes rs → value_at rs x ≡ Some n → n < 1024
value-small [] x n can at = absurd (none-some n at)
value-small (r ∷ rs) x n can at = elim (cases_Bool (lies_in r x)) as (λ _. n < 1024) [
  | inl here ↦
      let small : r.value < 1024 = (can 0 r (omega arith)).1 in
      rw (← same_Some r.value n (rw here at at)) small
  | inr not_here ↦ value-small rs x n (All-tail (λ (b : NumaBlock). (0 < b.size) × (b.value < 1024)) r rs can) (rw not_here at at)
]

-- the labels g that memory f got from these nodes
record IsGiven (limit : ℕ) (f g : Labels) (nodes : ℕ → Option ℕ) : Type 0 where
  given : (x : ℕ) → g x ≡ labelled (nodes x) (f x)
  small : (x n : ℕ) → nodes x ≡ Some n → n < 1024
  whole : (x : ℕ) → is_some (f x) ≡ true → is_some (nodes x) ≡ true
  frames : (x : ℕ) → x < limit → nodes x ≡ nodes (4096 * (x / 4096))

label-node : (n : Option ℕ) (o : Option LabelView) (label : LabelView) → labelled n o ≡ Some label → (is_some o ≡ true) × (label.node ≡ n)
label-node n None label at = absurd (none-some label at)
label-node n (Some l) label at = (refl, ap (λ (k : LabelView). k.node) (sym (same_Some (with_node n l) label at)))

-- memory whose labels were made this way satisfies `IsMemoryWithNodes`
is-noded : (limit : ℕ) (f g : Labels) (nodes : ℕ → Option ℕ) → IsGiven limit f g nodes → IsConstantInFrames f
    → IsEmptyFrom limit f → IsMemoryWithNodes limit g
is-noded limit f g nodes by frames within = record {
  frames = λ x. elim (cases_lt x limit) as (λ _. g x ≡ g (4096 * (x / 4096))) [
    | inl near ↦ rw (by.given x, by.frames x near, frames x) (sym (by.given (4096 * (x / 4096))))
    | inr far ↦ rw (by.given x, by.given (4096 * (x / 4096)), ← frames x, within x far) refl
  ];
  nodes = λ x label at.
      let known = label-node (nodes x) (f x) label (sym (by.given x) ∙ at) in
      noded x label (nodes x) known.1 refl (by.whole x known.0);
  within = λ x far. rw (within x far) at (by.given x);
} where
  noded : (x : ℕ) (label : LabelView) (o : Option ℕ) → label.node ≡ o → nodes x ≡ o → is_some o ≡ true
      → (node : ℕ) × (label.node ≡ Some node) × (node < 1024)
  noded x label None has at some = absurd (true≢false (sym some))
  noded x label (Some n) has at some = (n, has, by.small x n at)

-- memory satisfies it if the table is used
two-small : (a b : Option ℕ) (n : ℕ) → ((m : ℕ) → a ≡ Some m → m < 1024) → ((m : ℕ) → b ≡ Some m → m < 1024)
    → option_or b a ≡ Some n → n < 1024
two-small a None n first second at = first n at
two-small a (Some m) n first second at = second n at

two-some : (a b : Option ℕ) → (is_some a || is_some b) ≡ true → is_some (option_or b a) ≡ true
two-some a (Some m) some = refl
two-some (Some n) None some = refl
two-some None None some = absurd (true≢false (sym some))

module _ (f : Labels) (off : Bool) (table : Option SratView) where
  abbrev found : SratNodesView
  found = judge_srat (λ x. is_some (f x)) off table

  abbrev nodes_found : ℕ → Option ℕ
  nodes_found x = option_or (value_at found.rest x) (value_at found.joined x)

  used-given : (limit : ℕ) → limit ≤ 2 ^ 64 → IsEmptyFrom limit f → IsConstantInFrames (λ x. is_some (f x)) → found.why ≡ why.Used
      → IsGiven limit f (noded_all (found.joined ++ found.rest) f) nodes_found
  used-given limit reach within frames used =
      let memory : ℕ → Bool = λ x. is_some (f x) in
      let runs = given-runs memory off table in
      let can = given-small memory off table in
      let Small : NumaBlock → Type 0 = λ r. (0 < r.size) × (r.value < 1024) in
      let first : CanGetNodes found.joined =
      rw (take-append_seam found.joined found.rest) at (All-take Small (length found.joined) (found.joined ++ found.rest) can) in
      let second : CanGetNodes found.rest =
      rw (drop-append_seam found.joined found.rest) at (All-drop Small (length found.joined) (found.joined ++ found.rest) can) in
      let in_frames : (x : ℕ) → memory x ≡ memory (frame_base x) = λ x.
      let base : 4096 * (x / 4096) ≡ x - x % 4096 = omega arith in frames x ∙ ap memory base in
      let covers : (x : ℕ) → is_some (f x) ≡ true → (is_some (value_at found.joined x) || is_some (value_at found.rest x)) ≡ true =
      λ x some. elim (cases_lt x limit) as (λ _. (is_some (value_at found.joined x) || is_some (value_at found.rest x)) ≡ true) [
        | inl near ↦ given-covers memory off table x used some (omega (arith, near, reach))
        | inr far ↦ absurd (true≢false (sym some ∙ ap is_some (within x far)))
      ] in
      record {
        given = λ x.
            rw noded-append (noded-runs found.rest (noded_all found.joined f) x runs.1)
            ∙ ap (relabel (value_at found.rest x)) (noded-runs found.joined f x runs.0)
            ∙ both-relabel (value_at found.joined x) (value_at found.rest x) (f x) (covers x);
        small = λ x n at. two-small (value_at found.joined x) (value_at found.rest x) n
            (λ m has. value-small found.joined x m first has) (λ m has. value-small found.rest x m second has) at;
        whole = λ x some. two-some (value_at found.joined x) (value_at found.rest x) (covers x some);
        frames = λ x near.
            let base : x - x % 4096 ≡ 4096 * (x / 4096) = omega arith in
            let same = rw base at (given-frames memory off table in_frames x (omega (arith, near, reach))) in
            rw (same.0, same.1) refl;
      }

-- memory satisfies it without a table: all memory is below the limit, and has node 0
below-given : (reach limit : ℕ) (f : Labels) → IsEmptyFrom limit f
    → IsGiven reach f (noded_all (record { base = 0; size = limit; value = 0 } ∷ []) f) (λ x. Some 0)
unfolding noded_all
below-given reach limit f within = record {
  given = λ x. elim (cases_lt x limit) as (λ _. relabel_range (record { base = 0; size = limit }) (with_node (Some 0)) f x
      ≡ labelled (Some 0) (f x)) [
        | inl below ↦
            let here : covers (record { base = 0; size = limit }) x ≡ true = grind (arith, nat_tests) in
            rw here refl
        | inr above ↦
            let not_here : covers (record { base = 0; size = limit }) x ≡ false = grind (arith, nat_tests) in
            rw (not_here, within x above) refl
      ];
  small = λ x n at. let same : 0 ≡ n = same_Some 0 n at in omega (arith, same);
  whole = λ x some. refl;
  frames = λ x near. refl;
}

-- memory satisfies it whether the table is used or not
given-noded : (reach limit : ℕ) (f : Labels) (off : Bool) (table : Option SratView) → reach ≤ 2 ^ 64 → IsConstantInFrames f
    → IsEmptyFrom reach f → IsEmptyFrom limit f
    → IsMemoryWithNodes reach (noded_all (node_ranges limit (judge_srat (λ x. is_some (f x)) off table)) f)
given-noded reach limit f off table near frames within low =
    let j : SratNodesView = judge_srat (λ x. is_some (f x)) off table in
    let below : List NumaBlock = record { base = 0; size = limit; value = 0 } ∷ [] in
    ranges-cases (λ rs. IsMemoryWithNodes reach (noded_all rs f)) j.why limit j
    (λ used. is-noded reach f (noded_all (j.joined ++ j.rest) f) (nodes_found f off table)
    (used-given f off table reach near within (λ x. ap is_some (frames x)) used) frames within)
    (is-noded reach f (noded_all below f) (λ x. Some 0) (below-given reach limit f low) frames within)

pub answer-noded : (reach : ℕ) (table : Option SratView) (off : Bool) (items : List Item) (noded : NodesView)
    → (assign_nodes table off items).answer ≡ Ok noded → reach ≤ 2 ^ 64 → IsConstantInFrames (memory_of items)
    → IsEmptyFrom reach (memory_of items) → IsEmptyFrom (limit_of items) (memory_of items)
    → IsMemoryWithNodes reach (memory_of (items_after_step items (assign_nodes table off items)))
answer-noded reach table off items noded answered near frames within low =
    rw (after-answer table off items noded answered).memory
    (given-noded reach (limit_of items) (memory_of items) off table near frames within low)
