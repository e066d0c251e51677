-- The walk over ascending blocks: what it knows of the frames before the present block.
use Rattle.std.proofs.Common.{◌≡◌, ℕ, ◌+◌, ◌-◌, ◌<◌, ◌≤◌, ◌==◌, ◌&&◌, ◌||◌, Bool, true, false, nat_le, nat_lt, if◌then◌else◌, List, [], ◌∷◌, ◌++◌, map, Option, Some, None, refl, sym, ap, ◌∙◌, subst, inl, inr, arith, append_assoc}
use Rattle.std.proofs.Math.Nat.{mod-lt}
use Rattle.std.proofs.lemmas.Nat.{pow_pos}
use Rattle.std.proofs.lemmas.Bool.{cases_Bool, cases_lt, and_parts}
use Rattle.std.proofs.lemmas.Bool.Decides.{Decides-eqb, nat_tests}
use Rattle.bm_base.specs.Range.{covers, end_of}
use Rattle.bm_base.specs.Each.{each_in}
use Rattle.bm_base.proofs.EachLaws.{each_in-all, each_in-fails}
use Rattle.bm_base.specs.declared.zone.Zone.{Zone}
use Rattle.bm_base.specs.declared.zone.Zone.TheVariants as zones
use Rattle.audit_lines.specs.Blocks.{BlockLineView}
use Rattle.audit_lines.specs.Lines.{StartFrom, AscendApart}
use Rattle.boot_audit.specs.Frames.{are_of_one_zone, could_merge, frames_of_block, is_in_same_zone_block, parent_of, same_zone}
use Rattle.boot_audit.specs.Verdicts.{first_line_passing}
use Rattle.boot_audit.specs.Walk.{is_covered_up_to, is_next_in_run, could_merge_after_run, run_start, first_mergeable_from}
use Rattle.boot_audit.proofs.LineLaws.{either, says_below, says_first, says_past, says_before}

abbrev first : BlockLineView → ℕ
first b = (frames_of_block b).base

abbrev end : BlockLineView → ℕ
end b = end_of (frames_of_block b)

-- this and the following: having the same node and zone is symmetric and transitive, first for
-- zones alone
zone_same : (a b c : Zone) → same_zone a b ≡ true → same_zone b c ≡ same_zone a c
zone_same zones.Dma zones.Dma c is = refl
zone_same zones.Dma32 zones.Dma32 c is = refl
zone_same zones.Normal zones.Normal c is = refl
zone_same zones.Dma zones.Dma32 c is = cc
zone_same zones.Dma zones.Normal c is = cc
zone_same zones.Dma32 zones.Dma c is = cc
zone_same zones.Dma32 zones.Normal c is = cc
zone_same zones.Normal zones.Dma c is = cc
zone_same zones.Normal zones.Dma32 c is = cc

zone_turns : (a b : Zone) → same_zone a b ≡ same_zone b a
zone_turns zones.Dma zones.Dma = refl
zone_turns zones.Dma zones.Dma32 = refl
zone_turns zones.Dma zones.Normal = refl
zone_turns zones.Dma32 zones.Dma = refl
zone_turns zones.Dma32 zones.Dma32 = refl
zone_turns zones.Dma32 zones.Normal = refl
zone_turns zones.Normal zones.Dma = refl
zone_turns zones.Normal zones.Dma32 = refl
zone_turns zones.Normal zones.Normal = refl

node_turns : (a b : ℕ) → (a == b) ≡ (b == a)
node_turns a b = grind (arith, nat_tests)

kin_turns : (b c : BlockLineView) → are_of_one_zone b c ≡ are_of_one_zone c b
kin_turns b c = rw (node_turns b.node c.node, zone_turns b.zone c.zone) refl

kin_same : (b c d : BlockLineView) → are_of_one_zone b c ≡ true → are_of_one_zone c d ≡ are_of_one_zone b d
kin_same b c d kin =
    let parts = and_parts (b.node == c.node) (same_zone b.zone c.zone) kin in
    let node : b.node ≡ c.node = (Decides-eqb b.node c.node).0 parts.0 in
    rw (node, zone_same b.zone c.zone d.zone parts.1) refl

-- two blocks of the same node and zone lead to the same frames in blocks of that node and zone
kin_lists : (b c : BlockLineView) → are_of_one_zone b c ≡ true → (blocks : List BlockLineView) (f : ℕ)
    → is_in_same_zone_block c blocks f ≡ is_in_same_zone_block b blocks f
kin_lists b c kin [] f = refl
kin_lists b c kin (d ∷ ds) f = rw (kin_same b c d kin, kin_lists b c kin ds f) refl

-- if `is_covered_up_to` is true, each frame from `at` up to `until` is in a block of the node and
-- zone of `b`
fills_true : (b : BlockLineView) (at until : ℕ) (cs : List BlockLineView) → StartFrom at (map frames_of_block cs)
    → AscendApart (map frames_of_block cs)
    → is_covered_up_to b at until cs ≡ true → (f : ℕ) → at ≤ f → f < until → is_in_same_zone_block b cs f ≡ true
fills_true b at until [] start order is f above below = absurd (grind (arith, nat_tests))
fills_true b at until (c ∷ cs) start order is f above below =
    let short : nat_le until at ≡ false = grind (arith, nat_tests) in
    let more : (if (first c == at) && are_of_one_zone b c then is_covered_up_to b (end c) until cs else false) ≡ true = rw short at is in
    elim (cases_Bool ((first c == at) && are_of_one_zone b c)) as (λ _. is_in_same_zone_block b (c ∷ cs) f ≡ true) [
      | inl goes ↦
          let parts = and_parts (first c == at) (are_of_one_zone b c) goes in
          let here : first c ≡ at = (Decides-eqb (first c) at).0 parts.0 in
          let rest : is_covered_up_to b (end c) until cs ≡ true = rw goes at more in
          elim (cases_lt f (end c)) as (λ _. is_in_same_zone_block b (c ∷ cs) f ≡ true) [
            | inl inside ↦ says_first (are_of_one_zone b) frames_of_block c cs f order (omega arith) inside ∙ parts.1
            | inr past ↦
                says_past (are_of_one_zone b) frames_of_block c cs f past ∙ fills_true b (end c) until cs order.0 order.1 rest f past below
          ]
      | inr stops ↦ let wrong : ◌≡◌ {A = Bool} false true = rw stops at more in cc
    ]

-- a frame from `at` up to `until` that no block with the node and zone of `b` has; if
-- `is_covered_up_to` is false, there is one
abbrev IsGap : BlockLineView → ℕ → ℕ → List BlockLineView → Type 0
IsGap b at until cs = (y : ℕ) × (at ≤ y) × (y < until) × (is_in_same_zone_block b cs y ≡ false)

gap_here : (b c : BlockLineView) (cs : List BlockLineView) (at : ℕ) → StartFrom at (map frames_of_block (c ∷ cs))
    → AscendApart (map frames_of_block (c ∷ cs))
    → ((first c == at) && are_of_one_zone b c) ≡ false → is_in_same_zone_block b (c ∷ cs) at ≡ false
gap_here b c cs at start order stops =
    elim (cases_lt at (first c)) as (λ _. is_in_same_zone_block b (c ∷ cs) at ≡ false) [
      | inl before ↦ says_before (are_of_one_zone b) frames_of_block c cs at order before
      | inr from ↦
          let here : first c ≡ at = omega arith in
          let same : (first c == at) ≡ true = (Decides-eqb (first c) at).1 here in
          let other : are_of_one_zone b c ≡ false = rw same at stops in
          let some = pow_pos c.order in
          says_first (are_of_one_zone b) frames_of_block c cs at order (omega arith) (omega arith) ∙ other
    ]

fills_false : (b : BlockLineView) (at until : ℕ) (cs : List BlockLineView) → StartFrom at (map frames_of_block cs)
    → AscendApart (map frames_of_block cs)
    → is_covered_up_to b at until cs ≡ false → IsGap b at until cs
fills_false b at until [] start order is = (at, omega arith, grind (arith, nat_tests), refl)
fills_false b at until (c ∷ cs) start order is =
    elim (cases_Bool (nat_le until at)) as (λ _. IsGap b at until (c ∷ cs)) [
      | inl short ↦ let wrong : ◌≡◌ {A = Bool} true false = rw short at is in cc
      | inr long ↦
          let more : (if (first c == at) && are_of_one_zone b c then is_covered_up_to b (end c) until cs else false) ≡ false =
          rw long at is in
          elim (cases_Bool ((first c == at) && are_of_one_zone b c)) as (λ _. IsGap b at until (c ∷ cs)) [
            | inl goes ↦
                let rest : is_covered_up_to b (end c) until cs ≡ false = rw goes at more in
                let gap = fills_false b (end c) until cs order.0 order.1 rest in
                let low : end c ≤ gap.0 = gap.1 in
                (gap.0, omega arith, gap.2, says_past (are_of_one_zone b) frames_of_block c cs gap.0 low ∙ gap.3)
            | inr stops ↦ (at, omega arith, grind (arith, nat_tests), gap_here b c cs at start order stops)
          ]
    ]

-- What is known of the blocks up to `last`. None has a frame above `last`, a frame of `last` is in
-- `last` only, and the run that ends with `last` begins at `from`.
record IsFront (front : List BlockLineView) (last : BlockLineView) (from : ℕ) : Type 0 where
  pub some : first last < end last
  pub low : from ≤ first last
  pub after : (b : BlockLineView) (f : ℕ) → end last ≤ f → is_in_same_zone_block b front f ≡ false
  pub alone : (b : BlockLineView) (f : ℕ) → first last ≤ f → f < end last → is_in_same_zone_block b front f ≡ are_of_one_zone b last
  pub kin : (f : ℕ) → from ≤ f → f < end last → is_in_same_zone_block last front f ≡ true
  pub before : (f : ℕ) → f + 1 ≡ from → is_in_same_zone_block last front f ≡ false

abbrev Front : List BlockLineView → Option BlockLineView → ℕ → Type 0
Front front None from = front ≡ []
Front front (Some last) from = IsFront front last from

abbrev StartsBehind : Option BlockLineView → BlockLineView → Type 0
StartsBehind None b = Unit {0}
StartsBehind (Some last) b = end last ≤ first b

in_both : (b : BlockLineView) (front back : List BlockLineView) (f : ℕ)
    → is_in_same_zone_block b (front ++ back) f ≡ (is_in_same_zone_block b front f || is_in_same_zone_block b back f)
in_both b [] back f = refl
in_both b (c ∷ cs) back f =
    ap (λ (u : Bool). either (are_of_one_zone b c) (covers (frames_of_block c) f) u) (in_both b cs back f)
    ∙ grouped (are_of_one_zone b c && covers (frames_of_block c) f) (is_in_same_zone_block b cs f) (is_in_same_zone_block b back f)
  where
    grouped : (u v w : Bool) → (u || (v || w)) ≡ ((u || v) || w)
    grouped true v w = refl
    grouped false v w = refl

front_only : (b : BlockLineView) (front back : List BlockLineView) (f : ℕ) → is_in_same_zone_block b back f ≡ false
    → is_in_same_zone_block b (front ++ back) f ≡ is_in_same_zone_block b front f
front_only b front back f none = in_both b front back f ∙ rw none (or_none (is_in_same_zone_block b front f))
  where
    or_none : (u : Bool) → (u || false) ≡ u
    or_none true = refl
    or_none false = refl

back_only : (b : BlockLineView) (front back : List BlockLineView) (f : ℕ) → is_in_same_zone_block b front f ≡ false
    → is_in_same_zone_block b (front ++ back) f ≡ is_in_same_zone_block b back f
back_only b front back f none = in_both b front back f ∙ rw none refl

one_in : (b c : BlockLineView) (f : ℕ) → first c ≤ f → f < end c → is_in_same_zone_block b (c ∷ []) f ≡ are_of_one_zone b c
one_in b c f above below = says_first (are_of_one_zone b) frames_of_block c [] f (tt, tt) above below

one_out : (b c : BlockLineView) (f : ℕ) → end c ≤ f → is_in_same_zone_block b (c ∷ []) f ≡ false
one_out b c f past = says_past (are_of_one_zone b) frames_of_block c [] f past

one_under : (b c : BlockLineView) (f : ℕ) → f < first c → is_in_same_zone_block b (c ∷ []) f ≡ false
one_under b c f under = says_before (are_of_one_zone b) frames_of_block c [] f (tt, tt) under

kin_itself : (b : BlockLineView) → are_of_one_zone b b ≡ true
kin_itself b = rw ((Decides-eqb b.node b.node).1 refl) (zone_itself b.zone)
  where
    zone_itself : (z : Zone) → same_zone z z ≡ true
    zone_itself zones.Dma = refl
    zone_itself zones.Dma32 = refl
    zone_itself zones.Normal = refl

some_frame : (b : BlockLineView) → first b < end b
some_frame b = let some = pow_pos b.order in omega arith

-- one more block, which has a gap before it or another node or zone, begins a new run
front_new : (front : List BlockLineView) (b : BlockLineView)
    → ((c : BlockLineView) (f : ℕ) → first b ≤ f → is_in_same_zone_block c front f ≡ false)
    → ((f : ℕ) → f + 1 ≡ first b → is_in_same_zone_block b front f ≡ false) → IsFront (front ++ (b ∷ [])) b (first b)
front_new front b none apart = record {
  some = some_frame b;
  low = omega arith;
  after = λ c f past. let more = some_frame b in back_only c front (b ∷ []) f (none c f (omega arith)) ∙ one_out c b f past;
  alone = λ c f above below. back_only c front (b ∷ []) f (none c f above) ∙ one_in c b f above below;
  kin = λ f above below. back_only b front (b ∷ []) f (none b f above) ∙ one_in b b f above below ∙ kin_itself b;
  before = λ f is. front_only b front (b ∷ []) f (one_under b b f (omega arith)) ∙ apart f is;
}

front_more : (front : List BlockLineView) (last b : BlockLineView) (from : ℕ) → IsFront front last from → end last ≡ first b
    → are_of_one_zone last b ≡ true
    → IsFront (front ++ (b ∷ [])) b from
front_more front last b from known touch kin = record {
  some = some_frame b;
  low = let a = known.low in let s = known.some in omega arith;
  after = λ c f past. let more = some_frame b in
      back_only c front (b ∷ []) f (known.after c f (omega arith)) ∙ one_out c b f past;
  alone = λ c f above below. back_only c front (b ∷ []) f (known.after c f (omega arith)) ∙ one_in c b f above below;
  kin = λ f above below. elim (cases_lt f (first b)) as (λ _. is_in_same_zone_block b (front ++ (b ∷ [])) f ≡ true) [
    | inl under ↦
        front_only b front (b ∷ []) f (one_under b b f under) ∙ kin_lists last b kin front f ∙ known.kin f above (omega arith)
    | inr here ↦
        back_only b front (b ∷ []) f (known.after b f (omega arith)) ∙ one_in b b f here below ∙ kin_itself b
  ];
  before = λ f is. let a = known.low in let s = known.some in
      front_only b front (b ∷ []) f (one_under b b f (omega arith)) ∙ kin_lists last b kin front f ∙ known.before f is;
}

none_front : (front : List BlockLineView) (c : BlockLineView) (f : ℕ) → front ≡ [] → is_in_same_zone_block c front f ≡ false
none_front front c f none = rw none refl

front_apart : (front : List BlockLineView) (last b : BlockLineView) (from f : ℕ) → IsFront front last from → end last ≤ first b
    → is_next_in_run last b ≡ false
    → f + 1 ≡ first b → is_in_same_zone_block b front f ≡ false
front_apart front last b from f known start stops is =
    elim (cases_lt f (end last)) as (λ _. is_in_same_zone_block b front f ≡ false) [
      | inl inside ↦
          let touch : end last ≡ first b = omega arith in
          let same : (end last == first b) ≡ true = (Decides-eqb (end last) (first b)).1 touch in
          let other : are_of_one_zone last b ≡ false = rw same at stops in
          let s = known.some in
          known.alone b f (omega arith) inside ∙ kin_turns b last ∙ other
      | inr past ↦ known.after b f past
    ]

next_front : (front : List BlockLineView) (last : Option BlockLineView) (from : ℕ) (b : BlockLineView) → Front front last from
    → StartsBehind last b
    → IsFront (front ++ (b ∷ [])) b (run_start last from b)
next_front front None from b none start = front_new front b (λ c f above. none_front front c f none) (λ f is. none_front front b f none)
next_front front (Some last) from b known start =
    by_test (is_next_in_run last b) refl
  where
    by_test : (goes : Bool) → is_next_in_run last b ≡ goes → IsFront (front ++ (b ∷ [])) b (if goes then from else first b)
    by_test true is =
        let parts = and_parts (end last == first b) (are_of_one_zone last b) is in
        front_more front last b from known ((Decides-eqb (end last) (first b)).0 parts.0) parts.1
    by_test false is =
        front_new front b (λ c f above. known.after c f (omega arith)) (λ f one. front_apart front last b from f known start is one)

-- this and the next: the first frame of a block lies in the block's parent
parent_low : (b : BlockLineView) → (parent_of b).base ≤ first b
parent_low b = omega arith

parent_high : (b : BlockLineView) → first b < end_of (parent_of b)
parent_high b = let some = pow_pos (b.order + 1) in let less = mod-lt (first b) some in omega arith

module _ (b : BlockLineView) (front bs : List BlockLineView) (from : ℕ) (known : IsFront front b from)
    (start : StartFrom (end b) (map frames_of_block bs))
    (order : AscendApart (map frames_of_block bs)) where
  joined : nat_le from (parent_of b).base ≡ true → is_covered_up_to b (end b) (end_of (parent_of b)) bs ≡ true
      → each_in (parent_of b) (is_in_same_zone_block b (front ++ bs)) ≡ true
  joined low full = each_in-all (parent_of b) (is_in_same_zone_block b (front ++ bs)) (λ f above below.
      let from_low : from ≤ (parent_of b).base = grind (arith, nat_tests) in
      elim (cases_lt f (end b)) as (λ _. is_in_same_zone_block b (front ++ bs) f ≡ true) [
        | inl inside ↦
            front_only b front bs f (says_below (are_of_one_zone b) frames_of_block (end b) f bs start order inside)
            ∙ known.kin f (omega arith) inside
        | inr past ↦
            back_only b front bs f (known.after b f past) ∙ fills_true b (end b) (end_of (parent_of b)) bs start order full f past below
      ])

  apart_front : nat_le from (parent_of b).base ≡ false → each_in (parent_of b) (is_in_same_zone_block b (front ++ bs)) ≡ false
  apart_front high =
      let over : (parent_of b).base < from = grind (arith, nat_tests) in
      let low = known.low in
      let some = known.some in
      let up = parent_high b in
      let y : ℕ = from - 1 in
      each_in-fails (parent_of b) (is_in_same_zone_block b (front ++ bs)) (from - 1) (omega arith) (omega arith)
      (front_only b front bs (from - 1) (says_below (are_of_one_zone b) frames_of_block (end b) (from - 1) bs start order (omega arith))
      ∙ known.before (from - 1) (omega arith))

  apart_after : is_covered_up_to b (end b) (end_of (parent_of b)) bs ≡ false
      → each_in (parent_of b) (is_in_same_zone_block b (front ++ bs)) ≡ false
  apart_after gaps =
      let gap = fills_false b (end b) (end_of (parent_of b)) bs start order gaps in
      let above : end b ≤ gap.0 = gap.1 in
      let some = known.some in
      let low = parent_low b in
      each_in-fails (parent_of b) (is_in_same_zone_block b (front ++ bs)) gap.0 (omega arith) gap.2
      (back_only b front bs gap.0 (known.after b gap.0 above) ∙ gap.3)

  each_is : (low full : Bool) → nat_le from (parent_of b).base ≡ low → is_covered_up_to b (end b) (end_of (parent_of b)) bs ≡ full
      → each_in (parent_of b) (is_in_same_zone_block b (front ++ bs)) ≡ (low && full)
  each_is true true low full = joined low full
  each_is true false low full = apart_after full
  each_is false full low is = apart_front low

  joins_is : could_merge (front ++ bs) b ≡ could_merge_after_run from b bs
  unfolding could_merge
  joins_is =
      ap (λ (u : Bool). nat_lt b.order 10 && u)
      (each_is (nat_le from (parent_of b).base) (is_covered_up_to b (end b) (end_of (parent_of b)) bs) refl refl)

-- the first line that the walk finds is the first whose block could merge
abbrev line_by : Bool → ℕ → Option ℕ → Option ℕ
line_by passes line others = if passes then Some line else others

walk_finds_first_line : (front rest : List BlockLineView) (last : Option BlockLineView) (from line : ℕ) → Front front last from
    → ((b : BlockLineView) (bs : List BlockLineView) → rest ≡ b ∷ bs → StartsBehind last b) → AscendApart (map frames_of_block rest)
    → first_mergeable_from last from line rest ≡ first_line_passing (could_merge (front ++ rest)) line rest
walk_finds_first_line front [] last from line known start order = refl
walk_finds_first_line front (b ∷ bs) last from line known start order =
    let next = next_front front last from b known (start b bs refl) in
    let same : (front ++ (b ∷ [])) ++ bs ≡ front ++ (b ∷ bs) = append_assoc front (b ∷ []) bs in
    let here : could_merge (front ++ (b ∷ bs)) b ≡ could_merge_after_run (run_start last from b) b bs =
    subst (λ (ls : List BlockLineView). could_merge ls b ≡ could_merge_after_run (run_start last from b) b bs) same
    (joins_is b (front ++ (b ∷ [])) bs (run_start last from b) next order.0 order.1) in
    let others : first_mergeable_from (Some b) (run_start last from b) (line + 1) bs
    ≡ first_line_passing (could_merge (front ++ (b ∷ bs))) (line + 1) bs =
    subst (λ (ls : List BlockLineView). first_mergeable_from (Some b) (run_start last from b) (line + 1) bs
    ≡ first_line_passing (could_merge ls) (line + 1) bs) same
    (walk_finds_first_line (front ++ (b ∷ [])) bs (Some b) (run_start last from b) (line + 1) next (next_starts bs order.0) order.1) in
    ap (λ (u : Bool). line_by u line (first_mergeable_from (Some b) (run_start last from b) (line + 1) bs)) (sym here)
    ∙ ap (line_by (could_merge (front ++ (b ∷ bs)) b) line) others
  where
    next_starts : (cs : List BlockLineView) → StartFrom (end b) (map frames_of_block cs) → (c : BlockLineView) (ds : List BlockLineView)
        → cs ≡ c ∷ ds
        → end b ≤ first c
    next_starts cs starts c ds is = let begun : StartFrom (end b) (map frames_of_block (c ∷ ds)) = rw is at starts in begun

pub walk_is : (blocks : List BlockLineView) → AscendApart (map frames_of_block blocks)
    → first_mergeable_from None 0 1 blocks ≡ first_line_passing (could_merge blocks) 1 blocks
walk_is blocks order = walk_finds_first_line [] blocks None 0 1 refl (λ b bs is. tt) order
