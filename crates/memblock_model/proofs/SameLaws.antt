-- The tests of equality decide equality.
use Rattle.std.proofs.Common.{◌≡◌, ℕ, ◌==◌, Bool, true, false, if◌then◌else◌, Option, Some, None, refl, sym, ◌∙◌, ap}
use Rattle.std.proofs.lemmas.Bool.{eqb-true, eq-eqb, and_parts, and_from}
use Rattle.address_runs.specs.Runs.{DecidesEquality}
use Rattle.memblock_model.specs.declared.owner.Which.TheVariants as which
use Rattle.memblock_model.specs.declared.owner.Owner.{Owner}
use Rattle.memblock_model.specs.declared.owner.Owner.TheVariants as owner
use Rattle.memblock_model.specs.Labels.{LabelView}
use Rattle.memblock_model.specs.Same.{same_node_or_none, same_bool, same_label, variant_of, owner_number, same_owner}

node_yes : (a b : Option ℕ) → same_node_or_none a b ≡ true → a ≡ b
node_yes None None h = refl
node_yes None (Some n) h = cc
node_yes (Some m) None h = cc
node_yes (Some m) (Some n) h = ap (λ k. Some k) (eqb-true m n h)

pub node_self : (a : Option ℕ) → same_node_or_none a a ≡ true
node_self None = refl
node_self (Some n) = eq-eqb n n refl

switch_yes : (a b : Bool) → same_bool a b ≡ true → a ≡ b
switch_yes true true h = refl
switch_yes true false h = cc
switch_yes false true h = cc
switch_yes false false h = refl

switch_self : (a : Bool) → same_bool a a ≡ true
switch_self true = refl
switch_self false = refl

-- labels are equal exactly if all their parts are
label_yes : (a b : LabelView) → same_label a b ≡ true → a ≡ b
label_yes a b h =
    let parts = and_parts (same_node_or_none a.node b.node) (same_bool a.mirror b.mirror) h in
    ap (λ (n : Option ℕ). let label : LabelView = record { node = n; mirror = a.mirror } in label) (node_yes a.node b.node parts.0)
    ∙ ap (λ (m : Bool). let label : LabelView = record { node = b.node; mirror = m } in label) (switch_yes a.mirror b.mirror parts.1)

pub label_self : (a : LabelView) → same_label a a ≡ true
label_self a = and_from (same_node_or_none a.node a.node) (same_bool a.mirror a.mirror) (node_self a.node) (switch_self a.mirror)

pub same_label_decides_equality : DecidesEquality same_label
same_label_decides_equality =
    record { true_is_equal = label_yes; equal_is_true = λ a b e. ap (λ (l : LabelView). same_label a l) (sym e) ∙ label_self a }

-- the owner with this variant and this number
numbered : ℕ → ℕ → Owner
numbered v n =
    if v == 0 then owner.Kernel else (if v == 1 then owner.Low64K else (if v == 2 then owner.Initrd else (if v == 3 then owner.Low1M
    else (if v == 4 then owner.Soft else (if v == 5 then owner.Table (if n == 0 then which.Memory else which.Reserved)
    else (if v == 6 then owner.NodeData n else (if v == 7 then owner.Crash else
    (if v == 8 then owner.CrashLow else (if v == 9 then owner.Roots
    else (if v == 10 then owner.Root n else (if v == 11 then owner.Usage n else (if v == 12 then owner.Map n else owner.Script n))))))))))))

numbered_again : (o : Owner) → numbered (variant_of o) (owner_number o) ≡ o
unfolding numbered
numbered_again owner.Kernel = refl
numbered_again owner.Low64K = refl
numbered_again owner.Initrd = refl
numbered_again owner.Low1M = refl
numbered_again owner.Soft = refl
numbered_again (owner.Table which.Memory) = refl
numbered_again (owner.Table which.Reserved) = refl
numbered_again (owner.NodeData n) = refl
numbered_again owner.Crash = refl
numbered_again owner.CrashLow = refl
numbered_again owner.Roots = refl
numbered_again (owner.Root n) = refl
numbered_again (owner.Usage n) = refl
numbered_again (owner.Map n) = refl
numbered_again (owner.Script n) = refl

owner_yes : (a b : Owner) → same_owner a b ≡ true → a ≡ b
owner_yes a b h =
    let both = and_parts _ _ h in
    sym (numbered_again a) ∙ ap (λ (v : ℕ). numbered v (owner_number a)) (eqb-true _ _ both.0)
    ∙ ap (λ (n : ℕ). numbered (variant_of b) n) (eqb-true _ _ both.1) ∙ numbered_again b

pub owner_self : (a : Owner) → same_owner a a ≡ true
owner_self a = and_from _ _ (eq-eqb (variant_of a) _ refl) (eq-eqb (owner_number a) _ refl)

pub same_owner_decides_equality : DecidesEquality same_owner
same_owner_decides_equality =
    record { true_is_equal = owner_yes; equal_is_true = λ a b e. ap (λ (o : Owner). same_owner a o) (sym e) ∙ owner_self a }
