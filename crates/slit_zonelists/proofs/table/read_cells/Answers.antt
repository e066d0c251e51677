-- The number of localities is small, and it isn't 0 if there are cells.
use Rattle.std.proofs.Common.{◌≡◌, ◌∙◌, ℕ, zero, suc, ◌-◌, ◌*◌, ◌≤◌, length, arith, subst, ap}
use Rattle.std.proofs.Math.Nat.{le-mul_of_pos_right}
use Rattle.std.proofs.lemmas.List.{take_rest}
use Rattle.slit_zonelists.specs.SlitView.{SlitView}
use Rattle.slit_zonelists.specs.Table.{locality_count}
use Rattle.slit_zonelists.proofs.table.read_cells.Goals as goal

-- a number is at most its square
root_low : (n m : ℕ) → n * n ≡ m → n ≤ m
root_low zero m is = omega arith
root_low (suc n) m is = subst (λ x. suc n ≤ x) is (le-mul_of_pos_right (suc n) (omega arith))

pub overflow_cast-result : goal.overflow_cast-result
overflow_cast-result c =
    let low = root_low (locality_count c.args.bytes.now) (length c.args.bytes.now - 44) c.requires.square in
    omega (arith, low, c.requires.few, c.locality_count-count.ensures)

pub returns-clause-cells : goal.returns-clause-cells
returns-clause-cells c =
    ap (λ n. let m : SlitView = record { count = n; cells = c.in_ok-cells.cells.items } in m) c.locality_count-count.ensures
    ∙ ap (λ xs. let m : SlitView = record { count = locality_count c.args.bytes.now; cells = xs } in m)
    (c.in_ok-cells.ensures.same ∙ take_rest c.args.bytes.now 44)
