-- Whether each of several consecutive addresses or frames passes a test.
use Rattle.std.specs.Prelude.{ℕ, zero, suc, ◌+◌, Bool, true, ◌&&◌}
use Rattle.bm_base.specs.Range.{RangeView}

-- whether each of the n numbers from x on passes the test
unfoldable pub each_from : (ℕ → Bool) → ℕ → ℕ → Bool
each_from p x zero = true
each_from p x (suc n) = p x && each_from p (x + 1) n

-- whether each address of the range passes the test
unfoldable pub each_in : RangeView → (ℕ → Bool) → Bool
each_in r p = each_from p r.base r.size
