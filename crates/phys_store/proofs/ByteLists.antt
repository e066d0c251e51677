-- Lemmas on a list of bytes that is made by a function from addresses to bytes.
use Rattle.std.proofs.Common.{◌≡◌, ℕ, zero, suc, ◌+◌, ◌<◌, List, length, get_or, refl, sym, ◌∙◌, ap, arith}
use Rattle.std.proofs.lemmas.List.{ext_get_or, length-take}
use Rattle.phys_store.specs.Bytes.{bytes_at}

pub length-bytes_at : (f : ℕ → ℕ) (a n : ℕ) → length (bytes_at f a n) ≡ n
unfolding bytes_at
length-bytes_at f a zero = refl
length-bytes_at f a (suc n) = let rest = length-bytes_at f (a + 1) n in omega (arith, rest)

-- `bytes_at` gives n bytes, and byte k of them is that of address a + k
pub ruleset byte_counts = (length-bytes_at, length-take)

pub get-bytes_at : (f : ℕ → ℕ) (a n k : ℕ) → k < n → get_or (bytes_at f a n) k 0 ≡ f (a + k)
unfolding bytes_at
get-bytes_at f a zero k below = absurd (omega arith)
get-bytes_at f a (suc n) zero below = ap f (omega arith)
get-bytes_at f a (suc n) (suc k) below = get-bytes_at f (a + 1) n k (omega arith) ∙ ap f (omega arith)

-- a list of n bytes is `bytes_at` of a function if each of its bytes is that of the function
pub told_bytes : (f : ℕ → ℕ) (a n : ℕ) (bs : List ℕ) → length bs ≡ n → ((k : ℕ) → k < n → get_or bs k 0 ≡ f (a + k)) → bs ≡ bytes_at f a n
told_bytes f a n bs len told =
    ext_get_or 0 bs (bytes_at f a n) (len ∙ sym (length-bytes_at f a n))
    (λ k below. let small : k < n = omega (arith, len) in told k small ∙ sym (get-bytes_at f a n k small))
