-- The meaning of a word, whose name is compared with the options' names one after another.
use Rattle.std.proofs.Common.{◌≡◌, ℕ, Bool, List, sym}
use Rattle.std.specs.Str.{bytes_eq}

-- the reader's comparison of names has the same result as the definition's
pub compared : (b : Bool) (name bare known : List ℕ) → bare ≡ known → b ≡ bytes_eq name bare → bytes_eq name known ≡ b
compared b name bare known is test = sym (rw is at test)
