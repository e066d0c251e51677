-- What differs between the programs that read files, and what files contain.
use Rattle.std.specs.Prelude.{◌≡◌, ℕ, List, Option, ◌⊎◌}

-- for each name, the bytes of the file with that name, or `None` if there is no such file
abbrev pub FileContents : Type 0
FileContents = List ℕ → Option (List ℕ)

-- what differs from program to program. `W` is the type of what an accepted command line asks for,
-- `I` that of input files, `A` that of results.
pub record Program (W I A : Type 0) : Type 0 where
  -- `place` is the position of an input's file in the order in which files are read; `named` is
  -- the name of this file, or `None` if the command line names none
  pub place : I → ℕ
  pub named : W → I → Option (List ℕ)
  -- `text` is the text that is written for a result. `status` is the exit status of a result, 0 or
  -- 8; no failure has the status 0 or 8
  pub text : A → List ℕ
  pub status : A → ℕ
  pub statuses : (result : A) → (status result ≡ 0) ⊎ (status result ≡ 8)
