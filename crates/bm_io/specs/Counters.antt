-- What contracts see of the files and outputs of the operating system.
use Rattle.std.specs.Prelude.{ℕ}

-- what contracts see of a `RealFiles`: the files, the number of failed fetches of any name, and
-- the number of bytes read
pub record RealFilesView (D : Type 0) : Type 0 where
  pub files : D
  pub faults : ℕ
  pub taken : ℕ

-- what contracts see of a `StdSink`: the stream, and the number of failed puts
pub record StdSinkView (W : Type 0) : Type 0 where
  pub stream : W
  pub faults : ℕ
