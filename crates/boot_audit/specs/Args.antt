-- The command line of `bootaudit`: `[--la57] MAP OWNERS BLOCKS`.
use Rattle.std.specs.Prelude.{ℕ, ◌==◌, ◌&&◌, Bool, true, not, if◌then◌else◌, List, [], ◌∷◌, codes, Option, Some, None}
use Rattle.std.specs.Str.{bytes_eq}
use Rattle.bm_base.specs.declared.width.Width.{Width}
use Rattle.bm_base.specs.declared.width.Width.TheVariants as widths
use Rattle.boot_audit.specs.declared.failure.SavedReport.{SavedReport}
use Rattle.boot_audit.specs.declared.failure.SavedReport.TheVariants as reports

-- an accepted command line: the width of physical addresses, and the names of the three files
pub record AuditArgsView : Type 0 where
  pub width : Width
  pub map_name : List ℕ
  pub owners_name : List ℕ
  pub blocks_name : List ℕ

-- the name of the file with this report
abbrev pub report_file_name : AuditArgsView → SavedReport → List ℕ
report_file_name args reports.Map = args.map_name
report_file_name args reports.Owners = args.owners_name
report_file_name args reports.Blocks = args.blocks_name

-- whether the word can be a file name: it doesn't begin with `-`; the empty word can
abbrev pub is_file_word : List ℕ → Bool
is_file_word [] = true
is_file_word (b ∷ bs) = not (b == 45)

-- the width with three file names, if there are exactly three words and each can be a file name
abbrev pub three_file_names : Width → List (List ℕ) → Option AuditArgsView
three_file_names width (m ∷ o ∷ b ∷ []) =
    if is_file_word m && (is_file_word o && is_file_word b)
    then Some (record { width = width; map_name = m; owners_name = o; blocks_name = b })
    else None
three_file_names width other = None

-- the width of addresses (52 bits with `--la57`, else 46) and the file names in the words
-- `[--la57] MAP OWNERS BLOCKS`; `None` if the words have another form
abbrev pub read_audit_args : List (List ℕ) → Option AuditArgsView
read_audit_args [] = None
read_audit_args (w ∷ ws) =
    if bytes_eq w (codes "--la57") then three_file_names widths.Bits52 ws else three_file_names widths.Bits46 (w ∷ ws)
