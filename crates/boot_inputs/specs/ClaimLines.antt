-- How the code reads the lines of a file of early claims. Its type `ClaimLine` wraps a line of a
-- script.
use Rattle.std.specs.Prelude.{false}
use Rattle.script_reader.specs.declared.act.Act.{Act}
use Rattle.script_reader.specs.Lines.{ScriptKind}
use Rattle.boot_inputs.specs.declared.claims.ClaimLine.{ClaimLine}
use Rattle.boot_inputs.specs.Claims.{claim_lines}

-- the rules `claim_lines` for the lines of early claims, with each line wrapped in a `ClaimLine`
abbrev pub claim_lines_by_reader : ScriptKind Act ClaimLine
claim_lines_by_reader = record {
  forms = claim_lines.forms;
  is_once = claim_lines.is_once;
  line = λ number act. record { line = claim_lines.line number act };
}
