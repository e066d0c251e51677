-- A line writes only claims, frees and moves of tables.
use Rattle.early_script.specs.Effects.{act_effect}
use Rattle.early_script.proofs.QuietLaws.{act_effect-quiet, acts-memory, acts-limit}
use Rattle.early_script.proofs.lines.lines_keep_memory.Goals as goal

pub returns-clause-memory : goal.returns-clause-memory
returns-clause-memory c =
    λ result old new bytes a acts. acts-memory result old new (act_effect old bytes a) (act_effect-quiet old bytes a) acts

pub returns-clause-limit : goal.returns-clause-limit
returns-clause-limit c =
    λ result old new bytes a acts. acts-limit result old new (act_effect old bytes a) (act_effect-quiet old bytes a) acts
