-- The list of mirrored ranges is empty.
use Rattle.std.proofs.lemmas.List.Elements.{All-nil}
use Rattle.boot_model.specs.Mirrors.{IsMirror}
use Rattle.boot_model.proofs.inputs.Inputs.without_files.Goals as goal

pub invariant_of-result-clause-mirrors_fit : goal.invariant_of-result-clause-mirrors_fit
invariant_of-result-clause-mirrors_fit c = rw c.new-4.ensures.items (All-nil IsMirror)
