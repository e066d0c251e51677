use Rattle.std.proofs.Common.{rules, ◌≡◌, ◌<◌, Some, None, ◌++◌, OnOk, ap, ◌∙◌, arith}
use Rattle.std.proofs.lemmas.Result.{on_ok_weaker}
use Rattle.bm_base.specs.Range.{end_of}
use Rattle.e820_model.specs.Map.{claims_of}
use Rattle.e820_sanitise.specs.Cuts.{claim_between}
use Rattle.e820_sanitise.proofs.CutLaws.{add_same, remove_same, remove_all_same, change_same, AreClaims-cut_out, AreClaims-edited}
use Rattle.e820_sanitise.proofs.cuts.edit_claims.Goals as goal

pub returns-in-Add-clause-same : goal.returns-in-Add-clause-same
returns-in-Add-clause-same c =
    let added : OnOk c.push_between.result (c.push_between.new.claims.items ≡ c.args.claims.now.items
    ++ claim_between c.in-Add.range.base (end_of c.in-Add.range) c.in-Add.kind) = search rules in
    on_ok_weaker c.push_between.result
    (λ is. ap claims_of is ∙ rw c.in-Add.is (add_same c.in-Add.range c.in-Add.kind c.args.claims.now.items))
    added

pub returns-in-Remove-clause-same : goal.returns-in-Remove-clause-same
returns-in-Remove-clause-same c =
    on_ok_weaker c.replace_with_cut.result
    (λ is. ap claims_of is ∙ rw c.in-Remove.is (remove_same c.in-Remove.range c.in-Remove.kind c.args.claims.now.items))
    c.replace_with_cut.ensures.ok

pub returns-in-Remove-clause-claims : goal.returns-in-Remove-clause-claims
returns-in-Remove-clause-claims c =
    AreClaims-edited c.replace_with_cut.result _ _ _ c.replace_with_cut.ensures.ok c.replace_with_cut.ensures.err
    (AreClaims-cut_out c.in-Remove.range (Some c.in-Remove.kind) None c.args.claims.now.items tt c.requires.claims) c.requires.claims

pub returns-in-RemoveAll-clause-same : goal.returns-in-RemoveAll-clause-same
returns-in-RemoveAll-clause-same c =
    on_ok_weaker c.replace_with_cut-in-RemoveAll.result
    (λ is. ap claims_of is ∙ rw c.in-RemoveAll.is (remove_all_same c.in-RemoveAll.range c.args.claims.now.items))
    c.replace_with_cut-in-RemoveAll.ensures.ok

pub returns-in-RemoveAll-clause-claims : goal.returns-in-RemoveAll-clause-claims
returns-in-RemoveAll-clause-claims c =
    AreClaims-edited c.replace_with_cut-in-RemoveAll.result _ _ _ c.replace_with_cut-in-RemoveAll.ensures.ok
    c.replace_with_cut-in-RemoveAll.ensures.err
    (AreClaims-cut_out c.in-RemoveAll.range None None c.args.claims.now.items tt c.requires.claims) c.requires.claims

pub returns-in-Change-clause-same : goal.returns-in-Change-clause-same
returns-in-Change-clause-same c =
    on_ok_weaker c.replace_with_cut-in-Change.result
    (λ is. ap claims_of is ∙ rw c.in-Change.is (change_same c.in-Change.range c.in-Change.from c.in-Change.to c.args.claims.now.items))
    c.replace_with_cut-in-Change.ensures.ok

pub returns-in-Change-clause-claims : goal.returns-in-Change-clause-claims
returns-in-Change-clause-claims c =
    let types : 0 < c.in-Change.to = (rw c.in-Change.is at c.requires.types).1 in
    AreClaims-edited c.replace_with_cut-in-Change.result _ _ _ c.replace_with_cut-in-Change.ensures.ok
    c.replace_with_cut-in-Change.ensures.err
    (AreClaims-cut_out c.in-Change.range (Some c.in-Change.from) (Some c.in-Change.to) c.args.claims.now.items (types, omega arith)
    c.requires.claims) c.requires.claims
