use Rattle.std.proofs.Common.{◌≡◌, ◌∙◌, ap, Some, None, List, arith}
use Rattle.std.proofs.lemmas.Result.{IfOk-weaker}
use Rattle.address_runs.specs.Runs.{RunOf}
use Rattle.e820_model.specs.declared.entry.TheConstants.{E820_TYPE_RAM, E820_TYPE_RESERVED}
use Rattle.e820_model.specs.declared.entry.Edit.TheVariants as edit
use Rattle.e820_model.specs.Claims.{after_edit, first_page, bios_area}
use Rattle.e820_model.specs.Map.{claims_of, AreValidClaims}
use Rattle.e820_sanitise.specs.Cuts.{cut_out}
use Rattle.e820_sanitise.proofs.CutLaws.{remove_same, change_same, AreClaims-cut_out}
use Rattle.e820_sanitise.proofs.cuts.trim_bios_claims.Goals as goal

pub returns-clause-same : goal.returns-clause-same
returns-clause-same c =
    let reserved : List (RunOf _) = c.in_ok-reserved.reserved.items in
    let left : c.deref.result.now ≡ reserved = c.deref.ensures.value in
    IfOk-weaker c.cut_each_claim-2.result _ _
    (λ all is. ap claims_of (rw left at is) ∙ remove_same bios_area E820_TYPE_RAM reserved
    ∙ ap (λ d. after_edit (edit.Remove bios_area E820_TYPE_RAM) d)
    (ap claims_of c.in_ok-reserved.ensures ∙ change_same first_page E820_TYPE_RAM E820_TYPE_RESERVED c.args.claims.now))
    c.cut_each_claim-2.ensures

pub returns-clause-claims : goal.returns-clause-claims
returns-clause-claims c =
    let first : AreValidClaims (cut_out first_page (Some E820_TYPE_RAM) (Some E820_TYPE_RESERVED) c.args.claims.now) =
    AreClaims-cut_out first_page (Some E820_TYPE_RAM) (Some E820_TYPE_RESERVED) c.args.claims.now (omega arith, omega arith) c.requires in
    let left : c.deref.result.now ≡ cut_out first_page (Some E820_TYPE_RAM) (Some E820_TYPE_RESERVED)
    c.args.claims.now = c.deref.ensures.value ∙ c.in_ok-reserved.ensures in
    IfOk-weaker c.cut_each_claim-2.result _ _
    (λ all is. rw (rw left at is) (AreClaims-cut_out bios_area (Some E820_TYPE_RAM) None _ tt first)) c.cut_each_claim-2.ensures
