-- Chains the equations that the calls give for the table's claims.
use Rattle.std.proofs.Common.{◌≡◌, ◌∙◌, ap}
use Rattle.e820_model.specs.Claims.{zero_page_claims, after_bios_trim, with_extension, with_options}
use Rattle.e820_model.specs.Map.{claims_of}
use Rattle.boot_stages.proofs.map.finished_table.Goals as goal

pub returns : goal.returns
returns c =
    let first : claims_of c.append_and_sanitise.new.table ≡ zero_page_claims c.args.entries.now =
    c.in_ok-append_and_sanitise.ensures ∙ ap (with_extension c.args.entries.now) c.new-table.ensures in
    let second : claims_of c.append_and_sanitise-2.new.table ≡ with_extension c.args.extension.now (zero_page_claims c.args.entries.now) =
    c.in_ok-append_and_sanitise-2.ensures ∙ ap (with_extension c.args.extension.now) first in
    c.in_ok-trim_bios.ensures.ok
    ∙ ap after_bios_trim (c.in_ok-edit_and_sanitise.ensures ∙ ap (with_options c.args.edits.now c.args.added.now) second)
