-- The stages after the map leave it, and it is accepted before the first of them.
use Rattle.std.proofs.Common.{◌≡◌, ◌∙◌, ap, sym}
use Rattle.boot_model.specs.Boot.{BootedView}
use Rattle.boot_model.proofs.BootLaws.{goes_on}
use Rattle.conservation.proofs.ToldLaws.{is_told_of}
use Rattle.bootmem_c.proofs.profile.map_is_the_same_by_each_profile.Goals as goal

pub returns : goal.returns
returns c = λ extra inputs booted boots.
    let report = is_told_of extra inputs booted boots in
    sym (ap (λ (t : BootedView). t.map) report.tells) ∙ (goes_on extra inputs report.made report.boots).map
