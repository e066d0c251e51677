-- The page script acts on frames that were handed over, so each stays in one block or is held.
use Rattle.std.proofs.Common.{◌≡◌, Ok, sym, subst}
use Rattle.page_alloc.specs.Pages.{HaveValidOrders, PageState, first_page_state}
use Rattle.page_alloc.proofs.KeptLaws.{Goes, begun_goes, in_none, in_one}
use Rattle.slit_zonelists.proofs.LineLaws.{after_goes}
use Rattle.boot_model.specs.Boot.{ExtraView, InputsView, BootedView, whole_boot_with}
use Rattle.conservation.specs.FramePlacesAfterPages.{AllInOneBlockOrHeld, NoOtherInABlockOrHeld}
use Rattle.conservation.proofs.HeadlineLaws.{below, is_told}

goes : (extra : ExtraView) (inputs : InputsView) (t : BootedView) → whole_boot_with extra inputs ≡ Ok t → HaveValidOrders inputs.page_lines
    → Goes t.free t.after
goes extra inputs t ends orders =
    subst (λ (s : PageState). Goes t.free s) (sym (is_told extra inputs t ends).after)
    (after_goes t.lists t.free (first_page_state t.free) inputs.page_lines orders (begun_goes t.free (below extra inputs t ends)))

pub all_in_one_or_held : (extra : ExtraView) (inputs : InputsView) (t : BootedView) → whole_boot_with extra inputs ≡ Ok t
    → HaveValidOrders inputs.page_lines
    → AllInOneBlockOrHeld t
all_in_one_or_held extra inputs t ends orders frame node free = in_one t.free t.after frame node (goes extra inputs t ends orders) free

pub no_other_in_one_or_held : (extra : ExtraView) (inputs : InputsView) (t : BootedView) → whole_boot_with extra inputs ≡ Ok t
    → HaveValidOrders inputs.page_lines
    → NoOtherInABlockOrHeld t
no_other_in_one_or_held extra inputs t ends orders frame free = in_none t.free t.after frame (goes extra inputs t ends orders) free
