use Rattle.page_alloc.specs.Pages.{first_page_state}
use Rattle.page_alloc.proofs.KeptLaws.{in_one, in_none, begun_goes}
use Rattle.slit_zonelists.specs.Near.{page_state_after}
use Rattle.slit_zonelists.proofs.LineLaws.{after_goes}
use Rattle.slit_zonelists.proofs.laws.frames_stay_in_one_block_or_held.Goals as goal

pub returns-clause-one : goal.returns-clause-one
returns-clause-one c = λ k f lines x n low orders is.
    in_one f (page_state_after k (first_page_state f) lines) x n (after_goes k f (first_page_state f) lines orders (begun_goes f low)) is

pub returns-clause-other : goal.returns-clause-other
returns-clause-other c = λ k f lines x low orders is.
    in_none f (page_state_after k (first_page_state f) lines) x (after_goes k f (first_page_state f) lines orders (begun_goes f low)) is
