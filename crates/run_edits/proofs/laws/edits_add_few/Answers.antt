use Rattle.run_edits.proofs.CountLaws.{covered_length, uncovered_length, relabelled_length, replaced_length}
use Rattle.run_edits.proofs.laws.edits_add_few.Goals as goal

pub returns-clause-cover : goal.returns-clause-cover
returns-clause-cover g c = λ same r v w f tells ends none. covered_length same tells r v w f ends none

pub returns-clause-uncover : goal.returns-clause-uncover
returns-clause-uncover g c = λ same r f tells none. uncovered_length same tells r f none

pub returns-clause-relabel : goal.returns-clause-relabel
returns-clause-relabel g c = λ same r change f tells none. relabelled_length same tells r change f none

pub returns-clause-replace : goal.returns-clause-replace
returns-clause-replace g c = λ same r v f tells ends none. replaced_length same tells r v f ends none
