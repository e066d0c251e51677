use Rattle.std.proofs.Common.{false}
use Rattle.text_words.proofs.PartsLaws.{parts-spelled, parts-one}
use Rattle.text_words.proofs.parts.spelled_parts_are_read.Goals as goal

pub returns-clause-first : goal.returns-clause-first
returns-clause-first c = λ s part b rest. parts-spelled s false part b rest

pub returns-clause-last : goal.returns-clause-last
returns-clause-last c = λ s part. parts-one s false part
