use Rattle.std.proofs.Common.{◌≡◌, Err, arith}
use Rattle.std.proofs.lemmas.Grind.{common_steps}
use Rattle.bm_base.specs.Answers.{Answers}
use Rattle.boot_options.specs.declared.fault.OptionFault.TheVariants.{Memory as memory}
use Rattle.boot_options.specs.Options.{options_view, options_of}
use Rattle.boot_options.specs.Reading.{at_line_end}
use Rattle.boot_options.proofs.UserMapLaws.{options-read, options-fault}
use Rattle.boot_options.proofs.ReadingLaws.{state_at}
use Rattle.boot_options.proofs.LineBounds.{types-given, ranges-given, crash-given, numbered_map_options-given, options_of-not_memory}
use Rattle.boot_options.proofs.options.read_options.Goals as goal

-- the line has a malformed word
pub returns-in_err-reading-clause-memory : goal.returns-in_err-reading-clause-memory
returns-in_err-reading-clause-memory c =
    let told : c.from_residual-in_err-reading.result ≡ Err c.in_err-reading.field-0.0 = grind (arith, common_steps) in
    let faulty : options_of c.args.bytes.now ≡ Err c.in_err-reading.field-0.0
    = options-fault c.args.bytes.now c.in_ok-line.line.now c.in_err-reading.field-0.0 c.in_ok-line.ensures.line c.in_err-reading.ensures in
    λ is. absurd (options_of-not_memory c.args.bytes.now cc)

pub returns-in_err-reading-clause-words : goal.returns-in_err-reading-clause-words
returns-in_err-reading-clause-words c =
    let answers : Answers memory options_view c.from_residual-in_err-reading.result (options_of c.args.bytes.now) =
    grind (arith, common_steps) in
    numbered_map_options-given c.args.bytes.now c.from_residual-in_err-reading.result answers

-- all words were read
pub returns-clause-answers : goal.returns-clause-answers
returns-clause-answers c =
    let end = state_at c.in_ok-reading.reading _ c.in_ok-reading.ensures in
    let is : options_of c.args.bytes.now ≡ at_line_end end.0
    = options-read c.args.bytes.now c.in_ok-line.line.now end.0 c.in_ok-line.ensures.line end.2 in
    rw is (c.finish.ensures.answers end.0 end.1)

pub returns-clause-memory : goal.returns-clause-memory
returns-clause-memory c =
    let end = state_at c.in_ok-reading.reading _ c.in_ok-reading.ensures in
    let is : options_of c.args.bytes.now ≡ at_line_end end.0
    = options-read c.args.bytes.now c.in_ok-line.line.now end.0 c.in_ok-line.ensures.line end.2 in
    rw is (λ told. c.finish.ensures.complete told end.0 end.1)

pub returns-clause-types : goal.returns-clause-types
returns-clause-types c = types-given c.args.bytes.now c.finish.result (returns-clause-answers c)

pub returns-clause-ranges : goal.returns-clause-ranges
returns-clause-ranges c = ranges-given c.args.bytes.now c.finish.result (returns-clause-answers c)

pub returns-clause-crash : goal.returns-clause-crash
returns-clause-crash c = crash-given c.args.bytes.now c.finish.result (returns-clause-answers c)

pub returns-clause-words : goal.returns-clause-words
returns-clause-words c = numbered_map_options-given c.args.bytes.now c.finish.result (returns-clause-answers c)
