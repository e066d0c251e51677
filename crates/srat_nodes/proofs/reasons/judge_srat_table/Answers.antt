use Rattle.std.proofs.Common.{◌<◌, ◌≤◌, length, sym, ◌∙◌, arith}
use Rattle.std.proofs.lemmas.Result.{IfOk-weaker}
use Rattle.srat_reader.specs.Table.{SratView}
use Rattle.srat_nodes.specs.Kept.{is_in_any_range}
use Rattle.srat_nodes.specs.Steps.{is_in_runs}
use Rattle.srat_nodes.proofs.JudgedLaws.{many_domains, few_domains, no_blocks, too_many_domains, too_many_blocks, by_kept}
use Rattle.srat_nodes.proofs.KeptLaws.{addresses_kept, any_alike, kept_alike}
use Rattle.srat_nodes.proofs.reasons.judge_srat_table.Goals as goal

pub returns-then-not-is_any_kept : goal.returns-then-not-is_any_kept
returns-then-not-is_any_kept c =
    c.unused_srat.ensures ∙ sym (no_blocks _ _ (any_alike (is_in_any_range c.args.memory.now) (is_in_runs c.in_ok-runs.runs.items)
    c.in_ok-runs.ensures.bytes c.args.blocks.now (sym c.is_any_kept.ensures ∙ c.if-not-is_any_kept.true)))

pub returns-then-len : goal.returns-then-len
returns-then-len c =
    let many : 1024 < length c.in_ok-domains.domains.items = omega (arith, c.in_ok-domains.domains.ok.0) in
    c.unused_srat-then-len.ensures
    ∙ sym (too_many_domains _ _ (any_alike (is_in_any_range c.args.memory.now) (is_in_runs c.in_ok-runs.runs.items)
    c.in_ok-runs.ensures.bytes c.args.blocks.now (sym c.is_any_kept.ensures ∙ c.if-not-is_any_kept.false))
    (many_domains c.in_ok-domains.domains.items _ c.in_ok-domains.ensures many))

pub returns-then-count_with_addresses-gt-MAX_BLOCKS :
    goal.returns-then-count_with_addresses-gt-MAX_BLOCKS
returns-then-count_with_addresses-gt-MAX_BLOCKS c =
    let few : length c.in_ok-domains.domains.items ≤ 1024 = omega (arith, c.in_ok-domains.domains.ok.0) in
    c.unused_srat-then-count_with_addresses-gt-MAX_BLOCKS.ensures
    ∙ sym (too_many_blocks _ _ (any_alike (is_in_any_range c.args.memory.now) (is_in_runs c.in_ok-runs.runs.items)
    c.in_ok-runs.ensures.bytes c.args.blocks.now (sym c.is_any_kept.ensures ∙ c.if-not-is_any_kept.false))
    (few_domains c.in_ok-domains.domains.items _ c.in_ok-domains.ensures few) (omega arith))

pub judge_kept_blocks-requires-clause-some : goal.judge_kept_blocks-requires-clause-some
judge_kept_blocks-requires-clause-some c =
    rw (c.deref-2.ensures.value, c.in_ok-kept.ensures.value) (addresses_kept (is_in_runs c.in_ok-runs.runs.items) c.deref.result.now
    c.args.blocks.now)

pub returns : goal.returns
returns c =
    let memory = is_in_any_range c.args.memory.now in
    let runs = is_in_runs c.in_ok-runs.runs.items in
    let alike = c.in_ok-runs.ensures.bytes in
    let domains = c.in_ok-domains.domains.items in
    let lists : SratView = record { processors = c.args.processors.now; blocks = c.args.blocks.now } in
    let some = any_alike memory runs alike c.args.blocks.now (sym c.is_any_kept.ensures ∙ c.if-not-is_any_kept.false) in
    let few : length domains ≤ 1024 = omega (arith, c.in_ok-domains.domains.ok.0) in
    let whole = by_kept memory lists some domains c.in_ok-domains.ensures few (omega arith) c.deref-2.result.now
    (c.deref-2.ensures.value ∙ rw c.deref.ensures.value at c.in_ok-kept.ensures.value
    ∙ kept_alike memory runs alike domains c.args.blocks.now) in
    IfOk-weaker c.judge_kept_blocks.result _ _ (λ found is. is ∙ whole) c.judge_kept_blocks.ensures
