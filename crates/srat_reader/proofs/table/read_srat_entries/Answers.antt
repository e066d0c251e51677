use Rattle.std.proofs.Common.{◌≡◌, ◌⊎◌, ℕ, ◌<◌, true, List, ◌++◌, length, IsSome, refl, sym, ◌∙◌, subst, inl, inr, arith}
use Rattle.std.specs.List.{filter_map}
use Rattle.srat_reader.specs.declared.entries.SratEntry.{SratEntry}
use Rattle.srat_reader.specs.declared.table.SratBlock.{SratBlock}
use Rattle.srat_reader.specs.Entries.{is_whole_entry, srat_entry_at}
use Rattle.srat_reader.specs.Table.{processor_of, srat_block_of, processor_domain_at, srat_block_at, processors_of, srat_blocks_of}
use Rattle.srat_reader.proofs.ChainLaws.{rest_from, whole_bounds, whole_here, near_here, no_fault_after_entry, values_from_entry, values_at_end, values_not_empty}
use Rattle.srat_reader.proofs.table.read_srat_entries.Goals as goal

pub srat_entry_at-requires-clause-whole : goal.srat_entry_at-requires-clause-whole
srat_entry_at-requires-clause-whole c = whole_here c.loop-at.at c.args.bytes.now c.loop-at-test.true c.loop-at.invariant.sound

pub append_srat_entry-requires : goal.append_srat_entry-requires
append_srat_entry-requires c =
    rw c.srat_entry_at.ensures (near_here c.loop-at.at c.args.bytes.now c.loop-at-test.true c.loop-at.invariant.sound)

pub entry_length_at-at-requires : goal.entry_length_at-at-requires
entry_length_at-at-requires c =
    let whole = whole_here c.loop-at.at c.args.bytes.now c.loop-at-test.true c.loop-at.invariant.sound in
    let bounds = whole_bounds c.loop-at.at c.args.bytes.now whole in
    omega arith

pub loop-at-smaller : goal.loop-at-smaller
loop-at-smaller c =
    let whole = whole_here c.loop-at.at c.args.bytes.now c.loop-at-test.true c.loop-at.invariant.sound in
    let bounds = whole_bounds c.loop-at.at c.args.bytes.now whole in
    omega arith

pub loop-at-preserved : goal.loop-at-preserved
loop-at-preserved c =
    let l = c.loop-at in
    let bytes = c.args.bytes.now in
    let whole = whole_here l.at bytes c.loop-at-test.true l.invariant.sound in
    let bounds = whole_bounds l.at bytes whole in
    let from = l.invariant.after_header in
    record {
      after_header = omega arith;
      sound = rw c.entry_length_at-at.ensures (no_fault_after_entry l.at bytes c.loop-at-test.true l.invariant.sound);
      processors = rw (c.entry_length_at-at.ensures, c.in_ok-append_srat_entry.ensures.processors, c.srat_entry_at.ensures)
          (sym (values_from_entry (processor_domain_at bytes) l.at bytes l.srat.cpus.items c.loop-at-test.true whole)
          ∙ l.invariant.processors);
      blocks = rw (c.entry_length_at-at.ensures, c.in_ok-append_srat_entry.ensures.blocks, c.srat_entry_at.ensures)
          (sym (values_from_entry (srat_block_at bytes) l.at bytes l.srat.blocks.items c.loop-at-test.true whole) ∙ l.invariant.blocks);
    }

-- if any entry is a processor or a range of memory, one of the two lists of the table isn't empty
one_more : (at : ℕ) (bytes cpus : List ℕ) (blocks : List SratBlock) (said : SratEntry) → at < length bytes → is_whole_entry at bytes ≡ true
    → said ≡ srat_entry_at at bytes
    → cpus ++ filter_map (processor_domain_at bytes) (rest_from at bytes) ≡ processors_of bytes
    → blocks ++ filter_map (srat_block_at bytes) (rest_from at bytes) ≡ srat_blocks_of bytes
    → IsSome (processor_of said) ⊎ IsSome (srat_block_of said) → (0 < length (processors_of bytes)) ⊎ (0 < length (srat_blocks_of bytes))
one_more at bytes cpus blocks said here whole is processors others (inl some) =
    inl (subst (λ (told : List ℕ). 0 < length told) processors
    (values_not_empty (processor_domain_at bytes) at bytes cpus here whole (subst (λ (s : SratEntry). IsSome (processor_of s)) is some)))
one_more at bytes cpus blocks said here whole is processors others (inr some) =
    inr (subst (λ (told : List SratBlock). 0 < length told) others
    (values_not_empty (srat_block_at bytes) at bytes blocks here whole (subst (λ (s : SratEntry). IsSome (srat_block_of s)) is some)))

pub returns-in_err-append_srat_entry-clause-some : goal.returns-in_err-append_srat_entry-clause-some
returns-in_err-append_srat_entry-clause-some c = λ err.
    let l = c.loop-at in
    let bytes = c.args.bytes.now in
    let whole = whole_here l.at bytes c.loop-at-test.true l.invariant.sound in
    one_more l.at bytes l.srat.cpus.items l.srat.blocks.items c.srat_entry_at.result c.loop-at-test.true whole c.srat_entry_at.ensures
    l.invariant.processors l.invariant.blocks (c.in_err-append_srat_entry.ensures.some refl)

pub returns-clause-processors : goal.returns-clause-processors
returns-clause-processors c =
    sym (values_at_end (processor_domain_at c.args.bytes.now) c.loop-at.at c.args.bytes.now c.loop-at.srat.cpus.items c.loop-at-test.false)
    ∙ c.loop-at.invariant.processors

pub returns-clause-blocks : goal.returns-clause-blocks
returns-clause-blocks c =
    sym (values_at_end (srat_block_at c.args.bytes.now) c.loop-at.at c.args.bytes.now c.loop-at.srat.blocks.items c.loop-at-test.false)
    ∙ c.loop-at.invariant.blocks
