use Rattle.std.proofs.Common.{◌≡◌, ◌+◌, ◌-◌, rules, ◌++◌, arith, sym, ◌∙◌, append-nil}
use Rattle.efi_map.specs.Descriptors.{mirror_of_descriptor}
use Rattle.efi_map.specs.Map.{nth_descriptor, descriptors_from, mirrors_of_descriptors}
use Rattle.efi_map.proofs.DescriptorLaws.{near_now, fits, far_miss, entries_on, mirrors_on, none_more}
use Rattle.efi_map.proofs.efi.read_descriptors.Goals as goal
use Rattle.efi_map.proofs.efi.read_descriptors.Goals.{in-Some+in_ok-push-2, in_default}

pub entry-requires : goal.entry-requires
entry-requires c = rw c.nth_descriptor-descriptor.ensures
    (fits (nth_descriptor c.args.stride c.loop-index.index c.args.bytes.now)
    (near_now c.args.stride c.loop-index.index c.args.count c.args.bytes.now (omega arith) c.loop-index.invariant.0))

pub mirror_of_descriptor-requires : goal.mirror_of_descriptor-requires
mirror_of_descriptor-requires c = rw c.nth_descriptor-descriptor.ensures
    (fits (nth_descriptor c.args.stride c.loop-index.index c.args.bytes.now)
    (near_now c.args.stride c.loop-index.index c.args.count c.args.bytes.now (omega arith) c.loop-index.invariant.0))

pub loop-index-preserved : goal.loop-index-preserved
loop-index-preserved c =
    let i = c.loop-index.index in
    let stride = c.args.stride in
    let n = c.args.count in
    let bytes = c.args.bytes.now in
    let near = near_now stride i n bytes (omega arith) c.loop-index.invariant.0 in
    let others = mirrors_of_descriptors (descriptors_from stride (i + 1) (n - (i + 1)) bytes) in
    let all = mirrors_of_descriptors (descriptors_from stride 0 n bytes) in
    let same : c.mirror_of_descriptor.result ≡ mirror_of_descriptor (nth_descriptor stride i bytes) =
    rw (← c.nth_descriptor-descriptor.ensures) c.mirror_of_descriptor.ensures in
    let on = mirrors_on c.loop-index.mirrors.items c.mirror_of_descriptor.result stride i n bytes (omega arith) same
    ∙ c.loop-index.invariant.2 in (
      sym (far_miss stride i n bytes (omega arith) near) ∙ c.loop-index.invariant.0,
      rw (c.in_ok-push.ensures.items, c.entry.ensures, c.nth_descriptor-descriptor.ensures)
          (entries_on c.loop-index.entries.items stride i n bytes (omega arith) ∙ c.loop-index.invariant.1),
      elim c.match-mirror_of_descriptor.branch as (λ _. c.match-mirror_of_descriptor.mirrors.items ++ others ≡ all) [
        | in-Some+in_ok-push-2 w ↦ search (rules, on)
        | in_default w ↦ search (rules, on)
      ],
    )

pub returns-clause-entries : goal.returns-clause-entries
returns-clause-entries c = let none = none_more c.args.stride c.loop-index.index c.args.count c.args.bytes.now (omega arith) in
    sym (append-nil c.loop-index.entries.items) ∙ rw none at c.loop-index.invariant.1

pub returns-clause-mirrors : goal.returns-clause-mirrors
unfolding mirrors_of_descriptors
returns-clause-mirrors c = let none = none_more c.args.stride c.loop-index.index c.args.count c.args.bytes.now (omega arith) in
    sym (append-nil c.loop-index.mirrors.items) ∙ rw none at c.loop-index.invariant.2
