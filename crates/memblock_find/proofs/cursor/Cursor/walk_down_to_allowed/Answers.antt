use Rattle.std.proofs.Common.{◌≤◌, arith}
use Rattle.memblock_find.proofs.NodeLaws.{ends_by_bound, begun_at_end, passed_over}
use Rattle.memblock_find.proofs.cursor.Cursor.walk_down_to_allowed.Goals as goal

pub look_down-requires : goal.look_down-requires
look_down-requires c =
    let next = c.requires.down.memory.next in
    begun_at_end c.args.lists.now.memory c.count_to_last_allowed-count.result c.end_of_records-at.result next.runs
    (omega (arith, next.within, c.count_to_last_allowed-count.ensures.within)) c.end_of_records-at.ensures.none
    c.end_of_records-at.ensures.end

pub look_after_jump-requires-clause-below : goal.look_after_jump-requires-clause-below
look_after_jump-requires-clause-below c =
    let ends : c.end_of_records-at.result ≤ c.args.self.now.memory.bound =
    ends_by_bound c.args.lists.now.memory c.args.self.now.at c.count_to_last_allowed-count.result c.end_of_records-at.result
    c.args.self.now.memory
    c.requires.down.memory c.count_to_last_allowed-count.ensures.within c.end_of_records-at.ensures.none c.end_of_records-at.ensures.end in
    omega (arith, c.requires.down.memory.order)

pub returns-clause-order : goal.returns-clause-order
returns-clause-order c =
    ends_by_bound c.args.lists.now.memory c.args.self.now.at c.count_to_last_allowed-count.result c.end_of_records-at.result
    c.args.self.now.memory
    c.requires.down.memory c.count_to_last_allowed-count.ensures.within c.end_of_records-at.ensures.none c.end_of_records-at.ensures.end

pub returns-clause-passed : goal.returns-clause-passed
returns-clause-passed c =
    passed_over c.args.lists.now.memory c.args.mirror c.args.node c.args.self.now.at c.count_to_last_allowed-count.result
    c.end_of_records-at.result
    c.args.self.now.memory
    c.requires.down.memory c.requires.narrow c.count_to_last_allowed-count.ensures.within c.end_of_records-at.ensures.end
    c.count_to_last_allowed-count.ensures.passed
