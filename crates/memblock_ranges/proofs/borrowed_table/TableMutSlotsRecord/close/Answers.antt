use Rattle.std.proofs.Common.{◌+◌, ◌-◌, ◌*◌, ◌++◌, take, drop, refl, ◌∙◌, arith}
use Rattle.memblock_ranges.specs.Tables.{records_of_head}
use Rattle.memblock_ranges.proofs.LentLaws.{count_is}
use Rattle.memblock_ranges.proofs.ByteEdits.{Edited, edited_kept, close_table}
use Rattle.memblock_ranges.proofs.borrowed_table.TableMutSlotsRecord.close.Goals as goal
use Rattle.memblock_ranges.proofs.borrowed_table.TableMutSlotsRecord.close.Goals.{After-fill}

pub overflow_add-i : goal.overflow_add-i
overflow_add-i c = let l = c.args.self.now in omega (arith, l.table.few, l.table.fits, c.requires, count_is l.store.now l.head.now)

pub overflow_mul-i : goal.overflow_mul-i
overflow_mul-i c = let l = c.args.self.now in omega (arith, l.table.few, l.table.fits, c.requires, count_is l.store.now l.head.now)

pub overflow_add-place : goal.overflow_add-place
overflow_add-place c = let l = c.args.self.now in omega (arith, l.table.few, l.table.fits, c.requires, count_is l.store.now l.head.now)

pub overflow_mul-i-2 : goal.overflow_mul-i-2
overflow_mul-i-2 c = let l = c.args.self.now in omega (arith, l.table.few, l.table.fits, c.requires, count_is l.store.now l.head.now)

pub overflow_add-place-2 : goal.overflow_add-place-2
overflow_add-place-2 c = let l = c.args.self.now in omega (arith, l.table.few, l.table.fits, c.requires, count_is l.store.now l.head.now)

pub overflow_add-i-2 : goal.overflow_add-i-2
overflow_add-i-2 c = let l = c.args.self.now in omega (arith, l.table.few, l.table.fits, c.requires, count_is l.store.now l.head.now)

pub overflow_mul-freed-2 : goal.overflow_mul-freed-2
overflow_mul-freed-2 c = let l = c.args.self.now in omega (arith, l.table.few, l.table.fits, c.requires, count_is l.store.now l.head.now)

pub move_bytes-requires : goal.move_bytes-requires
move_bytes-requires c =
    let t = c.args.self.now.table in
    let low = count_is c.args.self.now.store.now c.args.self.now.head.now in
    λ x from to. t.prepared x (omega (arith, from, c.requires)) (omega (arith, to, t.few, c.requires, low))

pub fill-requires : goal.fill-requires
fill-requires c =
    let t = c.args.self.now.table in
    let low = count_is c.args.self.now.store.now c.args.self.now.head.now in
    λ x from to. c.move_bytes.ensures.ready x ∙ t.prepared x (omega (arith, from)) (omega (arith, to, t.few, c.requires, low))

-- the table after the edit
closed : (c : After-fill) → let l = c.args.self.now in
    let rs = records_of_head l.store.now l.head.now in
    Edited l.store.now c.fill.new.self l.head.now.place l.head.now.room (l.head.now.count - c.args.n)
    (take c.args.i rs ++ drop (c.args.i + c.args.n) rs)
closed c =
    let l = c.args.self.now in
    let h = l.head.now in
    let i = c.args.i in
    let n = c.args.n in
    let low = count_is l.store.now h in
    close_table l.store.now c.move_bytes.new.self c.fill.new.self h.place h.room h.count i n (h.place + 24 * (i + n)) (h.place + 24 * i)
    (24 * (h.count - (i + n))) (h.place + 24 * (h.count - n)) (24 * n) l.table (omega (arith, c.requires, low)) c.move_bytes.ensures
    c.fill.ensures refl refl refl refl refl

pub invariant_of-self : goal.invariant_of-self
invariant_of-self c = record { table = (closed (goal.at.invariant_of-self c).After-fill).table }

pub returns-clause-list : goal.returns-clause-list
returns-clause-list c = (closed (goal.at.returns-clause-list c).After-fill).list_is

pub returns-clause-keeps : goal.returns-clause-keeps
returns-clause-keeps c = (refl, refl, edited_kept _ _ _ _ _ _ (closed (goal.at.returns-clause-keeps c).After-fill))
