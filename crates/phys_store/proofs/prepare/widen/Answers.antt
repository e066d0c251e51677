use Rattle.std.proofs.Common.{◌≡◌, ◌+◌, ◌-◌, ◌≤◌, List, ℕ, ◌∙◌, ap, sym, refl, length, drop, replicate, arith, ◌++◌, length-append}
use Rattle.std.proofs.lemmas.List.{length-drop, length-replicate, with_items_is}
use borrow.Rule.Slice.PartMut.{put_mid}
use Rattle.phys_store.specs.Bytes.{ExtentView}
use Rattle.phys_store.specs.Extents.{extent_view}
use Rattle.phys_store.proofs.Writes.{filled, length-mid}
use Rattle.phys_store.proofs.Widening.{same_piece, widened}
use Rattle.phys_store.proofs.prepare.widen.Goals as goal

pub returns-clause-ok : goal.returns-clause-ok
returns-clause-ok c =
    let p = extent_view c.args.extent.now in
    let r = c.make_room.new.extent in
    let v = c.append_zeros.new.bytes in
    let xs : List ℕ = r.bytes.items in
    let zs : List ℕ = c.deref_mut.result.now in
    let ys : List ℕ = c.fill.new.self in
    let down : ℕ = c.args.extent.now.base - c.args.low in
    let up : ℕ = c.args.high - c.end_of_extent.result in
    let f1 : ℕ = r.front in
    let f2 : ℕ = f1 - down in
    let m : ℕ = f1 - f2 in
    let bytes : drop f1 xs ≡ p.bytes = ap (λ (q : ExtentView). q.bytes) c.in_ok-make_room.ensures.same in
    let room : down ≤ f1 = c.in_ok-make_room.ensures.room in
    let all : zs ≡ xs ++ replicate up 0 = c.deref_mut.ensures.value ∙ c.in_ok-append_zeros.ensures.ok in
    let long : length xs ≡ f1 + length p.bytes = omega (arith, length-drop f1 xs, ap length bytes, c.requires.some) in
    let size : length zs ≡ length xs + up =
    ap length all ∙ length-append xs (replicate up 0) ∙ ap (λ n. length xs + n) (length-replicate up 0) in
    let within : f2 + m ≤ length zs = omega (arith, size, long, room) in
    let zeros = filled f2 m zs ys 0 within (c.fill.ensures.after (λ y same. same)) in
    let is = with_items_is v (put_mid f2 m zs ys)
    (length-mid f2 m zs ys zeros.0 within ∙ ap length c.deref_mut.ensures.value ∙ sym v.ok.0) in
    same_piece c.args.low c.args.low _ _ refl (ap (drop f2) is
    ∙ widened p c.args.low c.args.high f1 f2 up xs zs ys c.requires.some bytes c.requires.low c.requires.high room refl
    (ap (λ n. c.args.high - n) c.end_of_extent.ensures) all zeros.0 zeros.1)
