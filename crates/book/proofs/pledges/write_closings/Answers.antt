use Rattle.std.proofs.Common.{◌≡◌, ◌+◌, ◌*◌, ◌≤◌, length, get_or, refl, sym, ap, ◌∙◌, inl, arith, length-drop}
use Rattle.std.specs.Slice.Iter.{chunks_exact_rest, chunks_exact_size}
use Rattle.std.specs.Iterator.Adapters.{enumerate_source, enumerate_count}
use Rattle.calls.specs.Instructions.{closings, move, written}
use Rattle.book.proofs.Walks.{row_of}
use Rattle.book.proofs.Collected.{collected, collected_none, closing_at, closings_is, has_room, turn}
use Rattle.book.proofs.pledges.write_closings.Goals as goal

pub loop-lot-init : goal.loop-lot-init
loop-lot-init c =
    let none : enumerate_count c.into_iter-lot-iterator.result ≡ 0 = cc in
    let size : chunks_exact_size (enumerate_source c.into_iter-lot-iterator.result) ≡ 16 = cc in
    let rest : chunks_exact_rest (enumerate_source c.into_iter-lot-iterator.result) ≡ c.args.standing.now = cc in
    let first = collected_none (closing_at c.args.standing.now c.args.exposure.at) in
    (((omega (arith, size), tt, inl (rw size (omega (arith, none, ap length rest)))), tt), rw none (omega arith), size, rw none rest, rw (none, first) refl, rw (none, first) refl)

pub invariant_of-change : goal.invariant_of-change
invariant_of-change c =
    let inv = c.loop-lot.invariant in
    let steps = c.in-Some.ensures.steps in
    let l = enumerate_count c.loop-lot.lot-iterator in
    let row = row_of c.args.standing.now c.in-Some.row.now _ l (sym inv.3 ∙ steps.0.1.0) (steps.0.1.1 ∙ inv.2) in
    record {
      within = (omega (arith, row.0, steps.1), c.args.exposure.within);
      low = (omega (arith, row.1 c.args.exposure.at c.args.exposure.within, c.requires.low (l * 16 + c.args.exposure.at)), omega arith);
    }

pub write-count-requires : goal.write-count-requires
unfolding closing_at
write-count-requires c =
    let t = c.args.standing.now in
    let e = c.args.exposure.at in
    let l = enumerate_count c.loop-lot.lot-iterator in
    let inv = c.loop-lot.invariant in
    let steps = c.in-Some.ensures.steps in
    let old = get_or c.in-Some.row.now e 0 in
    let row = row_of t c.in-Some.row.now _ l (sym inv.3 ∙ steps.0.1.0) (steps.0.1.1 ∙ inv.2) in
    let room : length (collected (closing_at t e) 64) ≤ length c.args.list.now = omega (arith, c.requires.room, ap length (closings_is t e 64)) in
    let is : closing_at t e l ≡ move c.in-Some.lot e old 0 = rw (row.1 e c.args.exposure.within, steps.1) refl in
    record { room = λ d. omega (arith, has_room (closing_at t e) l 64 c.args.list.now c.loop-lot.list c.in-Some.lot e old 0 is (omega (arith, row.0)) room d, inv.4, c.loop-lot.auto.list) }

pub loop-lot-preserved : goal.loop-lot-preserved
unfolding closing_at
loop-lot-preserved c =
    let t = c.args.standing.now in
    let e = c.args.exposure.at in
    let l = enumerate_count c.loop-lot.lot-iterator in
    let inv = c.loop-lot.invariant in
    let steps = c.in-Some.ensures.steps in
    let old = get_or c.in-Some.row.now e 0 in
    let row = row_of t c.in-Some.row.now _ l (sym inv.3 ∙ steps.0.1.0) (steps.0.1.1 ∙ inv.2) in
    let room : length (collected (closing_at t e) 64) ≤ length c.args.list.now = omega (arith, c.requires.room, ap length (closings_is t e 64)) in
    let is : closing_at t e l ≡ move c.in-Some.lot e old 0 = rw (row.1 e c.args.exposure.within, steps.1) refl in
    let turned = turn (closing_at t e) l 64 c.args.list.now c.loop-lot.list c.in-Some.lot e old 0 is (omega (arith, row.0)) room c.loop-lot.count inv.4 inv.5 in
    let size : chunks_exact_size (enumerate_source c.next.new.self) ≡ 16 = steps.0.0 ∙ inv.2 in
    let next : enumerate_count c.next.new.self ≡ l + 1 = steps.2 in (
      ((omega (arith, size), tt, inl (rw size (omega (arith, next, row.0)))), tt),
      rw next (omega (arith, row.0)),
      size,
      rw next row.2,
      rw next (c.write-count.ensures.count ∙ turned.0),
      rw next (c.write-count.ensures.list ∙ turned.1),
    )

pub returns : goal.returns
returns c =
    let t = c.args.standing.now in
    let e = c.args.exposure.at in
    let l = enumerate_count c.loop-lot.lot-iterator in
    let inv = c.loop-lot.invariant in
    let steps = c.in-None.ensures.steps in
    let all : l ≡ 64 = omega (arith, steps.0.1.0, ap length inv.3, length-drop (l * 16) t, inv.2) in
    let count : c.loop-lot.count ≡ length (closings t e 64) = inv.4 ∙ (ap (λ k. length (collected (closing_at t e) k)) all ∙ sym (ap length (closings_is t e 64))) in
    record {
      count = count;
      fits = omega (arith, c.requires.room, count);
      after = inv.5 ∙ (ap (λ k. written (collected (closing_at t e) k) c.args.list.now) all ∙ sym (ap (λ xs. written xs c.args.list.now) (closings_is t e 64)));
    }
