use Rattle.std.proofs.Common.{◌≡◌, ◌+◌, ◌/◌, ◌%◌, ◌≤◌, length, refl, sym, ap, ◌∙◌, inl, ⊎_elim, arith, length-drop}
use Rattle.std.specs.Slice.Iter.{iter_rest}
use Rattle.std.specs.Iterator.Adapters.{enumerate_source, enumerate_count, zip_first}
use Rattle.calls.specs.Instructions.{changes, move, written}
use Rattle.book.proofs.Walks.{next_of}
use Rattle.book.proofs.Collected.{collected, collected_none, change_at, changes_is, has_room, turn}
use Rattle.book.proofs.pledges.write_changes.Goals as goal

pub loop-place-init : goal.loop-place-init
loop-place-init c =
    let none : enumerate_count c.into_iter-place-iterator.result ≡ 0 = cc in
    let rest : iter_rest (zip_first (enumerate_source c.into_iter-place-iterator.result)) ≡ c.args.standing.now = cc in
    let first = collected_none (change_at c.args.standing.now c.args.working.now) in
    ((((tt, tt), tt, inl (omega (arith, none, ap length rest))), tt), rw none (omega arith), rw none (cc), rw none (cc), rw (none, first) refl, rw (none, first) refl)

pub invariant_of-change : goal.invariant_of-change
invariant_of-change c =
    let i = enumerate_count c.loop-place.place-iterator in
    let inv = c.loop-place.invariant in
    let steps = c.in-Some.ensures.steps in
    let s = next_of c.args.standing.now _ i c.in-Some.old.now (sym inv.2 ∙ steps.0.0) in
    let w = next_of c.args.working.now _ i c.in-Some.new.now (sym inv.3 ∙ steps.0.1) in
    record {
      within = (omega (arith, s.0, steps.1), omega arith);
      low = (omega (arith, s.1 0, c.requires.low.0 i), omega (arith, w.1 0, c.requires.low.1 i));
    }

pub write-count-requires : goal.write-count-requires
unfolding change_at
write-count-requires c =
    let old = c.args.standing.now in
    let new = c.args.working.now in
    let i = enumerate_count c.loop-place.place-iterator in
    let inv = c.loop-place.invariant in
    let steps = c.in-Some.ensures.steps in
    let s = next_of old _ i c.in-Some.old.now (sym inv.2 ∙ steps.0.0) in
    let w = next_of new _ i c.in-Some.new.now (sym inv.3 ∙ steps.0.1) in
    let room : length (collected (change_at old new) 1024) ≤ length c.args.list.now = omega (arith, c.requires.room, ap length (changes_is old new 1024)) in
    let is : change_at old new i ≡ move (c.in-Some.place / 16) (c.in-Some.place % 16) c.in-Some.old.now c.in-Some.new.now = rw (s.1 0, w.1 0, steps.1) refl in
    record {
      room = λ d. omega (
        arith,
        has_room (change_at old new) i 1024 c.args.list.now c.loop-place.list (c.in-Some.place / 16) (c.in-Some.place % 16) c.in-Some.old.now c.in-Some.new.now is
            (omega (arith, s.0)) room d,
        inv.4,
        c.loop-place.auto.list,
      );
    }

pub loop-place-preserved : goal.loop-place-preserved
unfolding change_at
loop-place-preserved c =
    let old = c.args.standing.now in
    let new = c.args.working.now in
    let i = enumerate_count c.loop-place.place-iterator in
    let inv = c.loop-place.invariant in
    let steps = c.in-Some.ensures.steps in
    let s = next_of old _ i c.in-Some.old.now (sym inv.2 ∙ steps.0.0) in
    let w = next_of new _ i c.in-Some.new.now (sym inv.3 ∙ steps.0.1) in
    let room : length (collected (change_at old new) 1024) ≤ length c.args.list.now = omega (arith, c.requires.room, ap length (changes_is old new 1024)) in
    let is : change_at old new i ≡ move (c.in-Some.place / 16) (c.in-Some.place % 16) c.in-Some.old.now c.in-Some.new.now = rw (s.1 0, w.1 0, steps.1) refl in
    let t = turn (change_at old new) i 1024 c.args.list.now c.loop-place.list (c.in-Some.place / 16) (c.in-Some.place % 16) c.in-Some.old.now c.in-Some.new.now is
    (omega (arith, s.0)) room c.loop-place.count inv.4 inv.5 in
    let next : enumerate_count c.next.new.self ≡ i + 1 = steps.2 in
    ((((tt, tt), tt, inl (omega (arith, next, s.0, ap length s.2, length-drop (i + 1) old))), tt), rw next (omega (arith, s.0)), rw next s.2, rw next w.2, rw next (c.write-count.ensures.count ∙ t.0), rw next (c.write-count.ensures.list ∙ t.1))

pub returns : goal.returns
returns c =
    let old = c.args.standing.now in
    let new = c.args.working.now in
    let i = enumerate_count c.loop-place.place-iterator in
    let inv = c.loop-place.invariant in
    let steps = c.in-None.ensures.steps in
    let all : i ≡ 1024 = ⊎_elim (λ w. omega (arith, w.1.0, ap length inv.2, length-drop i old)) (λ w. omega (arith, w.1.0, ap length inv.3, length-drop i new)) steps.0 in
    let count : c.loop-place.count ≡ length (changes old new 1024) = inv.4 ∙ (ap (λ k. length (collected (change_at old new) k)) all ∙ sym (ap length (changes_is old new 1024))) in
    record {
      count = count;
      fits = omega (arith, c.requires.room, count);
      after = inv.5 ∙ (ap (λ k. written (collected (change_at old new) k) c.args.list.now) all ∙ sym (ap (λ xs. written xs c.args.list.now) (changes_is old new 1024)));
    }
