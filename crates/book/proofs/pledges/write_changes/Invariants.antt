use Rattle.std.proofs.Common.{◌≡◌, ◌≤◌, length, drop}
use Rattle.std.specs.Slice.Iter.{iter_rest}
use Rattle.std.specs.Iterator.Adapters.{enumerate_source, enumerate_count, zip_first, zip_second}
use Rattle.calls.specs.Instructions.{written}
use Rattle.book.proofs.Collected.{collected, change_at}
use Rattle.book.proofs.pledges.write_changes.Given as goal

abbrev pub invariant-loop-place : goal.invariant-loop-place
invariant-loop-place l =
    let at = enumerate_count l.place-iterator in
    let so_far = collected (change_at l.standing l.working) at in
    ((goal.iterator-loop-place).can_next l.place-iterator × (goal.iterator-loop-place).is_finite l.place-iterator)
    × (at ≤ 1024)
    × (iter_rest (zip_first (enumerate_source l.place-iterator)) ≡ drop at l.standing)
    × (iter_rest (zip_second (enumerate_source l.place-iterator)) ≡ drop at l.working)
    × (l.count ≡ length so_far)
    × (l.list ≡ written so_far l.initial.list)
