use Rattle.std.proofs.Common.{◌≡◌, ◌*◌, ◌≤◌, length, drop}
use Rattle.std.specs.Slice.Iter.{chunks_exact_rest, chunks_exact_size}
use Rattle.std.specs.Iterator.Adapters.{enumerate_source, enumerate_count}
use Rattle.calls.specs.Instructions.{written}
use Rattle.book.proofs.Collected.{collected, closing_at}
use Rattle.book.proofs.pledges.write_closings.Given as goal

abbrev pub invariant-loop-lot : goal.invariant-loop-lot
invariant-loop-lot l =
    let at = enumerate_count l.lot-iterator in
    let so_far = collected (closing_at l.standing l.exposure.at) at in
    ((goal.iterator-loop-lot).can_next l.lot-iterator × (goal.iterator-loop-lot).is_finite l.lot-iterator)
    × (at ≤ 64)
    × (chunks_exact_size (enumerate_source l.lot-iterator) ≡ 16)
    × (chunks_exact_rest (enumerate_source l.lot-iterator) ≡ drop (at * 16) l.standing)
    × (l.count ≡ length so_far)
    × (l.list ≡ written so_far l.initial.list)
