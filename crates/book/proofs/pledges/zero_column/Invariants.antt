use Rattle.std.proofs.Common.{◌≡◌}
use Rattle.calls.specs.Step.{zeroed}
use Rattle.book.proofs.pledges.zero_column.Given as goal

abbrev pub invariant-loop-lot : goal.invariant-loop-lot
invariant-loop-lot l = l.pledges ≡ zeroed l.initial.pledges l.fn.exposure.at l.lot
