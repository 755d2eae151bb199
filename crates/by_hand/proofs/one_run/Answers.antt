use Rattle.book.specs.View.{view}
use Rattle.life.proofs.Slips.{no_meaning, begun_held, never_stale}
use Rattle.by_hand.proofs.one_run.Goals as goal

-- the slip is that of the run that was just opened, so abandoning is not refused
pub unreachable-requires : goal.unreachable-requires
unreachable-requires c =
    let slip = c.in_ok-slip.slip in
    let s = view c.begin.new.self in
    never_stale no_meaning s _ slip (begun_held no_meaning (view c.args.book.now) s slip (c.in_ok-slip.ensures no_meaning)) _ _ (c.in-Err.ensures no_meaning)
