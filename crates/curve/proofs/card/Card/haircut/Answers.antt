use Rattle.std.proofs.Common.{arith}
use Rattle.curve.proofs.Cards.{nth_points_read}
use Rattle.curve.proofs.card.Card.haircut.Goals as goal

pub returns : goal.returns
returns c =
    rw (nth_points_read c.args.self.now.curves c.args.class c.index-self-class.result (omega arith)) c.haircut.ensures
