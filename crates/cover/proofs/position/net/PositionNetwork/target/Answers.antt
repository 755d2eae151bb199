use Rattle.std.proofs.Common.{sym, ◌∙◌}
use Rattle.cover.specs.PictureLemmas.{drawn_target}
use Rattle.cover.proofs.position.net.PositionNetwork.target.Goals as goal

pub returns : goal.returns
returns c = c.target.ensures ∙ sym (drawn_target c.args.self.now.drawn.now c.args.v c.args.i _ c.requires.0 c.requires.1 c.of.ensures.0)
