use Rattle.cover.specs.PictureLemmas.{slot_below}
use Rattle.cover.proofs.drawn.Drawn.slot_of.Goals as goal

pub returns-clause-low : goal.returns-clause-low
returns-clause-low c = slot_below c.args.self.now c.args.l c.requires
