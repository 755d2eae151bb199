use Rattle.std.proofs.Common.{ap, ◌∙◌, arith}
use Rattle.cover.specs.Seen.{seen}
use Rattle.cover.specs.View.{issuer_of}
use Rattle.cover.proofs.First.{first_slot}
use Rattle.cover.proofs.problem.Problem.slot_at.Goals as goal

pub returns-in-Some-clause-slot : goal.returns-in-Some-clause-slot
returns-in-Some-clause-slot c = c.unwrap_or-slot.ensures ∙ first_slot (seen c.args.self.now) c.args.l c.in-Some.lot.issuer _ c.requires.1 (rw c.in-Some.is) (ap issuer_of c.in-Some.is) (c.requires.0 c.in-Some.lot.issuer (omega arith))
