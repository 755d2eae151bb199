-- To believe: what a refusal says of a fault of the card.

use Rattle.std.specs.Prelude.{◌≡◌, ℕ, Option, Some, None}
use Rattle.curve.specs.Card.{cause_of_load}
use Rattle.curve.specs.declared.card.CardFault.{CardFault}
use Rattle.curve.specs.declared.card.CardFault.TheVariants.{Page, Class}
use Rattle.report.specs.Reasons.{cause_of}
use Rattle.report.specs.declared.outcome.Refusal.{Refusal}

-- the point that a refused page names
abbrev pub point_of : CardFault → Option ℕ
point_of (Page f k) = Some f.point
point_of (Class k) = None

-- a refusal names the cause of a fault of the card, and its point
abbrev pub Names : Refusal → CardFault → Type 0
Names r f = (cause_of r.reason ≡ cause_of_load f) × (r.point ≡ point_of f)
