use Rattle.curve.proofs.Ordered.{rises, value_low, value_falls}
use Rattle.curve.proofs.laws.values_fall.Goals as goal

pub returns : goal.returns
returns c = (value_low, λ p law market m m' h h' l x y. value_falls market h h' (rises p law l x y))
