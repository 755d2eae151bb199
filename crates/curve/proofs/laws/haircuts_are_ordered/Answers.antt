use Rattle.curve.proofs.Ordered.{rises, one, neighbours, ends, none_past}
use Rattle.curve.proofs.laws.haircuts_are_ordered.Goals as goal

pub returns : goal.returns
returns c = record {
  rise = λ p law m m' h h' l x y. rises p law l x y;
  one = one;
  between = neighbours;
  end = λ p law m. (ends p law m, λ h x y. none_past p law x y);
}
