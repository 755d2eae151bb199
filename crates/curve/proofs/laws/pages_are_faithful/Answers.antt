use Rattle.curve.proofs.Faithful.{same_bytes, not_both, one_refusal, one_curve}
use Rattle.curve.proofs.laws.pages_are_faithful.Goals as goal

pub returns : goal.returns
returns c = record {
  same = same_bytes;
  verdict = (λ bs p k j a r. not_both bs p a r, λ bs k k' j j' r s. one_refusal bs r s);
  curve = one_curve;
}
