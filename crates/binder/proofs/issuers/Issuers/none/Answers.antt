use Rattle.std.proofs.Common.{◌≡◌, ℕ, zero, suc, false, replicate, refl}
use Rattle.binder.specs.Issuers.{listed}
use Rattle.binder.proofs.issuers.Issuers.none.Goals as goal

-- flags that are all down list nobody, within their number and past it
none_listed : (n i : ℕ) → listed (replicate n false) i ≡ false
none_listed zero i = refl
none_listed (suc n) zero = refl
none_listed (suc n) (suc i) = none_listed n i

pub returns : goal.returns
returns c = none_listed 256
