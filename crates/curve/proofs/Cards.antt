-- The curves of a card.

use Rattle.std.proofs.Common.{◌≡◌, ℕ, zero, suc, ◌<◌, List, [], ◌∷◌, length, get_or, Ok, Err, Result, refl, arith, MatchResult, IsErrAnd}
use Rattle.curve.specs.Held.{held}
use Rattle.curve.specs.Card.{nth_points}
use Rattle.curve.specs.declared.curve.Curve.{Curve}

-- the curve that is read at a place of the card
pub nth_points_read : (cs : List Curve) (k : ℕ) (d : Curve) → k < length cs → nth_points cs k ≡ held (get_or cs k d)
nth_points_read [] k d h = absurd (omega arith)
nth_points_read (x ∷ cs) zero d h = refl
nth_points_read (x ∷ cs) (suc k) d h = nth_points_read cs k d (omega arith)

-- a page's fault, changed on its way up
pub mapped : {X E F : Type 0} (r : Result X E) (m : Result X F) (P : X → Type 0) (Q : E → Type 0) (G : E → F → Type 0) → MatchResult r P Q
    → MatchResult r (λ x. m ≡ Ok x) (λ e. IsErrAnd m (G e)) → MatchResult m P (λ f. (e : E) × Q e × G e f)
mapped (Ok x) m P Q G p e = rw e p
mapped (Err y) (Ok x) P Q G q h = absurd h
mapped (Err y) (Err z) P Q G q h = (y, q, h)
