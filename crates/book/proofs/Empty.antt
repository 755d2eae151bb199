-- What an empty book keeps.

use Rattle.std.proofs.Common.{◌≡◌, ℕ, zero, suc, List, get_or, replicate, None, Option, refl, ap, arith}
use Rattle.curve.specs.declared.lot.Lot.{Lot}
use Rattle.calls.specs.declared.Exposure.{Exposure}
use Rattle.calls.specs.Situation.{worth_of, amount_of}
use Rattle.book.specs.Kept.{Grounded, Low, Worths, Amounts}

-- every element of such a list is the default
pub all_same : {A : Type 0} (n p : ℕ) (d : A) → get_or (replicate n d) p d ≡ d
all_same zero p d = refl
all_same (suc n) zero d = refl
all_same (suc n) (suc p) d = all_same n p d

pub zeros_low : (n : ℕ) → Low (replicate n 0)
zeros_low n p = rw (all_same {A = ℕ} n p 0) (omega arith)

pub zeros_grounded : (lots : List (Option Lot)) (xs : List (Option Exposure)) (n : ℕ) → Grounded lots xs (replicate n 0)
zeros_grounded lots xs n p h = absurd (omega (arith, h.1, all_same {A = ℕ} n p 0))

pub none_worth : (n : ℕ) → Worths (replicate n None)
none_worth n l = rw (ap worth_of (all_same n l None)) (omega arith)

pub none_amount : (n : ℕ) → Amounts (replicate n None)
none_amount n e = rw (ap amount_of (all_same n e None)) (omega arith)
