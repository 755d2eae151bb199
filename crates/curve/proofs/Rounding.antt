-- Quotients rounded up.

use Rattle.std.proofs.Common.{ℕ, ◌+◌, ◌-◌, ◌*◌, ◌/◌, ◌%◌, ◌≡◌, min, ◌<◌, ◌≤◌, div-lt_iff_lt-mul, add-mul, mul-le-mul_left, arith}
use native.Mathlib.Nat.{lt-div-mul-add, lt_of_mul-lt-mul_right}
use Rattle.std.proofs.lemmas.Grind.{div_ceil_times}
use Rattle.curve.specs.Points.{quotient_up, between}

-- at most e where e times the divisor is enough
pub up_le : (x d e : ℕ) → 0 < d → x ≤ e * d → quotient_up x d ≤ e
up_le x d e p h =
    let less : x + (d - 1) < (e + 1) * d = omega (arith, add-mul e 1 d) in
    omega (arith, (div-lt_iff_lt-mul {x = x + (d - 1)} {y = e + 1} p).1 less)

-- and as often as it says, the divisor is enough
pub le_up : (x d : ℕ) → 0 < d → x ≤ quotient_up x d * d
le_up x d p = omega (arith, lt-div-mul-add {a = x + (d - 1)} p)

pub up_mono : (x y d : ℕ) → 0 < d → x ≤ y → quotient_up x d ≤ quotient_up y d
up_mono x y d p h = up_le x d (quotient_up y d) p (omega (arith, le_up y d p))

-- between two points a haircut rises by no more than their difference
pub rise_le : (a b d m : ℕ) → a < b → m ≤ b → quotient_up (d * (m - a)) (b - a) ≤ d
rise_le a b d m h l = up_le (d * (m - a)) (b - a) d (omega arith) (mul-le-mul_left d (omega arith))

pub between_le : (a p b q m : ℕ) → a < b → m ≤ b → p ≤ q → between a p b q m ≤ q
between_le a p b q m h l r = omega (arith, rise_le a b (q - p) m h l)

pub between_mono : (a p b q m m' : ℕ) → a < b → m ≤ m' → between a p b q m ≤ between a p b q m'
between_mono a p b q m m' h l =
    omega (arith, up_mono ((q - p) * (m - a)) ((q - p) * (m' - a)) (b - a) (omega arith) (mul-le-mul_left (q - p) (omega arith)))

-- the library's quotient that is rounded up is this one
pub div_ceil_up : (x d : ℕ) → 0 < d → x / d + min 1 (x % d) ≡ quotient_up x d
div_ceil_up x d p =
    let c = x / d + min 1 (x % d) in
    let t = div_ceil_times x d p in
    let most : quotient_up x d ≤ c = up_le x d c p t.0 in
    let near : c * d < (quotient_up x d + 1) * d = omega (arith, t.1, le_up x d p, add-mul (quotient_up x d) 1 d) in
    let least : c < quotient_up x d + 1 = lt_of_mul-lt-mul_right d near in
    omega (arith, most, least)
