-- What two hexadecimal digits write fits a byte.

use Rattle.std.proofs.Common.{ℕ, ◌^◌, ◌<◌, ◌≤◌, List, [], ◌∷◌, length, arith}
use Rattle.std.specs.Str.Parse.{IsNumeral, digits_value}

pub two_digits : (bs : List ℕ) → IsNumeral 16 bs → length bs ≤ 2 → digits_value 16 bs < 2 ^ 8
two_digits [] d h = absurd (omega (arith, d.0))
two_digits (a ∷ []) d h = omega (arith, d.1.0)
two_digits (a ∷ b ∷ []) d h = omega (arith, d.1.0, d.1.1.0)
two_digits (a ∷ b ∷ c ∷ bs) d h = absurd (omega arith)
