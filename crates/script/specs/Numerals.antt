-- To believe: which words are numbers, and which are bytes in hexadecimal.

use Rattle.std.specs.Prelude.{◌≡◌, ℕ, ◌^◌, ◌<◌, ◌≤◌, List, length}
use Rattle.std.specs.Str.Parse.{IsNumeral, digits_value}

-- a word of decimal digits alone, one or more, whose value fits 64 bits
pub record Decimal (word : List ℕ) (n : ℕ) : Type 0 where
  pub digits : IsNumeral 10 word
  pub is : n ≡ digits_value 10 word
  pub fits : n < 2 ^ 64

-- a word of one or two hexadecimal digits, in either case
pub record HexByte (word : List ℕ) (b : ℕ) : Type 0 where
  pub digits : IsNumeral 16 word
  pub short : length word ≤ 2
  pub is : b ≡ digits_value 16 word
