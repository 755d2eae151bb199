-- To believe: nothing. Worked figures to hold the definitions of Grammar against.

use Rattle.std.specs.Prelude.{◌≡◌, ℕ, Bool, true, false, List, [], codes}
use Rattle.grammar.specs.declared.Description.{Description}
use Rattle.grammar.specs.Grammar.{Tree, spell, holds, IsRule, Faultless, Least}
use Rattle.grammar.specs.Grammar.Sort.{rule}

-- the text is a rule and says v of x, whichever way it is read
abbrev pub Says : List ℕ → Description → Bool → Type 0
Says t x v = IsRule t × ((r : Tree rule) → spell r ≡ t → holds r x ≡ v)

abbrev pub lot : ℕ → ℕ → ℕ → ℕ → Description
lot c r m i = record { class = c; rating = r; months = m; issuer = i }

abbrev pub Figures : Type 0
Figures =
    ((c : ℕ) → Says (codes "r<11&(m<121|i=7)") (lot c 10 120 3) true)
    × ((c : ℕ) → Says (codes "r<11&(m<121|i=7)") (lot c 10 121 3) false)
    × Faultless (codes "m<65535")
    × Least (codes "m<65536") 7 2
    × Least [] 6 0
    × Least (codes "r<01") 6 3
