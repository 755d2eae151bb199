-- To believe: nothing. A device of the proofs: for which cause the reader refuses a mark, from its mode, the number of
-- open brackets and the number of steps before. At one byte the cause of the smaller number comes first.

use Rattle.std.specs.Prelude.{◌≡◌, ℕ, ◌+◌, ◌*◌, Bool, true, false, cond, ◌&&◌, ◌||◌, Ok, Err, Result, ◌==◌, nat_lt}
use Rattle.cause.specs.declared.Cause.{Cause}
use Rattle.cause.specs.declared.Cause.TheVariants.{ByteUnexpected, NumberLarge, BracketDeep, StepsMany}
use Rattle.grammar.specs.Grammar.{largest, deepest, most_steps}
use Rattle.rule.specs.declared.fault.TextFault.{TextFault}
use Rattle.rule.specs.declared.text.Follow.TheVariants.{And, Or, Close}
use Rattle.rule.specs.declared.text.Mark.{Mark}
use Rattle.rule.specs.declared.text.Mark.TheVariants.{Lead as Leads, Compare, Digit, Follow as Follows}
use Rattle.rule.specs.declared.text.Mode.{Mode}
use Rattle.rule.specs.declared.text.Mode.TheVariants.{Want, Named, Signed, Counting, Done}
use Rattle.rule.specs.Marks.{steps, opens}

abbrev pub is_lead : Mark → Bool
is_lead (Leads h) = true
is_lead _ = false

abbrev pub is_sign : Mark → Bool
is_sign (Compare s) = true
is_sign _ = false

abbrev pub is_digit : Mark → Bool
is_digit (Digit k) = true
is_digit _ = false

-- a closing bracket wants an open one
abbrev pub is_follow : Mark → ℕ → Bool
is_follow (Follows And) d = true
is_follow (Follows Or) d = true
is_follow (Follows Close) d = nat_lt 0 d
is_follow _ d = false

abbrev pub expects : Mode → Mark → ℕ → Bool
expects Want m d = is_lead m
expects (Named f) m d = is_sign m
expects (Signed f s) m d = is_digit m
expects (Counting f s v) m d = is_digit m || is_follow m d
expects Done m d = is_follow m d

-- the number would become too large
abbrev pub large : Mode → Mark → Bool
large (Counting f s v) (Digit k) = nat_lt largest (10 * v + k)
large _ _ = false

abbrev pub fault : Cause → ℕ → Result (Unit {0}) TextFault
fault c i = Err (record { cause = c; place = i })

-- the verdict on the mark at the place i, where the last number began at k
abbrev pub verdict : Mode → Mark → ℕ → ℕ → ℕ → ℕ → Result (Unit {0}) TextFault
verdict w m d n i k =
    cond (expects w m d)
    (cond (large w m) (fault NumberLarge k)
    (cond (opens m && d == deepest) (fault BracketDeep i)
    (cond (steps m && n == most_steps) (fault StepsMany i) (Ok tt))))
    (fault ByteUnexpected i)

-- nothing is against the mark
pub record Allowed (w : Mode) (m : Mark) (d n : ℕ) : Type 0 where
  pub expected : expects w m d ≡ true
  pub small : large w m ≡ false
  pub shallow : (opens m && d == deepest) ≡ false
  pub few : (steps m && n == most_steps) ≡ false

-- after a sign at the place i the number begins
abbrev pub first_digit : Mark → ℕ → ℕ → ℕ
first_digit (Compare s) i k = i + 1
first_digit _ i k = k
