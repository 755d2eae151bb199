-- To believe: nothing. A device of the proofs: what the lexer makes of a byte.

use Rattle.std.specs.Prelude.{ℕ, ◌-◌, Bool, true, false, cond, ◌==◌}
use Rattle.grammar.specs.declared.Field.TheVariants.{Class, Rating, Months, Issuer}
use Rattle.grammar.specs.declared.Sign.TheVariants.{Equal, Less, Greater}
use Rattle.grammar.specs.Grammar.{digit}
use Rattle.rule.specs.declared.text.Lead.TheVariants.{Letter, Not, Open}
use Rattle.rule.specs.declared.text.Follow.TheVariants.{And, Or, Close}
use Rattle.rule.specs.declared.text.Mark.{Mark}
use Rattle.rule.specs.declared.text.Mark.TheVariants.{Lead as Leads, Compare, Digit, Follow as Follows, Other}

abbrev pub mark_of : ℕ → Mark
mark_of b =
    cond (b == 99) (Leads (Letter Class))
    (cond (b == 114) (Leads (Letter Rating))
    (cond (b == 109) (Leads (Letter Months))
    (cond (b == 105) (Leads (Letter Issuer))
    (cond (b == 33) (Leads Not)
    (cond (b == 40) (Leads Open)
    (cond (b == 61) (Compare Equal)
    (cond (b == 60) (Compare Less)
    (cond (b == 62) (Compare Greater)
    (cond (digit b) (Digit (b - 48))
    (cond (b == 38) (Follows And)
    (cond (b == 124) (Follows Or)
    (cond (b == 41) (Follows Close) Other))))))))))))

-- the marks that count as steps; the brackets
abbrev pub steps : Mark → Bool
steps (Leads (Letter f)) = true
steps (Leads Not) = true
steps (Follows And) = true
steps (Follows Or) = true
steps _ = false

abbrev pub opens : Mark → Bool
opens (Leads Open) = true
opens _ = false

abbrev pub closes : Mark → Bool
closes (Follows Close) = true
closes _ = false
