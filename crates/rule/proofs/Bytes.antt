-- A byte and its mark say the same.

use Rattle.std.proofs.Common.{◌≡◌, ℕ, ◌-◌, true, cond, eqb, refl, arith}
use Rattle.std.proofs.lemmas.Bool.{eqb-true, cond_both}
use Rattle.std.proofs.lemmas.Bool.Decides.{nat_tests}
use Rattle.grammar.specs.declared.Field.{Field}
use Rattle.grammar.specs.declared.Field.TheVariants.{Class, Rating, Months, Issuer}
use Rattle.grammar.specs.declared.Sign.{Sign}
use Rattle.grammar.specs.declared.Sign.TheVariants.{Equal, Less, Greater}
use Rattle.grammar.specs.Grammar.{digit, letter, sign, step}
use Rattle.rule.specs.declared.text.Lead.TheVariants.{Letter, Not, Open}
use Rattle.rule.specs.declared.text.Follow.TheVariants.{And, Or, Close}
use Rattle.rule.specs.declared.text.Mark.{Mark}
use Rattle.rule.specs.declared.text.Mark.TheVariants.{Lead as Leads, Compare, Digit, Follow as Follows, Other}
use Rattle.rule.specs.Marks.{mark_of, steps, opens, closes}

pub mark_letter : (f : Field) → mark_of (letter f) ≡ Leads (Letter f)
mark_letter Class = refl
mark_letter Rating = refl
mark_letter Months = refl
mark_letter Issuer = refl

pub mark_sign : (s : Sign) → mark_of (sign s) ≡ Compare s
mark_sign Equal = refl
mark_sign Less = refl
mark_sign Greater = refl

pub mark_digit : (b : ℕ) → digit b ≡ true → mark_of b ≡ Digit (b - 48)
mark_digit b h = grind (arith, nat_tests)

-- which byte has the mark
abbrev pub ByteOf : Mark → ℕ → Type 0
ByteOf (Leads (Letter f)) b = b ≡ letter f
ByteOf (Leads Not) b = b ≡ 33
ByteOf (Leads Open) b = b ≡ 40
ByteOf (Compare s) b = b ≡ sign s
ByteOf (Digit k) b = (digit b ≡ true) × (k ≡ b - 48)
ByteOf (Follows And) b = b ≡ 38
ByteOf (Follows Or) b = b ≡ 124
ByteOf (Follows Close) b = b ≡ 41
ByteOf Other b = Unit {0}

pick : (b y : ℕ) (m n : Mark) → (b ≡ y → ByteOf m b) → ByteOf n b → ByteOf (cond (eqb b y) m n) b
pick b y m n f g = cond_both (eqb b y) m n (λ v. ByteOf v b) (λ e. f (eqb-true b y e)) (λ _. g)

pub byte_of : (b : ℕ) → ByteOf (mark_of b) b
byte_of b =
    pick b 99 _ _ (λ e. e) (pick b 114 _ _ (λ e. e) (pick b 109 _ _ (λ e. e) (pick b 105 _ _ (λ e. e)
    (pick b 33 _ _ (λ e. e) (pick b 40 _ _ (λ e. e) (pick b 61 _ _ (λ e. e) (pick b 60 _ _ (λ e. e) (pick b 62 _ _ (λ e. e)
    (cond_both (digit b) _ _ (λ v. ByteOf v b) (λ e. (e, refl))
    (λ _. pick b 38 _ _ (λ e. e) (pick b 124 _ _ (λ e. e) (pick b 41 _ _ (λ e. e) tt))))))))))))

pub step_same : (b : ℕ) → step b ≡ steps (mark_of b)
step_same b = grind (arith, nat_tests)

pub open_same : (b : ℕ) → eqb 40 b ≡ opens (mark_of b)
open_same b = grind (arith, nat_tests)

pub close_same : (b : ℕ) → eqb 41 b ≡ closes (mark_of b)
close_same b = grind (arith, nat_tests)
