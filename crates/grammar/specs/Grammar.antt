-- To believe: which texts are rules, what a rule says of a lot, and where a text is at fault.
--
-- A rule is one or more terms with | between them, a term one or more factors with & between them. A factor is ! and
-- a factor, or a rule in round brackets, or a test: a letter, a sign and a number. A number is 0, or digits of which
-- the first is not 0. The definitions below are these sentences; none of them reads a text.

use Rattle.std.specs.Prelude.{◌≡◌, ℕ, ◌+◌, ◌-◌, ◌*◌, ◌<◌, ◌≤◌, Bool, true, cond, not, ◌&&◌, ◌||◌, T, ◌⊎◌, List, [], ◌∷◌, ◌++◌, length, take, ◌==◌, nat_eq, nat_le, nat_lt, slice_index}
use Rattle.cause.specs.Numbers.{number as listed}
use Rattle.cause.specs.declared.Cause.TheVariants.{TextLong, ByteUnexpected, NumberLarge, BracketDeep, StepsMany}
use Rattle.grammar.specs.declared.Field.{Field}
use Rattle.grammar.specs.declared.Field.TheVariants.{Class, Rating, Months, Issuer}
use Rattle.grammar.specs.declared.Sign.{Sign}
use Rattle.grammar.specs.declared.Sign.TheVariants.{Equal, Less, Greater}
use Rattle.grammar.specs.declared.Description.{Description as Described}

-- the bytes 0 to 9, and 1 to 9
abbrev pub digit : ℕ → Bool
digit b = nat_le 48 b && nat_le b 57

abbrev pub leading : ℕ → Bool
leading b = nat_le 49 b && nat_le b 57

-- any digits
pub data Digits : Type 0 where
  none : Digits
  more : (b : ℕ) → T (digit b) → Digits → Digits

-- 0, or digits of which the first is not 0
pub data Number : Type 0 where
  nought : Number
  figures : (b : ℕ) → T (leading b) → Digits → Number

pub data Sort : Type 0 where
  rule term factor : Sort

-- the syntax trees of rules, terms and factors
pub data Tree : Sort → Type 0 where
  -- one term, or a term | a rule
  one : Tree term → Tree rule
  or : Tree term → Tree rule → Tree rule
  -- one factor, or a factor & a term
  sole : Tree factor → Tree term
  and : Tree factor → Tree term → Tree term
  -- ! a factor, ( a rule ), or a test
  neg : Tree factor → Tree factor
  group : Tree rule → Tree factor
  test : Field → Sign → Number → Tree factor

-- the letters c, r, m, i and the signs =, <, >
abbrev pub letter : Field → ℕ
letter Class = 99
letter Rating = 114
letter Months = 109
letter Issuer = 105

abbrev pub sign : Sign → ℕ
sign Equal = 61
sign Less = 60
sign Greater = 62

abbrev pub digits : Digits → List ℕ
digits none = []
digits (more b h d) = b ∷ digits d

abbrev pub number : Number → List ℕ
number nought = 48 ∷ []
number (figures b h d) = b ∷ digits d

-- how a tree is written, with | & ! ( )
abbrev pub spell : {s : Sort} → Tree s → List ℕ
spell (one t) = spell t
spell (or t r) = spell t ++ 124 ∷ spell r
spell (sole f) = spell f
spell (and f t) = spell f ++ 38 ∷ spell t
spell (neg f) = 33 ∷ spell f
spell (group r) = 40 ∷ (spell r ++ 41 ∷ [])
spell (test f s n) = letter f ∷ sign s ∷ number n

-- a text is a rule; it begins some rule
abbrev pub IsRule : List ℕ → Type 0
IsRule t = (r : Tree rule) × (spell r ≡ t)

abbrev pub Begins : List ℕ → Type 0
Begins t = (u : List ℕ) × IsRule (t ++ u)

-- what each says of a lot's description
abbrev pub value : ℕ → Digits → ℕ
value v none = v
value v (more b h d) = value (10 * v + (b - 48)) d

abbrev pub amount : Number → ℕ
amount nought = 0
amount (figures b h d) = value (b - 48) d

abbrev pub field : Field → Described → ℕ
field Class x = x.class
field Rating x = x.rating
field Months x = x.months
field Issuer x = x.issuer

abbrev pub compares : Sign → ℕ → ℕ → Bool
compares Equal a b = a == b
compares Less a b = nat_lt a b
compares Greater a b = nat_lt b a

abbrev pub holds : {s : Sort} → Tree s → Described → Bool
holds (one t) x = holds t x
holds (or t r) x = holds t x || holds r x
holds (sole f) x = holds f x
holds (and f t) x = holds f x && holds t x
holds (neg f) x = not (holds f x)
holds (group r) x = holds r x
holds (test f s n) x = compares s (field f x) (amount n)

-- the text is a rule, and f is what it says, whichever way it is read
pub record Means (t : List ℕ) (f : Described → Bool) : Type 0 where
  pub text : IsRule t
  pub meaning : (r : Tree rule) → spell r ≡ t → (x : Described) → holds r x ≡ f x

-- the limits: bytes of a text, a number, open brackets, steps
abbrev pub longest : ℕ
longest = 1024

abbrev pub largest : ℕ
largest = 65535

abbrev pub deepest : ℕ
deepest = 16

abbrev pub most_steps : ℕ
most_steps = 64

-- how many bytes of a text are of some kind
abbrev pub count : (ℕ → Bool) → List ℕ → ℕ
count p [] = 0
count p (b ∷ t) = cond (p b) 1 0 + count p t

-- letters, !, & and | are steps
abbrev pub step : ℕ → Bool
step b = b == 99 || (b == 114 || (b == 109 || (b == 105 || (b == 33 || (b == 38 || b == 124)))))

-- the text t has the fault of number c at the place k
pub data Fault (t : List ℕ) : ℕ → ℕ → Type 0 where
  long : longest < length t → Fault t (listed TextLong) 0
  -- the text before the byte begins some rule, and the text with it begins none
  unexpected : (k : ℕ) → k < length t → Begins (take k t) → (Begins (take (k + 1) t) → ⊥) → Fault t (listed ByteUnexpected) k
  ended : Begins t → (IsRule t → ⊥) → Fault t (listed ByteUnexpected) (length t)
  -- at the number's first digit
  over : (q : List ℕ) (f : Field) (s : Sign) (n : Number) (u : List ℕ) → t ≡ q ++ letter f ∷ (sign s ∷ (number n ++ u)) →
      largest < amount n → Fault t (listed NumberLarge) (length q + 2)
  -- an opening bracket while the deepest are open
  deep : (k : ℕ) → k < length t → slice_index t k ≡ 40 → count (nat_eq 40) (take k t) ≡ count (nat_eq 41) (take k t) + deepest → Fault t (listed BracketDeep) k
  -- one step past the most
  steps : (k : ℕ) → k < length t → step (slice_index t k) ≡ true → count step (take k t) ≡ most_steps → Fault t (listed StepsMany) k

abbrev pub Faultless : List ℕ → Type 0
Faultless t = (c k : ℕ) → Fault t c k → ⊥

-- of all faults the one at the smallest place, and there the one of the smallest number
pub record Least (t : List ℕ) (c k : ℕ) : Type 0 where
  pub is : Fault t c k
  pub least : (d j : ℕ) → Fault t d j → (k < j) ⊎ ((k ≡ j) × (c ≤ d))
