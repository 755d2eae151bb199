-- To believe: what a lawful haircut curve is, and which haircut it has at a month.

use Rattle.std.specs.Prelude.{◌≡◌, ℕ, ◌+◌, ◌-◌, ◌*◌, ◌/◌, ◌<◌, ◌≤◌, Bool, false, ◌&&◌, ◌||◌, List, ◌==◌, nat_le, nat_lt, slice_index}

-- the points of a curve: how many, the month of each and its haircut in ten-thousandths
pub record Points : Type 0 where
  pub count : ℕ
  pub month : ℕ → ℕ
  pub haircut : ℕ → ℕ

-- the blank curve: month 0 with haircut 10,000
abbrev pub blank : Points
blank = record { count = 1; month = λ _. 0; haircut = λ _. 10000 }

-- the first `count` numbers of two lists
abbrev pub points : ℕ → List ℕ → List ℕ → Points
points n ms hs = record { count = n; month = λ j. slice_index ms j; haircut = λ j. slice_index hs j }

-- month j breaks the rule of months: the first is 0, each passes the one before, none passes 1,200
abbrev pub month_breaks : (ℕ → ℕ) → ℕ → Bool
month_breaks m j = (j == 0 && nat_lt 0 (m j)) || ((nat_lt 0 j && nat_le (m j) (m (j - 1))) || nat_lt 1200 (m j))

-- haircut j breaks the rule of haircuts: none is below the one before, none passes 10,000
abbrev pub haircut_breaks : (ℕ → ℕ) → ℕ → Bool
haircut_breaks h j = (nat_lt 0 j && nat_lt (h j) (h (j - 1))) || nat_lt 10000 (h j)

-- no number below n passes the test
abbrev pub NoneBelow : ℕ → (ℕ → Bool) → Type 0
NoneBelow n p = (j : ℕ) → j < n → p j ≡ false

pub record Lawful (c : Points) : Type 0 where
  pub some : 1 ≤ c.count
  pub few : c.count ≤ 16
  pub months : NoneBelow c.count (month_breaks c.month)
  pub haircuts : NoneBelow c.count (haircut_breaks c.haircut)

-- a quotient rounded up
abbrev pub quotient_up : ℕ → ℕ → ℕ
quotient_up x d = (x + (d - 1)) / d

-- the haircut between two points: month a with haircut p, and month b with haircut q
abbrev pub between : ℕ → ℕ → ℕ → ℕ → ℕ → ℕ
between a p b q m = p + quotient_up ((q - p) * (m - a)) (b - a)

-- the curve has the haircut h at month m
pub data Haircut (c : Points) (m : ℕ) : ℕ → Type 0 where
  at : (j : ℕ) → j < c.count → c.month j ≡ m → Haircut c m (c.haircut j)
  inside : (j : ℕ) → j + 1 < c.count → c.month j < m → m < c.month (j + 1)
      → Haircut c m (between (c.month j) (c.haircut j) (c.month (j + 1)) (c.haircut (j + 1)) m)

-- month m comes after the last point
abbrev pub Past : Points → ℕ → Type 0
Past c m = c.month (c.count - 1) < m
