-- To believe: which bytes are the page of a curve, and why a page is refused.

use Rattle.std.specs.Prelude.{◌≡◌, ℕ, ◌+◌, ◌*◌, ◌/◌, ◌%◌, ◌<◌, ◌≤◌, Bool, true, List, length, take, drop, slice_index}
use Rattle.cause.specs.declared.Cause.{Cause}
use Rattle.cause.specs.declared.Cause.TheVariants.{PageShape, PageMonth, PageHaircut}
use Rattle.curve.specs.Points.{Points, Lawful, NoneBelow, month_breaks, haircut_breaks}

-- v stands at byte i as two bytes, the low one first
abbrev pub Spelt : List ℕ → ℕ → ℕ → Type 0
Spelt bs i v = (slice_index bs i ≡ v % 256) × (slice_index bs (i + 1) ≡ v / 256)

-- bs spells the points c: their number, the months, the haircuts, and nothing more
pub record Page (bs : List ℕ) (c : Points) : Type 0 where
  pub some : 1 ≤ c.count
  pub few : c.count ≤ 16
  pub size : length bs ≡ 1 + 4 * c.count
  pub number : slice_index bs 0 ≡ c.count
  pub months : (j : ℕ) → j < c.count → Spelt bs (1 + 2 * j) (c.month j)
  pub haircuts : (j : ℕ) → j < c.count → Spelt bs (1 + 2 * c.count + 2 * j) (c.haircut j)

-- j is the first number below n that passes the test
pub record First (n : ℕ) (p : ℕ → Bool) (j : ℕ) : Type 0 where
  pub below : j < n
  pub passes : p j ≡ true
  pub first : NoneBelow j p

-- a page is read as the points c
pub record Accepted (bs : List ℕ) (c : Points) : Type 0 where
  pub page : Page bs c
  pub lawful : Lawful c

-- a page is refused for a cause, at a point: of several causes for the one with the smallest number
pub data Refused (bs : List ℕ) : Cause → ℕ → Type 0 where
  shape : ((c : Points) → Page bs c → ⊥) → Refused bs PageShape 0
  months : (c : Points) → Page bs c → (j : ℕ) → First c.count (month_breaks c.month) j → Refused bs PageMonth j
  haircuts : (c : Points) → Page bs c → NoneBelow c.count (month_breaks c.month) → (j : ℕ) → First c.count (haircut_breaks c.haircut) j → Refused bs PageHaircut j

-- a buffer that held the bytes old now begins with the page of c, n bytes long, and is as it was after it
pub record Written (c : Points) (old new : List ℕ) (n : ℕ) : Type 0 where
  pub page : Page (take n new) c
  pub rest : drop n new ≡ drop n old
  pub length : length new ≡ length old
