-- To believe: what a pledge table is, when it is lawful, when it covers, and what it leaves uncovered.
-- There are 64 lot places and 16 exposure places, numbered from 0; what is said of other numbers never counts.

use Rattle.std.specs.Prelude.{◌≡◌, ℕ, ◌-◌, ◌<◌, ◌≤◌, Bool, true, ◌&&◌, ◌==◌}
use Rattle.network.specs.Sums.{sum_over, when}

-- What a table is judged by.
pub record Situation : Type 0 where
  -- whether a lot is held at a lot place, its issuer and its collateral value
  pub held : ℕ → Bool
  pub issuer : ℕ → ℕ
  pub worth : ℕ → ℕ
  -- whether an exposure is open at an exposure place, and its amount
  pub opened : ℕ → Bool
  pub amount : ℕ → ℕ
  -- admits l e: the schedule of the exposure e admits the lot l
  pub admits : ℕ → ℕ → Bool
  -- limit e i: what the exposure e takes at most from all lots of the issuer i
  pub limit : ℕ → ℕ → ℕ

-- A pledge table p: p l e is what the lot l pledges to the exposure e.
abbrev pub Table : Type 0
Table = ℕ → ℕ → ℕ

-- what lies at the 1,024 places is equal
abbrev pub SameTable : Table → Table → Type 0
SameTable p q = (l e : ℕ) → l < 64 → e < 16 → p l e ≡ q l e

abbrev pub zeros : Table
zeros l e = 0

-- the lot is held, the exposure is open, and its schedule admits the lot
abbrev pub allowed : Situation → ℕ → ℕ → Bool
allowed s l e = s.held l && (s.opened e && s.admits l e)

-- l is a held lot of the issuer i
abbrev pub of_issuer : Situation → ℕ → ℕ → Bool
of_issuer s i l = s.held l && s.issuer l == i

pub record Lawful (s : Situation) (p : Table) : Type 0 where
  -- a pledge above 0 lies on a held lot and an open exposure whose schedule admits the lot
  pub grounded : (l e : ℕ) → l < 64 → e < 16 → 0 < p l e → allowed s l e ≡ true
  -- a lot's pledges add up to its value at most
  pub lots : (l : ℕ) → l < 64 → s.held l ≡ true → sum_over 16 (λ e. p l e) ≤ s.worth l
  -- an exposure's pledges from the lots of one issuer add up to its limit for that issuer at most
  pub issuers : (e i : ℕ) → e < 16 → s.opened e ≡ true → sum_over 64 (λ l. when (of_issuer s i l) (p l e)) ≤ s.limit e i
  -- an exposure's pledges add up to its amount at most
  pub exposures : (e : ℕ) → e < 16 → s.opened e ≡ true → sum_over 64 (λ l. p l e) ≤ s.amount e

-- every open exposure gets exactly its amount
abbrev pub Covers : Situation → Table → Type 0
Covers s p = (e : ℕ) → e < 16 → s.opened e ≡ true → sum_over 64 (λ l. p l e) ≡ s.amount e

-- all pledges; the amounts of all open exposures; and what the table leaves of these. (A lawful table pledges no more than is
-- owed, so there the difference loses nothing.)
unfoldable pub pledged : Table → ℕ
pledged p = sum_over 64 (λ l. sum_over 16 (λ e. p l e))

unfoldable pub owed : Situation → ℕ
owed s = sum_over 16 (λ e. when (s.opened e) (s.amount e))

abbrev pub uncovered : Situation → Table → ℕ
uncovered s p = owed s - pledged p

-- x is the least that lawful tables leave uncovered: one leaves exactly x, and every other at least as much
pub record Shortage (s : Situation) (x : ℕ) : Type 0 where
  pub table : Table
  pub lawful : Lawful s table
  pub meets : uncovered s table ≡ x
  pub least : (p : Table) → Lawful s p → x ≤ uncovered s p
