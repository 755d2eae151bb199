-- To believe: what a binder of schedules means, and the four laws that every binder keeps.
--
-- A binder holds schedules under numbers. Its meaning has three parts: which numbers are held; which lots the
-- schedule of a number admits, by their description; and which share of an exposure, in ten-thousandths, one issuer
-- may cover under it. Whatever stands above a binder relies on nothing else.

use Rattle.std.specs.Prelude.{◌≡◌, ℕ, ◌≤◌, Bool, false, cond, ◌&&◌, ◌==◌, nat_le}
use Rattle.grammar.specs.declared.Description.{Description}

pub record Meaning : Type 0 where
  pub held : ℕ → Bool
  pub admits : ℕ → Description → Bool
  pub share : ℕ → ℕ → ℕ

-- the ranges of a lot's fields: class 0 to 7, rating 1 to 22, months 0 to 1,200, issuer 0 to 255
abbrev pub in_range : Description → Bool
in_range d = nat_le d.class 7 && (nat_le 1 d.rating && (nat_le d.rating 22 && (nat_le d.months 1200 && nat_le d.issuer 255)))

pub record Lawful (m : Meaning) : Type 0 where
  -- a number of 16 or more is not held
  pub numbers : (n : ℕ) → 16 ≤ n → m.held n ≡ false
  -- a number that is not held admits nothing and has share 0
  pub unheld : (n : ℕ) → m.held n ≡ false → ((d : Description) → m.admits n d ≡ false) × ((i : ℕ) → m.share n i ≡ 0)
  -- fields outside a lot's ranges are never admitted
  pub ranges : (n : ℕ) (d : Description) → in_range d ≡ false → m.admits n d ≡ false
  -- no share passes 10,000
  pub shares : (n i : ℕ) → m.share n i ≤ 10000

-- one schedule under number 0: of the lots in range it admits those that pass, with one share for all issuers
abbrev pub single : (Description → Bool) → ℕ → Meaning
single passes share = record {
  held = λ n. (n == 0);
  admits = λ n d. (n == 0) && (in_range d && passes d);
  share = λ n i. cond (n == 0) share 0;
}

-- two meanings that give the same answers
pub record Same (a b : Meaning) : Type 0 where
  pub held : (n : ℕ) → a.held n ≡ b.held n
  pub admits : (n : ℕ) (d : Description) → a.admits n d ≡ b.admits n d
  pub share : (n i : ℕ) → a.share n i ≡ b.share n i

-- number 0 alone is held, and nothing is admitted under it
pub record Blank (m : Meaning) : Type 0 where
  pub held : (n : ℕ) → m.held n ≡ (n == 0)
  pub admits : (n : ℕ) (d : Description) → m.admits n d ≡ false
  pub share : (n i : ℕ) → m.share n i ≡ 0
