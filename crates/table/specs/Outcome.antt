-- To believe: what an allocation may answer.

use Rattle.std.specs.Prelude.{◌≡◌, ℕ, Bool, true, false, Decides}
use Rattle.network.specs.Sums.{Agree}
use Rattle.network.specs.Round.{Rounds}
use Rattle.table.specs.Table.{Situation, Table, SameTable, zeros, Lawful, Covers, Shortage}
use Rattle.table.specs.Drawn.{net_of, flow_of}
use Rattle.table.specs.Record.{Marks, Explains}

-- a chain of k rounds leads from the table p to the table q: rounds from the flow of p to the flow of q
abbrev pub Chain : Situation → ℕ → Table → Table → Type 0
Chain s k p q = Rounds (net_of s) k (flow_of s p) (flow_of s q)

-- the table that the rounds start from: p where it is lawful, and zeros where it is not
pub record Start (s : Situation) (p first : Table) : Type 0 where
  pub same : Lawful s p → SameTable first p
  pub blank : (Lawful s p → ⊥) → SameTable first zeros

-- the flow f that the rounds start from, where a test says whether p is lawful: that of p if it is, else none
pub record Begins (s : Situation) (p : Table) (f : ℕ → ℕ) (lawful : Bool) : Type 0 where
  pub test : Decides lawful (Lawful s p)
  pub loaded : lawful ≡ true → Agree 2128 f (flow_of s p)
  pub blank : lawful ≡ false → Agree 2128 f (λ _. 0)

-- granted with k rounds, p being the table before and q the one after
pub record Granted (s : Situation) (k : ℕ) (p q : Table) : Type 0 where
  pub lawful : Lawful s q
  pub covers : Covers s q
  pub first : Table
  pub starts : Start s p first
  pub chain : Chain s k first q

-- refused, since no lawful table covers: the least shortage is x, and the marks m explain it
pub record Short (s : Situation) (x : ℕ) (m : Marks) : Type 0 where
  pub none : (p : Table) → Lawful s p → Covers s p → ⊥
  pub shortage : Shortage s x
  pub explains : Explains s m x
