-- To believe: nothing; lemmas that the binders give for their law. Every binder keeps the four laws. A single schedule holds number 0 alone, tests the ranges itself and has a share
-- in range. An exclusion has the numbers and shares that are below it and admits less. A pair answers with what one of
-- its binders says of a number below 16, whose laws serve, or has nothing there.

use Rattle.std.proofs.Common.{rules}
use Rattle.std.specs.Prelude.{ℕ, ◌≤◌, Bool}
use Rattle.grammar.specs.declared.Description.{Description}
use Rattle.binder.specs.Meaning.{Meaning, Lawful, single}
use Rattle.binder.specs.Layers.{without, joined}

pub single_lawful : (passes : Description → Bool) (share : ℕ) → share ≤ 10000 → Lawful (single passes share)
single_lawful passes share h = search rules

pub without_lawful : (s : ℕ → Bool) (m : Meaning) → Lawful m → Lawful (without s m)
without_lawful s m law = search rules

pub joined_lawful : (k : ℕ) (a b : Meaning) → Lawful a → Lawful b → Lawful (joined k a b)
joined_lawful k a b la lb = search rules
