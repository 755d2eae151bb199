-- To believe: nothing new. What follows from the definitions of layers.

use Rattle.std.specs.Prelude.{◌≡◌, ℕ, ◌+◌, ◌≤◌, Bool, true, false, List}
use Rattle.grammar.specs.declared.Description.{Description}
use Rattle.binder.specs.Meaning.{Meaning, Lawful, Same}
use Rattle.binder.specs.Rating.{limit_of, table}
use Rattle.binder.specs.declared.limit.ClassLimit.{ClassLimit}
use Rattle.binder.specs.Layers.{without, joined}

-- under a rating table a class of worst rating 0 has no lot that is admitted, and a lot that is admitted stays so with
-- a better rating or a shorter term
pub record Tables : Type 0 where
  pub none : (limits : List ClassLimit) (share n : ℕ) (d : Description) → (limit_of limits d.class).worst ≡ 0 → (table limits share).admits n d ≡ false
  pub better : (limits : List ClassLimit) (share n c r m i r' m' : ℕ) → 1 ≤ r' → r' ≤ r → m' ≤ m
      → (table limits share).admits n (record { class = c; rating = r; months = m; issuer = i }) ≡ true
      → (table limits share).admits n (record { class = c; rating = r'; months = m'; issuer = i }) ≡ true

-- an exclusion admits no listed issuer; otherwise it is what is below
pub record Excludes : Type 0 where
  pub listed : (s : ℕ → Bool) (m : Meaning) (n : ℕ) (d : Description) → s d.issuer ≡ true → (without s m).admits n d ≡ false
  pub others : (s : ℕ → Bool) (m : Meaning) (n : ℕ) (d : Description) → s d.issuer ≡ false → (without s m).admits n d ≡ m.admits n d
  pub rest : (s : ℕ → Bool) (m : Meaning) (n : ℕ) → ((without s m).held n ≡ m.held n) × ((i : ℕ) → (without s m).share n i ≡ m.share n i)

-- of two exclusions either may stand below the other
abbrev pub ExclusionsCommute : Type 0
ExclusionsCommute = (s t : ℕ → Bool) (m : Meaning) → Same (without s (without t m)) (without t (without s m))

-- an exclusion over a pair is the pair of the exclusions
abbrev pub ExclusionsDistribute : Type 0
ExclusionsDistribute = (s : ℕ → Bool) (k : ℕ) (a b : Meaning) → Same (without s (joined k a b)) (joined k (without s a) (without s b))

-- a pair at 16 is its first binder, at 0 its second
abbrev pub PairAtEnds : Type 0
PairAtEnds = (a b : Meaning) → Lawful a → Lawful b → Same (joined 16 a b) a × Same (joined 0 a b) b

-- of three binders in a row it does not matter which two are paired first
abbrev pub PairsAssociate : Type 0
PairsAssociate = (j k : ℕ) (a b c : Meaning) → j + k ≤ 16 → Same (joined j a (joined k b c)) (joined (j + k) (joined j a b) c)

-- the layers keep the laws
pub record LayersLawful : Type 0 where
  pub exclusion : (s : ℕ → Bool) (m : Meaning) → Lawful m → Lawful (without s m)
  pub pair : (k : ℕ) (a b : Meaning) → Lawful a → Lawful b → Lawful (joined k a b)
