-- To believe: nothing that a call promises. The arrays that hold a drawn network: each arc's capacity, each lot's slot, and the lots of each slot.

use Rattle.std.specs.Prelude.{◌≡◌, ℕ, ◌+◌, ◌*◌, ◌<◌, true, false, List, Option, Some, None, ◌==◌, slice_index_or}
use Rattle.network.specs.Sums.{sum_over, when}
use Rattle.table.specs.Table.{Situation, of_issuer}
use Rattle.table.specs.Drawn.{slot, arc, cap_of}
use Rattle.cover.specs.View.{at}

abbrev pub Slotted : Situation → List ℕ → Type 0
Slotted s slots = (l : ℕ) → l < 64 → at slots l ≡ slot s l

abbrev pub Capacities : Situation → List ℕ → Type 0
Capacities s capacity = (k : ℕ) → k < 2128 → at capacity k ≡ cap_of s (arc k)

-- how many of the first n lots have the slot t
abbrev pub lots_of : List ℕ → ℕ → ℕ → ℕ
lots_of slots t n = sum_over n (λ l. when (t == at slots l) 1)

-- Of the first n lots: counts t have the slot t, they stand in the row of 64 places of t, and each lot stands there after those
-- before it.
abbrev pub Counted : List ℕ → List ℕ → ℕ → Type 0
Counted slots counts n = (t : ℕ) → t < 64 → at counts t ≡ lots_of slots t n

abbrev pub Lots : List ℕ → List ℕ → Type 0
Lots members counts = (t i : ℕ) → (t < 64) × (i < at counts t) → at members (t * 64 + i) < 64

abbrev pub Rowed : List ℕ → List ℕ → List ℕ → Type 0
Rowed slots members counts = (t i : ℕ) → (t < 64) × (i < at counts t) → at slots (at members (t * 64 + i)) ≡ t

abbrev pub Ranked : List ℕ → List ℕ → ℕ → Type 0
Ranked slots members n = (l : ℕ) → l < n → at members (at slots l * 64 + lots_of slots (at slots l) l) ≡ l

-- what is known of the issuer i after the first n lots: none of them is a lot of i, or the smallest place of one
abbrev pub FirstOf : Situation → ℕ → ℕ → Option ℕ → Type 0
FirstOf s n i None = (k : ℕ) → k < n → of_issuer s i k ≡ false
FirstOf s n i (Some t) = (t < n) × (of_issuer s i t ≡ true) × ((k : ℕ) → k < t → of_issuer s i k ≡ false)

-- of each issuer
abbrev pub First : Situation → List (Option ℕ) → ℕ → Type 0
First s first n = (i : ℕ) → i < 256 → FirstOf s n i (slice_index_or first i None)

-- all of it, of the first n lots
pub record Rows (slots members counts : List ℕ) (n : ℕ) : Type 0 where
  pub counted : Counted slots counts n
  pub known : Lots members counts
  pub rowed : Rowed slots members counts
  pub ranked : Ranked slots members n
