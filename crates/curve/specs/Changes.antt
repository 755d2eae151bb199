-- To believe: what it means that a write keeps the rest of a buffer.

use Rattle.std.specs.Prelude.{◌≡◌, ℕ, ◌<◌, ◌≤◌, List, length, slice_index}

-- only the bytes from `from` up to `to` may differ
pub record Kept (old new : List ℕ) (from to : ℕ) : Type 0 where
  pub size : length new ≡ length old
  pub before : (k : ℕ) → k < from → slice_index new k ≡ slice_index old k
  pub after : (k : ℕ) → to ≤ k → slice_index new k ≡ slice_index old k
