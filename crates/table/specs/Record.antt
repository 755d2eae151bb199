-- To believe: when a shortage record explains a shortage, and which cut it draws.

use Rattle.std.specs.Prelude.{◌≡◌, ℕ, ◌+◌, ◌<◌, Bool, true, false, not, ◌&&◌, ◌||◌}
use Rattle.network.specs.Sums.{sum_over, when}
use Rattle.table.specs.Table.{Situation, allowed}
use Rattle.table.specs.Drawn.{Node, slot, leads, number, node, drawn_node}
use Rattle.table.specs.Drawn.Node.{source, lot, cell, exposure, sink}

-- Which exposures and which lots are marked, and for each exposure which issuers, each at its smallest held lot place.
pub record Marks : Type 0 where
  pub exposures : ℕ → Bool
  pub lots : ℕ → Bool
  -- issuers e t: at the exposure e, the issuer whose smallest held lot place is t
  pub issuers : ℕ → ℕ → Bool

-- The marks m explain the shortage x. The marked exposures can be served by marked lots and, through each marked issuer, up to its
-- limit alone; so that what these come to, less than the marked amounts by x, shows that x cannot be covered.
pub record Explains (s : Situation) (m : Marks) (x : ℕ) : Type 0 where
  -- marks lie on open exposures and held lots only
  pub on_open : (e : ℕ) → e < 16 → m.exposures e ≡ true → s.opened e ≡ true
  pub on_held : (l : ℕ) → l < 64 → m.lots l ≡ true → s.held l ≡ true
  -- an issuer is marked at marked exposures only, and at its smallest held lot place
  pub on_issuers : (e t : ℕ) → e < 16 → t < 64 → m.issuers e t ≡ true → (m.exposures e ≡ true) × (leads s t ≡ true)
  -- where a marked exposure admits a held lot, the lot is marked, or its issuer is marked there
  pub met : (l e : ℕ) → l < 64 → e < 16 → m.exposures e ≡ true → allowed s l e ≡ true → (m.lots l || m.issuers e (slot s l)) ≡ true
  -- the marked amounts are the shortage, the values of the marked lots and the limits of the marked issuers together
  pub equation : sum_over 16 (λ e. when (m.exposures e) (s.amount e))
      ≡ x + sum_over 64 (λ l. when (m.lots l) (s.worth l)) + sum_over 64 (λ t. sum_over 16 (λ e. when (m.issuers e t) (s.limit e (s.issuer t))))
  pub above : 0 < x

-- The cut that marks draw through the network. On the source's side are the source, the held lots and the open exposures that are not
-- marked, every cell of an exposure that is not marked, and at a marked exposure the cells of the marked issuers.
abbrev pub near : Marks → Node → Bool
near m source = true
near m (lot l) = not (m.lots l)
near m (cell t e) = not (m.exposures e) || m.issuers e t
near m (exposure e) = not (m.exposures e)
near m sink = false

unfoldable pub cut_of : Situation → Marks → ℕ → Bool
cut_of s m v = drawn_node s (node v) && near m (node v)

-- The marks that a set R of nodes gives: the open exposures and the held lots that are not in R, and at each marked exposure the
-- issuers whose cell is in R.
abbrev pub marks_of : Situation → (ℕ → Bool) → Marks
marks_of s R = record {
  exposures = λ e. s.opened e && not (R (number (exposure e)));
  lots = λ l. s.held l && not (R (number (lot l)));
  issuers = λ e t. (s.opened e && not (R (number (exposure e)))) && (leads s t && R (number (cell t e)));
}

-- the same marks, at the places that there are
pub record SameMarks (m n : Marks) : Type 0 where
  pub exposures : (e : ℕ) → e < 16 → m.exposures e ≡ n.exposures e
  pub lots : (l : ℕ) → l < 64 → m.lots l ≡ n.lots l
  pub issuers : (e t : ℕ) → e < 16 → t < 64 → m.issuers e t ≡ n.issuers e t
