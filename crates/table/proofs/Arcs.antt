-- The arcs by their numbers, and sums over all of them by kind.

use Rattle.std.proofs.Common.{◌≡◌, ℕ, ◌+◌, ◌-◌, ◌/◌, ◌%◌, ◌<◌, ◌≤◌, sym, ap, ◌∙◌, subst, inl, inr, arith}
use Rattle.std.proofs.lemmas.Bool.{lt-ltb, le-ltb, cases_lt, cond-true, cond-false}
use Rattle.network.specs.Sums.{sum_over}
use Rattle.network.proofs.Sums.{sum_same}
use Rattle.table.specs.Drawn.{Arc, place, arc}
use Rattle.table.specs.Drawn.Arc.{supply, offer, bound, demand}
use Rattle.table.proofs.Sums.{sum_join, sum_grid, grid_same}

-- the arc of a number, by the number's range
pub arc_supply : (k : ℕ) → k < 64 → arc k ≡ supply k
unfolding arc
arc_supply k h = cond-true _ _ _ (lt-ltb k 64 h)

pub arc_offers : (k : ℕ) → 64 ≤ k → k < 1088 → arc k ≡ offer ((k - 64) / 16) ((k - 64) % 16)
unfolding arc
arc_offers k h j = cond-false _ _ _ (le-ltb k 64 h) ∙ cond-true _ _ _ (lt-ltb k 1088 j)

pub arc_bounds : (k : ℕ) → 1088 ≤ k → k < 2112 → arc k ≡ bound ((k - 1088) / 16) ((k - 1088) % 16)
unfolding arc
arc_bounds k h j = cond-false _ _ _ (le-ltb k 64 (omega arith)) ∙ cond-false _ _ _ (le-ltb k 1088 h) ∙ cond-true _ _ _ (lt-ltb k 2112 j)

pub arc_demands : (k : ℕ) → 2112 ≤ k → arc k ≡ demand (k - 2112)
unfolding arc
arc_demands k h = cond-false _ _ _ (le-ltb k 64 (omega arith)) ∙ cond-false _ _ _ (le-ltb k 1088 (omega arith)) ∙ cond-false _ _ _ (le-ltb k 2112 h)

-- and of the number of an arc
pub arc_offer : (l e : ℕ) → l < 64 → e < 16 → arc (place (offer l e)) ≡ offer l e
arc_offer l e h j =
    let p : (place (offer l e) - 64) / 16 ≡ l = omega arith in
    let q : (place (offer l e) - 64) % 16 ≡ e = omega arith in
    arc_offers (place (offer l e)) (omega arith) (omega arith) ∙ rw (p, q)

pub arc_bound : (t e : ℕ) → t < 64 → e < 16 → arc (place (bound t e)) ≡ bound t e
arc_bound t e h j =
    let p : (place (bound t e) - 1088) / 16 ≡ t = omega arith in
    let q : (place (bound t e) - 1088) % 16 ≡ e = omega arith in
    arc_bounds (place (bound t e)) (omega arith) (omega arith) ∙ rw (p, q)

pub arc_demand : (e : ℕ) → arc (place (demand e)) ≡ demand e
arc_demand e = let p : place (demand e) - 2112 ≡ e = omega arith in arc_demands (place (demand e)) (omega arith) ∙ rw p

-- every arc's number is of one of the four kinds
pub data Kind : ℕ → Type 0 where
  a_supply : (l : ℕ) → l < 64 → Kind (place (supply l))
  an_offer : (l e : ℕ) → l < 64 → e < 16 → Kind (place (offer l e))
  a_bound : (t e : ℕ) → t < 64 → e < 16 → Kind (place (bound t e))
  a_demand : (e : ℕ) → e < 16 → Kind (place (demand e))

pub kind : (k : ℕ) → k < 2128 → Kind k
kind k h =
    elim (cases_lt k 64) [
      | inl a ↦ a_supply k a
      | inr a ↦ elim (cases_lt k 1088) [
        | inl b ↦
            let q : place (offer ((k - 64) / 16) ((k - 64) % 16)) ≡ k = omega arith in
            subst Kind q (an_offer ((k - 64) / 16) ((k - 64) % 16) (omega arith) (omega arith))
        | inr b ↦ elim (cases_lt k 2112) [
          | inl c ↦
              let q : place (bound ((k - 1088) / 16) ((k - 1088) % 16)) ≡ k = omega arith in
              subst Kind q (a_bound ((k - 1088) / 16) ((k - 1088) % 16) (omega arith) (omega arith))
          | inr c ↦
              let q : place (demand (k - 2112)) ≡ k = omega arith in
              subst Kind q (a_demand (k - 2112) (omega arith))
        ]
      ]
    ]

-- a fact of each arc and its number
pub every : (P : Arc → ℕ → Type 0) → ((l : ℕ) → l < 64 → P (supply l) (place (supply l))) → ((l e : ℕ) → l < 64 → e < 16 → P (offer l e) (place (offer l e)))
    → ((t e : ℕ) → t < 64 → e < 16 → P (bound t e) (place (bound t e))) → ((e : ℕ) → e < 16 → P (demand e) (place (demand e))) → (k : ℕ) → k < 2128 → P (arc k) k
every P a b c d k h = go k (kind k h)
  where
    go : (k : ℕ) → Kind k → P (arc k) k
    go _ (a_supply l h) = subst (λ x. P x (place (supply l))) (sym (arc_supply l h)) (a l h)
    go _ (an_offer l e h j) = subst (λ x. P x (place (offer l e))) (sym (arc_offer l e h j)) (b l e h j)
    go _ (a_bound t e h j) = subst (λ x. P x (place (bound t e))) (sym (arc_bound t e h j)) (c t e h j)
    go _ (a_demand e h) = subst (λ x. P x (place (demand e))) (sym (arc_demand e)) (d e h)

-- of each arc
pub each : (P : Arc → Type 0) → ((l : ℕ) → l < 64 → P (supply l)) → ((l e : ℕ) → l < 64 → e < 16 → P (offer l e)) → ((t e : ℕ) → t < 64 → e < 16 → P (bound t e)) → ((e : ℕ) → e < 16 → P (demand e)) → (k : ℕ) → k < 2128 → P (arc k)
each P = every (λ a _. P a)

-- a sum over all arcs, by kinds
abbrev pub total : (Arc → ℕ) → ℕ
total G = sum_over 64 (λ l. G (supply l)) + sum_over 64 (λ l. sum_over 16 (λ e. G (offer l e))) + sum_over 64 (λ t. sum_over 16 (λ e. G (bound t e))) + sum_over 16 (λ e. G (demand e))

by_place : (h : ℕ → ℕ) → sum_over 2128 h ≡ total (λ a. h (place a))
by_place h = omega (arith, sum_join 2112 16 h, sum_join 1088 1024 h, sum_join 64 1024 h, sum_grid 64 16 (λ k. h (64 + k)), sum_grid 64 16 (λ k. h (1088 + k)))

pub by_kind : (G : Arc → ℕ → ℕ) → sum_over 2128 (λ k. G (arc k) k) ≡ total (λ a. G a (place a))
by_kind G = omega (
  arith,
  by_place (λ k. G (arc k) k),
  sum_same 64 _ _ (λ l h. ap (λ a. G a (place (supply l))) (arc_supply l h)),
  grid_same 64 16 _ _ (λ l e h j. ap (λ a. G a (place (offer l e))) (arc_offer l e h j)),
  grid_same 64 16 _ _ (λ t e h j. ap (λ a. G a (place (bound t e))) (arc_bound t e h j)),
  sum_same 16 _ _ (λ e h. ap (λ a. G a (place (demand e))) (arc_demand e)),
)
