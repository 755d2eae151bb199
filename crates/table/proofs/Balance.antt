-- What leaves and enters each node, for any numbers F on the arcs: of all arcs, those alone count that have the node for an end.

use Rattle.std.proofs.Common.{◌≡◌, ℕ, ◌<◌, ◌≤◌, Bool, not, ◌&&◌, eqb, sym, refl, ◌∙◌, arith}
use Rattle.std.proofs.lemmas.Bool.{cases_eq}
use Rattle.std.proofs.lemmas.Bool.Decides.{nat_tests}
use Rattle.network.specs.Sums.{sum_over, when}
use Rattle.network.specs.Flow.{over, out_of, into, across, Flow, value}
use Rattle.network.proofs.Sums.{sum_none, sum_same, sum_at, miss, hit}
use Rattle.table.specs.Table.{Situation}
use Rattle.table.specs.Drawn.{Arc, place, arc, net_of, number, tail_of, head_of, cap_of, slot}
use Rattle.table.specs.Drawn.Node.{lot, cell, exposure}
use Rattle.table.specs.Drawn.Arc.{supply, offer, bound, demand}
use Rattle.table.proofs.Sums.{grid_none}
use Rattle.table.proofs.Arcs.{total, by_kind}
use Rattle.table.proofs.Nodes.{inner_node}
use Rattle.table.proofs.Slots.{slot_low}

-- cells of one exposure have equal numbers where they have equal slots
scale : (t u e x : ℕ) → when (eqb (number (cell t e)) (number (cell u e))) x ≡ when (eqb t u) x
scale t u e x = grind (arith, nat_tests, cases_eq t u)

module _ (s : Situation) (F : Arc → ℕ) where
  abbrev goes_out : ℕ → Arc → ℕ
  goes_out v a = when (eqb v (number (tail_of a))) (F a)

  abbrev comes_in : ℕ → Arc → ℕ
  comes_in v a = when (eqb v (number (head_of s a))) (F a)

  out_source : total (goes_out 0) ≡ sum_over 64 (λ l. F (supply l))
  out_source = omega (
    arith,
    sum_same 64 _ _ (λ l h. hit 0 0 (F (supply l)) refl),
    grid_none 64 16 _ (λ l e h j. miss 0 (number (lot l)) (F (offer l e)) (λ q. omega arith)),
    grid_none 64 16 _ (λ t e h j. miss 0 (number (cell t e)) (F (bound t e)) (λ q. omega arith)),
    sum_none 16 _ (λ e h. miss 0 (number (exposure e)) (F (demand e)) (λ q. omega arith)),
  )

  in_source : total (comes_in 0) ≡ 0
  in_source = omega (
    arith,
    sum_none 64 _ (λ l h. miss 0 (number (lot l)) (F (supply l)) (λ q. omega arith)),
    grid_none 64 16 _ (λ l e h j. miss 0 (number (cell (slot s l) e)) (F (offer l e)) (λ q. omega arith)),
    grid_none 64 16 _ (λ t e h j. miss 0 (number (exposure e)) (F (bound t e)) (λ q. omega arith)),
    sum_none 16 _ (λ e h. miss 0 1105 (F (demand e)) (λ q. omega arith)),
  )

  out_lot : (l : ℕ) → l < 64 → total (goes_out (number (lot l))) ≡ sum_over 16 (λ e. F (offer l e))
  out_lot l h = omega (
    arith,
    sum_none 64 _ (λ k _. miss (number (lot l)) 0 (F (supply k)) (λ q. omega arith)),
    sum_at 64 l (λ k. sum_over 16 (λ e. goes_out (number (lot l)) (offer k e))) h (λ k _ n. sum_none 16 _ (λ e _. miss (number (lot l)) (number (lot k)) (F (offer k e)) (λ q. n (omega arith)))),
    sum_same 16 _ _ (λ e _. hit (number (lot l)) (number (lot l)) (F (offer l e)) refl),
    grid_none 64 16 _ (λ t e _ j. miss (number (lot l)) (number (cell t e)) (F (bound t e)) (λ q. omega arith)),
    sum_none 16 _ (λ e _. miss (number (lot l)) (number (exposure e)) (F (demand e)) (λ q. omega arith)),
  )

  in_lot : (l : ℕ) → l < 64 → total (comes_in (number (lot l))) ≡ F (supply l)
  in_lot l h = omega (
    arith,
    sum_at 64 l (λ k. comes_in (number (lot l)) (supply k)) h (λ k _ n. miss (number (lot l)) (number (lot k)) (F (supply k)) (λ q. n (omega arith))),
    hit (number (lot l)) (number (lot l)) (F (supply l)) refl,
    grid_none 64 16 _ (λ k e _ j. miss (number (lot l)) (number (cell (slot s k) e)) (F (offer k e)) (λ q. omega arith)),
    grid_none 64 16 _ (λ t e _ j. miss (number (lot l)) (number (exposure e)) (F (bound t e)) (λ q. omega arith)),
    sum_none 16 _ (λ e _. miss (number (lot l)) 1105 (F (demand e)) (λ q. omega arith)),
  )

  out_cell : (t e : ℕ) → t < 64 → e < 16 → total (goes_out (number (cell t e))) ≡ F (bound t e)
  out_cell t e h j = omega (
    arith,
    sum_none 64 _ (λ k _. miss (number (cell t e)) 0 (F (supply k)) (λ q. omega arith)),
    grid_none 64 16 _ (λ k d l _. miss (number (cell t e)) (number (lot k)) (F (offer k d)) (λ q. omega arith)),
    sum_at 64 t (λ u. sum_over 16 (λ d. goes_out (number (cell t e)) (bound u d))) h (λ u _ n. sum_none 16 _ (λ d l. miss (number (cell t e)) (number (cell u d)) (F (bound u d)) (λ q. n (omega arith)))),
    sum_at 16 e (λ d. goes_out (number (cell t e)) (bound t d)) j (λ d l n. miss (number (cell t e)) (number (cell t d)) (F (bound t d)) (λ q. n (omega arith))),
    hit (number (cell t e)) (number (cell t e)) (F (bound t e)) refl,
    sum_none 16 _ (λ d _. miss (number (cell t e)) (number (exposure d)) (F (demand d)) (λ q. omega arith)),
  )

  in_cell : (t e : ℕ) → t < 64 → e < 16 → total (comes_in (number (cell t e))) ≡ sum_over 64 (λ l. when (eqb t (slot s l)) (F (offer l e)))
  in_cell t e h j = omega (
    arith,
    sum_none 64 _ (λ k l. miss (number (cell t e)) (number (lot k)) (F (supply k)) (λ q. omega arith)),
    sum_same 64 (λ l. sum_over 16 (λ d. comes_in (number (cell t e)) (offer l d))) (λ l. when (eqb t (slot s l)) (F (offer l e))) (λ l _.
        sum_at 16 e (λ d. comes_in (number (cell t e)) (offer l d)) j (λ d m n. miss (number (cell t e)) (number (cell (slot s l) d)) (F (offer l d)) (λ q. n (omega arith)))
        ∙ scale t (slot s l) e (F (offer l e))),
    grid_none 64 16 _ (λ u d _ l. miss (number (cell t e)) (number (exposure d)) (F (bound u d)) (λ q. omega arith)),
    sum_none 16 _ (λ d _. miss (number (cell t e)) 1105 (F (demand d)) (λ q. omega arith)),
  )

  out_exposure : (e : ℕ) → e < 16 → total (goes_out (number (exposure e))) ≡ F (demand e)
  out_exposure e j = omega (
    arith,
    sum_none 64 _ (λ k _. miss (number (exposure e)) 0 (F (supply k)) (λ q. omega arith)),
    grid_none 64 16 _ (λ k d l _. miss (number (exposure e)) (number (lot k)) (F (offer k d)) (λ q. omega arith)),
    grid_none 64 16 _ (λ t d l m. miss (number (exposure e)) (number (cell t d)) (F (bound t d)) (λ q. omega arith)),
    sum_at 16 e (λ d. goes_out (number (exposure e)) (demand d)) j (λ d _ n. miss (number (exposure e)) (number (exposure d)) (F (demand d)) (λ q. n (omega arith))),
    hit (number (exposure e)) (number (exposure e)) (F (demand e)) refl,
  )

  in_exposure : (e : ℕ) → e < 16 → total (comes_in (number (exposure e))) ≡ sum_over 64 (λ t. F (bound t e))
  in_exposure e j = omega (
    arith,
    sum_none 64 _ (λ k l. miss (number (exposure e)) (number (lot k)) (F (supply k)) (λ q. omega arith)),
    grid_none 64 16 _ (λ k d l m. miss (number (exposure e)) (number (cell (slot s k) d)) (F (offer k d)) (λ q. omega (arith, slot_low s k l))),
    sum_same 64 (λ t. sum_over 16 (λ d. comes_in (number (exposure e)) (bound t d))) (λ t. F (bound t e)) (λ t _.
        sum_at 16 e (λ d. comes_in (number (exposure e)) (bound t d)) j (λ d _ n. miss (number (exposure e)) (number (exposure d)) (F (bound t d)) (λ q. n (omega arith)))
        ∙ hit (number (exposure e)) (number (exposure e)) (F (bound t e)) refl),
    sum_none 16 _ (λ d m. miss (number (exposure e)) 1105 (F (demand d)) (λ q. omega arith)),
  )

  -- conservation, node by node
  pub record Balanced : Type 0 where
    pub lots : (l : ℕ) → l < 64 → F (supply l) ≡ sum_over 16 (λ e. F (offer l e))
    pub cells : (t e : ℕ) → t < 64 → e < 16 → sum_over 64 (λ l. when (eqb t (slot s l)) (F (offer l e))) ≡ F (bound t e)
    pub exposures : (e : ℕ) → e < 16 → sum_over 64 (λ t. F (bound t e)) ≡ F (demand e)

  -- it is the conservation of numbers f on the arcs' numbers, where these come to the same
  module _ (f : ℕ → ℕ) (same : (G : Arc → ℕ → ℕ) → sum_over 2128 (λ k. G (arc k) (f k)) ≡ total (λ a. G a (F a))) where
    leaving : (v : ℕ) → out_of (net_of s) (eqb v) f ≡ total (goes_out v)
    unfolding over
    leaving v = same (λ a x. when (eqb v (number (tail_of a))) x)

    entering : (v : ℕ) → into (net_of s) (eqb v) f ≡ total (comes_in v)
    unfolding over
    entering v = same (λ a x. when (eqb v (number (head_of s a))) x)

    pub balanced_flow : Balanced → ((k : ℕ) → k < 2128 → f k ≤ cap_of s (arc k)) → Flow (net_of s) f
    balanced_flow b w = record {
      within = w;
      conserved = inner_node (λ v. into (net_of s) (eqb v) f ≡ out_of (net_of s) (eqb v) f)
          (λ l h. entering (number (lot l)) ∙ in_lot l h ∙ b.lots l h ∙ sym (leaving (number (lot l)) ∙ out_lot l h))
          (λ t e h j. entering (number (cell t e)) ∙ in_cell t e h j ∙ b.cells t e h j ∙ sym (leaving (number (cell t e)) ∙ out_cell t e h j))
          (λ e h. entering (number (exposure e)) ∙ in_exposure e h ∙ b.exposures e h ∙ sym (leaving (number (exposure e)) ∙ out_exposure e h));
    }

    pub flow_balanced : Flow (net_of s) f → Balanced
    flow_balanced q = record {
      lots = λ l h. sym (entering (number (lot l)) ∙ in_lot l h) ∙ q.conserved (number (lot l)) (omega arith) (λ z. omega arith) (λ z. omega arith) ∙ leaving (number (lot l)) ∙ out_lot l h;
      cells = λ t e h j. sym (entering (number (cell t e)) ∙ in_cell t e h j) ∙ q.conserved (number (cell t e)) (omega arith) (λ z. omega arith) (λ z. omega arith) ∙ leaving (number (cell t e)) ∙ out_cell t e h j;
      exposures = λ e h. sym (entering (number (exposure e)) ∙ in_exposure e h) ∙ q.conserved (number (exposure e)) (omega arith) (λ z. omega arith) (λ z. omega arith) ∙ leaving (number (exposure e)) ∙ out_exposure e h;
    }

    -- nothing enters the source, so the value is what all lots are given
    pub source_gets : into (net_of s) (eqb 0) f ≡ 0
    source_gets = entering 0 ∙ in_source

    pub value_is : value (net_of s) f ≡ sum_over 64 (λ l. F (supply l))
    value_is = omega (arith, leaving 0, out_source, source_gets)

-- the two ways to have such numbers: by the arcs, and by the arcs' numbers
pub by_arcs : (F : Arc → ℕ) (G : Arc → ℕ → ℕ) → sum_over 2128 (λ k. G (arc k) (F (arc k))) ≡ total (λ a. G a (F a))
by_arcs F G = by_kind (λ a k. G a (F a))

pub by_numbers : (f : ℕ → ℕ) (G : Arc → ℕ → ℕ) → sum_over 2128 (λ k. G (arc k) (f k)) ≡ total (λ a. G a (f (place a)))
by_numbers f G = by_kind (λ a k. G a (f k))

-- what a cut's arcs bear
pub across_arcs : (s : Situation) (S : ℕ → Bool) (F : Arc → ℕ) → across (net_of s) S (λ k. F (arc k)) ≡ total (λ a. when (S (number (tail_of a)) && not (S (number (head_of s a)))) (F a))
unfolding across
across_arcs s S F = by_kind (λ a k. when (S (number (tail_of a)) && not (S (number (head_of s a)))) (F a))
