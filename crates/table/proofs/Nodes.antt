-- The nodes by their numbers.

use Rattle.std.proofs.Common.{◌≡◌, ℕ, ◌-◌, ◌/◌, ◌%◌, ◌<◌, ◌≤◌, sym, refl, ◌∙◌, subst, inl, inr, arith}
use Rattle.std.proofs.lemmas.Bool.{lt-ltb, le-ltb, cases_lt, cond-true, cond-false}
use Rattle.table.specs.Drawn.{Node, number, node}
use Rattle.table.specs.Drawn.Node.{source, lot, cell, exposure, sink}

-- the node of a number, by the number's range
pub node_source : node 0 ≡ source
unfolding node
node_source = refl

pub node_lots : (v : ℕ) → 1 ≤ v → v < 65 → node v ≡ lot (v - 1)
unfolding node
node_lots v h j = cond-false _ _ _ (le-ltb v 1 h) ∙ cond-true _ _ _ (lt-ltb v 65 j)

pub node_cells : (v : ℕ) → 65 ≤ v → v < 1089 → node v ≡ cell ((v - 65) / 16) ((v - 65) % 16)
unfolding node
node_cells v h j = cond-false _ _ _ (le-ltb v 1 (omega arith)) ∙ cond-false _ _ _ (le-ltb v 65 h) ∙ cond-true _ _ _ (lt-ltb v 1089 j)

pub node_exposures : (v : ℕ) → 1089 ≤ v → v < 1105 → node v ≡ exposure (v - 1089)
unfolding node
node_exposures v h j = cond-false _ _ _ (le-ltb v 1 (omega arith)) ∙ cond-false _ _ _ (le-ltb v 65 (omega arith)) ∙ cond-false _ _ _ (le-ltb v 1089 h) ∙ cond-true _ _ _ (lt-ltb v 1105 j)

pub node_sinks : (v : ℕ) → 1105 ≤ v → node v ≡ sink
unfolding node
node_sinks v h = cond-false _ _ _ (le-ltb v 1 (omega arith)) ∙ cond-false _ _ _ (le-ltb v 65 (omega arith)) ∙ cond-false _ _ _ (le-ltb v 1089 (omega arith)) ∙ cond-false _ _ _ (le-ltb v 1105 h)

-- and of the number of a node
pub node_lot : (l : ℕ) → l < 64 → node (number (lot l)) ≡ lot l
node_lot l h = let p : number (lot l) - 1 ≡ l = omega arith in node_lots (number (lot l)) (omega arith) (omega arith) ∙ rw p

pub node_cell : (t e : ℕ) → t < 64 → e < 16 → node (number (cell t e)) ≡ cell t e
node_cell t e h j =
    let p : (number (cell t e) - 65) / 16 ≡ t = omega arith in
    let q : (number (cell t e) - 65) % 16 ≡ e = omega arith in
    node_cells (number (cell t e)) (omega arith) (omega arith) ∙ rw (p, q)

pub node_exposure : (e : ℕ) → e < 16 → node (number (exposure e)) ≡ exposure e
node_exposure e h = let p : number (exposure e) - 1089 ≡ e = omega arith in node_exposures (number (exposure e)) (omega arith) (omega arith) ∙ rw p

pub node_sink : node 1105 ≡ sink
unfolding node
node_sink = refl

-- a fact of each node and its number
pub every_node : (P : ℕ → Node → Type 0) → P 0 source → ((l : ℕ) → l < 64 → P (number (lot l)) (lot l)) → ((t e : ℕ) → t < 64 → e < 16 → P (number (cell t e)) (cell t e))
    → ((e : ℕ) → e < 16 → P (number (exposure e)) (exposure e)) → P 1105 sink → (v : ℕ) → v < 1106 → P v (node v)
every_node P a b c d z v h =
    elim (cases_lt v 1) [
      | inl w ↦ let q : 0 ≡ v = omega arith in subst (λ u. P u (node u)) q (rw node_source a)
      | inr w ↦ elim (cases_lt v 65) [
        | inl x ↦
            let q : number (lot (v - 1)) ≡ v = omega arith in
            subst (λ u. P u (node v)) q (subst (P (number (lot (v - 1)))) (sym (node_lots v w x)) (b (v - 1) (omega arith)))
        | inr x ↦ elim (cases_lt v 1089) [
          | inl y ↦
              let q : number (cell ((v - 65) / 16) ((v - 65) % 16)) ≡ v = omega arith in
              subst (λ u. P u (node v)) q (subst (P (number (cell ((v - 65) / 16) ((v - 65) % 16)))) (sym (node_cells v x y)) (c _ _ (omega arith) (omega arith)))
          | inr y ↦ elim (cases_lt v 1105) [
            | inl u ↦
                let q : number (exposure (v - 1089)) ≡ v = omega arith in
                subst (λ u. P u (node v)) q (subst (P (number (exposure (v - 1089)))) (sym (node_exposures v y u)) (d (v - 1089) (omega arith)))
            | inr u ↦ let q : 1105 ≡ v = omega arith in subst (λ u. P u (node u)) q (rw node_sink z)
          ]
        ]
      ]
    ]

-- of each node but the source and the sink
pub inner_node : (P : ℕ → Type 0) → ((l : ℕ) → l < 64 → P (number (lot l))) → ((t e : ℕ) → t < 64 → e < 16 → P (number (cell t e))) → ((e : ℕ) → e < 16 → P (number (exposure e)))
    → (v : ℕ) → v < 1106 → (v ≡ 0 → ⊥) → (v ≡ 1105 → ⊥) → P v
inner_node P a b c v h = every_node (λ v _. (v ≡ 0 → ⊥) → (v ≡ 1105 → ⊥) → P v) (λ n _. absurd (n refl)) (λ l h _ _. a l h) (λ t e h j _ _. b t e h j) (λ e h _ _. c e h) (λ _ m. absurd (m refl)) v h
