-- A table's flow is the sum of its pledges' paths: of all pledges, those alone go along an arc that have it on their path.

use Rattle.std.proofs.Common.{◌≡◌, ℕ, ◌+◌, ◌*◌, ◌/◌, ◌%◌, ◌<◌, eqb, ◌⊎◌, sym, refl, ap, ◌∙◌, inl, inr, arith}
use Rattle.std.proofs.lemmas.Bool.{cases_eq}
use Rattle.std.proofs.lemmas.Bool.Decides.{nat_tests}
use Rattle.network.specs.Sums.{sum_over, when}
use Rattle.network.proofs.Sums.{sum_none, sum_same, sum_at, sum_plus, miss, hit}
use Rattle.table.specs.Table.{Situation, Table}
use Rattle.table.specs.Drawn.{place, slot, along, flow_of}
use Rattle.table.specs.Drawn.Arc.{supply, offer, bound, demand}
use Rattle.table.specs.Paths.{share}
use Rattle.table.proofs.Sums.{sum_grid, grid_none, grid_same}
use Rattle.table.proofs.Arcs.{every}
use Rattle.table.proofs.Slots.{slot_low}

grid_plus : (m n : ℕ) (a b : ℕ → ℕ → ℕ) → sum_over m (λ i. sum_over n (λ j. a i j + b i j)) ≡ sum_over m (λ i. sum_over n (a i)) + sum_over m (λ i. sum_over n (b i))
grid_plus m n a b = sum_same m _ _ (λ i _. sum_plus n (a i) (b i)) ∙ sum_plus m (λ i. sum_over n (a i)) (λ i. sum_over n (b i))

-- cells of one exposure have equal arcs where they have equal slots
scale : (t u e x : ℕ) → when (eqb (place (bound u e)) (place (bound t e))) x ≡ when (eqb t u) x
scale t u e x = grind (arith, nat_tests, cases_eq t u)

module _ (s : Situation) (p : Table) where
  abbrev by_supply : ℕ → ℕ → ℕ → ℕ
  by_supply k l e = when (eqb (place (supply l)) k) (p l e)

  abbrev by_offer : ℕ → ℕ → ℕ → ℕ
  by_offer k l e = when (eqb (place (offer l e)) k) (p l e)

  abbrev by_bound : ℕ → ℕ → ℕ → ℕ
  by_bound k l e = when (eqb (place (bound (slot s l) e)) k) (p l e)

  abbrev by_demand : ℕ → ℕ → ℕ → ℕ
  by_demand k l e = when (eqb (place (demand e)) k) (p l e)

  abbrev all : (ℕ → ℕ → ℕ) → ℕ
  all g = sum_over 64 (λ l. sum_over 16 (g l))

  parts : (k : ℕ) → all (λ l e. share s l e (p l e) k) ≡ all (by_supply k) + all (by_offer k) + all (by_bound k) + all (by_demand k)
  parts k = omega (arith, grid_plus 64 16 (λ l e. by_supply k l e + by_offer k l e + by_bound k l e) (by_demand k), grid_plus 64 16 (λ l e. by_supply k l e + by_offer k l e) (by_bound k), grid_plus 64 16 (by_supply k) (by_offer k))

  pub paths_add_up_lem : (k : ℕ) → k < 2128 → flow_of s p k ≡ sum_over 64 (λ l. sum_over 16 (λ e. share s l e (p l e) k))
  paths_add_up_lem = every (λ a k. along s p a ≡ all (λ l e. share s l e (p l e) k))
      (λ m h. omega (
        arith,
        parts (place (supply m)),
        sum_at 64 m (λ l. sum_over 16 (by_supply m l)) h (λ l _ n. sum_none 16 _ (λ e _. miss l m (p l e) n)),
        sum_same 16 _ _ (λ e _. hit m m (p m e) refl),
        grid_none 64 16 _ (λ l e _ _. miss (place (offer l e)) m (p l e) (λ q. omega arith)),
        grid_none 64 16 _ (λ l e _ _. miss (place (bound (slot s l) e)) m (p l e) (λ q. omega arith)),
        grid_none 64 16 _ (λ l e _ _. miss (place (demand e)) m (p l e) (λ q. omega arith)),
      ))
      (λ m d h j. omega (
        arith,
        parts (place (offer m d)),
        grid_none 64 16 _ (λ l e i _. miss l (place (offer m d)) (p l e) (λ q. omega arith)),
        sum_at 64 m (λ l. sum_over 16 (by_offer (place (offer m d)) l)) h (λ l _ n. sum_none 16 _ (λ e i. miss (place (offer l e)) (place (offer m d)) (p l e) (λ q. n (omega arith)))),
        sum_at 16 d (by_offer (place (offer m d)) m) j (λ e _ n. miss (place (offer m e)) (place (offer m d)) (p m e) (λ q. n (omega arith))),
        hit (place (offer m d)) (place (offer m d)) (p m d) refl,
        grid_none 64 16 _ (λ l e _ _. miss (place (bound (slot s l) e)) (place (offer m d)) (p l e) (λ q. omega arith)),
        grid_none 64 16 _ (λ l e _ _. miss (place (demand e)) (place (offer m d)) (p l e) (λ q. omega arith)),
      ))
      (λ t d h j. omega (
        arith,
        parts (place (bound t d)),
        grid_none 64 16 _ (λ l e i _. miss l (place (bound t d)) (p l e) (λ q. omega arith)),
        grid_none 64 16 _ (λ l e i o. miss (place (offer l e)) (place (bound t d)) (p l e) (λ q. omega arith)),
        sum_same 64 (λ l. sum_over 16 (by_bound (place (bound t d)) l)) (λ l. when (eqb t (slot s l)) (p l d)) (λ l _.
            sum_at 16 d (by_bound (place (bound t d)) l) j (λ e i n. miss (place (bound (slot s l) e)) (place (bound t d)) (p l e) (λ q. n (omega arith)))
            ∙ scale t (slot s l) d (p l d)),
        grid_none 64 16 _ (λ l e _ _. miss (place (demand e)) (place (bound t d)) (p l e) (λ q. omega arith)),
      ))
      (λ d j. omega (
        arith,
        parts (place (demand d)),
        grid_none 64 16 _ (λ l e i _. miss l (place (demand d)) (p l e) (λ q. omega arith)),
        grid_none 64 16 _ (λ l e i o. miss (place (offer l e)) (place (demand d)) (p l e) (λ q. omega arith)),
        grid_none 64 16 _ (λ l e i o. miss (place (bound (slot s l) e)) (place (demand d)) (p l e) (λ q. omega (arith, slot_low s l i))),
        sum_same 64 (λ l. sum_over 16 (by_demand (place (demand d)) l)) (λ l. p l d) (λ l _.
            sum_at 16 d (by_demand (place (demand d)) l) j (λ e i n. miss (place (demand e)) (place (demand d)) (p l e) (λ q. n (omega arith)))
            ∙ hit (place (demand d)) (place (demand d)) (p l d) refl),
      ))

  -- the same, place by place
  pub paths_by_place : (k : ℕ) → k < 2128 → sum_over 1024 (λ i. share s (i / 16) (i % 16) (p (i / 16) (i % 16)) k) ≡ flow_of s p k
  paths_by_place k h = sum_grid 64 16 _ ∙ grid_same 64 16 _ _ (λ l e i j.
      let a : (l * 16 + e) / 16 ≡ l = omega arith in
      let b : (l * 16 + e) % 16 ≡ e = omega arith in
      ap (λ l'. share s l' ((l * 16 + e) % 16) (p l' ((l * 16 + e) % 16)) k) a ∙ ap (λ e'. share s l e' (p l e') k) b) ∙ sym (paths_add_up_lem k h)

-- an arc is one of the four of a path, and gets x, or it gets nothing
pub record Alone (s : Situation) (l e x k : ℕ) : Type 0 where
  pub is : (k ≡ place (supply l)) ⊎ ((k ≡ place (offer l e)) ⊎ ((k ≡ place (bound (slot s l) e)) ⊎ (k ≡ place (demand e))))
  pub gets : share s l e x k ≡ x

pub alone : (s : Situation) (l e x k : ℕ) → l < 64 → e < 16 → Alone s l e x k ⊎ (share s l e x k ≡ 0)
alone s l e x k h j =
    let t = slot_low s l h in
    elim (cases_eq (place (supply l)) k) [
      | inl a ↦ inl (record { is = inl (sym a); gets = omega (arith, hit (place (supply l)) k x a, miss (place (offer l e)) k x (λ q. omega arith), miss (place (bound (slot s l) e)) k x (λ q. omega arith), miss (place (demand e)) k x (λ q. omega arith)) })
      | inr a ↦ elim (cases_eq (place (offer l e)) k) [
        | inl b ↦ inl (record { is = inr (inl (sym b)); gets = omega (arith, miss (place (supply l)) k x a, hit (place (offer l e)) k x b, miss (place (bound (slot s l) e)) k x (λ q. omega arith), miss (place (demand e)) k x (λ q. omega arith)) })
        | inr b ↦ elim (cases_eq (place (bound (slot s l) e)) k) [
          | inl c ↦ inl (record { is = inr (inr (inl (sym c))); gets = omega (arith, miss (place (supply l)) k x a, miss (place (offer l e)) k x b, hit (place (bound (slot s l) e)) k x c, miss (place (demand e)) k x (λ q. omega arith)) })
          | inr c ↦ elim (cases_eq (place (demand e)) k) [
            | inl d ↦ inl (record { is = inr (inr (inr (sym d))); gets = omega (arith, miss (place (supply l)) k x a, miss (place (offer l e)) k x b, miss (place (bound (slot s l) e)) k x c, hit (place (demand e)) k x d) })
            | inr d ↦ inr (omega (arith, miss (place (supply l)) k x a, miss (place (offer l e)) k x b, miss (place (bound (slot s l) e)) k x c, miss (place (demand e)) k x d))
          ]
        ]
      ]
    ]
