-- Weak duality: no flow's value passes any cut's capacity.
--
-- Sum conservation over the nodes of a cut, one node after the other: at an inner node as much enters as leaves, at the source the
-- value is left over, and the sink is not in the cut. So what leaves the nodes of the cut is what enters them and the value.
-- An arc within the cut counts on both sides. What is left is that the value is what the flow sends out of the cut, less what it
-- sends back into it. No arc carries more than its capacity, so the first is at most the cut's capacity, and the second at least 0.

use Rattle.std.proofs.Common.{◌≡◌, ℕ, zero, suc, ◌+◌, ◌<◌, ◌≤◌, Bool, true, false, not, ◌&&◌, eqb, ltb, sym, refl, ap, ◌∙◌, inl, inr, arith}
use Rattle.std.proofs.lemmas.Bool.{cases_eq, cases_Bool, both_ways, eq-eqb, ne_eqb}
use Rattle.std.proofs.lemmas.Bool.Decides.{nat_tests}
use Rattle.network.specs.Sums.{when}
use Rattle.network.specs.Flow.{Net, over, out_of, into, across, Sound, Flow, Cut, value, capacity}
use Rattle.network.proofs.Sums.{sum_four, sum_le, sum_zero, sum_none, sum_same, when_le}

-- the nodes of S below j
abbrev upto : (ℕ → Bool) → ℕ → ℕ → Bool
upto S j v = ltb v j && S v

upto_point : (S : ℕ → Bool) (j v x : ℕ) → S j ≡ true → when (upto S (suc j) v) x + 0 ≡ when (upto S j v) x + when (eqb j v) x
upto_point S j v x e = grind (arith, nat_tests, cases_Bool (S v), cases_eq j v, ap S)

over_more : (m : ℕ) (e : ℕ → ℕ) (S : ℕ → Bool) (f : ℕ → ℕ) (j : ℕ) → S j ≡ true → over m e (upto S (suc j)) f ≡ over m e (upto S j) f + over m e (eqb j) f
unfolding over
over_more m e S f j h =
    omega (arith, sum_four m _ (λ _. 0) _ _ (λ k l. upto_point S j (e k) (f k) h), sum_zero m)

upto_skip : (S : ℕ → Bool) (j v x : ℕ) → S j ≡ false → when (upto S (suc j) v) x ≡ when (upto S j v) x
upto_skip S j v x e = grind (arith, nat_tests, cases_Bool (S v), cases_eq j v, ap S)

over_skip : (m : ℕ) (e : ℕ → ℕ) (S : ℕ → Bool) (f : ℕ → ℕ) (j : ℕ) → S j ≡ false → over m e (upto S (suc j)) f ≡ over m e (upto S j) f
unfolding over
over_skip m e S f j h = sum_same m _ _ (λ k l. upto_skip S j (e k) (f k) h)

upto_none : (S : ℕ → Bool) (v x : ℕ) → when (upto S 0 v) x ≡ 0
upto_none S v x = grind (arith, nat_tests, cases_Bool (S v))

over_none : (m : ℕ) (e : ℕ → ℕ) (S : ℕ → Bool) (f : ℕ → ℕ) → over m e (upto S 0) f ≡ 0
unfolding over
over_none m e S f = sum_none m _ (λ k l. upto_none S (e k) (f k))

upto_whole : (S : ℕ → Bool) (n v x : ℕ) → v < n → when (upto S n v) x ≡ when (S v) x
upto_whole S n v x h = grind (arith, nat_tests, cases_Bool (S v))

over_whole : (m : ℕ) (e : ℕ → ℕ) (S : ℕ → Bool) (f : ℕ → ℕ) (n : ℕ) → ((k : ℕ) → k < m → e k < n) → over m e (upto S n) f ≡ over m e S f
unfolding over
over_whole m e S f n h = sum_same m _ _ (λ k l. upto_whole S n (e k) (f k) (h k l))

module _ (N : Net) (f : ℕ → ℕ) (S : ℕ → Bool) (q : Flow N f) (c : Cut N S) where
  -- conservation, summed over the nodes of the cut below j
  summed : (j : ℕ) → j ≤ N.nodes → out_of N (upto S j) f + when (ltb N.source j) (into N (eqb N.source) f) ≡ into N (upto S j) f + when (ltb N.source j) (out_of N (eqb N.source) f)
  summed zero h = grind (arith, nat_tests, over_none N.arcs N.tail S f, over_none N.arcs N.head S f)
  summed (suc j) h =
      let i : out_of N (upto S j) f + when (ltb N.source j) (into N (eqb N.source) f) ≡ into N (upto S j) f + when (ltb N.source j) (out_of N (eqb N.source) f) = summed j (omega arith) in
      elim (cases_Bool (S j)) [
        | inl y ↦
            let a = over_more N.arcs N.tail S f j y in
            let b = over_more N.arcs N.head S f j y in
            elim (cases_eq j N.source) [
              | inl e ↦ grind (arith, nat_tests, ap (λ v. over N.arcs N.tail (eqb v) f) e, ap (λ v. over N.arcs N.head (eqb v) f) e)
              | inr ne ↦
                  let g = q.conserved j h ne (λ e. both_ways (S j) (ap S e ∙ c.lacks_sink) y) in
                  grind (arith, nat_tests)
            ]
        | inr y ↦
            let a = over_skip N.arcs N.tail S f j y in
            let b = over_skip N.arcs N.head S f j y in
            let ne : j ≡ N.source → ⊥ = λ e. both_ways (S j) y (ap S e ∙ c.has_source) in
            grind (arith, nat_tests)
      ]

  abbrev pub against : ℕ
  against = over N.arcs (λ k. k) (λ k. S (N.head k) && not (S (N.tail k))) f

  crosses : (a b : Bool) (x : ℕ) → when a x + when (b && not a) x ≡ when b x + when (a && not b) x
  crosses true true x = refl
  crosses true false x = omega arith
  crosses false true x = omega arith
  crosses false false x = refl

  split : out_of N S f + against ≡ into N S f + across N S f
  unfolding over across
  split = sum_four N.arcs _ _ _ _ (λ k l. crosses (S (N.tail k)) (S (N.head k)) (f k))

  -- what a flow sends out of its source is what it sends across the cut
  pub cut_balance : Sound N → across N S f + into N (eqb N.source) f ≡ against + out_of N (eqb N.source) f
  cut_balance s =
      let i = summed N.nodes (omega arith) in
      let a = over_whole N.arcs N.tail S f N.nodes s.tails in
      let b = over_whole N.arcs N.head S f N.nodes s.heads in
      let d = s.source_in in
      let e = split in
      grind (arith, nat_tests)

  pub across_le : across N S f ≤ capacity N S
  unfolding across
  across_le = sum_le N.arcs _ _ (λ k l. when_le (S (N.tail k) && not (S (N.head k))) (f k) (N.cap k) (q.within k l))

  pub weak_duality_lem : Sound N → value N f ≤ capacity N S
  weak_duality_lem s = omega (arith, cut_balance s, across_le)

-- the source alone is a cut
pub source_cut : (N : Net) → Sound N → Cut N (eqb N.source)
source_cut N s = record { has_source = eq-eqb _ _ refl; lacks_sink = ne_eqb _ _ s.apart }

-- so the source's arcs bound what leaves it
pub source_bound : (N : Net) (f : ℕ → ℕ) → Sound N → Flow N f → out_of N (eqb N.source) f ≤ capacity N (eqb N.source) + into N (eqb N.source) f
source_bound N f s q =
    omega (arith, cut_balance N f (eqb N.source) q (source_cut N s) s, across_le N f (eqb N.source) q (source_cut N s))

over_zero : (m : ℕ) (e : ℕ → ℕ) (S : ℕ → Bool) (f : ℕ → ℕ) → ((k : ℕ) → k < m → f k ≡ 0) → over m e S f ≡ 0
unfolding over
over_zero m e S f z = sum_none m _ (λ k h. ap (when (S (e k))) (z k h) ∙ none_at (S (e k)))
  where
    none_at : (b : Bool) → when b 0 ≡ 0
    none_at true = refl
    none_at false = refl

-- nothing sent along any arc is a flow
pub zero_flow : (N : Net) (f : ℕ → ℕ) → ((k : ℕ) → k < N.arcs → f k ≡ 0) → Flow N f
zero_flow N f z = record {
  within = λ k h. omega (arith, z k h);
  conserved = λ v h a b. over_zero N.arcs N.head (eqb v) f z ∙ sym (over_zero N.arcs N.tail (eqb v) f z);
}
