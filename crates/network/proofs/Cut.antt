-- Maximum flow and minimum cut.
--
-- Let no walk along residual arcs come to the sink, and let S be the nodes that one comes to. An arc out of S is full, else its head
-- would be reached; an arc into S is empty, else its tail would be, back along it. So what the flow sends out of S, less what it sends
-- back, is the capacity of S, and it is the value (the balance of a cut). No flow's value passes this capacity, so the flow is maximum;
-- no cut has less capacity than the value, so S is minimum.

use Rattle.std.proofs.Common.{◌≡◌, ℕ, ◌+◌, ◌*◌, ◌<◌, Bool, ltb, inl, inr, arith}
use Rattle.std.proofs.lemmas.Bool.{lt-ltb, le-ltb, cases_lt}
use Rattle.std.proofs.lemmas.Bool.Decides.{nat_tests}
use Rattle.network.specs.Flow.{Net, over, across, Sound, Flow, Cut, value, capacity, Maximum, Minimum}
use Rattle.network.specs.Residual.{from, to, room, Walk, Distances}
use Rattle.network.specs.Residual.Walk.{stay, step}
use Rattle.network.proofs.Sums.{sum_same, sum_none}
use Rattle.network.proofs.Duality.{cut_balance, across_le, weak_duality_lem, against}
use Rattle.network.proofs.Residual.{from_in, from_even, from_odd, to_even, to_odd, room_even, room_odd}
use Rattle.network.proofs.Layers.{distance, distances}

module _ (N : Net) (f mark : ℕ → ℕ) (s : Sound N) (q : Flow N f) (l : Distances N f mark) (no-sink : mark N.sink ≡ 0) where
  abbrev pub got : ℕ → Bool
  got v = ltb 0 (mark v)

  closed : (a : ℕ) → a < 2 * N.arcs → 0 < room N f a → 0 < mark (from N a) → 0 < mark (to N a)
  closed a h r p = (l.least (to N a) _ (step a (l.reached (from N a) (from_in N s a h) p) h r)).0

  pub forward : (k : ℕ) → k < N.arcs → f k < N.cap k → 0 < mark (N.tail k) → 0 < mark (N.head k)
  forward k h r p = rw (to_even N k) at (closed (2 * k) (omega arith) (omega (arith, room_even N f k)) (rw (from_even N k) p))

  pub backward : (k : ℕ) → k < N.arcs → 0 < f k → 0 < mark (N.head k) → 0 < mark (N.tail k)
  backward k h r p = rw (to_odd N k) at (closed (2 * k + 1) (omega arith) (omega (arith, room_odd N f k)) (rw (from_odd N k) p))

  pub reached_cut : Cut N got
  reached_cut = record {
    has_source = lt-ltb 0 _ (l.least N.source 0 stay).0;
    lacks_sink = le-ltb 0 _ (omega arith);
  }

  full : across N got f ≡ capacity N got
  unfolding across
  full = sum_same N.arcs _ _ (λ k h.
      let a = forward k h in
      let b = q.within k h in
      grind (arith, nat_tests, cases_lt (f k) (N.cap k)))

  unused : against N f got q reached_cut ≡ 0
  unfolding over
  unused = sum_none N.arcs _ (λ k h.
      let a = backward k h in
      grind (arith, nat_tests, cases_lt 0 (f k)))

  pub value_is_capacity : value N f ≡ capacity N got
  value_is_capacity = omega (arith, cut_balance N f got q reached_cut s, full, unused)

  pub max_min : Maximum N f × Minimum N got × (value N f ≡ capacity N got)
  max_min = (
    (q, λ g h. omega (arith, cut_balance N f got q reached_cut s, full, unused, cut_balance N g got h reached_cut s, across_le N g got h reached_cut)),
    (reached_cut, λ R h. omega (arith, value_is_capacity, weak_duality_lem N f R q h s)),
    value_is_capacity,
  )

pub no_walk_maximum : (N : Net) (f : ℕ → ℕ) → Sound N → Flow N f → ((d : ℕ) → Walk N f N.sink d → ⊥) → Maximum N f
no_walk_maximum N f s q w =
    let l = distances N f s in
    (max_min N f (distance N f) s q l (elim (cases_lt 0 (distance N f N.sink)) [
      | inl p ↦ absurd (w _ (l.reached N.sink s.sink_in p))
      | inr z ↦ omega arith
    ])).0
