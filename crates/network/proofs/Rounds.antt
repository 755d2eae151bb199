-- What rounds do: the value grows, the sink moves away, and so there are few of them.

use Rattle.std.proofs.Common.{◌≡◌, ℕ, zero, suc, ◌+◌, ◌-◌, ◌*◌, ◌/◌, ◌<◌, ◌≤◌, Bool, true, not, ◌&&◌, ltb, leb, List, length, get_or, sym, refl, ap, ◌∙◌, inl, inr, arith}
use Rattle.std.proofs.lemmas.Bool.{cases_eq, cases_lt, lt-leb, and_right}
use Rattle.std.proofs.lemmas.Bool.Decides.{nat_tests}
use Rattle.network.specs.Sums.{sum_over, when}
use Rattle.network.specs.Flow.{Net, over, across, Sound, Flow, Less, Cut}
use Rattle.network.specs.Residual.{from, to, room, Walk, Distances}
use Rattle.network.specs.Residual.Walk.{stay, step}
use Rattle.network.specs.Round.{Layered, Path, Round, Rounds}
use Rattle.network.specs.Round.Path.{end, next}
use Rattle.network.specs.Round.Rounds.{none, more}
use Rattle.network.specs.Augment.{Leads}
use Rattle.network.specs.Augment.Leads.{here, on}
use Rattle.network.proofs.Sums.{sum_lt, sum_plus, sum_term, sum_ones}
use Rattle.network.proofs.Duality.{cut_balance, against}
use Rattle.network.proofs.Residual.{from_in, from_even, from_odd, to_even, to_odd, room_even, room_odd, parity}
use Rattle.network.proofs.Layers.{first_mark, near_within, distances_near, walk_none}
use Rattle.network.proofs.Blocking.{won, round_blocked, path_exists}
use Rattle.network.proofs.Same.{path_layered, same_refl, same_flow}

-- A round makes the value greater.
--
-- Some layered path leads to the sink, and one of its arcs, with room before, is full after the round. It goes from some layer j to the
-- next. The nodes of the layers up to j are a cut. An arc out of this cut carries no less than before: else its way back is layered, and
-- leads to the cut from a farther layer. An arc into the cut carries no more than before: else it is layered, and leads from a farther
-- layer to a nearer one. And the full arc carries more, or less if it is a way back. So more is sent across the cut; that is the value.
module _ (N : Net) (f f' : ℕ → ℕ) (s : Sound N) (q : Flow N f) (r : Round N f f') where
  abbrev mark : ℕ → ℕ
  mark = r.mark

  -- a path climbs to the sink's layer
  path_low : (v : ℕ) (p : List ℕ) → Path N f mark v p → mark v ≤ mark N.sink
  path_low v p end = omega arith
  path_low v p (next {p = t} a y w) = omega (arith, path_low (to N a) t w, y.onward)

  path_below : (v : ℕ) (p : List ℕ) → Path N f mark v p → (i : ℕ) → i < length p → mark (to N (get_or p i 0)) ≤ mark N.sink
  path_below v p end i h = absurd (omega arith)
  path_below v p (next {p = t} a y w) zero h = path_low (to N a) t w
  path_below v p (next {p = t} a y w) (suc i) h = path_below (to N a) t w i (omega arith)

  -- the cut up to the layer j
  abbrev upto : ℕ → ℕ → Bool
  upto j v = ltb 0 (mark v) && leb (mark v) j

  upto_cut : (j : ℕ) → 0 < j → j < mark N.sink → Cut N (upto j)
  upto_cut j h l = record {
    has_source = let e = first_mark N f mark r.layers in grind (arith, nat_tests);
    lacks_sink = and_right (ltb 0 (mark N.sink)) _ (lt-leb _ _ l);
  }

  -- what crosses the cut out of it at the arc k, and into it
  abbrev leaves : ℕ → (ℕ → ℕ) → ℕ → ℕ
  leaves j g k = when (upto j (N.tail k) && not (upto j (N.head k))) (g k)

  abbrev enters : ℕ → (ℕ → ℕ) → ℕ → ℕ
  enters j g k = when (upto j (N.head k) && not (upto j (N.tail k))) (g k)

  layered_ahead : (k : ℕ) → k < N.arcs → f k < f' k → (0 < mark (N.tail k)) × (mark (N.head k) ≡ mark (N.tail k) + 1)
  layered_ahead k h c =
      let y = r.risen k h c in
      let e = ap mark (from_even N k) in
      let d = ap mark (to_even N k) in
      (omega (arith, y.reached), omega (arith, y.onward))

  layered_back : (k : ℕ) → k < N.arcs → f' k < f k → (0 < mark (N.head k)) × (mark (N.tail k) ≡ mark (N.head k) + 1)
  layered_back k h c =
      let y = r.fallen k h c in
      let e = ap mark (from_odd N k) in
      let d = ap mark (to_odd N k) in
      (omega (arith, y.reached), omega (arith, y.onward))

  no_less : (j k : ℕ) → k < N.arcs → leaves j f k + enters j f' k ≤ leaves j f' k + enters j f k
  no_less j k h =
      elim (cases_lt (f k) (f' k)) [
        | inl c ↦ let y = layered_ahead k h c in grind (arith, nat_tests)
        | inr c ↦ elim (cases_lt (f' k) (f k)) [
          | inl d ↦ let y = layered_back k h d in grind (arith, nat_tests)
          | inr d ↦ let e : f k ≡ f' k = omega arith in grind (arith, nat_tests)
        ]
      ]

  -- at an arc of the path that got full
  strictly : (a : ℕ) → Layered N f mark a → room N f' a ≡ 0 → leaves (mark (from N a)) f (a / 2) + enters (mark (from N a)) f' (a / 2) < leaves (mark (from N a)) f' (a / 2) + enters (mark (from N a)) f (a / 2)
  strictly a y z =
      let i : a / 2 < N.arcs = omega (arith, y.known) in
      let k = a / 2 in
      elim (parity a) [
        | inl e ↦
            let p = ap (λ b. mark (from N b)) e ∙ ap mark (from_even N (a / 2)) in
            let t = ap (λ b. mark (to N b)) e ∙ ap mark (to_even N (a / 2)) in
            let c : f (a / 2) < f' (a / 2) = omega (arith, ap (room N f) e ∙ room_even N f (a / 2), ap (room N f') e ∙ room_even N f' (a / 2), y.roomy, r.flows.within (a / 2) i) in
            let u = y.reached in
            let w = y.onward in
            grind (arith, nat_tests)
        | inr e ↦
            let p = ap (λ b. mark (from N b)) e ∙ ap mark (from_odd N (a / 2)) in
            let t = ap (λ b. mark (to N b)) e ∙ ap mark (to_odd N (a / 2)) in
            let c : f' (a / 2) < f (a / 2) = omega (arith, ap (room N f) e ∙ room_odd N f (a / 2), ap (room N f') e ∙ room_odd N f' (a / 2), y.roomy) in
            let u = y.reached in
            let w = y.onward in
            grind (arith, nat_tests)
      ]

  across_sum : (j : ℕ) (g : ℕ → ℕ) → across N (upto j) g ≡ sum_over N.arcs (leaves j g)
  unfolding across
  across_sum j g = refl

  against_sum : (j : ℕ) (g : ℕ → ℕ) (w : Flow N g) (c : Cut N (upto j)) → against N g (upto j) w c ≡ sum_over N.arcs (enters j g)
  unfolding over
  against_sum j g w c = refl

  more_crosses : (a : ℕ) → Layered N f mark a → mark (to N a) ≤ mark N.sink → room N f' a ≡ 0 → Less N f f'
  more_crosses a y low z =
      let j = mark (from N a) in
      let i : a / 2 < N.arcs = omega (arith, y.known) in
      let c = upto_cut (mark (from N a)) y.reached (omega (arith, y.onward)) in
      let t = sum_lt N.arcs (a / 2) (λ k. leaves (mark (from N a)) f k + enters (mark (from N a)) f' k) (λ k. leaves (mark (from N a)) f' k + enters (mark (from N a)) f k) i (no_less (mark (from N a))) (strictly a y z) in
      omega (
        arith,
        t,
        sum_plus N.arcs (leaves (mark (from N a)) f) (enters (mark (from N a)) f'),
        sum_plus N.arcs (leaves (mark (from N a)) f') (enters (mark (from N a)) f),
        cut_balance N f (upto (mark (from N a))) q c s,
        cut_balance N f' (upto (mark (from N a))) r.flows c s,
        across_sum (mark (from N a)) f,
        across_sum (mark (from N a)) f',
        against_sum (mark (from N a)) f q c,
        against_sum (mark (from N a)) f' r.flows c,
      )

  pub gains : Less N f f'
  gains =
      let t = path_exists N f mark s r.layers r.reaches in
      let b = r.blocks t.0 t.1 in
      more_crosses (get_or t.0 b.0 0) (path_layered N f mark N.source t.0 t.1 b.0 b.1) (path_below N.source t.0 t.1 b.0 b.1) b.2

-- A round takes the sink farther.
--
-- No residual arc of f' skips a layer of f: one that had room before leads one layer on at most, and one that won room leads a layer
-- back. So a walk of f' is at least as long as the layers of f say. One that is no longer climbs a layer with each arc, so its arcs
-- still have room and lead from the source to the sink a layer at a time; but the round blocked these.
module _ (N : Net) (f f' : ℕ → ℕ) (s : Sound N) (q : Flow N f) (r : Round N f f') where
  steps : (b : ℕ) → b < 2 * N.arcs → 0 < room N f' b → 0 < r.mark (from N b) → (0 < r.mark (to N b)) × (r.mark (to N b) ≤ r.mark (from N b) + 1)
  steps b h k p = elim (cases_lt 0 (room N f b)) [
    | inl old ↦
        let z = r.layers.least (to N b) _ (step b (r.layers.reached (from N b) (from_in N s b h) p) h old) in
        (z.0, omega (arith, z.1))
    | inr new ↦ let w = won N f f' q r b h (omega arith) in omega (arith, w)
  ]

  walks : (v d : ℕ) → Walk N f' v d → (0 < r.mark v) × (r.mark v ≤ d + 1) × (r.mark v ≡ d + 1 → Leads N f' r.mark v → Leads N f' r.mark N.source)
  walks v d stay = let z = r.layers.least N.source 0 stay in (z.0, z.1, λ _ m. m)
  walks v d (step {d = e} b w h k) =
      let i = walks (from N b) e w in
      let z = steps b h k i.0 in
      (z.0, omega (arith, z.1, i.1), λ eq m. i.2 (omega (arith, z.1, i.1)) (on b h k (i.0, omega (arith, z.1, i.1)) m))

  pub sink_farther : (d : ℕ) → Walk N f' N.sink d → r.mark N.sink < d + 1
  sink_farther d w =
      let i = walks N.sink d w in
      elim (cases_eq (r.mark N.sink) (d + 1)) [
        | inl e ↦ absurd (round_blocked N f f' q r (i.2 e here))
        | inr n ↦ omega (arith, i.1)
      ]

pub farther : (N : Net) (f f' mark' : ℕ → ℕ) → Sound N → Flow N f → (r : Round N f f') → Distances N f' mark' → 0 < mark' N.sink → r.mark N.sink < mark' N.sink
farther N f f' mark' s q r l' h = omega (arith, sink_farther N f f' s q r (mark' N.sink - 1) (l'.reached N.sink s.sink_in h))

-- There are few rounds. The sink is two layers from nothing at first, the source being in the first layer, and one more after each
-- round; and at each round it is no farther than there are nodes that a walk can come to.
pub flows_on : (N : Net) (k : ℕ) (f g : ℕ → ℕ) → Rounds N k f g → Flow N f → Flow N g
flows_on N k f g (none a) q = same_flow N N (same_refl N) f g a q
flows_on N k f g (more r t) q = t.flows

module _ (N : Net) (s : Sound N) where
  second : (f mark : ℕ → ℕ) → Distances N f mark → 0 < mark N.sink → 1 < mark N.sink
  second f mark l p = elim (cases_lt 1 (mark N.sink)) [
    | inl y ↦ y
    | inr z ↦ absurd (s.apart (sym (walk_none N f N.sink _ (l.reached N.sink s.sink_in p) (omega arith))))
  ]

  pub long : (k : ℕ) (f g mark : ℕ → ℕ) → Rounds N k f g → Flow N f → Distances N g mark → 0 < mark N.sink → k + 1 < mark N.sink
  long k f g mark (none a) q l p = omega (arith, second g mark l p)
  long k f g mark (more {k = j} {g = h} r t) q l p =
      omega (arith, long j f h t.mark r q t.layers t.reaches, farther N h g mark s (flows_on N j f h r q) t l p)

  module _ (D : ℕ → Bool) (w : (h : ℕ → ℕ) (v d : ℕ) → Flow N h → Walk N h v d → D v ≡ true) where
    pub rounds_within : (k : ℕ) (f g : ℕ → ℕ) → Rounds N k f g → Flow N f → k < sum_over N.nodes (λ v. when (D v) 1)
    rounds_within k f g (none a) q =
        omega (arith, sum_term N.nodes N.source (λ v. when (D v) 1) s.source_in, ap (λ b. when b 1) (w f N.source 0 q stay))
    rounds_within k f g (more {k = j} {g = h} r t) q =
        let n = near_within N h t.mark (sum_over N.nodes t.mark) s (distances_near N h t.mark t.layers) D
        (λ v i p. w h v _ (flows_on N j f h r q) (t.layers.reached v i p)) N.sink s.sink_in t.reaches in
        omega (arith, long j f h t.mark r q t.layers t.reaches, n)

  pub rounds_few : (k : ℕ) (f g : ℕ → ℕ) → Rounds N k f g → Flow N f → k < N.nodes
  rounds_few k f g c q = omega (arith, rounds_within (λ _. true) (λ _ _ _ _ _. refl) k f g c q, sum_ones N.nodes)
