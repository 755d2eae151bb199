-- Layers: by arcs they are those by walks; each flow has them; and a node's layer is no farther than there are nodes.

use Rattle.std.proofs.Common.{◌≡◌, ℕ, zero, suc, ◌+◌, ◌-◌, ◌*◌, ◌/◌, ◌%◌, ◌<◌, ◌≤◌, Bool, true, false, cond, ◌&&◌, ◌||◌, eqb, ltb, leb, sym, refl, ap, ◌∙◌, subst, inl, inr, arith}
use Rattle.std.proofs.lemmas.Bool.{ltb-true, lt-ltb, eqb-true, eq-eqb, cases_eq, cases_lt, cases_Bool, and_parts, and_from, or_cases, or_left, or_right}
use Rattle.std.proofs.lemmas.Bool.Decides.{nat_tests}
use Rattle.network.specs.Sums.{sum_over, when}
use Rattle.network.specs.Flow.{Net, Sound}
use Rattle.network.specs.Residual.{from, to, room, Walk, Distances, Layers}
use Rattle.network.specs.Residual.Walk.{stay, step}
use Rattle.network.proofs.Sums.{sum_le, sum_ones, sum_plus, sum_at, sum_term, miss, hit}
use Rattle.network.proofs.Residual.{from_in, to_in}

-- a walk keeps to the nodes
pub walk_in : (N : Net) (f : ℕ → ℕ) → Sound N → (v d : ℕ) → Walk N f v d → v < N.nodes
walk_in N f s v d stay = s.source_in
walk_in N f s v d (step a w h r) = to_in N s a h

-- a walk of no arcs stays at the source
pub walk_none : (N : Net) (f : ℕ → ℕ) (v d : ℕ) → Walk N f v d → d ≡ 0 → v ≡ N.source
walk_none N f v d stay e = refl
walk_none N f v d (step a w h r) e = absurd (omega arith)

-- Layers by arcs are layers by walks. A walk climbs one layer at most with each arc, so it is at least as long as the layer of its
-- end says. And from a node of a layer, going back to the layer before it again and again, there is a walk of just that length.
module _ (N : Net) (f mark : ℕ → ℕ) (s : Sound N) (l : Layers N f mark) where
  layers_least : (v d : ℕ) → Walk N f v d → (0 < mark v) × (mark v ≤ d + 1)
  layers_least v d stay = omega (arith, l.first)
  layers_least v d (step {d = e} a w h r) =
      let i = layers_least (from N a) e w in
      let o = l.onward a h r i.0 in
      (o.0, omega (arith, o.1, i.1))

  layers_reached : (d v : ℕ) → v < N.nodes → mark v ≡ suc d → Walk N f v d
  layers_reached zero v h e = subst (λ u. Walk N f u 0) (sym (l.lone v h e)) stay
  layers_reached (suc d) v h e =
      let b = l.backward v h (omega arith) in
      let w = layers_reached d (from N b.0) (from_in N s b.0 b.1) (omega (arith, b.4)) in
      subst (λ u. Walk N f u (suc d)) b.3 (step b.0 w b.1 b.2)

  pub layers_distances : Distances N f mark
  layers_distances = record {
    least = layers_least;
    reached = λ v h p. layers_reached (mark v - 1) v h (omega arith);
  }

pub first_mark : (N : Net) (f mark : ℕ → ℕ) → Distances N f mark → mark N.source ≡ 1
first_mark N f mark l = omega (arith, l.least N.source 0 stay)

pub distances_unique : (N : Net) (f m m' : ℕ → ℕ) → Distances N f m → Distances N f m' → (v : ℕ) → v < N.nodes → m v ≡ m' v
distances_unique N f m m' l l' v h =
    elim (cases_lt 0 (m v)) [
      | inl p ↦
          let i = l'.least v _ (l.reached v h p) in
          let j = l.least v _ (l'.reached v h i.0) in
          omega (arith, i, j)
      | inr z ↦ elim (cases_lt 0 (m' v)) [
        | inl p ↦ absurd (let i = l.least v _ (l'.reached v h p) in omega (arith, i))
        | inr z' ↦ omega arith
      ]
    ]

-- distances as far as M arcs: walks that are shorter than that are found
pub record Near (N : Net) (f mark : ℕ → ℕ) (M : ℕ) : Type 0 where
  pub least : (v d : ℕ) → d < M → Walk N f v d → (0 < mark v) × (mark v ≤ d + 1)
  pub reached : (v : ℕ) → v < N.nodes → 0 < mark v → Walk N f v (mark v - 1)
  pub bound : (v : ℕ) → v < N.nodes → mark v ≤ M

-- No node is farther than there are nodes: a shortest walk passes one node of each layer up to its end, so that there are at least
-- as many nodes as layers.
module _ (N : Net) (f mark : ℕ → ℕ) (M : ℕ) (s : Sound N) (l : Near N f mark M) where
  layer : (v d : ℕ) → Walk N f v d → mark v ≡ d + 1 → (j : ℕ) → 0 < j → j ≤ mark v → (u : ℕ) × (u < N.nodes) × (mark u ≡ j)
  layer v d stay e j p q = (N.source, s.source_in, omega arith)
  layer v d (step {d = n} a w h r) e j p q =
      let b = l.bound (to N a) (to_in N s a h) in
      let o = l.least (from N a) n (omega (arith, b)) w in
      let z = l.least (to N a) (suc (mark (from N a) - 1)) (omega (arith, b, o)) (step a (l.reached (from N a) (from_in N s a h) o.0) h r) in
      elim (cases_eq j (mark (to N a))) [
        | inl y ↦ (to N a, to_in N s a h, sym y)
        | inr y ↦ layer (from N a) n w (omega (arith, o, z)) j p (omega (arith, o, z))
      ]

  abbrev upto : ℕ → ℕ → ℕ
  upto d v = when (ltb 0 (mark v) && leb (mark v) d) 1

  one_more : (d u v : ℕ) → mark u ≡ suc d → upto d v + when (eqb u v) 1 ≤ upto (suc d) v
  one_more d u v e = grind (arith, nat_tests, cases_eq u v, ap mark)

  counts : (t : ℕ) → t < N.nodes → 0 < mark t → (d : ℕ) → d ≤ mark t → d ≤ sum_over N.nodes (upto d)
  counts t h p zero q = omega arith
  counts t h p (suc d) q =
      let u = layer t (mark t - 1) (l.reached t h p) (omega arith) (suc d) (omega arith) q in
      let i = counts t h p d (omega arith) in
      let o = sum_at N.nodes u.0 (λ v. when (eqb u.0 v) 1) u.1 (λ k _ n. miss u.0 k 1 (λ e. n (sym e))) in
      omega (arith, sum_le N.nodes (λ v. upto d v + when (eqb u.0 v) 1) (upto (suc d)) (λ v _. one_more d u.0 v u.2), sum_plus N.nodes (upto d) (λ v. when (eqb u.0 v) 1), o, hit u.0 u.0 1 refl)

  -- nor farther than there are nodes in a set that has all that are reached
  pub near_within : (D : ℕ → Bool) → ((v : ℕ) → v < N.nodes → 0 < mark v → D v ≡ true) → (t : ℕ) → t < N.nodes → 0 < mark t → mark t ≤ sum_over N.nodes (λ v. when (D v) 1)
  near_within D w t h p = omega (
    arith,
    counts t h p (mark t) (omega arith),
    sum_le N.nodes (upto (mark t)) (λ v. when (D v) 1) (λ v q. in_D v (w v q)),
  )
    where
      in_D : (v : ℕ) → (0 < mark v → D v ≡ true) → upto (mark t) v ≤ when (D v) 1
      in_D v y = grind (arith, nat_tests, cases_lt 0 (mark v), cases_Bool (D v))

  pub near_low : (v : ℕ) → v < N.nodes → mark v ≤ N.nodes
  near_low v h = elim (cases_lt 0 (mark v)) [
    | inl p ↦ omega (arith, near_within (λ _. true) (λ _ _ _. refl) v h p, sum_ones N.nodes)
    | inr z ↦ omega arith
  ]

-- distances are distances as far as any of them
pub distances_near : (N : Net) (f mark : ℕ → ℕ) → Distances N f mark → Near N f mark (sum_over N.nodes mark)
distances_near N f mark l = record {
  least = λ v d _ w. l.least v d w;
  reached = l.reached;
  bound = λ v h. sum_term N.nodes v mark h;
}

pub distances_low : (N : Net) (f mark : ℕ → ℕ) → Sound N → Distances N f mark → (v : ℕ) → v < N.nodes → mark v ≤ N.nodes
distances_low N f mark s l = near_low N f mark (sum_over N.nodes mark) s (distances_near N f mark l)

-- Each flow has layers. Whether some walk of just d arcs comes to v can be decided, going from d to d + 1 by a look at each residual
-- arc. The least such d below the number of nodes is the distance: by the count of layers, where a walk comes to v at all, a walk
-- shorter than that does.
abbrev any : ℕ → (ℕ → Bool) → Bool
any zero p = false
any (suc m) p = any m p || p m

any_true : (m : ℕ) (p : ℕ → Bool) → any m p ≡ true → (k : ℕ) × (k < m) × (p k ≡ true)
any_true zero p e = absurd (let z : ◌≡◌ {A = ℕ} 0 1 = cc in omega arith)
any_true (suc m) p e = elim (or_cases (any m p) (p m) e) [
  | inl y ↦ let t = any_true m p y in (t.0, omega (arith, t.1), t.2)
  | inr y ↦ (m, omega arith, y)
]

any_in : (m : ℕ) (p : ℕ → Bool) (k : ℕ) → k < m → p k ≡ true → any m p ≡ true
any_in zero p k h e = absurd (omega arith)
any_in (suc m) p k h e = elim (cases_eq k m) [
  | inl y ↦ or_right (any m p) (p m) (ap p (sym y) ∙ e)
  | inr y ↦ or_left (any m p) (p m) (any_in m p k (omega arith) e)
]

-- 1 more than the least number below m at which p holds, or 0
abbrev first : ℕ → (ℕ → Bool) → ℕ
first zero p = 0
first (suc m) p = cond (ltb 0 (first m p)) (first m p) (cond (p m) (suc m) 0)

first_low : (m : ℕ) (p : ℕ → Bool) → first m p ≤ m
first_low zero p = omega arith
first_low (suc m) p = let i = first_low m p in grind (arith, nat_tests, cases_Bool (p m))

first_found : (m : ℕ) (p : ℕ → Bool) → 0 < first m p → p (first m p - 1) ≡ true
first_found zero p h = absurd (omega arith)
first_found (suc m) p h = elim (cases_lt 0 (first m p)) [
  | inl y ↦ subst (λ x. p (x - 1) ≡ true) (let e : first m p ≡ first (suc m) p = grind (arith, nat_tests) in e) (first_found m p y)
  | inr y ↦ elim (cases_Bool (p m)) [
    | inl z ↦ subst (λ x. p x ≡ true) (let e : m ≡ first (suc m) p - 1 = grind (arith, nat_tests) in e) z
    | inr z ↦ absurd (let e : first (suc m) p ≡ 0 = grind (arith, nat_tests) in omega arith)
  ]
]

first_least : (m : ℕ) (p : ℕ → Bool) (d : ℕ) → d < m → p d ≡ true → (0 < first m p) × (first m p ≤ d + 1)
first_least zero p d h e = absurd (omega arith)
first_least (suc m) p d h e =
    let b = first_low m p in
    elim (cases_lt d m) [
      | inl y ↦
          let i = first_least m p d y e in
          let q : first (suc m) p ≡ first m p = grind (arith, nat_tests) in
          omega (arith, i)
      | inr y ↦
          let em : p m ≡ true = subst (λ x. p x ≡ true) (let q : d ≡ m = omega arith in q) e in
          elim (cases_lt 0 (first m p)) [
            | inl z ↦ let q : first (suc m) p ≡ first m p = grind (arith, nat_tests) in omega arith
            | inr z ↦ let q : first (suc m) p ≡ suc m = grind (arith, nat_tests) in omega arith
          ]
    ]

module _ (N : Net) (f : ℕ → ℕ) where
  -- some walk of d arcs comes to v
  abbrev comes : ℕ → ℕ → Bool
  comes zero v = eqb N.source v
  comes (suc d) v = any (2 * N.arcs) (λ a. ltb 0 (room N f a) && (eqb (to N a) v && comes d (from N a)))

  comes_walk : (d v : ℕ) → comes d v ≡ true → Walk N f v d
  comes_walk zero v e = subst (λ u. Walk N f u 0) (eqb-true N.source v e) stay
  comes_walk (suc d) v e =
      let t = any_true (2 * N.arcs) (λ a. ltb 0 (room N f a) && (eqb (to N a) v && comes d (from N a))) e in
      let p = and_parts (ltb 0 (room N f t.0)) _ t.2 in
      let q = and_parts (eqb (to N t.0) v) _ p.1 in
      subst (λ u. Walk N f u (suc d)) (eqb-true (to N t.0) v q.0) (step t.0 (comes_walk d (from N t.0) q.1) t.1 (ltb-true 0 _ p.0))

  walk_comes : (d v : ℕ) → Walk N f v d → comes d v ≡ true
  walk_comes d v stay = eq-eqb N.source N.source refl
  walk_comes d v (step {d = n} a w h r) =
      any_in (2 * N.arcs) (λ b. ltb 0 (room N f b) && (eqb (to N b) (to N a) && comes n (from N b))) a h
      (and_from (ltb 0 (room N f a)) _ (lt-ltb 0 _ r) (and_from (eqb (to N a) (to N a)) _ (eq-eqb _ _ refl) (walk_comes n (from N a) w)))

  near : (M : ℕ) → Near N f (λ v. first M (λ d. comes d v)) M
  near M = record {
    least = λ v d h w. first_least M (λ n. comes n v) d h (walk_comes d v w);
    reached = λ v h p. comes_walk _ v (first_found M (λ n. comes n v) p);
    bound = λ v h. first_low M (λ n. comes n v);
  }

  abbrev pub distance : ℕ → ℕ
  distance v = first N.nodes (λ d. comes d v)

  pub distance_low : (v : ℕ) → distance v ≤ N.nodes
  distance_low v = first_low N.nodes (λ d. comes d v)

  pub distances : Sound N → Distances N f distance
  distances s = record {
    least = λ v d w.
        let n = near (d + 1) in
        let h = walk_in N f s v d w in
        let o = n.least v d (omega arith) w in
        let b = near_low N f (λ u. first (d + 1) (λ e. comes e u)) (d + 1) s n v h in
        let z = (near N.nodes).least v _ (omega (arith, o, b)) (n.reached v h o.0) in
        (z.0, omega (arith, z, o));
    reached = (near N.nodes).reached;
  }

-- a node that is reached, other than the source, is entered along an arc with room, or back along one that is used
pub data Entered (N : Net) (f mark : ℕ → ℕ) (v : ℕ) : Type 0 where
  along : (k : ℕ) → k < N.arcs → f k < N.cap k → N.head k ≡ v → 0 < mark (N.tail k) → Entered N f mark v
  against : (k : ℕ) → k < N.arcs → 0 < f k → N.tail k ≡ v → 0 < mark (N.head k) → Entered N f mark v

module _ (N : Net) (f mark : ℕ → ℕ) (l : Distances N f mark) where
  by_arc : (a : ℕ) → a < 2 * N.arcs → 0 < room N f a → 0 < mark (from N a) → Entered N f mark (to N a)
  unfolding from to room
  by_arc a h r p =
      let i : a / 2 < N.arcs = omega arith in
      elim (cases_Bool (eqb (a % 2) 0)) [
        | inl y ↦ rw (y) (along (a / 2) i (let q : 0 < N.cap (a / 2) - f (a / 2) = rw y at r in omega arith) refl (rw y at p))
        | inr y ↦ rw (y) (against (a / 2) i (rw y at r) refl (rw y at p))
      ]

  enters_by : (v d : ℕ) → Walk N f v d → (v ≡ N.source → ⊥) → Entered N f mark v
  enters_by v d stay n = absurd (n refl)
  enters_by v d (step a w h r) n = by_arc a h r (l.least (from N a) _ w).0

  pub enters : (v : ℕ) → v < N.nodes → 0 < mark v → (v ≡ N.source → ⊥) → Entered N f mark v
  enters v h p n = enters_by v _ (l.reached v h p) n
