-- Sending more along residual arcs. Each arc of a trail leaves another layer, and of the two residual arcs of an arc one at most goes
-- a layer on. So what is sent along one arc of the trail leaves the room of the others as it was, and all of them can be sent the same.

use Rattle.std.proofs.Common.{◌≡◌, ℕ, zero, suc, ◌+◌, ◌-◌, ◌*◌, ◌/◌, ◌<◌, ◌≤◌, Bool, eqb, sym, refl, ap, ◌∙◌, subst, inl, inr, add-one, arith}
use Rattle.std.proofs.lemmas.Bool.{cases_eq, eq-eqb, ne_eqb, cond-true, cond-false}
use Rattle.network.specs.Sums.{when}
use Rattle.network.specs.Flow.{Net, over, Sound, Flow, Less}
use Rattle.network.specs.Residual.{from, to, room, way}
use Rattle.network.specs.Augment.{Onward, Pushed, Trail, stop, Sent}
use Rattle.network.proofs.Sums.{sum_change, when_add}
use Rattle.network.proofs.Residual.{to_in, from_even, from_odd, to_even, to_odd, room_even, room_odd, turned}

over_change : (m k : ℕ) (e : ℕ → ℕ) (S : ℕ → Bool) (f f' : ℕ → ℕ) → k < m → ((j : ℕ) → (j ≡ k → ⊥) → f' j ≡ f j) → over m e S f' + when (S (e k)) (f k) ≡ over m e S f + when (S (e k)) (f' k)
unfolding over
over_change m k e S f f' h s = sum_change m k (λ j. when (S (e j)) (f' j)) (λ j. when (S (e j)) (f j)) h (λ j n. ap (λ x. when (S (e j)) x) (s j n))

module _ (N : Net) (f f' : ℕ → ℕ) (k x : ℕ) (k-in : k < N.arcs) (else : (j : ℕ) → (j ≡ k → ⊥) → f' j ≡ f j) where
  others : (a b : ℕ) → a / 2 ≡ k → (b / 2 ≡ a / 2 → ⊥) → room N f' b ≡ room N f b
  unfolding room
  others a b e n = ap (λ y. way b (N.cap (b / 2) - y) y) (else (b / 2) (λ q. n (q ∙ sym e)))

  pub push_even : (a : ℕ) → a ≡ 2 * k → f k + x ≤ N.cap k → f' k ≡ f k + x → Pushed N f f' a x
  push_even a e h q = record {
    rest = λ b n. others a b (omega arith) n;
    fell = omega (arith, ap (room N f') e ∙ room_even N f' k, ap (room N f) e ∙ room_even N f k);
    rose = λ b eb n.
        let ob : b ≡ 2 * k + 1 = omega arith in
        omega (arith, ap (room N f') ob ∙ room_odd N f' k, ap (room N f) ob ∙ room_odd N f k);
    within = λ w j l. elim (cases_eq j k) [ inl d ↦ omega (arith, ap f' d, ap N.cap d) | inr n ↦ omega (arith, else j n, w j l) ];
    balance = λ v.
        let i = over_change N.arcs k N.head (eqb v) f f' k-in else in
        let o = over_change N.arcs k N.tail (eqb v) f f' k-in else in
        omega (
          arith,
          i,
          o,
          ap (when (eqb v (N.head k))) q,
          ap (when (eqb v (N.tail k))) q,
          when_add (eqb v (N.head k)) (f k) x,
          when_add (eqb v (N.tail k)) (f k) x,
          ap (λ u. when (eqb v u) x) (ap (from N) e ∙ from_even N k),
          ap (λ u. when (eqb v u) x) (ap (to N) e ∙ to_even N k),
        );
  }

  pub push_odd : (a : ℕ) → a ≡ 2 * k + 1 → f k ≡ f' k + x → Pushed N f f' a x
  push_odd a e q = record {
    rest = λ b n. others a b (omega arith) n;
    fell = omega (arith, ap (room N f') e ∙ room_odd N f' k, ap (room N f) e ∙ room_odd N f k);
    rose = λ b eb n.
        let ob : b ≡ 2 * k = omega arith in
        omega (arith, ap (room N f') ob ∙ room_even N f' k, ap (room N f) ob ∙ room_even N f k);
    within = λ w j l. elim (cases_eq j k) [ inl d ↦ omega (arith, ap f' d, ap f d, w j l) | inr n ↦ omega (arith, else j n, w j l) ];
    balance = λ v.
        let i = over_change N.arcs k N.head (eqb v) f f' k-in else in
        let o = over_change N.arcs k N.tail (eqb v) f f' k-in else in
        omega (
          arith,
          i,
          o,
          ap (when (eqb v (N.head k))) q,
          ap (when (eqb v (N.tail k))) q,
          when_add (eqb v (N.head k)) (f' k) x,
          when_add (eqb v (N.tail k)) (f' k) x,
          ap (λ u. when (eqb v u) x) (ap (from N) e ∙ from_odd N k),
          ap (λ u. when (eqb v u) x) (ap (to N) e ∙ to_odd N k),
        );
  }

-- of the two residual arcs of an arc, one at most goes a layer on
pub one_onward : (N : Net) (mark : ℕ → ℕ) (a b : ℕ) → b / 2 ≡ a / 2 → Onward N mark a → Onward N mark b → b ≡ a
one_onward N mark a b e la lb = elim (cases_eq b a) [
  | inl q ↦ q
  | inr n ↦ let t = turned N a b e n in absurd (omega (arith, ap mark t.0, ap mark t.1))
]

-- the first i arcs of the trail have got their x
pub record Sending (N : Net) (f₀ f mark path : ℕ → ℕ) (x d i : ℕ) : Type 0 where
  pub sent : Sent N f₀ f mark x (stop N path i)
  pub behind : (j : ℕ) → j < i → room N f (path j) + x ≡ room N f₀ (path j)
  pub ahead : (j : ℕ) → i ≤ j → j < d → room N f (path j) ≡ room N f₀ (path j)

trail_from : (N : Net) (f mark path : ℕ → ℕ) (d : ℕ) → mark N.source ≡ 1 → Trail N f mark path d → (i : ℕ) → i < d → mark (from N (path i)) ≡ i + 1
trail_from N f mark path d e t zero h = omega (arith, ap mark (t.joined zero h))
trail_from N f mark path d e t (suc i) h =
    let p = trail_from N f mark path d e t i (omega arith) in
    omega (arith, t.onward i (omega arith), ap mark (t.joined (suc i) h))

module _ (N : Net) (f₀ mark path : ℕ → ℕ) (x d : ℕ) (first : mark N.source ≡ 1) (t : Trail N f₀ mark path d) where
  pub send_start : ((k : ℕ) → k < N.arcs → f₀ k ≤ N.cap k) → Sending N f₀ f₀ mark path x d 0
  send_start w = record {
    sent = record { within = w; balance = λ v. omega arith; falls = λ b h l. omega arith; only = λ b h l. absurd (omega arith) };
    behind = λ j h. absurd (omega arith);
    ahead = λ j h l. refl;
  }

  -- the arcs of a trail are of different arcs of the network
  other : (i j : ℕ) → i < d → j < d → (i ≡ j → ⊥) → path j / 2 ≡ path i / 2 → ⊥
  other i j h l n e =
      let q = one_onward N mark (path i) (path j) e (t.onward i h) (t.onward j l) in
      n (omega (arith, ap (λ y. mark (from N y)) q, trail_from N f₀ mark path d first t i h, trail_from N f₀ mark path d first t j l))

  pub send_more : (f f' : ℕ → ℕ) (i : ℕ) → i < d → Sending N f₀ f mark path x d i → Pushed N f f' (path i) x → Sending N f₀ f' mark path x d (i + 1)
  send_more f f' i h s p =
      let la = t.onward i h in
      record {
        sent = subst (λ u. Sent N f₀ f' mark x (stop N path u)) (let z : suc i ≡ i + 1 = omega arith in z) (record {
          within = p.within s.sent.within;
          balance = λ v. omega (arith, s.sent.balance v, p.balance v, ap (λ u. when (eqb v u) x) (t.joined i h));
          falls = λ b hb lb. elim (cases_eq (b / 2) (path i / 2)) [
            | inl e ↦ let q = one_onward N mark (path i) b e la lb in omega (arith, ap (room N f') q, ap (room N f) q, p.fell, s.sent.falls b hb lb)
            | inr n ↦ omega (arith, p.rest b n, s.sent.falls b hb lb)
          ];
          only = λ b hb lt. elim (cases_eq (b / 2) (path i / 2)) [
            | inl e ↦ elim (cases_eq b (path i)) [
              | inl q ↦ subst (λ y. Onward N mark y) (sym q) la
              | inr n ↦ s.sent.only b hb (omega (arith, p.rose b e n))
            ]
            | inr n ↦ s.sent.only b hb (omega (arith, p.rest b n))
          ];
        });
        behind = λ j hj. elim (cases_eq j i) [
          | inl e ↦ omega (arith, ap (λ k. room N f' (path k)) e, ap (λ k. room N f₀ (path k)) e, p.fell, s.ahead i (omega arith) h)
          | inr n ↦ omega (arith, p.rest (path j) (other i j h (omega arith) (λ e. n (sym e))), s.behind j (omega arith))
        ];
        ahead = λ j hj l. p.rest (path j) (other i j h l (λ e. omega arith)) ∙ s.ahead j (omega arith) l;
      }

-- what was sent to the sink is a flow again
pub sent_flow : (N : Net) (f₀ f mark : ℕ → ℕ) (x : ℕ) → Flow N f₀ → Sent N f₀ f mark x N.sink → Flow N f
sent_flow N f₀ f mark x q s = record {
  within = s.within;
  conserved = λ v h ns nt.
      let b = s.balance v in
      let z = cond-false (eqb v N.source) x 0 (ne_eqb _ _ ns) in
      let w = cond-false (eqb v N.sink) x 0 (ne_eqb _ _ nt) in
      omega (arith, q.conserved v h ns nt);
}

-- and of a greater value
pub sent_less : (N : Net) (f₀ f mark : ℕ → ℕ) (x : ℕ) → Sound N → Sent N f₀ f mark x N.sink → 0 < x → Less N f₀ f
sent_less N f₀ f mark x s t h =
    omega (arith, t.balance N.source, cond-true (eqb N.source N.source) x 0 (eq-eqb _ _ refl), cond-false (eqb N.source N.sink) x 0 (ne_eqb _ _ s.apart))

-- stops depend on the arcs before them
pub stop_same : (N : Net) (p q : ℕ → ℕ) (i d : ℕ) → i ≤ d → ((j : ℕ) → j < d → p j ≡ q j) → stop N p i ≡ stop N q i
stop_same N p q zero d h e = refl
stop_same N p q (suc i) d h e = ap (to N) (e i (omega arith))

pub stop_in : (N : Net) (f mark path : ℕ → ℕ) (d : ℕ) → Sound N → Trail N f mark path d → (i : ℕ) → i ≤ d → stop N path i < N.nodes
stop_in N f mark path d s t zero h = s.source_in
stop_in N f mark path d s t (suc i) h = to_in N s (path i) (t.known i (omega arith))

-- the node at i is in the layer of i
pub trail_mark : (N : Net) (f mark path : ℕ → ℕ) (d : ℕ) → mark N.source ≡ 1 → Trail N f mark path d → (i : ℕ) → i ≤ d → mark (stop N path i) ≡ i + 1
trail_mark N f mark path d e t zero h = omega arith
trail_mark N f mark path d e t (suc i) h =
    let p = trail_mark N f mark path d e t i (omega arith) in
    omega (arith, t.onward i (omega arith), ap mark (t.joined i (omega arith)))

pub trail_none : (N : Net) (f mark path : ℕ → ℕ) → Trail N f mark path 0
trail_none N f mark path = record { known = λ i h. absurd (omega arith); roomy = λ i h. absurd (omega arith); onward = λ i h. absurd (omega arith); joined = λ i h. absurd (omega arith) }

pub trail_less : (N : Net) (f mark path : ℕ → ℕ) (d e : ℕ) → e ≤ d → Trail N f mark path d → Trail N f mark path e
trail_less N f mark path d e h t = record {
  known = λ i l. t.known i (omega arith);
  roomy = λ i l. t.roomy i (omega arith);
  onward = λ i l. t.onward i (omega arith);
  joined = λ i l. t.joined i (omega arith);
}

-- one arc more, a, from where the trail ended
module _ (N : Net) (f mark p q : ℕ → ℕ) (d a : ℕ) (t : Trail N f mark p d) (same : (j : ℕ) → j < d → q j ≡ p j) (here : q d ≡ a) (known : a < 2 * N.arcs) (roomy : 0 < room N f a)
    (onward : Onward N mark a) (joined : from N a ≡ stop N p d) where
  stops : (i : ℕ) → i ≤ d → stop N q i ≡ stop N p i
  stops i h = stop_same N q p i d h same

  -- what holds of a and of the arcs before it
  each : (P : ℕ → Type 0) → P a → ((i : ℕ) → i < d → P (p i)) → (i : ℕ) → i < d + 1 → P (q i)
  each P x y i h = elim (cases_eq i d) [
    | inl e ↦ subst P (sym (ap q e ∙ here)) x
    | inr n ↦ subst P (sym (same i (omega arith))) (y i (omega arith))
  ]

  pub trail_on : Trail N f mark q (d + 1)
  trail_on = record {
    known = each (λ x. x < 2 * N.arcs) known t.known;
    roomy = each (λ x. 0 < room N f x) roomy t.roomy;
    onward = each (Onward N mark) onward t.onward;
    joined = λ i h. elim (cases_eq i d) [
      | inl e ↦ ap (from N) (ap q e ∙ here) ∙ joined ∙ sym (stops d (omega arith)) ∙ ap (stop N q) (sym e)
      | inr n ↦ ap (from N) (same i (omega arith)) ∙ t.joined i (omega arith) ∙ sym (stops i (omega arith))
    ];
  }

  pub trail_end : stop N q (d + 1) ≡ to N a
  trail_end = ap (stop N q) (add-one d) ∙ ap (to N) here
