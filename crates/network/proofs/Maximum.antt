-- A flow is maximum only if no walk along residual arcs comes to the sink.
--
-- Where one comes there, a shortest one does too. Its arcs go one layer on each, so that one more can be sent along all of them
-- together. That is a flow whose value is greater by one.

use Rattle.std.proofs.Common.{◌≡◌, ℕ, zero, suc, ◌+◌, ◌-◌, ◌*◌, ◌/◌, ◌<◌, ◌≤◌, cond, eqb, sym, refl, ap, ◌∙◌, subst, inl, inr, add-one, arith}
use Rattle.std.proofs.lemmas.Bool.{cond-true, cond-false, eq-eqb, ne_eqb}
use Rattle.network.specs.Flow.{Net, Sound, Flow, Less, Maximum}
use Rattle.network.specs.Residual.{way, from, to, room, Walk, Distances}
use Rattle.network.specs.Residual.Walk.{stay, step}
use Rattle.network.specs.Augment.{Onward, Pushed, Trail, stop, Sent}
use Rattle.network.proofs.Residual.{from_in, parity, way_even, way_odd, room_even, room_odd}
use Rattle.network.proofs.Layers.{distance, distances, first_mark}
use Rattle.network.proofs.Augment.{push_even, push_odd, Sending, send_start, send_more, sent_flow, sent_less, trail_none, trail_on}

-- a shortest walk is a trail
module _ (N : Net) (f mark : ℕ → ℕ) (s : Sound N) (l : Distances N f mark) where
  abbrev Along : ℕ → ℕ → Type 0
  Along v d = (path : ℕ → ℕ) × Trail N f mark path d × (stop N path d ≡ v)

  -- the arc before the end of a shortest walk is that of a shortest walk too
  pub shortest : (d a : ℕ) → Walk N f (from N a) d → a < 2 * N.arcs → 0 < room N f a → mark (to N a) ≡ suc d + 1 → mark (from N a) ≡ d + 1
  shortest d a w h r e =
      let o = l.least (from N a) d w in
      let z = l.least (to N a) _ (step a (l.reached (from N a) (from_in N s a h) o.0) h r) in
      omega (arith, o, z)

  walk_trail : (v d : ℕ) → Walk N f v d → mark v ≡ d + 1 → Along v d
  walk_trail v d stay e = ((λ _. 0), trail_none N f mark (λ _. 0), refl)
  walk_trail v d (step {d = n} a w h r) e =
      let m = shortest n a w h r e in
      let t = walk_trail (from N a) n w m in
      let q : ℕ → ℕ = λ i. cond (eqb i n) a (t.0 i) in
      let same : (j : ℕ) → j < n → q j ≡ t.0 j = λ j g. cond-false (eqb j n) a (t.0 j) (ne_eqb j n (λ y. omega arith)) in
      let here : q n ≡ a = cond-true (eqb n n) a (t.0 n) (eq-eqb n n refl) in
      let on : Onward N mark a = omega (arith, m) in (
        q,
        subst (λ i. Trail N f mark q i) (add-one n) (trail_on N f mark t.0 q n a t.1 same here h r on (sym t.2)),
        ap (to N) here,
      )

-- f with x more along the residual arc a
abbrev plus : (ℕ → ℕ) → ℕ → ℕ → ℕ → ℕ
plus f a x k = cond (eqb k (a / 2)) (way a (f k + x) (f k - x)) (f k)

pushed : (N : Net) (f : ℕ → ℕ) (a x : ℕ) → a < 2 * N.arcs → x ≤ room N f a → ((k : ℕ) → k < N.arcs → f k ≤ N.cap k) → Pushed N f (plus f a x) a x
pushed N f a x h r w =
    let k = a / 2 in
    let i : a / 2 < N.arcs = omega arith in
    let else : (j : ℕ) → (j ≡ a / 2 → ⊥) → plus f a x j ≡ f j = λ j n. cond-false (eqb j (a / 2)) _ (f j) (ne_eqb j (a / 2) n) in
    let at : plus f a x (a / 2) ≡ way a (f (a / 2) + x) (f (a / 2) - x) = cond-true (eqb (a / 2) (a / 2)) _ _ (eq-eqb (a / 2) (a / 2) refl) in
    elim (parity a) [
      | inl e ↦ push_even N f (plus f a x) (a / 2) x i else a e
          (omega (arith, ap (room N f) e ∙ room_even N f (a / 2), w (a / 2) i))
          (at ∙ ap (λ b. way b (f (a / 2) + x) (f (a / 2) - x)) e ∙ way_even (a / 2) _ _)
      | inr e ↦
          let q = at ∙ ap (λ b. way b (f (a / 2) + x) (f (a / 2) - x)) e ∙ way_odd (a / 2) _ _ in
          push_odd N f (plus f a x) (a / 2) x i else a e (omega (arith, q, ap (room N f) e ∙ room_odd N f (a / 2)))
    ]

-- one more can be sent along the first i arcs of a trail
module _ (N : Net) (f₀ mark path : ℕ → ℕ) (d : ℕ) (first : mark N.source ≡ 1) (t : Trail N f₀ mark path d) (w : (k : ℕ) → k < N.arcs → f₀ k ≤ N.cap k) where
  send_all : (i : ℕ) → i ≤ d → (f : ℕ → ℕ) × Sending N f₀ f mark path 1 d i
  send_all zero h = (f₀, send_start N f₀ mark path 1 d first t w)
  send_all (suc i) h =
      let g = send_all i (omega arith) in
      let f = g.0 in
      let y = g.1 in
      let r : 1 ≤ room N f (path i) = omega (arith, y.ahead i (omega arith) (omega arith), t.roomy i (omega arith)) in
      let p = pushed N f (path i) 1 (t.known i (omega arith)) r y.sent.within in
      (plus f (path i) 1, subst (λ j. Sending N f₀ (plus f (path i) 1) mark path 1 d j) (add-one i) (send_more N f₀ mark path 1 d first t f (plus f (path i) 1) i (omega arith) y p))

pub augmented : (N : Net) (f : ℕ → ℕ) → Sound N → Flow N f → (d : ℕ) → Walk N f N.sink d → (g : ℕ → ℕ) × Flow N g × Less N f g
augmented N f s q d w =
    let mark = distance N f in
    let l = distances N f s in
    let p = (l.least N.sink d w).0 in
    let n = distance N f N.sink - 1 in
    let t = walk_trail N f (distance N f) s l N.sink (distance N f N.sink - 1) (l.reached N.sink s.sink_in p) (omega arith) in
    let g = send_all N f (distance N f) t.0 (distance N f N.sink - 1) (first_mark N f (distance N f) l) t.1 q.within (distance N f N.sink - 1) (omega arith) in
    let y = subst (λ u. Sent N f g.0 (distance N f) 1 u) t.2 g.1.sent in
    (g.0, sent_flow N f g.0 (distance N f) 1 q y, sent_less N f g.0 (distance N f) 1 s y (omega arith))

pub maximum_no_walk : (N : Net) (f : ℕ → ℕ) → Sound N → Flow N f → Maximum N f → (d : ℕ) → Walk N f N.sink d → ⊥
maximum_no_walk N f s q m d w = let g = augmented N f s q d w in omega (arith, g.2, m.1 g.0 g.1)
