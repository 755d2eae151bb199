-- Two ways to say that the layers are blocked after a round: every layered path of the flow before it has a full arc; and no arcs that
-- still have room, each a layer on, lead from the source to the sink. The second is how a search sees it.
--
-- From the second to the first: follow a layered path while its arcs have room; if none is full, they lead to the sink. From the first
-- to the second: an arc that has room now and goes a layer on had room before. If not, its room rose, so the other residual arc of the
-- same arc lost room, so that one is layered; but of the two only one goes a layer on. So arcs that lead to the sink now are a layered
-- path of before, with no full arc.

use Rattle.std.proofs.Common.{◌≡◌, ℕ, zero, suc, ◌+◌, ◌-◌, ◌*◌, ◌/◌, ◌<◌, ◌⊎◌, List, [], ◌∷◌, length, get_or, sym, ap, ◌∙◌, subst, inl, inr, arith}
use Rattle.std.proofs.lemmas.Bool.{cases_lt}
use Rattle.network.specs.Flow.{Net, Sound, Flow}
use Rattle.network.specs.Residual.{ahead, back, from, to, room, Walk, Distances}
use Rattle.network.specs.Residual.Walk.{stay, step}
use Rattle.network.specs.Round.{Layered, Path, HasFull, Round}
use Rattle.network.specs.Round.Path.{end, next}
use Rattle.network.specs.Augment.{Onward, Leads, Blocked}
use Rattle.network.specs.Augment.Leads.{here, on}
use Rattle.network.proofs.Residual.{parity, room_even, room_odd, twin}
use Rattle.network.proofs.Maximum.{shortest}

-- a layered path of f, with a full arc under g, or with arcs under g that lead on
module _ (N : Net) (f g mark : ℕ → ℕ) where
  full_or_leads : (v : ℕ) (p : List ℕ) → Path N f mark v p → HasFull N g p ⊎ Leads N g mark v
  full_or_leads v p end = inr here
  full_or_leads v p (next {p = r} a y w) = elim (cases_lt 0 (room N g a)) [
    | inl k ↦ elim (full_or_leads (to N a) r w) [
      | inl z ↦ inl (suc z.0, omega (arith, z.1), z.2)
      | inr z ↦ inr (on a y.known k (y.reached, y.onward) z)
    ]
    | inr k ↦ inl (0, omega arith, omega arith)
  ]

  pub blocked_full : Blocked N g mark → (p : List ℕ) → Path N f mark N.source p → HasFull N g p
  blocked_full b p w = elim (full_or_leads N.source p w) [ inl z ↦ z | inr z ↦ absurd (b z) ]

-- a round, from what a search knows of it
pub round_of : (N : Net) (f f' mark : ℕ → ℕ) → Distances N f mark → 0 < mark N.sink → Flow N f → Flow N f'
    → ((b : ℕ) → b < 2 * N.arcs → room N f' b < room N f b → Onward N mark b) → Blocked N f' mark → Round N f f'
round_of N f f' mark l h q q' only b =
    let layered : (a : ℕ) → a < 2 * N.arcs → room N f' a < room N f a → Layered N f mark a = λ a i c.
    let o = only a i c in
    record { known = i; roomy = omega arith; reached = o.0; onward = o.1 } in
    record {
      mark = mark;
      layers = l;
      reaches = h;
      flows = q';
      risen = λ k i c. layered (ahead k) (omega arith) (omega (arith, room_even N f k, room_even N f' k, q'.within k i));
      fallen = λ k i c. layered (back k) (omega arith) (omega (arith, room_odd N f k, room_odd N f' k));
      blocks = blocked_full N f f' mark b;
    }

module _ (N : Net) (f f' : ℕ → ℕ) (q : Flow N f) (r : Round N f f') where
  -- where room was lost, the arc is layered
  pub lost : (a : ℕ) → a < 2 * N.arcs → room N f' a < room N f a → Layered N f r.mark a
  lost a h c =
      let i : a / 2 < N.arcs = omega arith in
      elim (parity a) [
        | inl e ↦ subst (Layered N f r.mark) (sym e) (r.risen (a / 2) i (omega (arith, ap (room N f) e ∙ room_even N f (a / 2), ap (room N f') e ∙ room_even N f' (a / 2))))
        | inr e ↦ subst (Layered N f r.mark) (sym e) (r.fallen (a / 2) i (omega (arith, ap (room N f) e ∙ room_odd N f (a / 2), ap (room N f') e ∙ room_odd N f' (a / 2))))
      ]

  -- where it was won, the arc goes a layer back
  pub won : (a : ℕ) → a < 2 * N.arcs → room N f a < room N f' a → (0 < r.mark (to N a)) × (r.mark (from N a) ≡ r.mark (to N a) + 1)
  won a h c =
      let t = twin N f f' q r.flows a h in
      let y = lost t.0 t.1 (omega (arith, t.4)) in
      let m = ap r.mark t.2 in
      let n = ap r.mark t.3 in
      (omega (arith, y.reached), omega (arith, y.onward))

  still : (a : ℕ) → a < 2 * N.arcs → 0 < room N f' a → Onward N r.mark a → 0 < room N f a
  still a h k o = elim (cases_lt 0 (room N f a)) [
    | inl y ↦ y
    | inr z ↦ absurd (let w = won a h (omega arith) in omega (arith, w, o))
  ]

  was_path : (v : ℕ) → Leads N f' r.mark v → (p : List ℕ) × Path N f r.mark v p × ((i : ℕ) → i < length p → 0 < room N f' (get_or p i 0))
  was_path v here = ([], end, λ i h. absurd (omega arith))
  was_path v (on a h k o w) =
      let t = was_path (to N a) w in
      let roomy : (i : ℕ) → i < length (a ∷ t.0) → 0 < room N f' (get_or (a ∷ t.0) i 0) = arcs a k t.0 t.2 in
      (a ∷ t.0, next a (record { known = h; roomy = still a h k o; reached = o.0; onward = o.1 }) t.1, roomy)
    where
      arcs : (a : ℕ) → 0 < room N f' a → (p : List ℕ) → ((i : ℕ) → i < length p → 0 < room N f' (get_or p i 0)) → (i : ℕ) → i < length (a ∷ p) → 0 < room N f' (get_or (a ∷ p) i 0)
      arcs a k p z zero l = k
      arcs a k p z (suc i) l = z i (omega arith)

  pub round_blocked : Blocked N f' r.mark
  round_blocked w =
      let t = was_path N.source w in
      let b = r.blocks t.0 t.1 in
      omega (arith, t.2 b.0 b.1, b.2)

-- where the layers reach the sink, a layered path leads to it
module _ (N : Net) (f mark : ℕ → ℕ) (s : Sound N) (l : Distances N f mark) where
  walk_path : (v d : ℕ) → Walk N f v d → mark v ≡ d + 1 → (p : List ℕ) → Path N f mark v p → (q : List ℕ) × Path N f mark N.source q
  walk_path v d stay e p w = (p, w)
  walk_path v d (step {d = n} a u h r) e p w =
      let m = shortest N f mark s l n a u h r e in
      walk_path (from N a) n u m (a ∷ p) (next a (record { known = h; roomy = r; reached = omega arith; onward = omega arith }) w)

  pub path_exists : 0 < mark N.sink → (q : List ℕ) × Path N f mark N.source q
  path_exists h = walk_path N.sink (mark N.sink - 1) (l.reached N.sink s.sink_in h) (omega arith) [] end
