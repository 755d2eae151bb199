-- Networks that are the same on their arcs: sums over arcs, rooms, walks, layers and paths speak of arcs alone, so all of them carry over.

use Rattle.std.proofs.Common.{◌≡◌, ℕ, zero, suc, ◌-◌, ◌*◌, ◌/◌, ◌<◌, Bool, eqb, List, [], ◌∷◌, length, get_or, sym, refl, ap, ◌∙◌, subst, arith}
use Rattle.network.specs.Sums.{sum_over, when, Agree}
use Rattle.network.specs.Flow.{Net, over, out_of, into, Flow, value, Maximum}
use Rattle.network.specs.Residual.{ahead, back, way, from, to, room, Walk, Distances}
use Rattle.network.specs.Residual.Walk.{stay, step}
use Rattle.network.specs.Round.{Layered, Path, Round, Rounds}
use Rattle.network.specs.Round.Path.{end, next}
use Rattle.network.specs.Round.Rounds.{none, more}
use Rattle.network.specs.Same.{Same}
use Rattle.network.proofs.Sums.{sum_same}

pub same_refl : (N : Net) → Same N N
same_refl N = record { nodes = refl; arcs = refl; source = refl; sink = refl; tails = λ k h. refl; heads = λ k h. refl; caps = λ k h. refl }

pub same_sym : (N M : Net) → Same N M → Same M N
same_sym N M e = record {
  nodes = sym e.nodes;
  arcs = sym e.arcs;
  source = sym e.source;
  sink = sym e.sink;
  tails = λ k h. sym (e.tails k (omega (arith, e.arcs)));
  heads = λ k h. sym (e.heads k (omega (arith, e.arcs)));
  caps = λ k h. sym (e.caps k (omega (arith, e.arcs)));
}

agree_sym : (m n : ℕ) (f g : ℕ → ℕ) → m ≡ n → Agree m f g → Agree n g f
agree_sym m n f g e h k l = sym (h k (omega arith))

pub over_same : (m n : ℕ) (s t : ℕ → ℕ) (S : ℕ → Bool) (f g : ℕ → ℕ) → m ≡ n → Agree m s t → Agree m f g → over m s S f ≡ over n t S g
unfolding over
over_same m n s t S f g e p h =
    sum_same m _ (λ k. when (S (t k)) (g k)) (λ k l. ap (λ v. when (S v) (f k)) (p k l) ∙ ap (when (S (t k))) (h k l))
    ∙ ap (λ i. sum_over i (λ k. when (S (t k)) (g k))) e

module _ (N M : Net) (e : Same N M) where
  same_out : (S : ℕ → Bool) (f g : ℕ → ℕ) → Agree N.arcs f g → out_of N S f ≡ out_of M S g
  same_out S f g h = over_same N.arcs M.arcs N.tail M.tail S f g e.arcs e.tails h

  same_in : (S : ℕ → Bool) (f g : ℕ → ℕ) → Agree N.arcs f g → into N S f ≡ into M S g
  same_in S f g h = over_same N.arcs M.arcs N.head M.head S f g e.arcs e.heads h

  -- at the source
  source_out : (f g : ℕ → ℕ) → Agree N.arcs f g → out_of N (eqb N.source) f ≡ out_of M (eqb M.source) g
  source_out f g h = same_out (eqb N.source) f g h ∙ ap (λ u. out_of M (eqb u) g) e.source

  source_in : (f g : ℕ → ℕ) → Agree N.arcs f g → into N (eqb N.source) f ≡ into M (eqb M.source) g
  source_in f g h = same_in (eqb N.source) f g h ∙ ap (λ u. into M (eqb u) g) e.source

  pub same_value : (f g : ℕ → ℕ) → Agree N.arcs f g → value N f ≡ value M g
  same_value f g h = omega (arith, source_out f g h, source_in f g h)

  pub same_flow : (f g : ℕ → ℕ) → Agree N.arcs f g → Flow N f → Flow M g
  same_flow f g h q = record {
    within = λ k l.
        let i : k < N.arcs = omega (arith, e.arcs) in
        omega (arith, q.within k i, h k i, e.caps k i);
    conserved = λ v l a b.
        sym (same_in (eqb v) f g h) ∙ q.conserved v (omega (arith, e.nodes)) (λ y. a (y ∙ e.source)) (λ y. b (y ∙ e.sink)) ∙ same_out (eqb v) f g h;
  }

  half_in : (a : ℕ) → a < 2 * N.arcs → a / 2 < N.arcs
  half_in a l = omega arith

  same_from : (a : ℕ) → a < 2 * N.arcs → from N a ≡ from M a
  unfolding from
  same_from a l = ap (λ x. way a x (N.head (a / 2))) (e.tails (a / 2) (half_in a l)) ∙ ap (way a (M.tail (a / 2))) (e.heads (a / 2) (half_in a l))

  same_to : (a : ℕ) → a < 2 * N.arcs → to N a ≡ to M a
  unfolding to
  same_to a l = ap (λ x. way a x (N.tail (a / 2))) (e.heads (a / 2) (half_in a l)) ∙ ap (way a (M.head (a / 2))) (e.tails (a / 2) (half_in a l))

  same_room : (f g : ℕ → ℕ) → Agree N.arcs f g → (a : ℕ) → a < 2 * N.arcs → room N f a ≡ room M g a
  unfolding room
  same_room f g h a l = ap (λ x. way a (x - f (a / 2)) (f (a / 2))) (e.caps (a / 2) (half_in a l)) ∙ ap (λ y. way a (M.cap (a / 2) - y) y) (h (a / 2) (half_in a l))

  same_walk : (f g : ℕ → ℕ) → Agree N.arcs f g → (v d : ℕ) → Walk N f v d → Walk M g v d
  same_walk f g h v d stay = subst (λ u. Walk M g u 0) (sym e.source) stay
  same_walk f g h v d (step {d = n} a w l r) =
      subst (λ u. Walk M g u (suc n)) (sym (same_to a l))
      (step a (subst (λ u. Walk M g u n) (same_from a l) (same_walk f g h (from N a) n w)) (omega (arith, e.arcs)) (omega (arith, same_room f g h a l)))

  same_layered : (f g mark : ℕ → ℕ) → Agree N.arcs f g → (a : ℕ) → Layered N f mark a → Layered M g mark a
  same_layered f g mark h a y =
      let p = ap mark (same_from a y.known) in
      let q = ap mark (same_to a y.known) in
      record {
        known = omega (arith, e.arcs, y.known);
        roomy = omega (arith, same_room f g h a y.known, y.roomy);
        reached = omega (arith, y.reached);
        onward = omega (arith, y.onward);
      }

  same_path : (f g mark : ℕ → ℕ) → Agree N.arcs f g → (v : ℕ) (p : List ℕ) → Path N f mark v p → Path M g mark v p
  same_path f g mark h v p end = subst (λ u. Path M g mark u []) (sym e.sink) end
  same_path f g mark h v p (next {p = r} a y w) =
      subst (λ u. Path M g mark u (a ∷ r)) (sym (same_from a y.known))
      (next a (same_layered f g mark h a y) (subst (λ u. Path M g mark u r) (same_to a y.known) (same_path f g mark h (to N a) r w)))

-- each arc of a path is layered
pub path_layered : (N : Net) (f mark : ℕ → ℕ) (v : ℕ) (p : List ℕ) → Path N f mark v p → (i : ℕ) → i < length p → Layered N f mark (get_or p i 0)
path_layered N f mark v p end i h = absurd (omega arith)
path_layered N f mark v p (next a y w) zero h = y
path_layered N f mark v p (next {p = r} a y w) (suc i) h = path_layered N f mark (to N a) r w i (omega arith)

module _ (N M : Net) (e : Same N M) where
  abbrev other : Same M N
  other = same_sym N M e

  pub same_maximum : (f g : ℕ → ℕ) → Agree N.arcs f g → Maximum N f → Maximum M g
  same_maximum f g h m = (
    same_flow N M e f g h m.0,
    λ x q.
        let y = m.1 x (same_flow M N other x x (λ k l. refl) q) in
        omega (arith, y, source_out N M e f g h, source_in N M e f g h, source_out N M e x x (λ k l. refl), source_in N M e x x (λ k l. refl)),
  )

  pub same_distances : (f g mark : ℕ → ℕ) → Agree N.arcs f g → Distances N f mark → Distances M g mark
  same_distances f g mark h l = record {
    least = λ v d w. l.least v d (same_walk M N other g f (agree_sym _ _ f g e.arcs h) v d w);
    reached = λ v i p. same_walk N M e f g h v _ (l.reached v (omega (arith, e.nodes)) p);
  }

  pub same_round : (f g f' g' : ℕ → ℕ) → Agree N.arcs f g → Agree N.arcs f' g' → Round N f f' → Round M g g'
  same_round f g f' g' h h' r = record {
    mark = r.mark;
    layers = same_distances f g r.mark h r.layers;
    reaches = omega (arith, ap r.mark e.sink, r.reaches);
    flows = same_flow N M e f' g' h' r.flows;
    risen = λ k l c.
        let i : k < N.arcs = omega (arith, e.arcs) in
        same_layered N M e f g r.mark h (ahead k) (r.risen k i (omega (arith, h k i, h' k i)));
    fallen = λ k l c.
        let i : k < N.arcs = omega (arith, e.arcs) in
        same_layered N M e f g r.mark h (back k) (r.fallen k i (omega (arith, h k i, h' k i)));
    blocks = λ p w.
        let u = same_path M N other g f r.mark (agree_sym _ _ f g e.arcs h) M.source p w in
        let u' = subst (λ v. Path N f r.mark v p) (sym e.source) u in
        let b = r.blocks p u' in
        (b.0, b.1, sym (same_room N M e f' g' h' (get_or p b.0 0) (path_layered N f r.mark N.source p u' b.0 b.1).known) ∙ b.2);
  }

  pub same_rounds : (k : ℕ) (f g f' g' : ℕ → ℕ) → Agree N.arcs f g → Agree N.arcs f' g' → Rounds N k f f' → Rounds M k g g'
  same_rounds k f g f' g' h h' (none a) = none (λ i l.
      let j : i < N.arcs = omega (arith, e.arcs) in
      sym (h i j) ∙ a i j ∙ h' i j)
  same_rounds k f g f' g' h h' (more {k = j} {g = x} c r) = more (same_rounds j f g x x h (λ i l. refl) c) (same_round x x f' g' (λ i l. refl) h' r)
