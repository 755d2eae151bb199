use Rattle.std.proofs.Common.{◌≡◌, ◌+◌, sym, refl, ap, ◌∙◌, inl, inr, arith}
use Rattle.std.proofs.lemmas.Bool.{cases_lt}
use Rattle.flow.specs.Lists.{at}
use Rattle.flow.specs.ListsLemmas.{put}
use Rattle.flow.proofs.Blocking.{listed_target, end_in, walk_none, scan, scan_at, scan_left, scan_deep, scan_on, back_in, back_walk, back_left}
use Rattle.flow.proofs.residual.Residual.descend.Goals as goal

pub offset_bounds-cursor-v : goal.offset_bounds-cursor-v
offset_bounds-cursor-v g c = let E = end_in (g.met.G.Network.lawful c.args.self.now.network.now) c.requires.marks c.loop-v.invariant.0 c.loop-v.v c.loop-v.invariant.1 in omega (arith, E)

pub bounds-cursor-v : goal.bounds-cursor-v
bounds-cursor-v g c = let E = end_in (g.met.G.Network.lawful c.args.self.now.network.now) c.requires.marks c.loop-v.invariant.0 c.loop-v.v c.loop-v.invariant.1 in omega (arith, E, c.requires.fits)

pub first_open-i-requires : goal.first_open-i-requires
first_open-i-requires g c = let E = end_in (g.met.G.Network.lawful c.args.self.now.network.now) c.requires.marks c.loop-v.invariant.0 c.loop-v.v c.loop-v.invariant.1 in record { marks = (c.requires.fits.mark, E.2); node = (E.0, E.1) }

pub overflow_cast-cursor-in-loop-v : goal.overflow_cast-cursor-in-loop-v
overflow_cast-cursor-in-loop-v g c = let E = end_in (g.met.G.Network.lawful c.args.self.now.network.now) c.requires.marks c.loop-v.invariant.0 c.loop-v.v c.loop-v.invariant.1 in omega (arith, E, c.first_open-i.ensures.high)

pub offset_bounds-cursor-v-in-loop-v : goal.offset_bounds-cursor-v-in-loop-v
offset_bounds-cursor-v-in-loop-v g c = let E = end_in (g.met.G.Network.lawful c.args.self.now.network.now) c.requires.marks c.loop-v.invariant.0 c.loop-v.v c.loop-v.invariant.1 in omega (arith, E)

pub bounds-cursor-v-in-loop-v : goal.bounds-cursor-v-in-loop-v
bounds-cursor-v-in-loop-v g c = let E = end_in (g.met.G.Network.lawful c.args.self.now.network.now) c.requires.marks c.loop-v.invariant.0 c.loop-v.v c.loop-v.invariant.1 in omega (arith, E, c.requires.fits)

pub degree-requires : goal.degree-requires
degree-requires g c = let E = end_in (g.met.G.Network.lawful c.args.self.now.network.now) c.requires.marks c.loop-v.invariant.0 c.loop-v.v c.loop-v.invariant.1 in E.0

pub leaving-requires : goal.leaving-requires
leaving-requires g c = let E = end_in (g.met.G.Network.lawful c.args.self.now.network.now) c.requires.marks c.loop-v.invariant.0 c.loop-v.v c.loop-v.invariant.1 in (E.0, omega (arith, c.degree.ensures, c.if-i-degree.true))

pub overflow_cast-path : goal.overflow_cast-path
overflow_cast-path g c = let E = end_in (g.met.G.Network.lawful c.args.self.now.network.now) c.requires.marks c.loop-v.invariant.0 c.loop-v.v c.loop-v.invariant.1 in
    let L = g.met.G.Network.lawful c.args.self.now.network.now in
    omega (arith, c.leaving.ensures, L.few_arcs, L.listed.known c.loop-v.v c.first_open-i.result E.0 (omega (arith, c.degree.ensures, c.if-i-degree.true)))

pub target-v-requires : goal.target-v-requires
target-v-requires g c = let E = end_in (g.met.G.Network.lawful c.args.self.now.network.now) c.requires.marks c.loop-v.invariant.0 c.loop-v.v c.loop-v.invariant.1 in (E.0, omega (arith, c.degree.ensures, c.if-i-degree.true))

pub overflow_cast-stack : goal.overflow_cast-stack
overflow_cast-stack g c = let E = end_in (g.met.G.Network.lawful c.args.self.now.network.now) c.requires.marks c.loop-v.invariant.0 c.loop-v.v c.loop-v.invariant.1 in
    let h = listed_target (g.met.G.Network.lawful c.args.self.now.network.now) E.0 c.degree.ensures c.if-i-degree.true c.target-v.ensures in
    omega (arith, h)

pub bounds-stack-d-then-i-degree : goal.bounds-stack-d-then-i-degree
bounds-stack-d-then-i-degree g c = let h = scan_deep (g.met.G.Network.lawful c.args.self.now.network.now) c.requires.marks c.loop-v.cursor c.loop-v.invariant c.first_open-i.ensures (omega (arith, c.requires.fits)) (omega (arith, c.degree.ensures, c.if-i-degree.true)) in omega (arith, h, c.requires.fits)

pub loop-v-smaller-then-i-degree : goal.loop-v-smaller-then-i-degree
loop-v-smaller-then-i-degree g c = let E = end_in (g.met.G.Network.lawful c.args.self.now.network.now) c.requires.marks c.loop-v.invariant.0 c.loop-v.v c.loop-v.invariant.1 in let l = scan_left (g.met.G.Network.lawful c.args.self.now.network.now) c.requires.marks c.loop-v.cursor c.loop-v.invariant c.first_open-i.ensures (omega (arith, c.requires.fits)) in omega (arith, E, l)

pub loop-v-preserved-then-i-degree : goal.loop-v-preserved-then-i-degree
loop-v-preserved-then-i-degree g c =
    let h = scan_deep (g.met.G.Network.lawful c.args.self.now.network.now) c.requires.marks c.loop-v.cursor c.loop-v.invariant c.first_open-i.ensures (omega (arith, c.requires.fits)) (omega (arith, c.degree.ensures, c.if-i-degree.true)) in
    let ms = put c.loop-v.stack (c.loop-v.d + 1) c.target-v.result (omega (arith, h, c.requires.fits)) in (
      scan_on (g.met.G.Network.lawful c.args.self.now.network.now) c.requires.marks c.loop-v.cursor c.loop-v.invariant c.first_open-i.ensures (omega (arith, c.requires.fits)) _ _ c.leaving.result c.target-v.result (omega (arith, c.degree.ensures, c.if-i-degree.true)) c.leaving.ensures c.target-v.ensures
          (put c.loop-v.path c.loop-v.d c.leaving.result (omega (arith, h, c.requires.fits))) ms,
      sym ms.0,
    )

pub returns-then-d-eq0-clause-descended : goal.returns-then-d-eq0-clause-descended
returns-then-d-eq0-clause-descended g c =
    walk_none (g.met.G.Network.lawful c.args.self.now.network.now) c.requires.marks (scan (g.met.G.Network.lawful c.args.self.now.network.now) c.requires.marks c.loop-v.cursor c.loop-v.invariant c.first_open-i.ensures (omega (arith, c.requires.fits))) c.loop-v.v c.loop-v.invariant.1 c.if-d-eq0.true (λ e. c.loop-v-test.true (e ∙ sym c.sink-t.ensures))
    (omega (arith, scan_at (g.met.G.Network.lawful c.args.self.now.network.now) c.requires.marks c.loop-v.cursor c.loop-v.invariant c.first_open-i.ensures (omega (arith, c.requires.fits)), c.degree.ensures, c.if-i-degree.false))

pub bounds-cursor-v-else-d-eq0 : goal.bounds-cursor-v-else-d-eq0
bounds-cursor-v-else-d-eq0 g c = let h = back_in (g.met.G.Network.lawful c.args.self.now.network.now) c.requires.marks c.loop-v.cursor c.loop-v.invariant c.first_open-i.ensures (omega (arith, c.requires.fits)) (omega (arith, c.if-d-eq0.false)) in omega (arith, h)

pub overflow_add-cursor : goal.overflow_add-cursor
overflow_add-cursor g c = let h = back_in (g.met.G.Network.lawful c.args.self.now.network.now) c.requires.marks c.loop-v.cursor c.loop-v.invariant c.first_open-i.ensures (omega (arith, c.requires.fits)) (omega (arith, c.if-d-eq0.false)) in omega (arith, h)

pub bounds-cursor-v-else-d-eq0-2 : goal.bounds-cursor-v-else-d-eq0-2
bounds-cursor-v-else-d-eq0-2 g c = let h = back_in (g.met.G.Network.lawful c.args.self.now.network.now) c.requires.marks c.loop-v.cursor c.loop-v.invariant c.first_open-i.ensures (omega (arith, c.requires.fits)) (omega (arith, c.if-d-eq0.false)) in omega (arith, h)

pub loop-v-smaller : goal.loop-v-smaller
loop-v-smaller g c =
    let b = back_left (g.met.G.Network.lawful c.args.self.now.network.now) c.requires.marks c.loop-v.cursor c.loop-v.invariant c.first_open-i.ensures (omega (arith, c.requires.fits)) (omega (arith, c.if-d-eq0.false)) in
    let l = scan_left (g.met.G.Network.lawful c.args.self.now.network.now) c.requires.marks c.loop-v.cursor c.loop-v.invariant c.first_open-i.ensures (omega (arith, c.requires.fits)) in
    let E = end_in (g.met.G.Network.lawful c.args.self.now.network.now) c.requires.marks c.loop-v.invariant.0 c.loop-v.v c.loop-v.invariant.1 in
    omega (arith, E, b, l, c.if-d-eq0.false)

pub loop-v-preserved : goal.loop-v-preserved
loop-v-preserved g c =
    (back_walk (g.met.G.Network.lawful c.args.self.now.network.now) c.requires.marks c.loop-v.cursor c.loop-v.invariant c.first_open-i.ensures (omega (arith, c.requires.fits)) (omega (arith, c.if-d-eq0.false)) (λ e. c.loop-v-test.true (e ∙ sym c.sink-t.ensures)) (omega (arith, c.degree.ensures, c.if-i-degree.false)), refl)

pub returns-clause-descended : goal.returns-clause-descended
returns-clause-descended g c =
    let e : at c.loop-v.stack c.loop-v.d ≡ (g.G.Network.net c.args.self.now.network.now).sink = sym c.loop-v.invariant.1 ∙ c.loop-v-test.false ∙ c.sink-t.ensures in (
      elim (cases_lt 0 c.loop-v.d) [
        | inl y ↦ y
        | inr y ↦ absurd ((g.met.G.Network.lawful c.args.self.now.network.now).sound.apart (sym (c.loop-v.invariant.0.nodes 0 (omega arith)) ∙ ap (at c.loop-v.stack) (omega arith) ∙ e))
      ],
      c.loop-v.invariant.0,
      e,
    )
