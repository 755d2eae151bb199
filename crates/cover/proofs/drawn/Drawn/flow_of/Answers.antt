use Rattle.std.proofs.Common.{◌≡◌, ℕ, ◌+◌, Bor, slice_index, replicate, sym, refl, ap, ◌∙◌, subst, arith}
use Rattle.cover.specs.declared.drawn.Drawn.{Drawn}
use Rattle.cover.specs.declared.load.Loading.{Loading}
use Rattle.cover.specs.declared.load.Pledge.{Pledge}
use Rattle.cover.specs.Lists.{zeros_at}
use Rattle.cover.specs.View.{at}
use Rattle.cover.specs.Picture.{pictured}
use Rattle.cover.specs.Loading.{Within, Adds, TooMuch, front}
use Rattle.cover.proofs.Loading.{load_none, load_more, load_skip, load_refused, load_all}
use Rattle.cover.proofs.drawn.Drawn.flow_of.Goals as goal
use Rattle.cover.proofs.drawn.Drawn.flow_of.Goals.{else-pledge-gt0-via-then-pledge-gt0+else-not-carry, else-pledge-gt0-via-else-pledge-gt0}

pub invariant_of-loading : goal.invariant_of-loading
invariant_of-loading c = record { arcs = refl; within = λ k h. omega (arith, zeros_at 2128 k) }

pub loop-k-init : goal.loop-k-init
loop-k-init c = (refl, load_none (pictured c.args.self.now) c.args.table.now (replicate 2128 0) (zeros_at 2128))

pub returns-then-not-carry : goal.returns-then-not-carry
returns-then-not-carry c =
    let p : Pledge = record { pair = c.of.result; amount = slice_index c.args.table.now c.loop-k.k } in
    load_refused (pictured c.args.self.now) c.args.table.now c.loop-k.k p c.of.ensures.0 c.of.ensures.1 refl c.loop-k.loading.flow (omega arith) c.loop-k.invariant.1
    (subst (λ d. TooMuch (pictured d) p c.loop-k.loading.flow) c.loop-k.invariant.0 (c.carry.ensures.refused c.if-not-carry.true))

pub loop-k-preserved : goal.loop-k-preserved
loop-k-preserved c =
    let p : Pledge = record { pair = c.of.result; amount = slice_index c.args.table.now c.loop-k.k } in
    let s = pictured c.args.self.now in
    let P : Loading → Type 0 = λ l. (l.drawn.now ≡ c.args.self.now) × ((k : ℕ) → at l.flow k ≡ front (pictured c.args.self.now) c.args.table.now (c.loop-k.k + 1) k) in
    elim c.else-pledge-gt0.branch [
      | else-pledge-gt0-via-then-pledge-gt0+else-not-carry w ↦
          subst P (sym w.loading-is) (
            ap (λ (r : Bor Drawn). r.now) w.carry.ensures.drawn ∙ c.loop-k.invariant.0,
            load_more (pictured c.args.self.now) c.args.table.now c.loop-k.k p c.of.ensures.0 c.of.ensures.1 refl c.loop-k.loading.flow w.carry.new.self.flow c.loop-k.invariant.1
                (subst (λ d. Adds (pictured d) p c.loop-k.loading.flow w.carry.new.self.flow) c.loop-k.invariant.0 (w.carry.ensures.carried w.if-not-carry.false)),
          )
      | else-pledge-gt0-via-else-pledge-gt0 w ↦
          subst P (sym w.loading-is)
          (c.loop-k.invariant.0, load_skip (pictured c.args.self.now) c.args.table.now c.loop-k.k p c.of.ensures.0 c.of.ensures.1 refl c.loop-k.loading.flow w.if-pledge-gt0.false c.loop-k.invariant.1)
    ]

pub returns : goal.returns
returns c =
    let e : c.loop-k.k ≡ 1024 = omega arith in
    load_all (pictured c.args.self.now) c.args.table.now c.loop-k.loading.flow
    (subst (λ d. Within (pictured d) c.loop-k.loading.flow) c.loop-k.invariant.0 c.loop-k.loading.within)
    (λ k. subst (λ n. at c.loop-k.loading.flow k ≡ front (pictured c.args.self.now) c.args.table.now n k) e (c.loop-k.invariant.1 k))
