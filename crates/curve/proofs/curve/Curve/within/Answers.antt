use Rattle.std.proofs.Common.{◌≡◌, ℕ, ◌-◌, ◌<◌, ◌≤◌, sym, ◌∙◌, arith}
use native.Mathlib.Decide.{dec_lt}
use Rattle.curve.specs.Held.{held}
use Rattle.curve.specs.Points.Haircut.{at}
use Rattle.curve.proofs.Rising.{haircut_next, haircut_low, stretch}
use Rattle.curve.proofs.Rounding.{between_le}
use Rattle.curve.proofs.curve.Curve.within.Goals as goal

pub returns-then-from-month : goal.returns-then-from-month
returns-then-from-month c = (
  at (c.args.n - 1) (omega arith) (sym c.from.ensures ∙ c.if-from-month.true),
  haircut_low (held c.args.self.now).haircut c.args.self.now.count (c.args.n - 1) c.args.self.now.falling (omega arith),
)

-- a month at no point has a next point
inner : (n k m a : ℕ) → n ≤ k → (n ≡ k → m ≡ a) → (a ≡ m → ⊥) → n < k
inner n k m a l e x = elim (dec_lt n k) [ yes w ↦ w | no w ↦ absurd (x (sym (e (omega arith)))) ]

pub between-requires : goal.between-requires
between-requires c =
    let l = inner c.args.n c.args.self.now.count c.args.month _ c.requires.place.1 c.requires.last (λ e. c.if-from-month.false (c.from.ensures ∙ e)) in (
      omega (arith, c.from.ensures),
      c.requires.next l,
      haircut_next (held c.args.self.now).haircut c.args.self.now.count c.args.n c.args.self.now.falling (omega arith) l,
    )

pub returns : goal.returns
returns c =
    let n = c.args.n in
    let h = held c.args.self.now in
    let l = inner n c.args.self.now.count c.args.month _ c.requires.place.1 c.requires.last (λ e. c.if-from-month.false (c.from.ensures ∙ e)) in
    let b = c.requires.next l in
    let next = haircut_next h.haircut c.args.self.now.count n c.args.self.now.falling (omega arith) l in
    let low = haircut_low h.haircut c.args.self.now.count n c.args.self.now.falling l in
    let most = between_le (h.month (n - 1)) (h.haircut (n - 1)) (h.month n) (h.haircut n) c.args.month (omega (arith, c.from.ensures)) (omega arith) next in
    rw c.between.ensures (stretch h n c.args.month (omega arith) l (omega (arith, c.from.ensures)) b, omega (arith, most, low))
