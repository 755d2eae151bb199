use Rattle.std.proofs.Common.{◌≡◌, ◌≤◌, length, take, drop}
use Rattle.book.specs.View.{view}
use Rattle.life.specs.Turn.{Played}
use Rattle.life.proofs.session.Session.carry_out_all.Given as goal

abbrev pub invariant-loop-i : goal.invariant-loop-i
invariant-loop-i g v = (v.used ≤ length v.journal)
    × ((v.self.binder ≡ v.initial.self.binder) × (v.self.card ≡ v.initial.self.card))
    × Played (g.B.Binder.meaning v.initial.self.binder) v.initial.self.card (view v.initial.self.holder.book) (take v.i v.orders) (take v.i v.outcomes) (take v.used v.journal) (view v.self.holder.book)
    × (drop v.i v.outcomes ≡ drop v.i v.initial.outcomes)
    × (drop v.used v.journal ≡ drop v.used v.initial.journal)
