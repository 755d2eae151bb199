use Rattle.std.proofs.Common.{◌≡◌, ◌-◌, ◌<◌, ◌≤◌, min, length, get_or, take, drop, refl, ap, ◌∙◌, subst, arith}
use native.Mathlib.Nat.{min_comm}
use Rattle.std.proofs.lemmas.List.{take_rest}
use Rattle.curve.specs.declared.lot.Terms.{Terms}
use Rattle.book.specs.View.{view}
use Rattle.life.specs.Turn.{Turn, Played, none, count_of}
use Rattle.life.specs.declared.order.Order.TheVariants.{Add}
use Rattle.life.proofs.Plays.{room_left, play_more, journal_rest, drop_next, take_min, drop_rest, lived_soundly}
use Rattle.life.proofs.session.Session.carry_out_all.Goals as goal

-- what an index past the orders would read
abbrev blank : Terms
blank = record { issuer = 0; class = 0; rating = 0; months = 0; market = 0 }

pub loop-i-init : goal.loop-i-init
loop-i-init g c = (omega arith, (refl, refl), none, refl, refl)

pub loop-i-preserved : goal.loop-i-preserved
loop-i-preserved g c =
    let inv = c.loop-i.invariant in
    let self = c.args.self.now in
    let journal = c.loop-i.journal in
    let rest = c.carry_out-outcome.new.list in
    let used = c.loop-i.used in
    let outcome = c.carry_out-outcome.result in
    let n = count_of outcome in
    let e = c.carry_out-outcome.ensures in
    let room : n ≤ length rest = omega (arith, e.wrote.room, c.carry_out-outcome.auto.list) in
    let size = length journal - used in
    let low : c.loop-i.i < min (length c.args.orders.now) (length c.args.outcomes.now) = omega (arith, c.min-n.ensures) in
    let turn = subst (λ b. Turn (g.B.Binder.meaning b) self.card (get_or c.args.orders.now c.loop-i.i (Add 0 blank)) (view c.loop-i.self.holder.book) outcome (take n rest) (view c.carry_out-outcome.new.self.book)) inv.1.0
    (subst (λ k. Turn (g.B.Binder.meaning c.loop-i.self.binder) k (get_or c.args.orders.now c.loop-i.i (Add 0 blank)) (view c.loop-i.self.holder.book) outcome (take n rest) (view c.carry_out-outcome.new.self.book)) inv.1.1 e.turn) in
    rw c.count-used.ensures (
      room_left journal rest used n size inv.0 room,
      inv.1,
      play_more journal rest used n size inv.0 room (g.B.Binder.meaning self.binder) self.card (view self.holder.book) (view c.loop-i.self.holder.book) (view c.carry_out-outcome.new.self.book)
          c.args.orders.now c.loop-i.outcomes c.loop-i.i (Add 0 blank) outcome (omega (arith, low)) (omega (arith, low, c.loop-i.auto.outcomes)) inv.2 turn,
      drop_next c.loop-i.outcomes c.args.outcomes.now c.loop-i.i outcome inv.3,
      journal_rest journal rest used n size inv.0 room c.args.journal.now (take size (drop used journal)) refl (take_rest journal used) inv.4 e.wrote.behind,
    )

pub returns : goal.returns
returns g c =
    let inv = c.loop-i.invariant in
    let a = length c.args.orders.now in
    let b = length c.args.outcomes.now in
    let at : c.loop-i.i ≡ min a b = omega (arith, c.min-n.ensures, c.loop-i.auto.i-end) in
    let orders = ap (λ k. take k c.args.orders.now) at ∙ take_min c.args.orders.now a b refl in
    let outcomes = ap (λ k. take k c.loop-i.outcomes) at ∙ (ap (λ k. take k c.loop-i.outcomes) (min_comm a b) ∙ take_min c.loop-i.outcomes b a c.loop-i.auto.outcomes) in
    let self = c.args.self.now in
    let m = g.B.Binder.meaning self.binder in
    let given = take c.loop-i.used c.loop-i.journal in
    let played = subst (λ os. Played m self.card (view self.holder.book) os (take a c.loop-i.outcomes) given (view c.loop-i.self.holder.book)) orders
    (subst (λ rs. Played m self.card (view self.holder.book) (take c.loop-i.i c.args.orders.now) rs given (view c.loop-i.self.holder.book)) outcomes inv.2) in
    record {
      same = inv.1;
      played = played;
      rest = drop_rest c.loop-i.outcomes c.args.outcomes.now c.loop-i.i a c.loop-i.auto.outcomes at inv.3;
      room = omega (arith, inv.0, c.loop-i.auto.journal);
      behind = inv.4;
      law = lived_soundly played;
    }
