-- Sending along a path that comes to the sink, and going on from the first arc that was filled.

use Rattle.std.proofs.Common.{◌≡◌, ℕ, ◌+◌, ◌-◌, ◌*◌, ◌/◌, ◌%◌, ◌<◌, ◌≤◌, eqb, List, length, set, sym, ◌∙◌, subst, inl, inr, arith}
use Rattle.std.proofs.lemmas.Bool.{cases_lt}
use Rattle.network.specs.Flow.{Net, Sound, Flow, Less, out_of, into, capacity}
use Rattle.network.specs.Residual.{room}
use Rattle.network.specs.Augment.{Onward, stop, Pushed, Sent}
use Rattle.network.proofs.Duality.{source_bound}
use Rattle.network.proofs.Residual.{room_then, room_else}
use Rattle.network.proofs.Augment.{push_even, push_odd, trail_less, sent_flow, sent_less}
use Rattle.flow.specs.Lists.{at}
use Rattle.flow.specs.Lawful.{Lawful}
use Rattle.flow.specs.Blocking.{Walking, Least}
use Rattle.flow.specs.ListsLemmas.{put}
use Rattle.flow.proofs.Blocking.{sent_cursors}

-- one residual arc
module _ (N : Net) (f : List ℕ) (a x : ℕ) (long : length f ≡ N.arcs) (known : a < 2 * N.arcs) (fits : x ≤ room N (at f) a) (w : (k : ℕ) → k < N.arcs → at f k ≤ N.cap k) where
  pub then_fits : a % 2 ≡ 0 → at f (a / 2) + x ≤ N.cap (a / 2)
  then_fits e = let h : a / 2 < N.arcs = omega arith in omega (arith, room_then N (at f) a e, w (a / 2) h)

  pub else_fits : (a % 2 ≡ 0 → ⊥) → x ≤ at f (a / 2)
  else_fits e = omega (arith, room_else N (at f) a e)

  pub then_pushed : a % 2 ≡ 0 → Pushed N (at f) (at (set f (a / 2) (at f (a / 2) + x))) a x
  then_pushed e =
      let h : a / 2 < N.arcs = omega arith in
      let m = put f (a / 2) (at f (a / 2) + x) (omega arith) in
      push_even N (at f) _ (a / 2) x h m.1 a (omega arith) (then_fits e) m.0

  pub else_pushed : (a % 2 ≡ 0 → ⊥) → Pushed N (at f) (at (set f (a / 2) (at f (a / 2) - x))) a x
  else_pushed e =
      let h : a / 2 < N.arcs = omega arith in
      let m = put f (a / 2) (at f (a / 2) - x) (omega arith) in
      push_odd N (at f) _ (a / 2) x h m.1 a (omega arith) (omega (arith, else_fits e, m.0))

-- within a phase that began with f₀
pub record Filling (N : Net) (deg : ℕ → ℕ) (inc : ℕ → ℕ → ℕ) (f₀ f mark cursor path stack : ℕ → ℕ) (d : ℕ) : Type 0 where
  pub flows : Flow N f
  pub only : (b : ℕ) → b < 2 * N.arcs → room N f b < room N f₀ b → Onward N mark b
  pub walk : Walking N deg inc f mark cursor path stack d

-- what the source's arcs could still carry
abbrev pub slack : Net → (ℕ → ℕ) → ℕ
slack N f = capacity N (eqb N.source) + into N (eqb N.source) f - out_of N (eqb N.source) f

pub slack_less : (N : Net) (f g : ℕ → ℕ) → Sound N → Flow N f → Flow N g → Less N f g → slack N g < slack N f
slack_less N f g s q q' h = omega (arith, h, source_bound N f s q, source_bound N g s q')

-- the search went on
pub found : {N : Net} {deg : ℕ → ℕ} {inc : ℕ → ℕ → ℕ} {f₀ f cursor path stack cursor' path' stack' : ℕ → ℕ} {mark mark' : List ℕ} {s d : ℕ} → Filling N deg inc f₀ f (at mark) cursor path stack s → mark' ≡ mark → Walking N deg inc f (at mark') cursor' path' stack' d → Filling N deg inc f₀ f (at mark') cursor' path' stack' d
found {N = N} p e w = record { flows = p.flows; only = λ b k l. subst (λ m. Onward N (at m) b) (sym e) (p.only b k l); walk = w }

-- and came to the sink
module _ {N : Net} {deg : ℕ → ℕ} {inc : ℕ → ℕ → ℕ} {f₀ f mark cursor path stack : ℕ → ℕ} {d x i : ℕ} (L : Lawful N deg inc) (p : Filling N deg inc f₀ f mark cursor path stack d) (e : stack d ≡ N.sink) (l : Least N f path d x i) where
  at_sink : stop N path d ≡ N.sink
  at_sink = sym (p.walk.nodes d (omega arith)) ∙ e

  above : 0 < x
  above = omega (arith, l.met, p.walk.trail.roomy i l.inside)

  module _ (f' : ℕ → ℕ) (t : Sent N f f' mark x (stop N path d)) (along : (j : ℕ) → j < d → room N f' (path j) + x ≡ room N f (path j)) where
    to_sink : Sent N f f' mark x N.sink
    to_sink = subst (λ u. Sent N f f' mark x u) at_sink t

    sent_flows : Flow N f'
    sent_flows = sent_flow N f f' mark x p.flows to_sink

    pub sent_slack : slack N f' < slack N f
    sent_slack = slack_less N f f' L.sound p.flows sent_flows (sent_less N f f' mark x L.sound to_sink above)

    sent_only : (b : ℕ) → b < 2 * N.arcs → room N f' b < room N f₀ b → Onward N mark b
    sent_only b k c = elim (cases_lt (room N f' b) (room N f b)) [ inl y ↦ t.only b k y | inr y ↦ p.only b k (omega arith) ]

    -- the arcs before the first that was filled still have room
    sent_walk : Walking N deg inc f' mark cursor path stack i
    sent_walk =
        let o = trail_less N f mark path d i (omega (arith, l.inside)) p.walk.trail in
        record {
          cursors = sent_cursors L.listed t p.walk.cursors;
          trail = record { known = o.known; roomy = λ j k. omega (arith, l.before j k, along j (omega (arith, l.inside))); onward = o.onward; joined = o.joined };
          nodes = λ j k. p.walk.nodes j (omega (arith, l.inside));
          stands = λ j k. p.walk.stands j (omega (arith, l.inside));
          deep = omega (arith, l.inside, p.walk.deep);
        }

    pub sent_filling : Filling N deg inc f₀ f' mark cursor path stack i
    sent_filling = record { flows = sent_flows; only = sent_only; walk = sent_walk }
