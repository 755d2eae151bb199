use Rattle.std.proofs.Common.{◌≡◌, ℕ, ◌+◌, ◌<◌, ◌≤◌}
use Rattle.network.specs.Residual.{to, room}
use Rattle.flow.specs.Lists.{at}
use Rattle.flow.proofs.residual.Residual.first_open.Given as goal

abbrev pub invariant-loop-j : goal.invariant-loop-j
invariant-loop-j g l = (k : ℕ) → l.i ≤ k → k < l.j → 0 < room (g.G.Network.net l.self.network.now) (at l.self.flow.now) (g.G.Network.inc l.self.network.now l.v k)
    → at l.mark (to (g.G.Network.net l.self.network.now) (g.G.Network.inc l.self.network.now l.v k)) ≡ at l.mark l.v + 1 → ⊥
