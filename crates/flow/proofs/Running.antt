-- Between rounds.

use Rattle.std.proofs.Common.{◌≡◌, ℕ, ◌+◌, ◌<◌, sym, refl, subst, add-one}
use Rattle.network.specs.Sums.{Agree}
use Rattle.network.specs.Flow.{Net, Sound, Flow}
use Rattle.network.specs.Round.{Rounds}
use Rattle.network.specs.Round.Rounds.{none, more}
use Rattle.network.proofs.Cut.{max_min}
use Rattle.network.proofs.Duality.{zero_flow}
use Rattle.network.proofs.Rounds.{rounds_few}
use Rattle.network.proofs.Same.{same_refl, same_flow}
use Rattle.flow.specs.Search.{Searched}
use Rattle.flow.specs.Blocking.{Marks, Filled}
use Rattle.flow.specs.Solved.{Solved}
use Rattle.flow.proofs.Nearer.{searched_round}

-- k rounds led from the flow f₀ to f, whose layers are those of mark
pub record Running (N : Net) (f₀ f mark : ℕ → ℕ) (k : ℕ) : Type 0 where
  pub start : Flow N f₀
  pub flows : Flow N f
  pub searched : Searched N f mark
  pub rounds : Rounds N k f₀ f

pub running_none : {N : Net} {f₀ f mark : ℕ → ℕ} → Flow N f₀ → Agree N.arcs f₀ f → Searched N f mark → Running N f₀ f mark 0
running_none {N} {f₀} {f} q e n = record { start = q; flows = same_flow N N (same_refl N) f₀ f e q; searched = n; rounds = none e }

module _ {N : Net} {f₀ f mark : ℕ → ℕ} {k : ℕ} (s : Sound N) (p : Running N f₀ f mark k) where
  pub running_marks : Marks N mark
  running_marks = record { first = p.searched.first; low = p.searched.low }

  pub running_few : k < N.nodes
  running_few = rounds_few N s k f₀ f p.rounds p.start

  -- a round more
  pub running_more : {f' mark' : ℕ → ℕ} → 0 < mark N.sink → Filled N f f' mark → Searched N f' mark' → Running N f₀ f' mark' (k + 1)
  running_more {f'} {mark'} h z n = record {
    start = p.start;
    flows = z.flows;
    searched = n;
    rounds = subst (λ i. Rounds N i f₀ f') (sym (add-one k)) (more p.rounds (searched_round N f f' mark s p.searched h p.flows z));
  }

  -- the last one
  pub running_end : mark N.sink ≡ 0 → Solved N f₀ f mark k
  running_end z =
      let l = p.searched.out z in
      let m = max_min N f mark s p.flows l z in
      record { rounds = p.rounds; few = running_few; maximum = m.0; reached = l; minimum = m.1; equal = m.2 }

-- nothing sent is a flow
pub none_flows : (N : Net) → Flow N (λ _. 0)
none_flows N = zero_flow N (λ _. 0) (λ k h. refl)
