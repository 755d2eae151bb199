-- To believe: what a network has to be like for the code to run on it.

use Rattle.std.specs.Prelude.{ℕ, ◌^◌, ◌<◌}
use Rattle.network.specs.Flow.{Net, Sound}
use Rattle.network.specs.Residual.{Listed}

-- arcs join nodes; each node has the list of its residual arcs; and the numbers fit the words that hold them
pub record Lawful (N : Net) (deg : ℕ → ℕ) (inc : ℕ → ℕ → ℕ) : Type 0 where
  pub sound : Sound N
  pub listed : Listed N deg inc
  pub few_nodes : N.nodes < 2 ^ 31
  pub few_arcs : N.arcs < 2 ^ 31
  pub short_lists : (v : ℕ) → v < N.nodes → deg v < 2 ^ 32
  pub small : (k : ℕ) → k < N.arcs → N.cap k < 2 ^ 64
