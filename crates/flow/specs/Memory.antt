-- To believe: which memory suffices for a network, and that two values lend one memory.

use Rattle.std.specs.Prelude.{◌≡◌, ◌≤◌, length}
use Rattle.network.specs.Flow.{Net}
use Rattle.flow.specs.declared.memory.Memory.{Memory}

-- a place for each node in each of the four lists
pub record Fits (N : Net) (m : Memory) : Type 0 where
  pub mark : N.nodes ≤ length m.mark.now
  pub queue : N.nodes ≤ length m.queue.now
  pub cursor : N.nodes ≤ length m.cursor.now
  pub path : N.nodes ≤ length m.path.now

-- m' lends the lists that m lends, whatever they hold now: each reference is still the same, and each list as long as it was
pub record SameLists (m m' : Memory) : Type 0 where
  pub mark : m'.mark.ghost_name ≡ m.mark.ghost_name
  pub queue : m'.queue.ghost_name ≡ m.queue.ghost_name
  pub cursor : m'.cursor.ghost_name ≡ m.cursor.ghost_name
  pub path : m'.path.ghost_name ≡ m.path.ghost_name
  pub mark_size : length m'.mark.now ≡ length m.mark.now
  pub queue_size : length m'.queue.now ≡ length m.queue.now
  pub cursor_size : length m'.cursor.now ≡ length m.cursor.now
  pub path_size : length m'.path.now ≡ length m.path.now

-- m' is what a search leaves of m
pub record Kept (N : Net) (m m' : Memory) : Type 0 where
  pub fits : Fits N m'
  pub same : SameLists m m'
