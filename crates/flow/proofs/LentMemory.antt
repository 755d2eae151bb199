-- Memory that one search after the other works in.

use Rattle.std.proofs.Common.{◌∙◌}
use Rattle.network.specs.Flow.{Net}
use Rattle.flow.specs.declared.memory.Memory.{Memory}
use Rattle.flow.specs.Memory.{SameLists, Kept}

pub same_then : {a b c : Memory} → SameLists a b → SameLists b c → SameLists a c
same_then p q = record {
  mark = q.mark ∙ p.mark;
  queue = q.queue ∙ p.queue;
  cursor = q.cursor ∙ p.cursor;
  path = q.path ∙ p.path;
  mark_size = q.mark_size ∙ p.mark_size;
  queue_size = q.queue_size ∙ p.queue_size;
  cursor_size = q.cursor_size ∙ p.cursor_size;
  path_size = q.path_size ∙ p.path_size;
}

pub kept_then : {N : Net} {a b c : Memory} → Kept N a b → Kept N b c → Kept N a c
kept_then p q = record { fits = q.fits; same = same_then p.same q.same }
