use Rattle.table.proofs.Reach.{room_drawn}
use Rattle.table.proofs.room_is_drawn.Goals as goal

pub returns : goal.returns
returns c = room_drawn
