use Rattle.calls.proofs.Lives.{every_life_sound}
use Rattle.calls.proofs.every_life_is_sound.Goals as goal

pub returns : goal.returns
returns c = every_life_sound
