use Rattle.std.proofs.Common.{IsUtf8, subst}
use Rattle.script.proofs.Cutting.{ran, between}
use Rattle.script.proofs.words.split.Goals as goal

pub split_at-requires : goal.split_at-requires
split_at-requires c =
    between _ _ _ (subst IsUtf8 c.as_bytes.ensures.value c.as_bytes.ensures.utf8)
    (ran c.as_bytes.ensures.value c.run.ensures.within c.run.ensures.all c.run.ensures.stops)
