-- To believe: nothing; the lemma that a binder of any kind gives for its law. It is lawful by induction over its parts, each kind by its own lemma.

use Rattle.binder.specs.Meaning.{Lawful}
use Rattle.binder.specs.Lawfuls.{single_lawful, without_lawful, joined_lawful}
use Rattle.named.specs.Any.{any_meaning}
use Rattle.named.specs.declared.AnyBinder.{AnyBinder}
use Rattle.named.specs.declared.AnyBinder.TheVariants.{Table, Schedule, Exclusion', Pair'}

pub any_lawful : (b : AnyBinder) → Lawful (any_meaning b)
any_lawful (Table t) = single_lawful _ t.share.parts t.share.bounded
any_lawful (Schedule s) = single_lawful _ s.share.parts s.share.bounded
any_lawful (Exclusion' issuers p below) = without_lawful _ (any_meaning below) (any_lawful below)
any_lawful (Pair' switch p first q second) = joined_lawful _ (any_meaning first) (any_meaning second) (any_lawful first) (any_lawful second)
