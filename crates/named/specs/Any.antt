-- To believe: a binder of any kind means what a binder of its kind means.

use Rattle.binder.specs.Meaning.{Meaning}
use Rattle.binder.specs.Rating.{table_meaning}
use Rattle.binder.specs.Schedule.{schedule_meaning}
use Rattle.binder.specs.Issuers.{listed}
use Rattle.binder.specs.Layers.{without, joined}
use Rattle.named.specs.declared.AnyBinder.{AnyBinder}
use Rattle.named.specs.declared.AnyBinder.TheVariants.{Table, Schedule, Exclusion', Pair'}

abbrev pub any_meaning : AnyBinder → Meaning
any_meaning (Table t) = table_meaning t
any_meaning (Schedule s) = schedule_meaning s
any_meaning (Exclusion' issuers p below) = without (listed issuers.flags) (any_meaning below)
any_meaning (Pair' switch p first q second) = joined switch.at (any_meaning first) (any_meaning second)
