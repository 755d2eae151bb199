-- To believe: which numbers the limit of a class may have, and which lots of the class it admits.

use Rattle.std.specs.Prelude.{◌≤◌, Bool, ◌&&◌, nat_le}
use Rattle.grammar.specs.declared.Description.{Description}
use Rattle.binder.specs.declared.limit.ClassLimit.{ClassLimit}

-- worst ratings reach to 22 and longest terms to 1,200 months
abbrev pub LimitInRange : ClassLimit → Type 0
LimitInRange l = (l.worst ≤ 22) × (l.longest ≤ 1200)

-- rating and months are no greater than the limit says
abbrev pub within : ClassLimit → Description → Bool
within l d = nat_le d.rating l.worst && nat_le d.months l.longest
