-- To believe: what a rating table means, and what loading one does.

use Rattle.std.specs.Prelude.{◌≡◌, ℕ, ◌<◌, ◌≤◌, Bool, List, Result, MatchResult, slice_index_or}
use Rattle.cause.specs.declared.Cause.TheVariants.{RangePassed}
use Rattle.grammar.specs.declared.Description.{Description}
use Rattle.binder.specs.Meaning.{Meaning, single}
use Rattle.binder.specs.Limit.{LimitInRange, within}
use Rattle.binder.specs.declared.fault.TableFault.{TableFault}
use Rattle.binder.specs.declared.limit.ClassLimit.{ClassLimit}
use Rattle.binder.specs.declared.single.Single.{Single}

-- the limit of a class; past the list nothing is admitted
abbrev pub limit_of : List ClassLimit → ℕ → ClassLimit
limit_of limits c = slice_index_or limits c (record { worst = 0; longest = 0 })

-- a lot passes if its rating and its months are no greater than the limit of its class says
abbrev pub limits_pass : List ClassLimit → Description → Bool
limits_pass limits d = within (limit_of limits d.class) d

abbrev pub table : List ClassLimit → ℕ → Meaning
table limits share = single (limits_pass limits) share

-- limits for the classes, and a share
abbrev pub RatingTable : Type 0
RatingTable = Single (List ClassLimit)

abbrev pub table_meaning : RatingTable → Meaning
table_meaning t = table t.criteria t.share.parts

-- the limit of every class is in range
abbrev pub LimitsInRange : List ClassLimit → Type 0
LimitsInRange limits = (c : ℕ) → c < 8 → LimitInRange (limit_of limits c)

-- the table has the share and the limits that it was given
pub record Filled (share : ℕ) (limits : List ClassLimit) (after : RatingTable) : Type 0 where
  pub share_in_range : share ≤ 10000
  pub limits_in_range : LimitsInRange limits
  pub share_is : after.share.parts ≡ share
  pub limits_are : after.criteria ≡ limits

-- a number passes its range, and the table is as it was
pub record Unfilled (share : ℕ) (limits : List ClassLimit) (before after : RatingTable) (e : TableFault) : Type 0 where
  pub passed : share ≤ 10000 → LimitsInRange limits → ⊥
  pub fault : e ≡ record { cause = RangePassed; place = 0 }
  pub kept : after ≡ before

abbrev pub Filling : ℕ → List ClassLimit → RatingTable → RatingTable → Result (Unit {0}) TableFault → Type 0
Filling share limits before after r = MatchResult r (λ _. Filled share limits after) (Unfilled share limits before after)
