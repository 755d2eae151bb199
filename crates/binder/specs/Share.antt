-- To believe: which numbers are shares.

use Rattle.std.specs.Prelude.{◌≡◌, ℕ, ◌<◌, ◌≤◌, Result, MatchResult}
use Rattle.cause.specs.declared.Cause.{Cause}
use Rattle.cause.specs.declared.Cause.TheVariants.{RangePassed}
use Rattle.binder.specs.declared.share.Share.{Share}

-- 0 to 10,000 ten-thousandths are a share; a larger number is refused
abbrev pub Sharing : ℕ → Result Share Cause → Type 0
Sharing n r = MatchResult r (λ s. (n ≤ 10000) × (s.parts ≡ n)) (λ e. (e ≡ RangePassed) × (10000 < n))
