-- To believe: what setting a switch does, and which binder's number a pair's number is.

use Rattle.std.specs.Prelude.{◌≡◌, ℕ, ◌-◌, ◌<◌, ◌≤◌, Option, Result, MatchOption, MatchResult}
use Rattle.cause.specs.declared.Cause.{Cause}
use Rattle.cause.specs.declared.Cause.TheVariants.{SwitchLarge}
use Rattle.binder.specs.declared.switch.Side.{Side}
use Rattle.binder.specs.declared.switch.Side.TheVariants.{First, Second}

-- a switch of 0 to 16 is set; a larger one is refused and leaves the switch
abbrev pub Setting : ℕ → ℕ → ℕ → Result (Unit {0}) Cause → Type 0
Setting k before after r = MatchResult r (λ _. (k ≤ 16) × (after ≡ k)) (λ e. (e ≡ SwitchLarge) × (16 < k) × (after ≡ before))

-- a number below the switch is the first's, from there to 15 the second's, counted from the switch; from 16 on it is neither's
abbrev pub Belongs : ℕ → ℕ → Side → ℕ → Type 0
Belongs k n First m = (n < k) × (m ≡ n)
Belongs k n Second m = (k ≤ n) × (n < 16) × (m ≡ n - k)

abbrev pub Routed : ℕ → ℕ → Option (Side × ℕ) → Type 0
Routed k n r = MatchOption r ((k ≤ n) × (16 ≤ n)) (λ (s, m). Belongs k n s m)

-- a number below the switch is the first's, and the answer is one that the first gives of it; from there to 15 it is
-- the second's, counted from the switch; from 16 on there is no answer
abbrev pub Asked : {A : Type 0} → ℕ → ℕ → (ℕ → A → Type 0) → (ℕ → A → Type 0) → Option A → Type 0
Asked k n first second r = MatchOption r (16 ≤ n) (λ a. (n < 16) × (n < k → first n a) × (k ≤ n → second (n - k) a))
