-- To believe: which issuers are listed, how many they are, and what listing one more does.

use Rattle.std.specs.Prelude.{◌≡◌, ℕ, ◌<◌, Bool, true, false, ◌||◌, List, count_by, Result, MatchResult, ◌==◌, slice_index_or}
use Rattle.cause.specs.declared.Cause.{Cause}
use Rattle.cause.specs.declared.Cause.TheVariants.{ExclusionFull}

-- an issuer is listed if its flag is up
abbrev pub listed : List Bool → ℕ → Bool
listed flags i = slice_index_or flags i false

-- how many flags are up
abbrev pub number_of : List Bool → ℕ
number_of flags = count_by (λ up. up) flags

-- the set with an issuer
abbrev pub with_issuer : ℕ → (ℕ → Bool) → ℕ → Bool
with_issuer i s j = j == i || s j

-- an issuer is listed afterwards, with those that were: it was among them, and nothing changed, or there was room
pub record Added (issuer : ℕ) (before after : List Bool) : Type 0 where
  pub set : (j : ℕ) → listed after j ≡ with_issuer issuer (listed before) j
  pub again : listed before issuer ≡ true → after ≡ before
  pub room : listed before issuer ≡ false → number_of before < 32

-- an issuer that is not listed finds 32 others, and nothing changed
pub record Full (issuer : ℕ) (before after : List Bool) (e : Cause) : Type 0 where
  pub cause : e ≡ ExclusionFull
  pub new : listed before issuer ≡ false
  pub count : number_of before ≡ 32
  pub kept : after ≡ before

abbrev pub Adding : ℕ → List Bool → List Bool → Result (Unit {0}) Cause → Type 0
Adding issuer before after r = MatchResult r (λ _. Added issuer before after) (Full issuer before after)
