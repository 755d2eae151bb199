-- Sums over 64 lot places and 16 exposure places, of which only the first three and the first two count.

use Rattle.std.proofs.Common.{◌≡◌, ℕ, zero, suc, ◌+◌, ◌<◌, get_or, replicate, None, Option, refl, ap, ◌∙◌, arith}
use Rattle.network.specs.Sums.{sum_over}
use Rattle.network.proofs.Sums.{sum_none}
use Rattle.table.proofs.Sums.{sum_join}

-- what holds at the first places and at each place after them holds at every place
pub lots : (P : ℕ → Type 0) → P 0 → P 1 → P 2 → ((j : ℕ) → P (suc (suc (suc j)))) → (l : ℕ) → P l
lots P a b c d zero = a
lots P a b c d (suc zero) = b
lots P a b c d (suc (suc zero)) = c
lots P a b c d (suc (suc (suc j))) = d j

pub exposures : (P : ℕ → Type 0) → P 0 → P 1 → ((j : ℕ) → P (suc (suc j))) → (e : ℕ) → P e
exposures P a b c zero = a
exposures P a b c (suc zero) = b
exposures P a b c (suc (suc j)) = c j

-- empty places
pub none_at : {A : Type 0} (n j : ℕ) → get_or (replicate {A = Option A} n None) j None ≡ None
none_at zero j = refl
none_at (suc n) zero = refl
none_at (suc n) (suc j) = none_at n j

sum_3 : (g : ℕ → ℕ) → sum_over 3 g ≡ 0 + g 0 + g 1 + g 2
unfolding sum_over
sum_3 g = refl

sum_2 : (g : ℕ → ℕ) → sum_over 2 g ≡ 0 + g 0 + g 1
unfolding sum_over
sum_2 g = refl

pub over_lots : (g : ℕ → ℕ) → ((j : ℕ) → g (suc (suc (suc j))) ≡ 0) → sum_over 64 g ≡ g 0 + g 1 + g 2
over_lots g z =
    let past : (j : ℕ) → j < 61 → g (3 + j) ≡ 0 = λ j _. (let e : 3 + j ≡ suc (suc (suc j)) = omega arith in ap g e ∙ z j) in
    omega (arith, sum_join 3 61 g, sum_3 g, sum_none 61 (λ j. g (3 + j)) past)

pub over_exposures : (g : ℕ → ℕ) → ((j : ℕ) → g (suc (suc j)) ≡ 0) → sum_over 16 g ≡ g 0 + g 1
over_exposures g z =
    let past : (j : ℕ) → j < 14 → g (2 + j) ≡ 0 = λ j _. (let e : 2 + j ≡ suc (suc j) = omega arith in ap g e ∙ z j) in
    omega (arith, sum_join 2 14 g, sum_2 g, sum_none 14 (λ j. g (2 + j)) past)

pub over_both : (g : ℕ → ℕ → ℕ) → ((j e : ℕ) → g (suc (suc (suc j))) e ≡ 0) → ((l j : ℕ) → g l (suc (suc j)) ≡ 0)
    → sum_over 64 (λ l. sum_over 16 (g l)) ≡ (g 0 0 + g 0 1) + (g 1 0 + g 1 1) + (g 2 0 + g 2 1)
over_both g rows columns = omega (
  arith,
  over_lots (λ l. sum_over 16 (g l)) (λ j. sum_none 16 (g (suc (suc (suc j)))) (λ e _. rows j e)),
  over_exposures (g 0) (columns 0),
  over_exposures (g 1) (columns 1),
  over_exposures (g 2) (columns 2),
)
