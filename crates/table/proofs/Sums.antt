-- Sums over places: over a row of places, over rows, and what follows for single terms.

use Rattle.std.proofs.Common.{◌≡◌, ℕ, zero, suc, ◌+◌, ◌-◌, ◌*◌, ◌<◌, ◌≤◌, Bool, true, false, sym, refl, ap, ◌∙◌, inl, inr, add-zero, add-suc, suc-mul, zero-mul, arith}
use Rattle.std.proofs.lemmas.Bool.{cases_eq}
use Rattle.network.specs.Sums.{sum_over, when}
use Rattle.network.proofs.Sums.{sum_le, sum_zero, sum_none, sum_same, sum_plus, sum_term}

-- the order of summation
pub sum_swap : (m n : ℕ) (g : ℕ → ℕ → ℕ) → sum_over m (λ i. sum_over n (g i)) ≡ sum_over n (λ j. sum_over m (λ i. g i j))
unfolding sum_over
sum_swap zero n g = sym (sum_zero n)
sum_swap (suc m) n g = omega (arith, sum_swap m n g, sum_plus n (λ j. sum_over m (λ i. g i j)) (g m))

pub sum_join : (m n : ℕ) (g : ℕ → ℕ) → sum_over (m + n) g ≡ sum_over m g + sum_over n (λ k. g (m + k))
unfolding sum_over
sum_join m zero g = rw (add-zero m) (omega arith)
sum_join m (suc n) g = rw add-suc (omega (arith, sum_join m n g))

-- fewer terms come to no more
pub sum_front : (m n : ℕ) (g : ℕ → ℕ) → m ≤ n → sum_over m g ≤ sum_over n g
sum_front m n g h = let e : m + (n - m) ≡ n = omega arith in omega (arith, sum_join m (n - m) g, ap (λ k. sum_over k g) e)

-- m rows of n places
pub sum_grid : (m n : ℕ) (g : ℕ → ℕ) → sum_over (m * n) g ≡ sum_over m (λ i. sum_over n (λ j. g (i * n + j)))
unfolding sum_over
sum_grid zero n g = rw zero-mul refl
sum_grid (suc m) n g = rw suc-mul (omega (arith, sum_grid m n g, sum_join (m * n) n g))

pub grid_none : (m n : ℕ) (g : ℕ → ℕ → ℕ) → ((i j : ℕ) → i < m → j < n → g i j ≡ 0) → sum_over m (λ i. sum_over n (g i)) ≡ 0
grid_none m n g z = sum_none m _ (λ i h. sum_none n (g i) (λ j l. z i j h l))

pub grid_same : (m n : ℕ) (g h : ℕ → ℕ → ℕ) → ((i j : ℕ) → i < m → j < n → g i j ≡ h i j) → sum_over m (λ i. sum_over n (g i)) ≡ sum_over m (λ i. sum_over n (h i))
grid_same m n g h z = sum_same m _ _ (λ i l. sum_same n (g i) (h i) (λ j q. z i j l q))

-- where no term is above its bound and the sums are equal, each term is its bound
pub sum_tight : (m : ℕ) (a b : ℕ → ℕ) → ((k : ℕ) → k < m → a k ≤ b k) → sum_over m b ≤ sum_over m a → (k : ℕ) → k < m → a k ≡ b k
unfolding sum_over
sum_tight zero a b h q k l = absurd (omega arith)
sum_tight (suc m) a b h q k l =
    let below = sum_le m a b (λ i j. h i (omega arith)) in
    let last = h m (omega arith) in
    elim (cases_eq k m) [
      | inl e ↦ omega (arith, ap a e, ap b e)
      | inr n ↦ sum_tight m a b (λ i j. h i (omega arith)) (omega arith) k (omega arith)
    ]

-- two terms are no more than the sum
pub sum_two : (m j k : ℕ) (a : ℕ → ℕ) → j < m → k < m → (j ≡ k → ⊥) → a j + a k ≤ sum_over m a
unfolding sum_over
sum_two zero j k a h l n = absurd (omega arith)
sum_two (suc m) j k a h l n =
    elim (cases_eq j m) [
      | inl e ↦
          let z : k < m = elim (cases_eq k m) [ inl d ↦ absurd (n (e ∙ sym d)) | inr d ↦ omega arith ] in
          omega (arith, ap a e, sum_term m k a z)
      | inr u ↦ elim (cases_eq k m) [
        | inl e ↦ omega (arith, ap a e, sum_term m j a (omega arith))
        | inr v ↦ omega (arith, sum_two m j k a (omega arith) (omega arith) n)
      ]
    ]

-- so many terms of at most b add up to at most so many b
pub sum_below : (m b : ℕ) (g : ℕ → ℕ) → ((k : ℕ) → k < m → g k ≤ b) → sum_over m g ≤ m * b
unfolding sum_over
sum_below zero b g h = rw zero-mul (omega arith)
sum_below (suc m) b g h = rw suc-mul (omega (arith, h m (omega arith), sum_below m b g (λ k l. h k (omega arith))))

-- terms under a test
pub when_low : (b : Bool) (x : ℕ) → when b x ≤ x
when_low true x = omega arith
when_low false x = omega arith

pub when_only : (b : Bool) (x y : ℕ) → (b ≡ true → x ≤ y) → (b ≡ false → x ≡ 0) → x ≤ when b y
when_only true x y p q = p refl
when_only false x y p q = omega (arith, q refl)

pub when_same : (b : Bool) (x y : ℕ) → (b ≡ true → x ≡ y) → when b x ≡ when b y
when_same true x y h = h refl
when_same false x y h = refl

pub when_some : (b : Bool) (x : ℕ) → 0 < when b x → b ≡ true
when_some true x h = refl
when_some false x h = absurd (omega arith)
