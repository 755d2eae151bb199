-- Sums. Nearly all follow from three: terms that add up in pairs, terms that are bounded, and terms that differ at one place.

use Rattle.std.proofs.Common.{◌≡◌, ℕ, zero, suc, ◌+◌, ◌<◌, ◌≤◌, Bool, true, false, eqb, sym, refl, ap, inl, inr, add-one, arith}
use Rattle.std.proofs.lemmas.Bool.{cases_eq, eq-eqb, ne_eqb, cond-true, cond-false}
use Rattle.network.specs.Sums.{sum_over, when}

pub sum_four : (m : ℕ) (a b c d : ℕ → ℕ) → ((k : ℕ) → k < m → a k + b k ≡ c k + d k) → sum_over m a + sum_over m b ≡ sum_over m c + sum_over m d
unfolding sum_over
sum_four zero a b c d h = refl
sum_four (suc m) a b c d h =
    let i : sum_over m a + sum_over m b ≡ sum_over m c + sum_over m d = sum_four m a b c d (λ k l. h k (omega arith)) in
    omega (arith, h m (omega arith))

pub sum_le : (m : ℕ) (a b : ℕ → ℕ) → ((k : ℕ) → k < m → a k ≤ b k) → sum_over m a ≤ sum_over m b
unfolding sum_over
sum_le zero a b h = omega arith
sum_le (suc m) a b h =
    let i : sum_over m a ≤ sum_over m b = sum_le m a b (λ k l. h k (omega arith)) in
    omega (arith, h m (omega arith))

pub sum_zero : (m : ℕ) → sum_over m (λ _. 0) ≡ 0
unfolding sum_over
sum_zero zero = refl
sum_zero (suc m) = omega (arith, sum_zero m)

pub sum_ones : (m : ℕ) → sum_over m (λ _. 1) ≡ m
unfolding sum_over
sum_ones zero = refl
sum_ones (suc m) = omega (arith, sum_ones m)

pub sum_none : (m : ℕ) (a : ℕ → ℕ) → ((k : ℕ) → k < m → a k ≡ 0) → sum_over m a ≡ 0
sum_none m a h = omega (arith, sum_le m a (λ _. 0) (λ k l. omega (arith, h k l)), sum_zero m)

pub sum_same : (m : ℕ) (a b : ℕ → ℕ) → ((k : ℕ) → k < m → a k ≡ b k) → sum_over m a ≡ sum_over m b
sum_same m a b h = omega (arith, sum_le m a b (λ k l. omega (arith, h k l)), sum_le m b a (λ k l. omega (arith, h k l)))

pub sum_plus : (m : ℕ) (a b : ℕ → ℕ) → sum_over m (λ k. a k + b k) ≡ sum_over m a + sum_over m b
sum_plus m a b = omega (arith, sum_four m (λ k. a k + b k) (λ _. 0) a b (λ k l. omega arith), sum_zero m)

-- a and b differ at w at most
pub sum_change : (m w : ℕ) (a b : ℕ → ℕ) → w < m → ((k : ℕ) → (k ≡ w → ⊥) → a k ≡ b k) → sum_over m a + b w ≡ sum_over m b + a w
unfolding sum_over
sum_change zero w a b h s = absurd (omega arith)
sum_change (suc m) w a b h s =
    elim (cases_eq w m) [
      | inl e ↦
          let t = sum_same m a b (λ k l. s k (omega arith)) in
          let p = ap a e in
          let q = ap b e in
          omega arith
      | inr n ↦
          let t = sum_change m w a b (omega arith) s in
          omega (arith, s m (λ e. n (sym e)))
    ]

-- the terms are bounded, and at w by a lesser bound
pub sum_lt : (m w : ℕ) (a b : ℕ → ℕ) → w < m → ((k : ℕ) → k < m → a k ≤ b k) → a w < b w → sum_over m a < sum_over m b
unfolding sum_over
sum_lt zero w a b h l s = absurd (omega arith)
sum_lt (suc m) w a b h l s =
    elim (cases_eq w m) [
      | inl e ↦ omega (arith, ap a e, ap b e, sum_le m a b (λ k q. l k (omega arith)))
      | inr n ↦ omega (arith, l m (omega arith), sum_lt m w a b (omega arith) (λ k q. l k (omega arith)) s)
    ]

-- a sum with one term that counts
pub sum_at : (m j : ℕ) (a : ℕ → ℕ) → j < m → ((k : ℕ) → k < m → (k ≡ j → ⊥) → a k ≡ 0) → sum_over m a ≡ a j
unfolding sum_over
sum_at zero j a h z = absurd (omega arith)
sum_at (suc m) j a h z =
    elim (cases_eq j m) [
      | inl e ↦ omega (arith, ap a e, sum_none m a (λ k l. z k (omega arith) (λ q. omega arith)))
      | inr n ↦ omega (arith, sum_at m j a (omega arith) (λ k l. z k (omega arith)), z m (omega arith) (λ e. n (sym e)))
    ]

-- a term is no more than the sum
pub sum_term : (m j : ℕ) (a : ℕ → ℕ) → j < m → a j ≤ sum_over m a
unfolding sum_over
sum_term zero j a h = absurd (omega arith)
sum_term (suc m) j a h =
    elim (cases_eq j m) [
      | inl e ↦ omega (arith, ap a e)
      | inr n ↦ omega (arith, sum_term m j a (omega arith))
    ]

pub sum_more : (m : ℕ) (g : ℕ → ℕ) → sum_over (m + 1) g ≡ sum_over m g + g m
unfolding sum_over
sum_more m g = rw add-one refl

pub sum_start : (g : ℕ → ℕ) → sum_over 0 g ≡ 0
unfolding sum_over
sum_start g = refl

pub miss : (v w x : ℕ) → (v ≡ w → ⊥) → when (eqb v w) x ≡ 0
miss v w x n = cond-false (eqb v w) x 0 (ne_eqb v w n)

pub hit : (v w x : ℕ) → v ≡ w → when (eqb v w) x ≡ x
hit v w x e = cond-true (eqb v w) x 0 (eq-eqb v w e)

pub when_add : (b : Bool) (x y : ℕ) → when b (x + y) ≡ when b x + when b y
when_add true x y = refl
when_add false x y = refl

pub when_le : (b : Bool) (x y : ℕ) → x ≤ y → when b x ≤ when b y
when_le true x y h = h
when_le false x y h = omega arith
