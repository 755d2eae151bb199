-- What the rules of a curve say of two of its points.

use Rattle.std.proofs.Common.{◌≡◌, ℕ, ◌+◌, ◌-◌, ◌<◌, ◌≤◌, Bool, false, ◌&&◌, ◌||◌, ltb, leb, subst, arith}
use Rattle.std.proofs.lemmas.Bool.Decides.{nat_tests}
use Rattle.curve.specs.Points.{Points, NoneBelow, month_breaks, haircut_breaks, between, Haircut}
use Rattle.curve.specs.Points.Haircut.{inside}

neither : (a b : Bool) → (a || b) ≡ false → b ≡ false
neither a b e = grind (arith, nat_tests)

rising : (j x y : ℕ) (far : Bool) → ((ltb 0 j && leb x y) || far) ≡ false → 1 ≤ j → y < x
rising j x y far e l = grind (arith, nat_tests)

pub month_next : (m : ℕ → ℕ) (n j : ℕ) → NoneBelow n (month_breaks m) → 1 ≤ j → j < n → m (j - 1) < m j
month_next m n j h l k = rising j (m j) (m (j - 1)) (ltb 1200 (m j)) (neither _ _ (h j k)) l

pub month_first : (m : ℕ → ℕ) (n : ℕ) → NoneBelow n (month_breaks m) → 1 ≤ n → m 0 ≡ 0
month_first m n h l = let e = h 0 (omega arith) in grind (arith, nat_tests)

pub haircut_next : (h : ℕ → ℕ) (n j : ℕ) → NoneBelow n (haircut_breaks h) → 1 ≤ j → j < n → h (j - 1) ≤ h j
haircut_next h n j b l k = let e = b j k in grind (arith, nat_tests)

pub haircut_low : (h : ℕ → ℕ) (n j : ℕ) → NoneBelow n (haircut_breaks h) → j < n → h j ≤ 10000
haircut_low h n j b k = let e = b j k in grind (arith, nat_tests)

-- the stretch that ends at point n
pub stretch : (c : Points) (n m : ℕ) → 1 ≤ n → n < c.count → c.month (n - 1) < m → m < c.month n
    → Haircut c m (between (c.month (n - 1)) (c.haircut (n - 1)) (c.month n) (c.haircut n) m)
stretch c n m l h a b =
    let e : (n - 1) + 1 ≡ n = omega arith in
    let P : ℕ → Type 0 = λ k. k < c.count → m < c.month k → Haircut c m (between (c.month (n - 1)) (c.haircut (n - 1)) (c.month k) (c.haircut k) m) in
    subst P e (λ k x. inside (n - 1) k a x) h b
