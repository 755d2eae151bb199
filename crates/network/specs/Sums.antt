-- To believe: what a sum of the first m terms is, and a sum of those terms alone that pass a test.

use Rattle.std.specs.Prelude.{◌≡◌, ℕ, zero, suc, ◌+◌, ◌<◌, Bool, cond}

-- g 0 + .. + g (m - 1)
unfoldable pub sum_over : ℕ → (ℕ → ℕ) → ℕ
sum_over zero g = 0
sum_over (suc m) g = sum_over m g + g m

-- x where the test holds, else 0
abbrev pub when : Bool → ℕ → ℕ
when b x = cond b x 0

-- f and g have the same terms below m
abbrev pub Agree : ℕ → (ℕ → ℕ) → (ℕ → ℕ) → Type 0
Agree m f g = (k : ℕ) → k < m → f k ≡ g k
