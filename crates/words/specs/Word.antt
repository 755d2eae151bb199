-- To believe: which bits a number has.

use Rattle.std.specs.Prelude.{ℕ, ◌/◌, ◌%◌, ◌^◌, Bool, ◌==◌}

-- bit p of w, the lowest being bit 0
unfoldable pub bit : ℕ → ℕ → Bool
bit w p = w / 2 ^ p % 2 == 1
