-- To believe: a list of numbers read as a function, 0 past its end.

use Rattle.std.specs.Prelude.{ℕ, List, slice_index}

abbrev pub at : List ℕ → ℕ → ℕ
at xs k = slice_index xs k
