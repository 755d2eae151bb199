-- What a lawful binder has from number 16 on: nothing. So a pair at an end of its switch is one of its binders, whatever the other is.

use Rattle.std.proofs.Common.{◌≡◌, ℕ, ◌≤◌, false, arith}
use Rattle.std.proofs.lemmas.Bool.Decides.{nat_tests}
use Rattle.grammar.specs.declared.Description.{Description}
use Rattle.binder.specs.Meaning.{Meaning, Lawful, Same}
use Rattle.binder.specs.Layers.{joined}

pub admits_past : (m : Meaning) → Lawful m → (n : ℕ) (d : Description) → 16 ≤ n → m.admits n d ≡ false
admits_past m law n d h = (law.unheld n (law.numbers n h)).0 d

pub share_past : (m : Meaning) → Lawful m → (n i : ℕ) → 16 ≤ n → m.share n i ≡ 0
share_past m law n i h = (law.unheld n (law.numbers n h)).1 i

pub first_at_16 : (a b : Meaning) → Lawful a → Same (joined 16 a b) a
first_at_16 a b law = record {
  held = λ n. let p = law.numbers n in grind (arith, nat_tests);
  admits = λ n d. let p = admits_past a law n d in grind (arith, nat_tests);
  share = λ n i. let p = share_past a law n i in grind (arith, nat_tests);
}

pub second_at_0 : (a b : Meaning) → Lawful b → Same (joined 0 a b) b
second_at_0 a b law = record {
  held = λ n. let p = law.numbers n in grind (arith, nat_tests);
  admits = λ n d. let p = admits_past b law n d in grind (arith, nat_tests);
  share = λ n i. let p = share_past b law n i in grind (arith, nat_tests);
}
