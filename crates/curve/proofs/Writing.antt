-- A buffer that a page is written into, two numbers at a time.

use Rattle.std.proofs.Common.{◌≡◌, ℕ, ◌+◌, ◌*◌, ◌<◌, ◌≤◌, List, length, get_or, take, drop, sym, ◌∙◌, arith, get_or-drop, get_or-take, ext_get_or, below_more}
use Rattle.std.proofs.lemmas.List.{length-take-le, length-drop}
use Rattle.curve.specs.Points.{Points}
use Rattle.curve.specs.Page.{Spelt, Written}
use Rattle.curve.specs.Changes.{Kept}

-- the number of points is written, and the first j months and haircuts
pub record Begun (c : Points) (old new : List ℕ) (j : ℕ) : Type 0 where
  pub size : length new ≡ length old
  pub number : get_or new 0 0 ≡ c.count
  pub months : (k : ℕ) → k < j → Spelt new (1 + 2 * k) (c.month k)
  pub haircuts : (k : ℕ) → k < j → Spelt new (1 + 2 * c.count + 2 * k) (c.haircut k)
  pub after : (k : ℕ) → 1 + 4 * c.count ≤ k → get_or new k 0 ≡ get_or old k 0

-- a number outside the bytes that are written stays
spelt_kept : (old new : List ℕ) (from to i v : ℕ) → Kept old new from to → i + 1 < from → Spelt old i v → Spelt new i v
spelt_kept old new from to i v k h s = (k.before i (omega arith) ∙ s.0, k.before (i + 1) h ∙ s.1)

spelt_after : (old new : List ℕ) (from to i v : ℕ) → Kept old new from to → to ≤ i → Spelt old i v → Spelt new i v
spelt_after old new from to i v k h s = (k.after i h ∙ s.0, k.after (i + 1) (omega arith) ∙ s.1)

-- one more month, and one more haircut
pub begun_more : (c : Points) (old b b' b'' : List ℕ) (j : ℕ) → j < c.count → Begun c old b j
    → Spelt b' (1 + 2 * j) (c.month j) → Kept b b' (1 + 2 * j) (1 + 2 * j + 2)
    → Spelt b'' (1 + 2 * c.count + 2 * j) (c.haircut j) → Kept b' b'' (1 + 2 * c.count + 2 * j) (1 + 2 * c.count + 2 * j + 2)
    → Begun c old b'' (j + 1)
begun_more c old b b' b'' j l begun month k haircut k' = record {
  size = k'.size ∙ (k.size ∙ begun.size);
  number = k'.before 0 (omega arith) ∙ (k.before 0 (omega arith) ∙ begun.number);
  months = below_more (λ i. Spelt b'' (1 + 2 * i) (c.month i)) j
      (λ i h. spelt_kept _ _ _ _ _ _ k' (omega arith) (spelt_kept _ _ _ _ _ _ k (omega arith) (begun.months i h)))
      (spelt_kept _ _ _ _ _ _ k' (omega arith) month);
  haircuts = below_more (λ i. Spelt b'' (1 + 2 * c.count + 2 * i) (c.haircut i)) j
      (λ i h. spelt_kept _ _ _ _ _ _ k' (omega arith) (spelt_after _ _ _ _ _ _ k (omega arith) (begun.haircuts i h)))
      haircut;
  after = λ i h. k'.after i (omega arith) ∙ (k.after i (omega arith) ∙ begun.after i h);
}

-- the front of a buffer spells what the buffer spells
spelt_front : (bs : List ℕ) (n i v : ℕ) → i + 1 < n → Spelt bs i v → Spelt (take n bs) i v
spelt_front bs n i v h s =
    let l : i < n = omega arith in
    (get_or-take n bs i 0 l ∙ s.0, get_or-take n bs (i + 1) 0 h ∙ s.1)

pub written : (c : Points) (old new : List ℕ) → 1 ≤ c.count → c.count ≤ 16 → 1 + 4 * c.count ≤ length old → Begun c old new c.count → Written c old new (1 + 4 * c.count)
written c old new some few room begun =
    let n = c.count in
    let size : length new ≡ length old = begun.size in
    record {
      page = record {
        some = some;
        few = few;
        size = length-take-le (1 + 4 * n) new (omega arith);
        number = get_or-take (1 + 4 * n) new 0 0 (omega arith) ∙ begun.number;
        months = λ j l. spelt_front new (1 + 4 * n) (1 + 2 * j) (c.month j) (omega arith) (begun.months j l);
        haircuts = λ j l. spelt_front new (1 + 4 * n) (1 + 2 * n + 2 * j) (c.haircut j) (omega arith) (begun.haircuts j l);
      };
      rest = ext_get_or 0 (drop (1 + 4 * n) new) (drop (1 + 4 * n) old)
          (length-drop (1 + 4 * n) new ∙ omega (arith, size, length-drop (1 + 4 * n) old))
          (λ i l. get_or-drop (1 + 4 * n) new i 0 ∙ (begun.after ((1 + 4 * n) + i) (omega arith) ∙ sym (get_or-drop (1 + 4 * n) old i 0)));
      length = size;
    }
