-- The smallest held lot place of each issuer, kept while the lots are gone through.

use Rattle.std.proofs.Common.{◌≡◌, ℕ, ◌+◌, ◌<◌, true, Some, None, Option, replicate, unwrap_or, sym, ap, ◌∙◌, subst, arith}
use lib.ListN.{get_or-replicate}
use Rattle.std.proofs.lemmas.Bool.{eq-eqb, and_from}
use Rattle.table.specs.Table.{Situation, of_issuer}
use Rattle.table.specs.Drawn.{slot, least}
use Rattle.table.proofs.Slots.{least_first, slot_issuer}
use Rattle.cover.specs.Drawing.{FirstOf, First}

module _ (s : Situation) (n : ℕ) where
  -- the lot n is one of the issuer's
  own : (i : ℕ) (x : Option ℕ) → of_issuer s i n ≡ true → FirstOf s n i x → FirstOf s (n + 1) i (Some (unwrap_or x n))
  own i None y w = (omega arith, y, w)
  own i (Some t) y w = (omega (arith, w.0), w.1, w.2)

  -- what is kept of a held lot's issuer is its slot
  pub first_slot : (i : ℕ) (x : Option ℕ) → n < 64 → s.held n ≡ true → s.issuer n ≡ i → FirstOf s n i x → unwrap_or x n ≡ slot s n
  first_slot i x h y e w =
      let f = own i x (and_from (s.held n) _ y (eq-eqb _ _ e)) w in
      let g = least_first (of_issuer s i) 63 (unwrap_or x n) (omega (arith, f.0)) f.1 f.2 in
      sym (slot_issuer s n y ∙ ap (λ i. least (of_issuer s i) 63) e ∙ g)

pub first_start : (s : Situation) → First s (replicate 256 None) 0
first_start s i h = subst (FirstOf s 0 i) (sym (get_or-replicate 256 i None None h)) (λ k m. absurd (omega arith))
