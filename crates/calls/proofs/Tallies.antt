-- What the instructions of a settling and of a closing add up to at a place.
--
-- Both lists are made of moves, one place after the other. A move adds the new pledge less the old one at its own place, and
-- nothing at any other; where the two are equal there is no instruction, and their difference is 0. So a list with no move at a
-- place adds 0 there, and a list with just one move there adds that move's difference. A settling has one move at each place of
-- the tables; a closing has one at each lot's place for the exposure that is closed, and none for another exposure.

use Rattle.std.proofs.Common.{◌≡◌, ℕ, zero, suc, ◌+◌, ◌*◌, ◌/◌, ◌%◌, ◌<◌, Bool, true, false, cond, ◌&&◌, eqb, List, [], ◌∷◌, ◌++◌, length, get_or, take, drop, pos, ◌+ℤ◌, ◌-ℤ◌, sym, refl, ap, ◌∙◌, inl, inr, arith}
use Rattle.std.proofs.lemmas.Bool.{cases_eq, eq-eqb, ne_eqb, and_left, and_right}
use Rattle.std.proofs.lemmas.List.{take_at}
use Rattle.std.proofs.lemmas.Int.{ints}
use Rattle.calls.specs.declared.Instruction.{Instruction}
use Rattle.calls.specs.State.{table}
use Rattle.calls.specs.Instructions.{moves, move, changes, closings, written, amounts}
use Rattle.calls.specs.Step.{zeroed}
use Rattle.calls.proofs.Zeroed.{zeroed_there, zeroed_other}

-- the instructions that are counted are those that were written
pub take_written : (new old : List Instruction) → take (length new) (written new old) ≡ new
take_written new old = take_at new (drop (length new) old) (length new) refl

pub amounts-++ : (a b : List Instruction) (l e : ℕ) → amounts (a ++ b) l e ≡ amounts a l e +ℤ amounts b l e
amounts-++ [] b l e = omega (arith, ints)
amounts-++ (i ∷ a) b l e = omega (arith, ints, amounts-++ a b l e)

-- a move at its own place, and at another
move_here : (k f old new l e : ℕ) → k ≡ l → f ≡ e → amounts (move k f old new) l e ≡ pos new -ℤ pos old
move_here k f old new l e a b =
    elim (cases_eq new old) [
      | inl is ↦ rw (eq-eqb new old is) (omega (arith, ints))
      | inr ne ↦ rw (ne_eqb new old ne, eq-eqb k l a, eq-eqb f e b) (omega (arith, ints))
    ]

alone : (b : Bool) (i : Instruction) (l e : ℕ) → (eqb i.lot l && eqb i.exposure e) ≡ false → amounts (cond b [] (i ∷ [])) l e ≡ pos 0
alone true i l e h = refl
alone false i l e h = rw h refl

move_elsewhere : (k f old new l e : ℕ) → ((k ≡ l) × (f ≡ e) → ⊥) → amounts (move k f old new) l e ≡ pos 0
move_elsewhere k f old new l e apart =
    alone (eqb new old) (moves k f old new) l e
    (elim (cases_eq k l) [
      | inl a ↦ and_right (eqb k l) (eqb f e) (ne_eqb f e (λ b. apart (a, b)))
      | inr a ↦ and_left (eqb k l) (eqb f e) (ne_eqb k l a)
    ])

-- a list of moves, the move at n from old n to new n at the lot place lot n and the exposure place exposure n
module _ (list : ℕ → List Instruction) (lot exposure old new : ℕ → ℕ) (none : list 0 ≡ []) (more : (n : ℕ) → list (suc n) ≡ list n ++ move (lot n) (exposure n) (old n) (new n)) (l e : ℕ) where
  next : (n : ℕ) → amounts (list (suc n)) l e ≡ amounts (list n) l e +ℤ amounts (move (lot n) (exposure n) (old n) (new n)) l e
  next n = ap (λ is. amounts is l e) (more n) ∙ amounts-++ (list n) (move (lot n) (exposure n) (old n) (new n)) l e

  apart : (n : ℕ) → ((k : ℕ) → k < n → (lot k ≡ l) × (exposure k ≡ e) → ⊥) → amounts (list n) l e ≡ pos 0
  apart zero h = ap (λ is. amounts is l e) none
  apart (suc n) h =
      omega (arith, ints, next n, apart n (λ k j. h k (omega arith)), move_elsewhere (lot n) (exposure n) (old n) (new n) l e (h n (omega arith)))

  once : (n k : ℕ) → k < n → lot k ≡ l → exposure k ≡ e → ((j : ℕ) → (lot j ≡ l) × (exposure j ≡ e) → j ≡ k) → amounts (list n) l e ≡ pos (new k) -ℤ pos (old k)
  once zero k h a b only = absurd (omega arith)
  once (suc n) k h a b only =
      elim (cases_eq k n) [
        | inl is ↦
            let here = move_here (lot n) (exposure n) (old n) (new n) l e (ap lot (sym is) ∙ a) (ap exposure (sym is) ∙ b) in
            let before = apart n (λ j g at. omega (arith, only j at)) in
            let all : amounts (list (suc n)) l e ≡ pos (new n) -ℤ pos (old n) = omega (arith, ints, next n, before, here) in
            all ∙ ap (λ j. pos (new j) -ℤ pos (old j)) (sym is)
        | inr ne ↦
            omega (
              arith,
              ints,
              next n,
              once n k (omega arith) a b only,
              move_elsewhere (lot n) (exposure n) (old n) (new n) l e (λ at. ne (sym (only n at))),
            )
      ]

-- the instructions of a settling: what the new table has more than the old one
pub changes_tally : (old new : List ℕ) (l e : ℕ) → l < 64 → e < 16 → amounts (changes old new 1024) l e ≡ pos (table new l e) -ℤ pos (table old l e)
unfolding changes
changes_tally old new l e h j =
    once (changes old new) (λ k. k / 16) (λ k. k % 16) (λ k. get_or old k 0) (λ k. get_or new k 0) refl (λ n. refl) l e 1024 (l * 16 + e) (omega arith) (omega arith) (omega arith) (λ k at. omega arith)

-- those of a closing: what the zeroed table has more than the old one
pub closings_tally : (old : List ℕ) (e l f : ℕ) → e < 16 → l < 64 → f < 16 → amounts (closings old e 64) l f ≡ pos (table (zeroed old e 64) l f) -ℤ pos (table old l f)
unfolding closings
closings_tally old e l f j h g =
    elim (cases_eq f e) [
      | inl is ↦
          let own : amounts (closings old e 64) l f ≡ pos 0 -ℤ pos (table old l e) =
          once (closings old e) (λ k. k) (λ k. e) (λ k. table old k e) (λ k. 0) refl (λ n. refl) l f 64 l h refl (sym is) (λ k at. at.0) in
          let gone : table (zeroed old e 64) l f ≡ 0 = rw is (zeroed_there old e 64 l h) in
          let place : table old l f ≡ table old l e = ap (table old l) is in
          omega (arith, ints)
      | inr ne ↦
          let none = apart (closings old e) (λ k. k) (λ k. e) (λ k. table old k e) (λ k. 0) refl (λ n. refl) l f 64 (λ _ _ at. ne (sym at.1)) in
          let same : table (zeroed old e 64) l f ≡ table old l f = zeroed_other old e 64 l f j g ne in
          omega (arith, ints)
    ]
