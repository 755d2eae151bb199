-- Orders carried out one after the other, and what a life they make.
--
-- The instructions of each order stand behind those of the orders before it, so what the journal holds so far is what was given
-- out so far; and each order is a step of the book's life, or none at all.

use Rattle.std.proofs.Common.{◌≡◌, ℕ, zero, suc, ◌+◌, ◌-◌, ◌<◌, ◌≤◌, min, List, [], ◌∷◌, ◌++◌, length, get_or, take, drop, set, sym, refl, ap, ◌∙◌, subst, append_assoc, append-nil, suc-add, zero-add, add-one, arith, length-append, length-drop, length-take-le, take_all}
use native.Mathlib.Nat.{min-eq_left, min-eq_right}
use native.Mathlib.Decide.{dec_le}
use lib.Seq.{take-append-le}
use Rattle.std.proofs.lemmas.List.{drop_all, drop-drop, take_more, take_more_set}
use borrow.Rule.Slice.PartMut.{put_mid, post_of}
use Rattle.binder.specs.Meaning.{Meaning}
use Rattle.curve.specs.declared.card.Card.{Card}
use Rattle.calls.specs.declared.Instruction.{Instruction}
use Rattle.calls.specs.State.{State}
use Rattle.calls.specs.Life.{Life, next, Sound}
use Rattle.calls.proofs.Lives.{every_life_sound}
use Rattle.life.specs.Turn.{Outcome, Turn, made, idle, Played, none, more}
use Rattle.life.specs.declared.order.Order.{Order}

take_past : {A : Type 0} (a b : List A) (n : ℕ) → take (length a + n) (a ++ b) ≡ a ++ take n b
take_past [] b n = rw zero-add
take_past (x ∷ a) b n = rw suc-add (ap (λ r. x ∷ r) (take_past a b n))

drop_past : {A : Type 0} (a b : List A) (n : ℕ) → drop (length a + n) (a ++ b) ≡ drop n b
drop_past [] b n = rw zero-add
drop_past (x ∷ a) b n = rw suc-add (drop_past a b n)

pub drop_past_set : {A : Type 0} (xs : List A) (i : ℕ) (x : A) → drop (i + 1) (set xs i x) ≡ drop (i + 1) xs
drop_past_set xs i x = rw add-one (go xs i x) where
  go : {A : Type 0} (xs : List A) (i : ℕ) (x : A) → drop (suc i) (set xs i x) ≡ drop (suc i) xs
  go [] i x = refl
  go (y ∷ xs) zero x = refl
  go (y ∷ xs) (suc i) x = go xs i x

drop_suc : {A : Type 0} (xs ys : List A) (i : ℕ) → drop i xs ≡ drop i ys → drop (suc i) xs ≡ drop (suc i) ys
drop_suc xs ys i e = one xs i ∙ (ap (drop 1) e ∙ sym (one ys i)) where
  one : {A : Type 0} (xs : List A) (i : ℕ) → drop (suc i) xs ≡ drop 1 (drop i xs)
  one xs zero = refl
  one [] (suc i) = refl
  one (y ∷ xs) (suc i) = one xs i

pub drop_next : {A : Type 0} (xs ys : List A) (i : ℕ) (x : A) → drop i xs ≡ drop i ys → drop (i + 1) (set xs i x) ≡ drop (i + 1) ys
drop_next xs ys i x e = drop_past_set xs i x ∙ rw add-one (drop_suc xs ys i e)

-- a front no longer than the list
pub take_min : {A : Type 0} (xs : List A) (n m : ℕ) → length xs ≡ n → take (min n m) xs ≡ take m xs
take_min xs n m e = elim (dec_le m n) [
  | yes l ↦ ap (λ k. take k xs) (min-eq_right l)
  | no l ↦ (let le : n ≤ m = omega arith in ap (λ k. take k xs) (min-eq_left le) ∙ (take_all n xs (omega (arith, e)) ∙ sym (take_all m xs (omega (arith, e)))))
]

module _ (journal rest : List Instruction) (used n size : ℕ) (within : used ≤ length journal) (room : n ≤ length rest) where
  pub room_left : used + n ≤ length (put_mid used size journal rest)
  room_left =
      let long : length (take used journal) ≡ used = length-take-le used journal within in
      rw (length-append (take used journal) (rest ++ post_of used size journal), length-append rest (post_of used size journal)) (omega arith)

  journal_more : take (used + n) (put_mid used size journal rest) ≡ take used journal ++ take n rest
  journal_more =
      let long : length (take used journal) ≡ used = length-take-le used journal within in
      let tail = rest ++ post_of used size journal in
      ap (λ u. take (u + n) (take used journal ++ tail)) (sym long) ∙ (take_past (take used journal) tail n ∙ ap (λ y. take used journal ++ y) (take-append-le n rest (post_of used size journal) room))

  pub play_more : (m : Meaning) (k : Card) (s t u : State) (orders : List Order) (outcomes : List Outcome) (i : ℕ) (d : Order) (r : Outcome)
      → i < length orders → i < length outcomes
      → Played m k s (take i orders) (take i outcomes) (take used journal) t → Turn m k (get_or orders i d) t r (take n rest) u
      → Played m k s (take (i + 1) orders) (take (i + 1) (set outcomes i r)) (take (used + n) (put_mid used size journal rest)) u
  play_more m k s t u orders outcomes i d r lo lr before turn =
      rw (take_more orders i d lo, take_more_set outcomes i r lr, journal_more) (more before (get_or orders i d) r (take n rest) u turn)

  -- behind the instructions the journal is as the part lent is, and so as it was at the start
  journal_behind : size ≡ length journal - used → drop (used + n) (put_mid used size journal rest) ≡ drop n rest
  journal_behind whole =
      let long : length (take used journal) ≡ used = length-take-le used journal within in
      let none : post_of used size journal ≡ [] = drop_all size (drop used journal) (omega (arith, length-drop used journal)) in
      ap (λ u. drop (u + n) (take used journal ++ (rest ++ post_of used size journal))) (sym long) ∙ (drop_past (take used journal) (rest ++ post_of used size journal) n ∙ ap (drop n) (ap (λ y. rest ++ y) none ∙ append-nil rest))

  pub journal_rest : (start lent : List Instruction) → size ≡ length journal - used → lent ≡ drop used journal → drop used journal ≡ drop used start
      → drop n rest ≡ drop n lent → drop (used + n) (put_mid used size journal rest) ≡ drop (used + n) start
  journal_rest start lent whole is old e = journal_behind whole ∙ (e ∙ (ap (drop n) (is ∙ old) ∙ drop-drop n used start))

-- what is carried out is lived
turned : {m : Meaning} {k : Card} {number : ℕ} {o : Order} {s t : State} {r : Outcome} {given new : List Instruction}
    → Life m number s given → Turn m k o s r new t → Life m number t (given ++ new)
turned life (made list note c e r t step) = next life c r t step
turned {m} {k} {number} {o} {s} {t} {r} {given} life (idle e) = subst (λ xs. Life m number s xs) (sym (append-nil given)) life

pub lived : {m : Meaning} {k : Card} {number : ℕ} {s t : State} {os : List Order} {rs : List Outcome} {given new : List Instruction}
    → Life m number s given → Played m k s os rs new t → Life m number t (given ++ new)
lived {m} {k} {number} {s} {t} {os} {rs} {given} life none = subst (λ xs. Life m number s xs) (sym (append-nil given)) life
lived {m} {k} {number} {s} {t} {os} {rs} {given} life (more {given = old} before o r new u turn) =
    subst (λ xs. Life m number u xs) (append_assoc given old new) (turned (lived life before) turn)

pub lived_soundly : {m : Meaning} {k : Card} {s t : State} {os : List Order} {rs : List Outcome} {new : List Instruction} → Played m k s os rs new t
    → (number : ℕ) (given : List Instruction) → Life m number s given → Life m number t (given ++ new) × Sound m t (given ++ new)
lived_soundly {m} {k} {s} {t} {os} {rs} {new} all number given life = let now = lived life all in (now, every_life_sound m number t (given ++ new) now)

-- what lies behind the outcomes told of
pub drop_rest : {A : Type 0} (xs ys : List A) (i n : ℕ) → length xs ≡ length ys → i ≡ min n (length ys) → drop i xs ≡ drop i ys → drop n xs ≡ drop n ys
drop_rest xs ys i n size is e = elim (dec_le n (length ys)) [
  | yes l ↦ (let at : i ≡ n = is ∙ min-eq_left l in subst (λ k. drop k xs ≡ drop k ys) at e)
  | no l ↦ drop_all n xs (omega (arith, size)) ∙ sym (drop_all n ys (omega arith))
]
