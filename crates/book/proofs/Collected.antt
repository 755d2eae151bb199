-- Instructions written one after the other.
--
-- Both lists of instructions are collected the same way: at each place one instruction or none. What is written so far
-- is the collection so far, so before a record is written there is room for it as long as there is room for the whole.

use Rattle.std.proofs.Common.{◌≡◌, ℕ, zero, suc, ◌+◌, ◌-◌, ◌/◌, ◌%◌, ◌<◌, ◌≤◌, Bool, true, false, cond, eqb, List, [], ◌∷◌, ◌++◌, length, get_or, drop, set, refl, ap, ◌∙◌, ⊎_elim, append_assoc, append-nil, add-zero, add-one, arith, length-append, drop-cons, eq-eqb}
use Rattle.std.proofs.lemmas.Bool.{cases_eq, ne_eqb}
use Rattle.std.proofs.lemmas.List.{set_at}
use Rattle.network.specs.Sums.{sum_over}
use Rattle.calls.specs.declared.Instruction.{Instruction}
use Rattle.calls.specs.State.{table}
use Rattle.calls.specs.Instructions.{moves, move, changes, closings, written}

-- what is collected at the first n places
pub collected : (ℕ → List Instruction) → ℕ → List Instruction
collected f zero = []
collected f (suc n) = collected f n ++ f n

unfoldable pub change_at : List ℕ → List ℕ → ℕ → List Instruction
change_at s w p = move (p / 16) (p % 16) (get_or s p 0) (get_or w p 0)

unfoldable pub closing_at : List ℕ → ℕ → ℕ → List Instruction
closing_at t e l = move l e (table t l e) 0

pub changes_is : (s w : List ℕ) (n : ℕ) → changes s w n ≡ collected (change_at s w) n
unfolding changes collected change_at
changes_is s w zero = refl
changes_is s w (suc n) = ap (λ xs. xs ++ move (n / 16) (n % 16) (get_or s n 0) (get_or w n 0)) (changes_is s w n)

pub closings_is : (t : List ℕ) (e n : ℕ) → closings t e n ≡ collected (closing_at t e) n
unfolding closings collected closing_at
closings_is t e zero = refl
closings_is t e (suc n) = ap (λ xs. xs ++ move n e (table t n e) 0) (closings_is t e n)

pub collected_none : (f : ℕ → List Instruction) → collected f 0 ≡ []
unfolding collected
collected_none f = refl

pub collected_more : (f : ℕ → List Instruction) (n : ℕ) → collected f (n + 1) ≡ collected f n ++ f n
unfolding collected
collected_more f n = ap (collected f) (add-one n)

pub collected_length : (f : ℕ → List Instruction) (n : ℕ) → length (collected f n) ≡ sum_over n (λ p. length (f p))
unfolding collected sum_over
collected_length f zero = refl
collected_length f (suc n) = length-append (collected f n) (f n) ∙ ap (λ k. k + length (f n)) (collected_length f n)

-- the collection only grows
no_fewer : (f : ℕ → List Instruction) (k n : ℕ) → length (collected f k) ≤ length (collected f (k + n))
no_fewer f k zero = rw add-zero (omega arith)
no_fewer f k (suc n) =
    let place : k + suc n ≡ (k + n) + 1 = omega arith in
    rw (place, collected_more f (k + n), length-append (collected f (k + n)) (f (k + n))) (omega (arith, no_fewer f k n))

pub room_here : (f : ℕ → List Instruction) (i n : ℕ) → i < n → length (f i) ≡ 1 → length (collected f i) < length (collected f n)
room_here f i n h one =
    let end : (i + 1) + (n - suc i) ≡ n = omega arith in
    let up : length (collected f (i + 1)) ≤ length (collected f n) = rw end at (no_fewer f (i + 1) (n - suc i)) in
    let more : length (collected f (i + 1)) ≡ length (collected f i) + 1 = ap length (collected_more f i) ∙ (length-append (collected f i) (f i) ∙ ap (λ k. length (collected f i) + k) one) in
    omega arith

put_next : {A : Type 0} (a old : List A) (x d : A) → length a < length old → set (a ++ drop (length a) old) (length a) x ≡ (a ++ (x ∷ [])) ++ drop (length a + 1) old
put_next a old x d h = rw (drop-cons old (length a) d h, set_at a (get_or old (length a) d) (drop (suc (length a)) old) x (length a) refl, add-one, append_assoc)

-- one more place, with an instruction or without
module _ (a old list : List Instruction) (n : ℕ) (x : Instruction) (count : n ≡ length a) (so_far : list ≡ written a old) where
  more : (same : Bool) → (same ≡ false → n < length old)
      → (n + length (cond same [] (x ∷ [])) ≡ length (a ++ cond same [] (x ∷ []))) × (cond same list (set list n x) ≡ written (a ++ cond same [] (x ∷ [])) old)
  more true h = (rw (append-nil a) (omega arith), rw (append-nil a) so_far)
  more false h =
      let long : length (a ++ (x ∷ [])) ≡ length a + 1 = length-append a (x ∷ []) in
      let room : length a < length old = omega (arith, h refl) in
      (rw long (omega arith), rw (so_far, count, long) (put_next a old x x room))

move_one : (l e old new : ℕ) → (new ≡ old → ⊥) → length (move l e old new) ≡ 1
move_one l e old new h = rw (ne_eqb new old h) refl

pub move_short : (l e old new : ℕ) → length (move l e old new) ≤ 1
move_short l e old new = ⊎_elim (λ s. rw (eq-eqb new old s) (omega arith)) (λ d. rw (ne_eqb new old d) (omega arith)) (cases_eq new old)

pub move_none : (l e old new : ℕ) → new ≡ old → length (move l e old new) ≡ 0
move_none l e old new h = rw (eq-eqb new old h) refl

differs : (a b : ℕ) → eqb b a ≡ false → b ≡ a → ⊥
differs a b f e = let t = eq-eqb b a e in let z : ◌≡◌ {A = ℕ} 0 1 = cc in omega arith

-- a turn of the loop, at place i of n, with room for all
module _ (f : ℕ → List Instruction) (i n : ℕ) (old list : List Instruction) (l e a b : ℕ) (is : f i ≡ move l e a b) (below : i < n)
    (room : length (collected f n) ≤ length old) where
  pub has_room : (b ≡ a → ⊥) → length (collected f i) < length old
  has_room d = omega (arith, room_here f i n below (ap length is ∙ move_one l e a b d), room)

  pub turn : (k : ℕ) → k ≡ length (collected f i) → list ≡ written (collected f i) old
      → (k + length (move l e a b) ≡ length (collected f (i + 1)))
      × (cond (eqb b a) list (set list k (moves l e a b)) ≡ written (collected f (i + 1)) old)
  turn k count so_far =
      let step : collected f (i + 1) ≡ collected f i ++ move l e a b = collected_more f i ∙ ap (λ xs. collected f i ++ xs) is in
      let m = more (collected f i) old list k (moves l e a b) count so_far (eqb b a) (λ w. rw count (has_room (differs a b w))) in
      (rw step m.0, rw step m.1)
