-- A word is read from its highest place down: twice what was read so far, and one more where the flag is set. So what is read from
-- a place on is a number whose bit 0 is that place's flag, and whose half is what was read from the next place on.

use Rattle.std.proofs.Common.{◌≡◌, ℕ, zero, suc, ◌+◌, ◌-◌, ◌*◌, ◌/◌, ◌%◌, ◌^◌, ◌<◌, ◌≤◌, Bool, true, false, cond, eqb, List, length, get_or, take, reverse, refl, sym, ap, ◌∙◌, subst, pow-suc, add-one, one-add, arith, pow_mono}
use Rattle.std.proofs.lemmas.Bool.{eq-eqb, ne_eqb}
use Rattle.std.proofs.lemmas.List.{length-take, length-reverse, get_or-reverse, get_or-take, get_or_default}
use Rattle.std.proofs.lemmas.Nat.{shr-shr, shr_below}
use Rattle.words.specs.Word.{bit}

-- the number with the flags of n places from i on as its bits
unfoldable pub word : List Bool → ℕ → ℕ → ℕ
word flags i zero = 0
word flags i (suc n) = cond (get_or flags i false) 1 0 + 2 * word flags (suc i) n

parity : (b : Bool) (w : ℕ) → eqb ((cond b 1 0 + 2 * w) / 2 ^ 0 % 2) 1 ≡ b
parity true w = eq-eqb ((1 + 2 * w) / 1 % 2) 1 (omega arith)
parity false w = ne_eqb ((0 + 2 * w) / 1 % 2) 1 (λ e. omega arith)

half : (b : Bool) (w : ℕ) → (cond b 1 0 + 2 * w) / 2 ^ 1 ≡ w
half true w = omega arith
half false w = omega arith

-- bit 0, the bits after it, and the bits of 0
bit_low : (b : Bool) (w : ℕ) → bit (cond b 1 0 + 2 * w) 0 ≡ b
unfolding bit
bit_low b w = parity b w

bit_high : (b : Bool) (w p : ℕ) → bit (cond b 1 0 + 2 * w) (suc p) ≡ bit w p
unfolding bit
bit_high b w p = ap (λ x. eqb (x % 2) 1) (ap (λ k. (cond b 1 0 + 2 * w) / 2 ^ k) (sym (one-add p)) ∙ sym (shr-shr (cond b 1 0 + 2 * w) 1 p) ∙ ap (λ x. x / 2 ^ p) (half b w))

pub word_bits : (flags : List Bool) (i n p : ℕ) → p < n → bit (word flags i n) p ≡ get_or flags (i + p) false
unfolding word
word_bits flags i zero p h = absurd (omega arith)
word_bits flags i (suc n) zero h = let e : i ≡ i + 0 = omega arith in bit_low (get_or flags i false) (word flags (suc i) n) ∙ ap (λ k. get_or flags k false) e
word_bits flags i (suc n) (suc p) h = let e : suc i + p ≡ i + suc p = omega arith in bit_high (get_or flags i false) (word flags (suc i) n) p ∙ word_bits flags (suc i) n p (omega arith) ∙ ap (λ k. get_or flags k false) e

pub word_below : (flags : List Bool) (i n : ℕ) → word flags i n < 2 ^ n
unfolding word
word_below flags i zero = omega arith
word_below flags i (suc n) =
    rw (pow-suc 2 n) (elim (get_or flags i false) as (λ v. cond v 1 0 + 2 * word flags (suc i) n < 2 ^ n * 2) [ true ↦ omega (arith, word_below flags (suc i) n) | false ↦ omega (arith, word_below flags (suc i) n) ])

-- a number has no bits past its length
pub bit_past : (w n p : ℕ) → w < 2 ^ n → n ≤ p → bit w p ≡ false
unfolding bit
bit_past w n p h l =
    let m : 2 ^ n ≤ 2 ^ p = pow_mono l in
    let e : p ≡ 0 + p = omega arith in
    let z : w / 2 ^ p < 1 = shr_below w 0 p (subst (λ k. w < 2 ^ k) e (omega arith)) in
    ne_eqb (w / 2 ^ p % 2) 1 (λ q. omega arith)

pub word_none : (flags : List Bool) (i : ℕ) → word flags i 0 ≡ 0
unfolding word
word_none flags i = refl

-- all n places
pub word_whole : (flags : List Bool) (n j w : ℕ) → j ≡ n → w ≡ word flags (n - j) j → w ≡ word flags 0 n
word_whole flags n j w e h = let z : n - j ≡ 0 = omega arith in h ∙ ap (λ i. word flags i j) z ∙ ap (word flags 0) e

-- one more of n places, from the highest down, where j were read before
pub word_more : (flags : List Bool) (n j w x : ℕ) (b : Bool) → j < n → w ≡ word flags (n - j) j → b ≡ get_or flags (n - (j + 1)) false → x ≡ cond b 1 0 + 2 * w → x ≡ word flags (n - (j + 1)) (j + 1)
unfolding word
word_more flags n j w x b h e f g =
    let d : n - j ≡ suc (n - (j + 1)) = omega arith in
    g ∙ ap (λ b. cond b 1 0 + 2 * w) f ∙ ap (λ v. cond (get_or flags (n - (j + 1)) false) 1 0 + 2 * v) (e ∙ ap (λ i. word flags i j) d) ∙ ap (word flags (n - (j + 1))) (sym (add-one j))

-- the flag that is read there
pub next_flag : (flags : List Bool) (n j : ℕ) (b : Bool) → n ≤ length flags → (j < length (reverse (take n flags))) × (b ≡ get_or (reverse (take n flags)) j b) → (j < n) × (b ≡ get_or flags (n - (j + 1)) false)
next_flag flags n j b l h =
    let len : length (take n flags) ≡ n = length-take n flags ∙ omega arith in
    let low : j < n = omega (arith, h.0, length-reverse (take n flags), len) in
    let place : length (take n flags) - 1 - j ≡ n - (j + 1) = omega arith in
    (low, h.1 ∙ get_or-reverse (take n flags) j b (omega arith) ∙ ap (λ k. get_or (take n flags) k b) place ∙ get_or-take n flags (n - (j + 1)) b (omega arith) ∙ get_or_default flags (n - (j + 1)) b false (omega arith))

pub word_low : (flags : List Bool) (i n : ℕ) → n < 64 → word flags i n < 2 ^ 63
word_low flags i n h = let m : 2 ^ n ≤ 2 ^ 63 = let l : n ≤ 63 = omega arith in pow_mono l in omega (arith, word_below flags i n)
