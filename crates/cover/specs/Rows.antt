-- To believe: nothing; lemmas. The lots of each slot, row by row, while the lots are gone through: lot l is put behind those of its slot before it.

use Rattle.std.specs.Prelude.{◌≡◌, ℕ, ◌+◌, ◌*◌, ◌<◌, ◌≤◌, List, length, ◌==◌, slice_set, refl}
use Rattle.std.proofs.Common.{sym, ap, ◌∙◌, inl, inr, arith}
use Rattle.std.proofs.lemmas.Bool.{cases_eq, cases_lt}
use Rattle.network.specs.Sums.{when}
use Rattle.network.proofs.Sums.{sum_start, sum_more, hit, miss}
use Rattle.table.proofs.Sums.{sum_front, sum_below, when_low}
use Rattle.cover.specs.View.{at}
use Rattle.cover.specs.Drawing.{lots_of, Counted, Ranked, Rows}
use Rattle.cover.specs.Lists.{set_here, set_there, add_at}

one_or_none : (t : ℕ) (slots : List ℕ) (l : ℕ) → when (t == at slots l) 1 ≤ 1
one_or_none t slots l = when_low (t == at slots l) 1

pub lots_few : (slots : List ℕ) (t n : ℕ) → lots_of slots t n ≤ n
lots_few slots t n = omega (arith, sum_below n 1 (λ l. when (t == at slots l) 1) (λ k _. one_or_none t slots k))

-- a lot comes after those of its slot before it
pub lots_before : (slots : List ℕ) (k n : ℕ) → k < n → lots_of slots (at slots k) k < lots_of slots (at slots k) n
lots_before slots k n h =
    let g : ℕ → ℕ = λ l. when (at slots k == at slots l) 1 in
    omega (arith, sum_more k (λ l. when (at slots k == at slots l) 1), hit (at slots k) (at slots k) 1 refl, sum_front (k + 1) n (λ l. when (at slots k == at slots l) 1) (omega arith))

pub count_low : (slots counts : List ℕ) (l : ℕ) → Counted slots counts l → l < 64 → at slots l < 64 → at counts (at slots l) < 64
count_low slots counts l counted low slot_low = omega (arith, counted (at slots l) slot_low, lots_few slots (at slots l) l)

module _ (slots members counts : List ℕ) (l : ℕ) (len : length members ≡ 4096) (len-c : length counts ≡ 64) (low : l < 64) (slot_low : at slots l < 64) (rows : Rows slots members counts l) where
  abbrev here : ℕ
  here = at slots l * 64 + at counts (at slots l)

  here_low : at counts (at slots l) < 64
  here_low = count_low slots counts l rows.counted low slot_low

  turned : (a b : ℕ) → when (a == b) 1 ≡ when (b == a) 1
  turned a b = elim (cases_eq a b) [ inl e ↦ hit a b 1 e ∙ sym (hit b a 1 (sym e)) | inr n ↦ miss a b 1 n ∙ sym (miss b a 1 (λ e. n (sym e))) ]

  counted_more : Counted slots (slice_set counts (at slots l) (at counts (at slots l) + 1)) (l + 1)
  counted_more t h = omega (arith, add_at counts (at slots l) 1 t (omega arith), turned (at slots l) t, rows.counted t h, sum_more l (λ k. when (t == at slots k) 1))

  -- an entry of another place stays
  elsewhere : (t i : ℕ) → t < 64 → i < 64 → ((t ≡ at slots l) × (i ≡ at counts (at slots l)) → ⊥) → at (slice_set members here l) (t * 64 + i) ≡ at members (t * 64 + i)
  elsewhere t i h j n = set_there members here l (t * 64 + i) (λ e. n (omega (arith, here_low), omega (arith, here_low)))

  ranked_more : Ranked slots (slice_set members here l) (l + 1)
  ranked_more k h = elim (cases_eq k l) [
    | inl e ↦
        let q : at slots k * 64 + lots_of slots (at slots k) k ≡ here = ap (λ k. at slots k * 64 + lots_of slots (at slots k) k) e ∙ omega (arith, rows.counted (at slots l) slot_low) in
        ap (at (slice_set members here l)) q ∙ set_here members here l (omega (arith, here_low)) ∙ sym e
    | inr d ↦
        elim (cases_lt (at slots k) 64) [
          | inl m ↦
              elsewhere (at slots k) (lots_of slots (at slots k) k) m (omega (arith, lots_few slots (at slots k) k))
              (λ e. omega (arith, e.0, e.1, rows.counted (at slots l) slot_low, ap (λ t. lots_of slots t l) e.0, lots_before slots k l (omega arith)))
              ∙ rows.ranked k (omega arith)
          | inr m ↦ set_there members here l _ (λ e. omega (arith, here_low)) ∙ rows.ranked k (omega arith)
        ]
  ]

  rowed_more : (t i : ℕ) → (t < 64) × (i < at (slice_set counts (at slots l) (at counts (at slots l) + 1)) t) → (at (slice_set members here l) (t * 64 + i) < 64) × (at slots (at (slice_set members here l) (t * 64 + i)) ≡ t)
  rowed_more t i h =
      let c = add_at counts (at slots l) 1 t (omega arith) in
      let few : at counts t < 65 = omega (arith, rows.counted t h.0, lots_few slots t l) in
      elim (cases_eq t (at slots l)) [
        | inl e ↦ elim (cases_eq i (at counts (at slots l))) [
          | inl q ↦
              let m : at (slice_set members here l) (t * 64 + i) ≡ l = ap (at (slice_set members here l)) (omega arith) ∙ set_here members here l (omega (arith, here_low)) in
              (omega arith, ap (at slots) m ∙ sym e)
          | inr d ↦
              let i-low : i < at counts t = omega (arith, h.1, hit (at slots l) t 1 (sym e), ap (at counts) e) in
              same t i h.0 i-low (omega (arith, here_low, ap (at counts) e)) (λ z. d z.1)
        ]
        | inr n ↦
            let i-low : i < at counts t = omega (arith, h.1, miss (at slots l) t 1 (λ z. n (sym z))) in
            same t i h.0 i-low (omega arith) (λ z. n z.0)
      ]
    where
      same : (t i : ℕ) → t < 64 → i < at counts t → i < 64 → ((t ≡ at slots l) × (i ≡ at counts (at slots l)) → ⊥) → (at (slice_set members here l) (t * 64 + i) < 64) × (at slots (at (slice_set members here l) (t * 64 + i)) ≡ t)
      same t i h j m n = let e = elsewhere t i h m n in (omega (arith, rows.known t i (h, j)), ap (at slots) e ∙ rows.rowed t i (h, j))

  pub rows_more : Rows slots (slice_set members here l) (slice_set counts (at slots l) (at counts (at slots l) + 1)) (l + 1)
  rows_more = record { counted = counted_more; known = λ t i h. (rowed_more t i h).0; rowed = λ t i h. (rowed_more t i h).1; ranked = ranked_more }

pub rows_start : (slots members counts : List ℕ) → ((t : ℕ) → t < 64 → at counts t ≡ 0) → Rows slots members counts 0
rows_start slots members counts z = record {
  counted = λ t h. z t h ∙ sym (sum_start (λ l. when (t == at slots l) 1));
  known = λ t i h. absurd (omega (arith, z t h.0));
  rowed = λ t i h. absurd (omega (arith, z t h.0));
  ranked = λ l h. absurd (omega arith);
}
