-- The book's figures. An amount is granted by a table that covers. It is short by 1 by a table that leaves 1, and by a record: no lawful
-- table leaves less than a record explains. What allocating answers then follows from the law over allocations.

use Rattle.std.proofs.Common.{◌≡◌, ℕ, suc, ◌+◌, ◌*◌, ◌/◌, ◌<◌, ◌≤◌, true, false, cond, ◌||◌, eqb, ltb, [], ◌∷◌, get_or, is_some, None, refl, ap, ◌∙◌, subst, inl, inr, arith}
use Rattle.std.proofs.lemmas.Bool.{cases_eq, false≢true, both_ways, ltb-false, le-ltb, ne_eqb, and_parts, and_left, and_right, cond_both}
use Rattle.cause.specs.declared.Cause.TheVariants.{ListShort}
use Rattle.network.specs.Sums.{sum_over, when}
use Rattle.network.proofs.Sums.{hit, miss, sum_none}
use Rattle.binder.specs.Meaning.{Meaning, in_range}
use Rattle.binder.specs.Meaning as meaning
use Rattle.table.specs.Table.{Situation, Table, Lawful, Shortage, allowed, of_issuer, owed, pledged}
use Rattle.table.specs.Drawn.{slot, leads}
use Rattle.table.specs.Record.{Marks, Explains}
use Rattle.table.proofs.Sums.{when_low, grid_none}
use Rattle.table.proofs.Slots.{least_first, slot_leads}
use Rattle.table.proofs.Tables.{covers_all_lem}
use Rattle.table.proofs.Record.{record_binds_lem}
use Rattle.calls.specs.State.{State}
use Rattle.calls.specs.Situation.{situation, amount_of}
use Rattle.calls.specs.Call.{held_lots, open_exposures, first}
use Rattle.calls.specs.Call.Outcome.{short}
use Rattle.calls.specs.Life.{Coverable}
use Rattle.calls.proofs.Allocations.{allocates}
use Rattle.figures.specs.Books.{schedules, one, two, Granted, ShortBy, Against, BookFigures}
use Rattle.figures.proofs.Places.{lots, exposures, none_at, over_lots, over_exposures, over_both}

-- what allocating answers
granted : (s : State) → s.in_run ≡ true → Coverable schedules s → Granted s
granted s run some = (some, λ note o t step. (allocates schedules s note o t run step).granted.0 some)

short_by : (s : State) (x : ℕ) → s.in_run ≡ true → 0 < x → Shortage (situation schedules s) x → ShortBy x s
short_by s x run above h = (
  h,
  λ note o t step.
      let none : Coverable schedules s → ⊥ = λ some. omega (arith, above, h.least some.0 some.1, (covers_all_lem (situation schedules s) some.0 some.1).0 some.2) in
      let a = allocates schedules s note o t run step in
      let at = a.refused.0 none in
      let least = (a.least at.0 at.1 at.2).0 in
      let same : at.0 ≡ x = omega (arith, h.least least.some.0 least.some.1, least.some.2, least.every h.table h.lawful, h.meets) in
      (at.1, subst (λ y. o ≡ short y at.1) same at.2),
)

-- lot 0 pledges 600 to exposure 0, lot 1 pledges x to exposure 1, and lot 2 pledges 400 to exposure 0
abbrev pledges : ℕ → Table
pledges x l e = get_or (get_or ((600 ∷ 0 ∷ []) ∷ (0 ∷ x ∷ []) ∷ (400 ∷ 0 ∷ []) ∷ []) l []) e 0

columns : (x l j : ℕ) → pledges x l (suc (suc j)) ≡ 0
columns x = lots (λ l. (j : ℕ) → pledges x l (suc (suc j)) ≡ 0) (λ j. refl) (λ j. refl) (λ j. refl) (λ k j. refl)

-- a table is lawful by what it has at six places
record Small (s : Situation) (p : Table) : Type 0 where
  rows_none : (j e : ℕ) → p (suc (suc (suc j))) e ≡ 0
  columns_none : (l j : ℕ) → p l (suc (suc j)) ≡ 0
  grounded_0 : (e : ℕ) → 0 < p 0 e → allowed s 0 e ≡ true
  grounded_1 : (e : ℕ) → 0 < p 1 e → allowed s 1 e ≡ true
  grounded_2 : (e : ℕ) → 0 < p 2 e → allowed s 2 e ≡ true
  lot_0 : p 0 0 + p 0 1 ≤ s.worth 0
  lot_1 : p 1 0 + p 1 1 ≤ s.worth 1
  lot_2 : p 2 0 + p 2 1 ≤ s.worth 2
  issuer_0 : (i : ℕ) → when (of_issuer s i 0) (p 0 0) + when (of_issuer s i 1) (p 1 0) + when (of_issuer s i 2) (p 2 0) ≤ s.limit 0 i
  issuer_1 : (i : ℕ) → when (of_issuer s i 0) (p 0 1) + when (of_issuer s i 1) (p 1 1) + when (of_issuer s i 2) (p 2 1) ≤ s.limit 1 i
  exposure_0 : p 0 0 + p 1 0 + p 2 0 ≤ s.amount 0
  exposure_1 : p 0 1 + p 1 1 + p 2 1 ≤ s.amount 1

module _ (s : Situation) (p : Table) (q : Small s p) where
  row : (l : ℕ) → sum_over 16 (λ e. p l e) ≡ p l 0 + p l 1
  row l = over_exposures (λ e. p l e) (q.columns_none l)

  column : (e : ℕ) → sum_over 64 (λ l. p l e) ≡ p 0 e + p 1 e + p 2 e
  column e = over_lots (λ l. p l e) (λ j. q.rows_none j e)

  of_issuer_sum : (e i : ℕ) → sum_over 64 (λ l. when (of_issuer s i l) (p l e)) ≡ when (of_issuer s i 0) (p 0 e) + when (of_issuer s i 1) (p 1 e) + when (of_issuer s i 2) (p 2 e)
  of_issuer_sum e i = over_lots (λ l. when (of_issuer s i l) (p l e)) (λ j. omega (arith, when_low (of_issuer s i (suc (suc (suc j)))) (p (suc (suc (suc j))) e), q.rows_none j e))

  small_lawful : Lawful s p
  small_lawful = record {
    grounded = lots (λ l. (e : ℕ) → l < 64 → e < 16 → 0 < p l e → allowed s l e ≡ true)
        (λ e _ _ y. q.grounded_0 e y) (λ e _ _ y. q.grounded_1 e y) (λ e _ _ y. q.grounded_2 e y) (λ j e _ _ y. absurd (omega (arith, y, q.rows_none j e)));
    lots = lots (λ l. l < 64 → s.held l ≡ true → sum_over 16 (λ e. p l e) ≤ s.worth l)
        (λ _ _. omega (arith, row 0, q.lot_0)) (λ _ _. omega (arith, row 1, q.lot_1)) (λ _ _. omega (arith, row 2, q.lot_2))
        (λ j _ _. omega (arith, row (suc (suc (suc j))), q.rows_none j 0, q.rows_none j 1));
    issuers = exposures (λ e. (i : ℕ) → e < 16 → s.opened e ≡ true → sum_over 64 (λ l. when (of_issuer s i l) (p l e)) ≤ s.limit e i)
        (λ i _ _. omega (arith, of_issuer_sum 0 i, q.issuer_0 i)) (λ i _ _. omega (arith, of_issuer_sum 1 i, q.issuer_1 i))
        (λ j i _ _. omega (arith, sum_none 64 (λ l. when (of_issuer s i l) (p l (suc (suc j)))) (λ l _. omega (arith, when_low (of_issuer s i l) (p l (suc (suc j))), q.columns_none l j))));
    exposures = exposures (λ e. e < 16 → s.opened e ≡ true → sum_over 64 (λ l. p l e) ≤ s.amount e)
        (λ _ _. omega (arith, column 0, q.exposure_0)) (λ _ _. omega (arith, column 1, q.exposure_1))
        (λ j _ _. omega (arith, sum_none 64 (λ l. p l (suc (suc j))) (λ l _. q.columns_none l j)));
  }

-- issuer 1 pledges 600 and issuer 2 pledges 400
by_issuer : (i y : ℕ) → 600 ≤ y → when (eqb 1 i) 600 + when (eqb 1 i) 0 + when (eqb 2 i) 400 ≤ y
by_issuer i y h = elim (cases_eq 1 i) [
  | inl e ↦ omega (arith, h, hit 1 i 600 e, hit 1 i 0 e, miss 2 i 400 (λ d. omega arith))
  | inr n ↦ omega (arith, h, miss 1 i 600 n, miss 1 i 0 n, when_low (eqb 2 i) 400)
]

one_small : (a : ℕ) → 1000 ≤ a → 600 ≤ a * 6000 / 10000 → Small (situation schedules (one a)) (pledges 0)
one_small a low limit = record {
  rows_none = λ j e. refl;
  columns_none = columns 0;
  grounded_0 = exposures (λ e. 0 < pledges 0 0 e → allowed (situation schedules (one a)) 0 e ≡ true) (λ _. refl) (λ y. absurd (omega (arith, y))) (λ j y. absurd (omega (arith, y)));
  grounded_1 = exposures (λ e. 0 < pledges 0 1 e → allowed (situation schedules (one a)) 1 e ≡ true) (λ y. absurd (omega (arith, y))) (λ y. absurd (omega (arith, y))) (λ j y. absurd (omega (arith, y)));
  grounded_2 = exposures (λ e. 0 < pledges 0 2 e → allowed (situation schedules (one a)) 2 e ≡ true) (λ _. refl) (λ y. absurd (omega (arith, y))) (λ j y. absurd (omega (arith, y)));
  lot_0 = omega arith;
  lot_1 = omega arith;
  lot_2 = omega arith;
  issuer_0 = λ i. by_issuer i (a * 6000 / 10000) limit;
  issuer_1 = λ i. omega (arith, when_low (eqb 1 i) 0, when_low (eqb 2 i) 0);
  exposure_0 = low;
  exposure_1 = omega arith;
}

two_small : (a : ℕ) → 500 ≤ a → 500 ≤ a * 10000 / 10000 → Small (situation schedules (two a)) (pledges 500)
two_small a low limit = record {
  rows_none = λ j e. refl;
  columns_none = columns 500;
  grounded_0 = exposures (λ e. 0 < pledges 500 0 e → allowed (situation schedules (two a)) 0 e ≡ true) (λ _. refl) (λ y. absurd (omega (arith, y))) (λ j y. absurd (omega (arith, y)));
  grounded_1 = exposures (λ e. 0 < pledges 500 1 e → allowed (situation schedules (two a)) 1 e ≡ true) (λ y. absurd (omega (arith, y))) (λ _. refl) (λ j y. absurd (omega (arith, y)));
  grounded_2 = exposures (λ e. 0 < pledges 500 2 e → allowed (situation schedules (two a)) 2 e ≡ true) (λ _. refl) (λ y. absurd (omega (arith, y))) (λ j y. absurd (omega (arith, y)));
  lot_0 = omega arith;
  lot_1 = omega arith;
  lot_2 = omega arith;
  issuer_0 = λ i. by_issuer i 600 (omega arith);
  issuer_1 = λ i. omega (arith, limit, when_low (eqb 1 i) 0, when_low (eqb 1 i) 500, when_low (eqb 2 i) 0);
  exposure_0 = omega arith;
  exposure_1 = low;
}

pledged_is : (x : ℕ) → pledged (pledges x) ≡ 1000 + x
unfolding pledged
pledged_is x = omega (arith, over_both (pledges x) (λ j e. refl) (columns x))

-- exposure 0 alone
module _ (a : ℕ) where
  abbrev alone : Situation
  alone = situation schedules (one a)

  one_owed : owed alone ≡ a + 0
  unfolding owed
  one_owed = over_exposures (λ e. when (alone.opened e) (alone.amount e)) (λ j. ap (λ x. when (is_some x) (amount_of x)) (none_at 14 j))

  slot_0 : slot alone 0 ≡ 0
  slot_0 = least_first (of_issuer alone 1) 63 0 (omega arith) refl (λ l h. absurd (omega arith))

-- exposure 0 is marked, and so are lot 2 and, at exposure 0, issuer 1
abbrev one_marks : Marks
one_marks = record {
  exposures = λ e. get_or (true ∷ []) e false;
  lots = λ l. get_or (false ∷ false ∷ true ∷ []) l false;
  issuers = λ e t. get_or (get_or ((true ∷ []) ∷ []) e []) t false;
}

one_explains : Explains (alone 1001) one_marks 1
one_explains =
    let s = alone 1001 in
    let m = one_marks in
    let amounts : sum_over 16 (λ e. when (m.exposures e) (s.amount e)) ≡ 1001 = over_exposures (λ e. when (m.exposures e) (s.amount e)) (λ j. refl) in
    let values : sum_over 64 (λ l. when (m.lots l) (s.worth l)) ≡ 400 = over_lots (λ l. when (m.lots l) (s.worth l)) (λ j. refl) in
    let limits : sum_over 64 (λ t. sum_over 16 (λ e. when (m.issuers e t) (s.limit e (s.issuer t)))) ≡ 600 =
    over_both (λ t e. when (m.issuers e t) (s.limit e (s.issuer t)))
    (λ j. exposures (λ e. when (m.issuers e (suc (suc (suc j)))) (s.limit e (s.issuer (suc (suc (suc j))))) ≡ 0) refl refl (λ k. refl)) (λ l j. refl) in
    record {
      on_open = exposures (λ e. e < 16 → m.exposures e ≡ true → s.opened e ≡ true) (λ _ _. refl) (λ _ y. absurd (false≢true y)) (λ j _ y. absurd (false≢true y));
      on_held = lots (λ l. l < 64 → m.lots l ≡ true → s.held l ≡ true) (λ _ y. absurd (false≢true y)) (λ _ y. absurd (false≢true y)) (λ _ _. refl) (λ j _ y. absurd (false≢true y));
      on_issuers = exposures (λ e. (t : ℕ) → e < 16 → t < 64 → m.issuers e t ≡ true → (m.exposures e ≡ true) × (leads s t ≡ true))
          (lots (λ t. 0 < 16 → t < 64 → m.issuers 0 t ≡ true → (m.exposures 0 ≡ true) × (leads s t ≡ true))
          (λ _ _ _. (refl, subst (λ t. leads s t ≡ true) (slot_0 1001) (slot_leads s 0 (omega arith) refl)))
          (λ _ _ y. absurd (false≢true y)) (λ _ _ y. absurd (false≢true y)) (λ j _ _ y. absurd (false≢true y)))
          (λ t _ _ y. absurd (false≢true y)) (λ j t _ _ y. absurd (false≢true y));
      met = lots (λ l. (e : ℕ) → l < 64 → e < 16 → m.exposures e ≡ true → allowed s l e ≡ true → (m.lots l || m.issuers e (slot s l)) ≡ true)
          (λ e _ _ y _. by_issuer_1 e y) (λ e _ _ y _. by_issuer_1 e y) (λ e _ _ _ _. refl) (λ j e _ _ _ y. absurd (both_ways _ (ap is_some (none_at 61 j)) (and_parts _ _ y).0));
      equation = omega (arith, amounts, values, limits);
      above = omega arith;
    } where
      by_issuer_1 : (e : ℕ) → one_marks.exposures e ≡ true → one_marks.issuers e (slot (alone 1001) 0) ≡ true
      by_issuer_1 = exposures (λ e. one_marks.exposures e ≡ true → one_marks.issuers e (slot (alone 1001) 0) ≡ true)
          (λ _. ap (λ t. get_or (true ∷ []) t false) (slot_0 1001)) (λ y. absurd (false≢true y)) (λ j y. absurd (false≢true y))

one_1000 : Granted (one 1000)
one_1000 =
    let q = one_small 1000 (omega arith) (omega arith) in
    granted (one 1000) refl (
      pledges 0,
      small_lawful (alone 1000) (pledges 0) q,
      exposures (λ e. e < 16 → (alone 1000).opened e ≡ true → sum_over 64 (λ l. pledges 0 l e) ≡ (alone 1000).amount e)
          (λ _ _. column (alone 1000) (pledges 0) q 0) (λ _ y. absurd (false≢true y)) (λ j _ y. absurd (both_ways _ (ap is_some (none_at 14 j)) y)),
    )

one_1001 : ShortBy 1 (one 1001)
one_1001 = short_by (one 1001) 1 refl (omega arith) (record {
  table = pledges 0;
  lawful = small_lawful (alone 1001) (pledges 0) (one_small 1001 (omega arith) (omega arith));
  meets = omega (arith, one_owed 1001, pledged_is 0);
  least = record_binds_lem (alone 1001) one_marks 1 one_explains;
})

-- both exposures
module _ (a : ℕ) where
  abbrev both : Situation
  both = situation schedules (two a)

  two_owed : owed both ≡ 1000 + a
  unfolding owed
  two_owed = over_exposures (λ e. when (both.opened e) (both.amount e)) (λ j. ap (λ x. when (is_some x) (amount_of x)) (none_at 14 j))

-- both exposures and all three lots are marked
abbrev two_marks : Marks
two_marks = record {
  exposures = λ e. get_or (true ∷ true ∷ []) e false;
  lots = λ l. get_or (true ∷ true ∷ true ∷ []) l false;
  issuers = λ e t. false;
}

two_explains : Explains (both 501) two_marks 1
two_explains =
    let s = both 501 in
    let m = two_marks in
    let amounts : sum_over 16 (λ e. when (m.exposures e) (s.amount e)) ≡ 1501 = over_exposures (λ e. when (m.exposures e) (s.amount e)) (λ j. refl) in
    let values : sum_over 64 (λ l. when (m.lots l) (s.worth l)) ≡ 1500 = over_lots (λ l. when (m.lots l) (s.worth l)) (λ j. refl) in
    let limits : sum_over 64 (λ t. sum_over 16 (λ e. when (m.issuers e t) (s.limit e (s.issuer t)))) ≡ 0 = grid_none 64 16 (λ t e. 0) (λ t e _ _. refl) in
    record {
      on_open = exposures (λ e. e < 16 → m.exposures e ≡ true → s.opened e ≡ true) (λ _ _. refl) (λ _ _. refl) (λ j _ y. absurd (false≢true y));
      on_held = lots (λ l. l < 64 → m.lots l ≡ true → s.held l ≡ true) (λ _ _. refl) (λ _ _. refl) (λ _ _. refl) (λ j _ y. absurd (false≢true y));
      on_issuers = λ e t _ _ y. absurd (false≢true y);
      met = lots (λ l. (e : ℕ) → l < 64 → e < 16 → m.exposures e ≡ true → allowed s l e ≡ true → (m.lots l || m.issuers e (slot s l)) ≡ true)
          (λ e _ _ _ _. refl) (λ e _ _ _ _. refl) (λ e _ _ _ _. refl) (λ j e _ _ _ y. absurd (both_ways _ (ap is_some (none_at 61 j)) (and_parts _ _ y).0));
      equation = omega (arith, amounts, values, limits);
      above = omega arith;
    }

two_500 : Granted (two 500)
two_500 =
    let q = two_small 500 (omega arith) (omega arith) in
    granted (two 500) refl (
      pledges 500,
      small_lawful (both 500) (pledges 500) q,
      exposures (λ e. e < 16 → (both 500).opened e ≡ true → sum_over 64 (λ l. pledges 500 l e) ≡ (both 500).amount e)
          (λ _ _. column (both 500) (pledges 500) q 0) (λ _ _. column (both 500) (pledges 500) q 1) (λ j _ y. absurd (both_ways _ (ap is_some (none_at 14 j)) y)),
    )

two_501 : ShortBy 1 (two 501)
two_501 = short_by (two 501) 1 refl (omega arith) (record {
  table = pledges 500;
  lawful = small_lawful (both 501) (pledges 500) (two_small 501 (omega arith) (omega arith));
  meets = omega (arith, two_owed 501, pledged_is 500);
  least = record_binds_lem (both 501) two_marks 1 two_explains;
})

-- three lots times two exposures
places : held_lots (two 500) * open_exposures (two 500) ≡ 6
places =
    let held : held_lots (two 500) ≡ 3 = over_lots (λ l. when ((both 500).held l) 1) (λ j. ap (λ x. when (is_some x) 1) (none_at 61 j)) in
    let opened : open_exposures (two 500) ≡ 2 = over_exposures (λ e. when ((both 500).opened e) 1) (λ j. ap (λ x. when (is_some x) 1) (none_at 14 j)) in
    ap (λ n. n * open_exposures (two 500)) held ∙ ap (λ n. 3 * n) opened

against : (n : ℕ) → Against (two 500) n (first (ltb n 6) ListShort None)
against n list is = ap (λ k. first (ltb k (held_lots (two 500) * open_exposures (two 500))) ListShort None) is ∙ ap (λ k. first (ltb n k) ListShort None) places

schedules_lawful : meaning.Lawful schedules
schedules_lawful = record {
  numbers = λ n h. le-ltb n 2 (omega arith);
  unheld = λ n h.
      let past = ltb-false n 2 h in
      let not-0 : eqb n 0 ≡ false = ne_eqb n 0 (λ e. omega arith) in
      let not-1 : eqb n 1 ≡ false = ne_eqb n 1 (λ e. omega arith) in
      (λ d. rw (not-0, not-1) (and_right (in_range d) false refl), λ i. rw (not-0, not-1) refl);
  ranges = λ n d h. and_left (in_range d) _ h;
  shares = λ n i. cond_both (eqb n 0) 6000 (cond (eqb n 1) 10000 0) (λ x. x ≤ 10000) (λ _. omega arith)
      (λ _. cond_both (eqb n 1) 10000 0 (λ x. x ≤ 10000) (λ _. omega arith) (λ _. omega arith));
}

pub book_figures : BookFigures
book_figures =
    record {
      lawful = schedules_lawful;
      one_1000 = one_1000;
      one_1001 = one_1001;
      two_500 = two_500;
      two_501 = two_501;
      list_6 = against 6;
      list_5 = (against 5, refl);
    }
