-- The chain of conditions that gives a call's cause is the reading of the list of causes.
--
-- A chain tries its links in the order of the causes' numbers, and gives the cause of the first link whose condition holds. So what
-- it gives applies, and every link after it has a greater number; and where it gives none, no condition held. For each call the
-- causes that apply to it are the links of its chain. Two causes with the same number are one, so the smallest is the only one.

use Rattle.std.proofs.Common.{◌≡◌, ℕ, zero, suc, ◌*◌, ◌<◌, ◌≤◌, Bool, true, false, not, ◌&&◌, leb, ◌⊎◌, ◌↔◌, [], ◌∷◌, length, get_or, is_some, Some, None, Decides, Option, sym, refl, ap, ◌∙◌, subst, inl, inr, arith}
use Rattle.std.proofs.lemmas.Bool.{cases_eq, false≢true, leb-true, le-leb, not-true, not_from_false}
use Rattle.std.proofs.lemmas.Bool.Decides.{Decides-ltb, Decides-and, Decides-eqb, Decides-like, Decides-not}
use Rattle.cause.specs.Numbers.{number}
use Rattle.cause.specs.declared.Cause.{Cause}
use Rattle.cause.specs.declared.Cause.TheVariants.{PageShape, PageMonth, PageHaircut, BufferShort, TextLong, ByteUnexpected, NumberLarge, BracketDeep, StepsMany, RangePassed, ExclusionFull, SwitchLarge, PlaceOutside, RunOpen, PlaceTaken, PlaceEmpty, FieldOutside, PastCurve, ScheduleUnknown, LotPledged, RunsSpent, SlipStale, ListShort, NotCovered}
use Rattle.network.specs.Sums.{sum_over}
use Rattle.network.proofs.Sums.{sum_term}
use Rattle.binder.specs.Meaning.{Meaning}
use Rattle.curve.specs.Points.{Past}
use Rattle.curve.specs.Lot.{InRange}
use Rattle.curve.specs.declared.lot.Lot.{Lot}
use Rattle.curve.specs.declared.lot.Terms.{Terms}
use Rattle.calls.specs.declared.Exposure.{Exposure}
use Rattle.calls.specs.State.{State, table, lot_at, exposure_at}
use Rattle.calls.specs.Call.{Call, Numbers, cause, first, in_range, own, pledged_at, held_lots, open_exposures, curve_of}
use Rattle.calls.specs.Call.Call.{add, withdraw, open_exposure, close, begin, allocate, settle, abandon}
use Rattle.calls.specs.Applies.{AmountInRange, Own, Applies}
use Rattle.calls.specs.Applies.Applies.{add_outside, withdraw_outside, open_outside, close_outside, add_in_run, withdraw_in_run, open_in_run, close_in_run, begin_in_run, add_taken, open_taken, withdraw_empty, close_empty, add_field, open_amount, add_past, open_unknown, withdraw_pledged, begin_spent, allocate_stale, settle_stale, abandon_stale, settle_short, close_short}
use Rattle.calls.specs.Laws.{SmallestCause}

-- where a chain gives none, its first condition did not hold
pub passed : (b : Bool) (k : Cause) (rest : Option Cause) → first b k rest ≡ None → (b ≡ false) × (rest ≡ None)
passed true k rest h = (cc, cc)
passed false k rest h = (refl, h)

-- a cause by its number
named : ℕ → Cause
named n = get_or (PageShape ∷ PageShape ∷ PageMonth ∷ PageHaircut ∷ BufferShort ∷ TextLong ∷ ByteUnexpected ∷ NumberLarge ∷ BracketDeep ∷ StepsMany ∷ RangePassed ∷ ExclusionFull ∷ SwitchLarge ∷ PlaceOutside ∷ RunOpen ∷ PlaceTaken ∷ PlaceEmpty ∷ FieldOutside ∷ PastCurve ∷ ScheduleUnknown ∷ LotPledged ∷ RunsSpent ∷ SlipStale ∷ ListShort ∷ NotCovered ∷ []) n PageShape

named_number : (k : Cause) → named (number k) ≡ k
unfolding named
named_number PageShape = refl
named_number PageMonth = refl
named_number PageHaircut = refl
named_number BufferShort = refl
named_number TextLong = refl
named_number ByteUnexpected = refl
named_number NumberLarge = refl
named_number BracketDeep = refl
named_number StepsMany = refl
named_number RangePassed = refl
named_number ExclusionFull = refl
named_number SwitchLarge = refl
named_number PlaceOutside = refl
named_number RunOpen = refl
named_number PlaceTaken = refl
named_number PlaceEmpty = refl
named_number FieldOutside = refl
named_number PastCurve = refl
named_number ScheduleUnknown = refl
named_number LotPledged = refl
named_number RunsSpent = refl
named_number SlipStale = refl
named_number ListShort = refl
named_number NotCovered = refl

same_cause : (j k : Cause) → number j ≡ number k → j ≡ k
same_cause j k e = sym (named_number j) ∙ ap named e ∙ named_number k

-- what an answer says of the causes that apply: the smallest of them, or that there is none
abbrev Tells : (Cause → Type 0) → Option Cause → Type 0
Tells A None = (j : Cause) → A j → ⊥
Tells A (Some k) = A k × ((j : Cause) → A j → number k ≤ number j)

-- the links of a chain: a cause with its condition, and the links after it
abbrev Link : Type 0 → Cause → (Cause → Type 0) → Cause → Type 0
Link P k A j = (P × (j ≡ k)) ⊎ A j

abbrev End : Cause → Type 0
End j = ⊥

first_tells : (b : Bool) (P : Type 0) (k : Cause) (A : Cause → Type 0) (rest : Option Cause) → Decides b P → ((j : Cause) → A j → number k ≤ number j) → Tells A rest → Tells (Link P k A) (first b k rest)
first_tells true P k A rest d above t = (inl (d.0 refl, refl), λ j. elim [ inl a ↦ omega (arith, ap number a.1) | inr a ↦ above j a ])
first_tells false P k A None d above t = λ j. elim [ inl a ↦ absurd (false≢true (d.1 a.0)) | inr a ↦ t j a ]
first_tells false P k A (Some i) d above t = (inr t.0, λ j. elim [ inl a ↦ absurd (false≢true (d.1 a.0)) | inr a ↦ t.1 j a ])

-- a chain of causes that apply to a call, from the number n on
record Chain (m : Meaning) (s : State) (c : Call) (n : ℕ) (A : Cause → Type 0) (o : Option Cause) : Type 0 where
  tells : Tells A o
  above : (j : Cause) → A j → n ≤ number j
  within : (j : Cause) → A j → Applies m s c j

module _ {m : Meaning} {s : State} {c : Call} where
  end : (k : Cause) → Chain m s c (number k) End None
  end k = record { tells = λ j a. a; above = λ j a. absurd a; within = λ j a. absurd a }

  link : {b : Bool} {P : Type 0} {A : Cause → Type 0} {rest : Option Cause} {n : ℕ} (k : Cause) → Decides b P → (P → Applies m s c k) → number k ≤ n → Chain m s c n A rest
      → Chain m s c (number k) (Link P k A) (first b k rest)
  link {b} {P} {A} {rest} k d makes low after =
      let above : (j : Cause) → A j → number k ≤ number j = λ j a. omega (arith, after.above j a) in
      record {
        tells = first_tells b P k A rest d above after.tells;
        above = λ j. elim [ inl a ↦ omega (arith, ap number a.1) | inr a ↦ above j a ];
        within = λ j. elim [ inl a ↦ subst (λ i. Applies m s c i) (sym a.1) (makes a.0) | inr a ↦ after.within j a ];
      }

-- the conditions, and what they say
decides_leb : (a b : ℕ) → Decides (leb a b) (a ≤ b)
decides_leb a b = (leb-true a b, le-leb a b)

decides_itself : (b : Bool) → Decides b (b ≡ true)
decides_itself b = (λ e. e, λ e. e)

decides_unset : (b : Bool) → Decides (not b) (b ≡ false)
decides_unset b = (not-true b, not_from_false b)

decides_some : {A : Type 0} (x : Option A) → Decides (is_some x) ((y : A) × (x ≡ Some y))
decides_some None = (λ e. absurd (false≢true e), λ e. let is = e.1 in cc)
decides_some (Some y) = (λ e. (y, refl), λ e. refl)

decides_none : {A : Type 0} (x : Option A) → Decides (not (is_some x)) (x ≡ None)
decides_none None = (λ e. refl, λ e. refl)
decides_none (Some y) = (λ e. absurd (false≢true e), λ e. cc)

decides_range : (t : Terms) → Decides (in_range t) (InRange t)
decides_range t = Decides-like (in_range t)
    (λ r. record { issuer = r.0; class = r.1.0; rated = r.1.1.0; rating = r.1.1.1.0; months = r.1.1.1.1.0; positive = r.1.1.1.1.1.0; market = r.1.1.1.1.1.1 })
    (λ r. (r.issuer, (r.class, (r.rated, (r.rating, (r.months, (r.positive, r.market)))))))
    (Decides-and _ _ (decides_leb t.issuer 255) (Decides-and _ _ (decides_leb t.class 7) (Decides-and _ _ (decides_leb 1 t.rating) (Decides-and _ _ (decides_leb t.rating 22)
    (Decides-and _ _ (decides_leb t.months 1200) (Decides-and _ _ (decides_leb 1 t.market) (decides_leb t.market 100000000000)))))))

decides_amount : (a : ℕ) → Decides (leb 1 a && leb a 1000000000000) (AmountInRange a)
decides_amount a = Decides-like (leb 1 a && leb a 1000000000000) (λ r. record { positive = r.0; most = r.1 }) (λ r. (r.positive, r.most)) (Decides-and _ _ (decides_leb 1 a) (decides_leb a 1000000000000))

decides_own : (s : State) (slip : Numbers) → Decides (own s slip) (Own s slip)
decides_own s slip = Decides-like (own s slip) (λ r. record { run_open = r.0; book = r.1.0; run = r.1.1 }) (λ r. (r.run_open, (r.book, r.run)))
    (Decides-and _ _ (decides_itself s.in_run) (Decides-and _ _ (Decides-eqb slip.book s.number) (Decides-eqb slip.run s.run)))

-- a sum above 0 has a term above 0
sum_some : (n : ℕ) (g : ℕ → ℕ) → 0 < sum_over n g → (k : ℕ) × (k < n) × (0 < g k)
unfolding sum_over
sum_some zero g h = absurd (omega arith)
sum_some (suc n) g h =
    elim (cases_eq (g n) 0) [
      | inl z ↦ let k = sum_some n g (omega arith) in (k.0, omega (arith, k.1), k.2)
      | inr y ↦ (n, omega arith, omega arith)
    ]

decides_pledged : (s : State) (l : ℕ) → Decides (pledged_at s l) ((e : ℕ) × (e < 16) × (0 < table s.standing l e))
decides_pledged s l = Decides-like (pledged_at s l)
    (sum_some 16 (λ e. table s.standing l e))
    (λ r. omega (arith, r.2, sum_term 16 r.0 (λ e. table s.standing l e) r.1))
    (Decides-ltb 0 (sum_over 16 (λ e. table s.standing l e)))

-- the links of each call's chain
abbrev Listed : Meaning → State → Call → Cause → Type 0
Listed m s (add p t k) =
    Link (63 < p) PlaceOutside (Link (s.in_run ≡ true) RunOpen (Link ((x : Lot) × (lot_at s.lots p ≡ Some x)) PlaceTaken
    (Link (InRange t → ⊥) FieldOutside (Link (Past (curve_of k t.class) t.months) PastCurve End))))
Listed m s (withdraw p) =
    Link (63 < p) PlaceOutside (Link (s.in_run ≡ true) RunOpen (Link (lot_at s.lots p ≡ None) PlaceEmpty
    (Link ((e : ℕ) × (e < 16) × (0 < table s.standing p e)) LotPledged End)))
Listed m s (open_exposure p a n) =
    Link (15 < p) PlaceOutside (Link (s.in_run ≡ true) RunOpen (Link ((x : Exposure) × (exposure_at s.exposures p ≡ Some x)) PlaceTaken
    (Link (AmountInRange a → ⊥) FieldOutside (Link (m.held n ≡ false) ScheduleUnknown End))))
Listed m s (close p list) =
    Link (15 < p) PlaceOutside (Link (s.in_run ≡ true) RunOpen (Link (exposure_at s.exposures p ≡ None) PlaceEmpty
    (Link (length list < held_lots s) ListShort End)))
Listed m s begin = Link (s.in_run ≡ true) RunOpen (Link (1000000 ≤ s.run) RunsSpent End)
Listed m s (allocate slip note) = Link (Own s slip → ⊥) SlipStale End
Listed m s (settle slip list) = Link (Own s slip → ⊥) SlipStale (Link (length list < held_lots s * open_exposures s) ListShort End)
Listed m s (abandon slip) = Link (Own s slip → ⊥) SlipStale End

listed_chain : (m : Meaning) (s : State) (c : Call) → (n : ℕ) × Chain m s c n (Listed m s c) (cause m s c)
listed_chain m s (add p t k) = (
  _,
  link PlaceOutside (Decides-ltb 63 p) add_outside (omega arith) (
      link RunOpen (decides_itself s.in_run) add_in_run (omega arith) (
      link PlaceTaken (decides_some (lot_at s.lots p)) (λ h. add_taken h.0 h.1) (omega arith) (
      link FieldOutside (Decides-not (in_range t) (decides_range t)) add_field (omega arith) (
      link PastCurve (Decides-ltb _ t.months) add_past (omega arith) (end PastCurve))))),
)
listed_chain m s (withdraw p) = (
  _,
  link PlaceOutside (Decides-ltb 63 p) withdraw_outside (omega arith) (
      link RunOpen (decides_itself s.in_run) withdraw_in_run (omega arith) (
      link PlaceEmpty (decides_none (lot_at s.lots p)) withdraw_empty (omega arith) (
      link LotPledged (decides_pledged s p) (λ h. withdraw_pledged h.0 h.1 h.2) (omega arith) (end LotPledged)))),
)
listed_chain m s (open_exposure p a n) = (
  _,
  link PlaceOutside (Decides-ltb 15 p) open_outside (omega arith) (
      link RunOpen (decides_itself s.in_run) open_in_run (omega arith) (
      link PlaceTaken (decides_some (exposure_at s.exposures p)) (λ h. open_taken h.0 h.1) (omega arith) (
      link FieldOutside (Decides-not (leb 1 a && leb a 1000000000000) (decides_amount a)) open_amount (omega arith) (
      link ScheduleUnknown (decides_unset (m.held n)) open_unknown (omega arith) (end ScheduleUnknown))))),
)
listed_chain m s (close p list) = (
  _,
  link PlaceOutside (Decides-ltb 15 p) close_outside (omega arith) (
      link RunOpen (decides_itself s.in_run) close_in_run (omega arith) (
      link PlaceEmpty (decides_none (exposure_at s.exposures p)) close_empty (omega arith) (
      link ListShort (Decides-ltb (length list) (held_lots s)) close_short (omega arith) (end ListShort)))),
)
listed_chain m s begin = (
  _,
  link RunOpen (decides_itself s.in_run) begin_in_run (omega arith) (
      link RunsSpent (decides_leb 1000000 s.run) begin_spent (omega arith) (end RunsSpent)),
)
listed_chain m s (allocate slip note) = (_, link SlipStale (Decides-not (own s slip) (decides_own s slip)) allocate_stale (omega arith) (end SlipStale))
listed_chain m s (settle slip list) = (
  _,
  link SlipStale (Decides-not (own s slip) (decides_own s slip)) settle_stale (omega arith) (
      link ListShort (Decides-ltb (length list) (held_lots s * open_exposures s)) settle_short (omega arith) (end ListShort)),
)
listed_chain m s (abandon slip) = (_, link SlipStale (Decides-not (own s slip) (decides_own s slip)) abandon_stale (omega arith) (end SlipStale))

-- no other cause applies
listed : (m : Meaning) (s : State) (c : Call) (j : Cause) → Applies m s c j → Listed m s c j
listed m s _ _ (add_outside h) = inl (h, refl)
listed m s _ _ (add_in_run h) = inr (inl (h, refl))
listed m s _ _ (add_taken x h) = inr (inr (inl ((x, h), refl)))
listed m s _ _ (add_field h) = inr (inr (inr (inl (h, refl))))
listed m s _ _ (add_past h) = inr (inr (inr (inr (inl (h, refl)))))
listed m s _ _ (withdraw_outside h) = inl (h, refl)
listed m s _ _ (withdraw_in_run h) = inr (inl (h, refl))
listed m s _ _ (withdraw_empty h) = inr (inr (inl (h, refl)))
listed m s _ _ (withdraw_pledged e h y) = inr (inr (inr (inl ((e, h, y), refl))))
listed m s _ _ (open_outside h) = inl (h, refl)
listed m s _ _ (open_in_run h) = inr (inl (h, refl))
listed m s _ _ (open_taken x h) = inr (inr (inl ((x, h), refl)))
listed m s _ _ (open_amount h) = inr (inr (inr (inl (h, refl))))
listed m s _ _ (open_unknown h) = inr (inr (inr (inr (inl (h, refl)))))
listed m s _ _ (close_outside h) = inl (h, refl)
listed m s _ _ (close_in_run h) = inr (inl (h, refl))
listed m s _ _ (close_empty h) = inr (inr (inl (h, refl)))
listed m s _ _ (close_short h) = inr (inr (inr (inl (h, refl))))
listed m s _ _ (begin_in_run h) = inl (h, refl)
listed m s _ _ (begin_spent h) = inr (inl (h, refl))
listed m s _ _ (allocate_stale h) = inl (h, refl)
listed m s _ _ (settle_stale h) = inl (h, refl)
listed m s _ _ (settle_short h) = inr (inl (h, refl))
listed m s _ _ (abandon_stale h) = inl (h, refl)

-- what an answer tells, by equations
tells_like : (A B : Cause → Type 0) (o : Option Cause) → ((j : Cause) → A j → B j) → ((j : Cause) → B j → A j) → Tells A o → Tells B o
tells_like A B None f g t = λ j b. t j (g j b)
tells_like A B (Some k) f g t = (f k t.0, λ j b. t.1 j (g j b))

smallest : (A : Cause → Type 0) (o : Option Cause) → Tells A o
    → ((k : Cause) → (o ≡ Some k) ↔ (A k × ((j : Cause) → A j → number k ≤ number j))) × ((o ≡ None) ↔ ((j : Cause) → A j → ⊥))
smallest A None t = (
  λ k. (λ e. let z : ◌≡◌ {A = ℕ} 0 1 = cc in absurd (omega arith), λ a. absurd (t k a.0)),
  (λ e. t, λ n. refl),
)
smallest A (Some i) t = (
  λ k. (
    λ e. let is : i ≡ k = cc in rw is at t,
    λ a. ap Some (same_cause i k (omega (arith, t.1 k a.0, a.1 i t.0))),
  ),
  (λ e. let z : ◌≡◌ {A = ℕ} 0 1 = cc in absurd (omega arith), λ n. absurd (n i t.0)),
)

pub smallest_cause : SmallestCause
smallest_cause m s c =
    let links = (listed_chain m s c).1 in
    smallest (Applies m s c) (cause m s c) (tells_like (Listed m s c) (Applies m s c) (cause m s c) links.within (listed m s c) links.tells)
