-- A page and its points fix each other.
--
-- A page has 1 + 4 n bytes, and each of them is fixed by the points: the first is n, and the byte at i is the low or
-- the high byte of a month or of a haircut, by whether i is odd and whether it comes before 1 + 2 n. So two pages of
-- the same points are equal byte by byte. The other way round, the two bytes of a number fix it.

use Rattle.std.proofs.Common.{◌≡◌, ℕ, zero, suc, ◌+◌, ◌-◌, ◌*◌, ◌/◌, ◌<◌, Bool, true, false, ◌&&◌, ◌||◌, eqb, ltb, leb, ◌⊎◌, List, get_or, take, sym, refl, ap, ◌∙◌, subst, inl, inr, ⊎_elim, arith, ext_get_or}
use native.Mathlib.Decide.{dec_lt}
use Rattle.cause.specs.declared.Cause.{Cause}
use Rattle.curve.specs.Points.{Points, NoneBelow, month_breaks, haircut_breaks}
use Rattle.curve.specs.Page.{Spelt, Page, First, Accepted, Refused, Written}
use Rattle.curve.specs.Page.Refused.{shape, months, haircuts}

spelt_same : (bs cs : List ℕ) (i v k : ℕ) → Spelt bs i v → Spelt cs i v → (k ≡ i) ⊎ (k ≡ i + 1) → get_or bs k 0 ≡ get_or cs k 0
spelt_same bs cs i v k s t (inl e) = subst (λ n. get_or bs n 0 ≡ get_or cs n 0) (sym e) (s.0 ∙ sym t.0)
spelt_same bs cs i v k s t (inr e) = subst (λ n. get_or bs n 0 ≡ get_or cs n 0) (sym e) (s.1 ∙ sym t.1)

-- a number is even or odd
halves : (i : ℕ) → (i ≡ 2 * (i / 2)) ⊎ (i ≡ 2 * (i / 2) + 1)
halves i = elim (dec_lt (2 * (i / 2)) i) [ yes w ↦ inr (omega arith) | no w ↦ inl (omega arith) ]

one_byte : (bs cs : List ℕ) (c : Points) → Page bs c → Page cs c → (i : ℕ) → i < 1 + 4 * c.count → get_or bs i 0 ≡ get_or cs i 0
one_byte bs cs c p q zero l = p.number ∙ sym q.number
one_byte bs cs c p q (suc i) l = elim (dec_lt i (2 * c.count)) [
  | yes w ↦ (let j = i / 2 in spelt_same bs cs (1 + 2 * j) (c.month j) (suc i) (p.months j (omega arith)) (q.months j (omega arith))
      (⊎_elim (λ e. inl (omega arith)) (λ e. inr (omega arith)) (halves i)))
  | no w ↦ (let j = (i - 2 * c.count) / 2 in spelt_same bs cs (1 + 2 * c.count + 2 * j) (c.haircut j) (suc i) (p.haircuts j (omega arith)) (q.haircuts j (omega arith))
      (⊎_elim (λ e. inl (omega arith)) (λ e. inr (omega arith)) (halves (i - 2 * c.count))))
]

pub one_page : (bs cs : List ℕ) (c : Points) → Page bs c → Page cs c → bs ≡ cs
one_page bs cs c p q = ext_get_or 0 bs cs (p.size ∙ sym q.size) (λ i l. one_byte bs cs c p q i (omega (arith, p.size)))

-- two bytes fix a number
one_number : (bs : List ℕ) (i v w : ℕ) → Spelt bs i v → Spelt bs i w → v ≡ w
one_number bs i v w s t = omega (arith, s.0, s.1, t.0, t.1)

pub one_curve : (bs : List ℕ) (c d : Points) → Page bs c → Page bs d
    → (c.count ≡ d.count) × ((j : ℕ) → j < c.count → (c.month j ≡ d.month j) × (c.haircut j ≡ d.haircut j))
one_curve bs c d p q =
    let e : c.count ≡ d.count = sym p.number ∙ q.number in (
      e,
      λ j l. (
        one_number bs (1 + 2 * j) (c.month j) (d.month j) (p.months j l) (q.months j (omega arith)),
        one_number bs (1 + 2 * c.count + 2 * j) (c.haircut j) (d.haircut j) (p.haircuts j l)
            (subst (λ n. Spelt bs (1 + 2 * n + 2 * j) (d.haircut j)) (sym e) (q.haircuts j (omega arith))),
      ),
    )

-- the rules ask only about the points that a page has
same_months : (m m' : ℕ → ℕ) (n : ℕ) → ((j : ℕ) → j < n → m j ≡ m' j) → (j : ℕ) → j < n → month_breaks m j ≡ month_breaks m' j
same_months m m' n h j l =
    let f : ℕ → ℕ → Bool = λ x y. (eqb j 0 && ltb 0 x) || ((ltb 0 j && leb x y) || ltb 1200 x) in
    ap (λ x. f x (m (j - 1))) (h j l) ∙ ap (λ y. f (m' j) y) (h (j - 1) (omega arith))

same_haircuts : (m m' : ℕ → ℕ) (n : ℕ) → ((j : ℕ) → j < n → m j ≡ m' j) → (j : ℕ) → j < n → haircut_breaks m j ≡ haircut_breaks m' j
same_haircuts m m' n h j l =
    let f : ℕ → ℕ → Bool = λ x y. (ltb 0 j && ltb x y) || ltb 10000 x in
    ap (λ x. f x (m (j - 1))) (h j l) ∙ ap (λ y. f (m' j) y) (h (j - 1) (omega arith))

-- no place both passes a test and is below where none does
clash : (n : ℕ) (p q : ℕ → Bool) (j : ℕ) → ((j : ℕ) → j < n → p j ≡ q j) → j < n → p j ≡ true → q j ≡ false → ⊥
clash n p q j s l t f = let e = s j l in let z : ◌≡◌ {A = ℕ} 0 1 = cc in omega arith

one_first : (n : ℕ) (p q : ℕ → Bool) (i j : ℕ) → ((j : ℕ) → j < n → p j ≡ q j) → First n p i → First n q j → i ≡ j
one_first n p q i j s f g = elim (dec_lt i j) [
  | yes w ↦ absurd (clash n p q i s f.below f.passes (g.first i w))
  | no w ↦ elim (dec_lt j i) [
    | yes v ↦ absurd (clash n q p j (λ k l. sym (s k l)) g.below g.passes (f.first j v))
    | no v ↦ omega arith
  ]
]

module _ (bs : List ℕ) (c d : Points) (p : Page bs c) (q : Page bs d) where
  counts : c.count ≡ d.count
  counts = (one_curve bs c d p q).0

  by_months : (j : ℕ) → j < c.count → month_breaks c.month j ≡ month_breaks d.month j
  by_months = same_months c.month d.month c.count (λ j l. ((one_curve bs c d p q).1 j l).0)

  by_haircuts : (j : ℕ) → j < c.count → haircut_breaks c.haircut j ≡ haircut_breaks d.haircut j
  by_haircuts = same_haircuts c.haircut d.haircut c.count (λ j l. ((one_curve bs c d p q).1 j l).1)

  month_clash : (j : ℕ) → First c.count (month_breaks c.month) j → NoneBelow d.count (month_breaks d.month) → ⊥
  month_clash j f n = clash c.count (month_breaks c.month) (month_breaks d.month) j by_months f.below f.passes (n j (omega (arith, f.below, counts)))

  haircut_clash : (j : ℕ) → First c.count (haircut_breaks c.haircut) j → NoneBelow d.count (haircut_breaks d.haircut) → ⊥
  haircut_clash j f n = clash c.count (haircut_breaks c.haircut) (haircut_breaks d.haircut) j by_haircuts f.below f.passes (n j (omega (arith, f.below, counts)))

  month_one : (i j : ℕ) → First c.count (month_breaks c.month) i → First d.count (month_breaks d.month) j → i ≡ j
  month_one i j f g = one_first c.count (month_breaks c.month) (month_breaks d.month) i j by_months f (subst (λ n. First n (month_breaks d.month) j) (sym counts) g)

  haircut_one : (i j : ℕ) → First c.count (haircut_breaks c.haircut) i → First d.count (haircut_breaks d.haircut) j → i ≡ j
  haircut_one i j f g = one_first c.count (haircut_breaks c.haircut) (haircut_breaks d.haircut) i j by_haircuts f (subst (λ n. First n (haircut_breaks d.haircut) j) (sym counts) g)

pub not_both : (bs : List ℕ) (c : Points) {k : Cause} {j : ℕ} → Accepted bs c → Refused bs k j → ⊥
not_both bs c a (shape n) = n c a.page
not_both bs c a (months d p j f) = month_clash bs d c p a.page j f a.lawful.months
not_both bs c a (haircuts d p n j f) = haircut_clash bs d c p a.page j f a.lawful.haircuts

pub one_refusal : (bs : List ℕ) {k k' : Cause} {j j' : ℕ} → Refused bs k j → Refused bs k' j' → (k ≡ k') × (j ≡ j')
one_refusal bs (shape n) (shape n') = (refl, refl)
one_refusal bs (shape n) (months d p j f) = absurd (n d p)
one_refusal bs (shape n) (haircuts d p m j f) = absurd (n d p)
one_refusal bs (months d p j f) (shape n) = absurd (n d p)
one_refusal bs (months c p i f) (months d q j g) = (refl, month_one bs c d p q i j f g)
one_refusal bs (months c p i f) (haircuts d q m j g) = absurd (month_clash bs c d p q i f m)
one_refusal bs (haircuts d p m j f) (shape n) = absurd (n d p)
one_refusal bs (haircuts c p m i f) (months d q j g) = absurd (month_clash bs d c q p j g m)
one_refusal bs (haircuts c p m i f) (haircuts d q m' j g) = (refl, haircut_one bs c d p q i j f g)

pub same_bytes : (bs : List ℕ) (c : Points) → Accepted bs c → (old new : List ℕ) (n : ℕ) → Written c old new n → take n new ≡ bs
same_bytes bs c a old new n w = one_page (take n new) bs c w.page a.page
