-- The residual arcs of an arc: what they leave and enter, and their room.

use Rattle.std.proofs.Common.{◌≡◌, ℕ, ◌+◌, ◌-◌, ◌*◌, ◌/◌, ◌%◌, ◌<◌, true, false, cond, eqb, ◌⊎◌, sym, ap, ◌∙◌, inl, inr, arith}
use Rattle.std.proofs.lemmas.Bool.{eq-eqb, ne_eqb, cases_eq, cond-true, cond-false}
use Rattle.network.specs.Flow.{Net, Sound, Flow}
use Rattle.network.specs.Residual.{way, from, to, room}

pub way_even : (k x y : ℕ) → way (2 * k) x y ≡ x
way_even k x y = cond-true (eqb ((2 * k) % 2) 0) x y (eq-eqb _ _ (omega arith))

pub way_odd : (k x y : ℕ) → way (2 * k + 1) x y ≡ y
way_odd k x y = cond-false (eqb ((2 * k + 1) % 2) 0) x y (ne_eqb _ _ (λ e. omega arith))

half_even : (k : ℕ) → (2 * k) / 2 ≡ k
half_even k = omega arith

half_odd : (k : ℕ) → (2 * k + 1) / 2 ≡ k
half_odd k = omega arith

module _ (N : Net) where
  pub from_even : (k : ℕ) → from N (2 * k) ≡ N.tail k
  unfolding from
  from_even k = way_even k _ _ ∙ ap N.tail (half_even k)

  pub from_odd : (k : ℕ) → from N (2 * k + 1) ≡ N.head k
  unfolding from
  from_odd k = way_odd k _ _ ∙ ap N.head (half_odd k)

  pub to_even : (k : ℕ) → to N (2 * k) ≡ N.head k
  unfolding to
  to_even k = way_even k _ _ ∙ ap N.head (half_even k)

  pub to_odd : (k : ℕ) → to N (2 * k + 1) ≡ N.tail k
  unfolding to
  to_odd k = way_odd k _ _ ∙ ap N.tail (half_odd k)

  pub room_even : (f : ℕ → ℕ) (k : ℕ) → room N f (2 * k) ≡ N.cap k - f k
  unfolding room
  room_even f k = way_even k _ _ ∙ ap (λ j. N.cap j - f j) (half_even k)

  pub room_odd : (f : ℕ → ℕ) (k : ℕ) → room N f (2 * k + 1) ≡ f k
  unfolding room
  room_odd f k = way_odd k _ _ ∙ ap f (half_odd k)

  pub from_in : Sound N → (a : ℕ) → a < 2 * N.arcs → from N a < N.nodes
  unfolding from
  from_in s a h =
      let l : a / 2 < N.arcs = omega arith in
      let p = s.tails (a / 2) l in
      let q = s.heads (a / 2) l in
      elim (eqb (a % 2) 0) as (λ b. cond b (N.tail (a / 2)) (N.head (a / 2)) < N.nodes) [ true ↦ p | false ↦ q ]

  pub to_in : Sound N → (a : ℕ) → a < 2 * N.arcs → to N a < N.nodes
  unfolding to
  to_in s a h =
      let l : a / 2 < N.arcs = omega arith in
      let p = s.tails (a / 2) l in
      let q = s.heads (a / 2) l in
      elim (eqb (a % 2) 0) as (λ b. cond b (N.head (a / 2)) (N.tail (a / 2)) < N.nodes) [ true ↦ q | false ↦ p ]

pub parity : (a : ℕ) → (a ≡ 2 * (a / 2)) ⊎ (a ≡ 2 * (a / 2) + 1)
parity a = elim (cases_eq (a % 2) 0) [ inl e ↦ inl (omega arith) | inr n ↦ inr (omega arith) ]

pub room_then : (N : Net) (f : ℕ → ℕ) (a : ℕ) → a % 2 ≡ 0 → room N f a ≡ N.cap (a / 2) - f (a / 2)
room_then N f a h = let e : a ≡ 2 * (a / 2) = omega arith in ap (room N f) e ∙ room_even N f (a / 2)

pub room_else : (N : Net) (f : ℕ → ℕ) (a : ℕ) → (a % 2 ≡ 0 → ⊥) → room N f a ≡ f (a / 2)
room_else N f a h = let e : a ≡ 2 * (a / 2) + 1 = omega arith in ap (room N f) e ∙ room_odd N f (a / 2)

-- the two residual arcs of one arc are turned round
pub turned : (N : Net) (a b : ℕ) → b / 2 ≡ a / 2 → (b ≡ a → ⊥) → (from N b ≡ to N a) × (to N b ≡ from N a)
turned N a b e n = elim (parity a) [
  | inl ea ↦
      let eb : b ≡ 2 * (a / 2) + 1 = elim (parity b) [ inl q ↦ absurd (n (omega arith)) | inr q ↦ omega arith ] in
      (ap (from N) eb ∙ from_odd N (a / 2) ∙ sym (to_even N (a / 2)) ∙ ap (to N) (sym ea), ap (to N) eb ∙ to_odd N (a / 2) ∙ sym (from_even N (a / 2)) ∙ ap (from N) (sym ea))
  | inr ea ↦
      let eb : b ≡ 2 * (a / 2) = elim (parity b) [ inl q ↦ omega arith | inr q ↦ absurd (n (omega arith)) ] in
      (ap (from N) eb ∙ from_even N (a / 2) ∙ sym (to_odd N (a / 2)) ∙ ap (to N) (sym ea), ap (to N) eb ∙ to_even N (a / 2) ∙ sym (from_odd N (a / 2)) ∙ ap (from N) (sym ea))
]

-- the other residual arc of the same arc
pub twin : (N : Net) (f f' : ℕ → ℕ) → Flow N f → Flow N f' → (b : ℕ) → b < 2 * N.arcs
    → (c : ℕ) × (c < 2 * N.arcs) × (from N c ≡ to N b) × (to N c ≡ from N b) × (room N f b + room N f c ≡ room N f' b + room N f' c)
twin N f f' q q' b h =
    let k = b / 2 in
    let l : b / 2 < N.arcs = omega arith in
    let w = q.within (b / 2) l in
    let w' = q'.within (b / 2) l in
    elim (parity b) [
      | inl e ↦ (
        2 * (b / 2) + 1,
        omega arith,
        from_odd N (b / 2) ∙ sym (to_even N (b / 2)) ∙ ap (to N) (sym e),
        to_odd N (b / 2) ∙ sym (from_even N (b / 2)) ∙ ap (from N) (sym e),
        omega (arith, ap (room N f) e ∙ room_even N f (b / 2), ap (room N f') e ∙ room_even N f' (b / 2), room_odd N f (b / 2), room_odd N f' (b / 2)),
      )
      | inr e ↦ (
        2 * (b / 2),
        omega arith,
        from_even N (b / 2) ∙ sym (to_odd N (b / 2)) ∙ ap (to N) (sym e),
        to_even N (b / 2) ∙ sym (from_odd N (b / 2)) ∙ ap (from N) (sym e),
        omega (arith, ap (room N f) e ∙ room_odd N f (b / 2), ap (room N f') e ∙ room_odd N f' (b / 2), room_even N f (b / 2), room_even N f' (b / 2)),
      )
    ]
