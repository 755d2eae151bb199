-- Situations that agree in all that counts draw one and the same network, send a table along its arcs in the same way, and read a
-- record in the same way. So what holds of tables in one holds in the other.

use Rattle.std.proofs.Common.{◌≡◌, ℕ, ◌-◌, ◌<◌, Bool, true, false, ◌&&◌, ◌||◌, eqb, sym, refl, ap, ◌∙◌, inl, inr, arith}
use Rattle.std.proofs.lemmas.Bool.{cases_Bool, cond-true, cond-false, and_parts}
use Rattle.network.specs.Sums.{when, Agree}
use Rattle.network.specs.Same.{Same}
use Rattle.network.proofs.Sums.{sum_same}
use Rattle.network.proofs.Same.{same_rounds}
use Rattle.table.specs.Table.{Situation, Table, Lawful, Covers, allowed, owed, pledged, Shortage}
use Rattle.table.specs.Drawn.{arc, net_of, number, head_of, cap_of, slot, slot_of, leads, along, flow_of}
use Rattle.table.specs.Drawn.Node.{cell}
use Rattle.table.specs.Record.{Marks, Explains}
use Rattle.table.specs.Outcome.{Chain, Granted, Short}
use Rattle.table.specs.Agreement.{Agrees}
use Rattle.table.specs.Laws.{AgreementKeeps}
use Rattle.table.proofs.Sums.{grid_same, when_same}
use Rattle.table.proofs.Slots.{least_same}
use Rattle.table.proofs.Arcs.{each}
use Rattle.table.proofs.Tables.{lawful_within_lem, within_lawful}

pub agrees_sym : (s r : Situation) → Agrees s r → Agrees r s
agrees_sym s r w = record {
  held = λ l h. sym (w.held l h);
  issuer = λ l h y. sym (w.issuer l h (w.held l h ∙ y));
  worth = λ l h y. sym (w.worth l h (w.held l h ∙ y));
  opened = λ e j. sym (w.opened e j);
  amount = λ e j y. sym (w.amount e j (w.opened e j ∙ y));
  admits = λ l e h j y z. sym (w.admits l e h j (w.held l h ∙ y) (w.opened e j ∙ z));
  limit = λ l e h j y z.
      let i = w.issuer l h (w.held l h ∙ y) in
      ap (r.limit e) (sym i) ∙ sym (w.limit l e h j (w.held l h ∙ y) (w.opened e j ∙ z)) ∙ ap (s.limit e) i;
}

and_same : (a b c d : Bool) → a ≡ b → (a ≡ true → c ≡ d) → (a && c) ≡ (b && d)
and_same true b c d e h = h refl ∙ ap (λ z. z && d) e
and_same false b c d e h = ap (λ z. z && d) e

terms_same : (b d : Bool) (x y : ℕ) → b ≡ d → (b ≡ true → x ≡ y) → when b x ≡ when d y
terms_same b d x y e h = when_same b x y h ∙ ap (λ z. when z y) e

module _ (s r : Situation) (w : Agrees s r) where
  allowed_same : (l e : ℕ) → l < 64 → e < 16 → allowed s l e ≡ allowed r l e
  allowed_same l e h j = and_same _ _ _ _ (w.held l h) (λ y. and_same _ _ _ _ (w.opened e j) (w.admits l e h j y))

  slot_of_same : (i : ℕ) → slot_of s i ≡ slot_of r i
  slot_of_same i = least_same _ _ 63 (λ l q. and_same _ _ _ _ (w.held l (omega arith)) (λ y. ap (λ x. eqb x i) (w.issuer l (omega arith) y)))

  slot_same : (l : ℕ) → l < 64 → slot s l ≡ slot r l
  slot_same l h = elim (cases_Bool (s.held l)) [
    | inl y ↦ cond-true _ _ _ y ∙ slot_of_same (s.issuer l) ∙ ap (slot_of r) (w.issuer l h y) ∙ sym (cond-true _ _ _ (sym (w.held l h) ∙ y))
    | inr y ↦ cond-false _ _ _ y ∙ sym (cond-false _ _ _ (sym (w.held l h) ∙ y))
  ]

  leads_same : (t : ℕ) → t < 64 → leads s t ≡ leads r t
  leads_same t h = and_same _ _ _ _ (w.held t h) (λ y. ap (λ x. eqb x t) (slot_same t h))

  limit_same : (t e : ℕ) → t < 64 → e < 16 → s.held t ≡ true → s.opened e ≡ true → s.limit e (s.issuer t) ≡ r.limit e (r.issuer t)
  limit_same t e h j y z = w.limit t e h j y z ∙ ap (r.limit e) (w.issuer t h y)

  heads_same : Agree 2128 (λ k. number (head_of s (arc k))) (λ k. number (head_of r (arc k)))
  heads_same = each (λ a. number (head_of s a) ≡ number (head_of r a)) (λ l h. refl) (λ l e h j. ap (λ t. number (cell t e)) (slot_same l h)) (λ t e h j. refl) (λ e h. refl)

  caps_same : Agree 2128 (λ k. cap_of s (arc k)) (λ k. cap_of r (arc k))
  caps_same = each (λ a. cap_of s a ≡ cap_of r a)
      (λ l h. terms_same _ _ _ _ (w.held l h) (w.worth l h))
      (λ l e h j. terms_same _ _ _ _ (allowed_same l e h j) (λ y. w.worth l h (and_parts (s.held l) _ y).0))
      (λ t e h j. terms_same _ _ _ _ (and_same _ _ _ _ (leads_same t h) (λ _. w.opened e j)) (λ y.
      let a = and_parts (leads s t) _ y in
      limit_same t e h j (and_parts (s.held t) _ a.0).0 a.1))
      (λ e j. terms_same _ _ _ _ (w.opened e j) (w.amount e j))

  net_same : Same (net_of s) (net_of r)
  net_same = record { nodes = refl; arcs = refl; source = refl; sink = refl; tails = λ k h. refl; heads = heads_same; caps = caps_same }

  flows_same : (p : Table) → Agree 2128 (flow_of s p) (flow_of r p)
  flows_same p = each (λ a. along s p a ≡ along r p a) (λ l h. refl) (λ l e h j. refl)
      (λ t e h j. sum_same 64 _ _ (λ l k. ap (λ u. when (eqb t u) (p l e)) (slot_same l k))) (λ e h. refl)

  pub lawful_there : (p : Table) → Lawful s p → Lawful r p
  lawful_there p q = within_lawful r p (λ k h. omega (arith, flows_same p k h, lawful_within_lem s p q k h, caps_same k h))

  pub covers_there : (p : Table) → Covers s p → Covers r p
  covers_there p c e j y = let o = w.opened e j ∙ y in c e j o ∙ w.amount e j o

  pub chain_there : (k : ℕ) (p q : Table) → Chain s k p q → Chain r k p q
  chain_there k p q c = same_rounds (net_of s) (net_of r) net_same k (flow_of s p) (flow_of r p) (flow_of s q) (flow_of r q) (flows_same p) (flows_same q) c

  owed_same : owed s ≡ owed r
  unfolding owed
  owed_same = sum_same 16 _ _ (λ e j. terms_same _ _ _ _ (w.opened e j) (w.amount e j))

  pub explains_there : (m : Marks) (x : ℕ) → Explains s m x → Explains r m x
  explains_there m x h =
      record {
        on_open = λ e j y. sym (w.opened e j) ∙ h.on_open e j y;
        on_held = λ l i y. sym (w.held l i) ∙ h.on_held l i y;
        on_issuers = λ e t j i y. let a = h.on_issuers e t j i y in (a.0, sym (leads_same t i) ∙ a.1);
        met = λ l e i j y z. ap (λ t. m.lots l || m.issuers e t) (sym (slot_same l i)) ∙ h.met l e i j y (allowed_same l e i j ∙ z);
        equation = omega (
          arith,
          h.equation,
          sum_same 16 (λ e. when (m.exposures e) (s.amount e)) (λ e. when (m.exposures e) (r.amount e)) (λ e j. when_same (m.exposures e) _ _ (λ y. w.amount e j (h.on_open e j y))),
          sum_same 64 (λ l. when (m.lots l) (s.worth l)) (λ l. when (m.lots l) (r.worth l)) (λ l i. when_same (m.lots l) _ _ (λ y. w.worth l i (h.on_held l i y))),
          grid_same 64 16 (λ t e. when (m.issuers e t) (s.limit e (s.issuer t))) (λ t e. when (m.issuers e t) (r.limit e (r.issuer t))) (λ t e i j. when_same (m.issuers e t) _ _ (λ y.
              let a = h.on_issuers e t j i y in
              limit_same t e i j (and_parts (s.held t) _ a.1).0 (h.on_open e j a.0))),
        );
        above = h.above;
      }

-- with the same back
module _ (s r : Situation) (w : Agrees s r) where
  back : Agrees r s
  back = agrees_sym s r w

  pub shortage_there : (x : ℕ) → Shortage s x → Shortage r x
  shortage_there x h = record {
    table = h.table;
    lawful = lawful_there s r w h.table h.lawful;
    meets = ap (λ o. o - pledged h.table) (sym (owed_same s r w)) ∙ h.meets;
    least = λ p q. omega (arith, h.least p (lawful_there r s back p q), owed_same s r w);
  }

  pub granted_there : (k : ℕ) (p q : Table) → Granted s k p q → Granted r k p q
  granted_there k p q g = record {
    lawful = lawful_there s r w q g.lawful;
    covers = covers_there s r w q g.covers;
    first = g.first;
    starts = record { same = λ z. g.starts.same (lawful_there r s back p z); blank = λ n. g.starts.blank (λ z. n (lawful_there s r w p z)) };
    chain = chain_there s r w k g.first q g.chain;
  }

  pub short_there : (x : ℕ) (m : Marks) → Short s x m → Short r x m
  short_there x m h = record {
    none = λ p q c. h.none p (lawful_there r s back p q) (covers_there r s back p c);
    shortage = shortage_there x h.shortage;
    explains = explains_there s r w m x h.explains;
  }

pub agreement_keeps_lem : AgreementKeeps
agreement_keeps_lem s r w =
    let v = agrees_sym s r w in (
      λ p. (lawful_there s r w p, lawful_there r s v p),
      λ p. (covers_there s r w p, covers_there r s v p),
      λ k p q. (chain_there s r w k p q, chain_there r s v k p q),
      λ x. (shortage_there s r w x, shortage_there r s v x),
      λ m x. (explains_there s r w m x, explains_there r s v m x),
      λ k p q. (granted_there s r w k p q, granted_there r s v k p q),
      λ x m. (short_there s r w x m, short_there r s v x m),
    )
