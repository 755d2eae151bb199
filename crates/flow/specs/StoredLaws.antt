-- To believe: nothing; lemmas that a stored network gives for its laws. It is lawful; and what an arc more makes of a list.

use Rattle.std.specs.Prelude.{◌≡◌, ℕ, ◌+◌, ◌*◌, ◌<◌, List, length, ◌==◌, ◌≢◌, slice_set, refl}
use Rattle.std.proofs.Common.{sym, ap, ◌∙◌, inl, inr, arith, length-set}
use Rattle.std.proofs.lemmas.Bool.{cases_eq, cond-true, cond-false, eq-eqb, ne_eqb}
use Rattle.network.specs.Sums.{sum_over}
use Rattle.network.specs.Same.{Same}
use Rattle.network.proofs.Sums.{sum_term, sum_same, sum_more}
use Rattle.flow.specs.Lists.{at}
use Rattle.flow.specs.Lawful.{Lawful}
use Rattle.flow.specs.Stored.{listed_net, with_arc, Joins, origin, Degrees, Starts}
use Rattle.flow.specs.Built.{net_of}
use Rattle.flow.specs.declared.stored.ArcList.{ArcList}
use Rattle.flow.specs.declared.stored.StoredNetwork.{StoredNetwork}
use Rattle.network.specs.Residual.{to}
use Rattle.flow.specs.Rows.{stored_sound, stored_listed, row_in, degree_low, to_end, origin_in, count_all}
use Rattle.flow.specs.ListsLemmas.{put}

module _ (x : StoredNetwork) where
  pub stored_lawful : Lawful (net_of x.list) (at x.degree) (λ v i. at x.rows (at x.start v + i))
  stored_lawful = record {
    sound = stored_sound _ _ _ _ _ _ x.list.joins x.list.inner.0 x.list.inner.1 x.list.apart;
    listed = stored_listed _ _ _ _ _ _ x.list.joins _ _ _ x.degrees x.starts x.filled;
    few_nodes = omega (arith, x.list.sizes);
    few_arcs = omega (arith, x.list.sizes);
    short_lists = λ v h. omega (arith, x.list.sizes, degree_low x.list.nodes x.list.arcs x.list.source x.list.sink x.list.ends x.list.caps x.list.joins x.degree x.start x.rows x.degrees x.starts x.filled v h);
    small = λ k h. omega (arith, x.list.sums, sum_term x.list.arcs k (at x.list.caps) h);
  }

  -- the arc at a place of a row stands within the rows, and its end within the ends
  pub row_place : (v i : ℕ) → v < x.list.nodes → i < at x.degree v → (at x.start v + i < 8192) × (at x.rows (at x.start v + i) < 8192)
  row_place v i h l = (
    omega (arith, x.list.sizes, row_in x.list.nodes x.list.arcs x.list.source x.list.sink x.list.ends x.list.caps x.list.joins x.degree x.start x.rows x.degrees x.starts x.filled v i h l),
    omega (arith, x.list.sizes, stored_lawful.listed.known v i h l),
  )

  pub row_target : (a : ℕ) → to (net_of x.list) a ≡ at x.list.ends a
  row_target a = to_end x.list.nodes x.list.arcs x.list.source x.list.sink x.list.ends x.list.caps a

-- an arc more
module _ (n s t : ℕ) (ends caps : List ℕ) (k tl hd c : ℕ) (room : 2 * k + 1 < length ends) (space : k < length caps) where
  abbrev ends' : List ℕ
  ends' = slice_set (slice_set ends (2 * k) hd) (2 * k + 1) tl

  here_tail : at ends' (2 * k + 1) ≡ tl
  here_tail = (put (slice_set ends (2 * k) hd) (2 * k + 1) tl (omega (arith, length-set ends (2 * k) hd))).0

  here_head : at ends' (2 * k) ≡ hd
  here_head = (put (slice_set ends (2 * k) hd) (2 * k + 1) tl (omega (arith, length-set ends (2 * k) hd))).1 (2 * k) (λ e. omega arith) ∙ (put ends (2 * k) hd (omega arith)).0

  else_end : (a : ℕ) → (a ≢ 2 * k) → (a ≢ 2 * k + 1) → at ends' a ≡ at ends a
  else_end a x y = (put (slice_set ends (2 * k) hd) (2 * k + 1) tl (omega (arith, length-set ends (2 * k) hd))).1 a y ∙ (put ends (2 * k) hd (omega arith)).1 a x

  pub joins_more : Joins n k ends → tl < n → hd < n → Joins n (k + 1) ends'
  joins_more j x y a h = elim (cases_eq a (2 * k)) [
    | inl e ↦ omega (arith, ap (at ends') e, here_head)
    | inr p ↦ elim (cases_eq a (2 * k + 1)) [
      | inl e ↦ omega (arith, ap (at ends') e, here_tail)
      | inr q ↦ omega (arith, else_end a p q, j a (omega arith))
    ]
  ]

  pub sums_more : sum_over (k + 1) (at (slice_set caps k c)) ≡ sum_over k (at caps) + c
  sums_more =
      let m = put caps k c space in
      omega (arith, sum_more k (at (slice_set caps k c)), m.0, sum_same k (at (slice_set caps k c)) (at caps) (λ i h. m.1 i (λ e. omega arith)))

  pub same_more : Same (with_arc (listed_net n k s t ends caps) tl hd c) (listed_net n (k + 1) s t ends' (slice_set caps k c))
  same_more =
      let m = put caps k c space in
      record {
        nodes = refl;
        arcs = refl;
        source = refl;
        sink = refl;
        tails = λ i h. elim (cases_eq i k) [
          | inl e ↦ cond-true (i == k) tl _ (eq-eqb i k e) ∙ sym here_tail ∙ ap (λ x. at ends' (2 * x + 1)) (sym e)
          | inr p ↦ cond-false (i == k) tl _ (ne_eqb i k p) ∙ sym (else_end (2 * i + 1) (λ e. omega arith) (λ e. p (omega arith)))
        ];
        heads = λ i h. elim (cases_eq i k) [
          | inl e ↦ cond-true (i == k) hd _ (eq-eqb i k e) ∙ sym here_head ∙ ap (λ x. at ends' (2 * x)) (sym e)
          | inr p ↦ cond-false (i == k) hd _ (ne_eqb i k p) ∙ sym (else_end (2 * i) (λ e. p (omega arith)) (λ e. omega arith))
        ];
        caps = λ i h. elim (cases_eq i k) [
          | inl e ↦ cond-true (i == k) c _ (eq-eqb i k e) ∙ sym m.0 ∙ ap (at (slice_set caps k c)) (sym e)
          | inr p ↦ cond-false (i == k) c _ (ne_eqb i k p) ∙ sym (m.1 i p)
        ];
      }

-- the rows of a list
module _ (l : ArcList) where
  pub list_inside : (a : ℕ) → a < 2 * l.arcs → origin l.ends a < l.nodes
  list_inside = origin_in l.nodes l.arcs l.source l.sink l.ends l.caps l.joins

  pub degrees_sum : (degree : List ℕ) → Degrees l.nodes (2 * l.arcs) l.ends degree → sum_over l.nodes (at degree) ≡ 2 * l.arcs
  degrees_sum degree d = sum_same l.nodes _ _ d ∙ count_all l.ends l.nodes (2 * l.arcs) list_inside

  pub starts_from : (degree start : List ℕ) → Degrees l.nodes (2 * l.arcs) l.ends degree → ((v : ℕ) → v < l.nodes → at start v ≡ sum_over v (at degree)) → Starts l.nodes (2 * l.arcs) l.ends start
  starts_from degree start d s v h = s v h ∙ sum_same v _ _ (λ u k. d u (omega arith))
