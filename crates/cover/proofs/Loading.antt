-- A table is lawful exactly if its pledges can be sent along their paths one after the other, no arc carrying more than it can.
-- The flow is then the sum of the paths. Where an arc cannot carry a pledge, it could not carry the whole table's either.

use Rattle.std.proofs.Common.{◌≡◌, ℕ, ◌+◌, ◌*◌, ◌/◌, ◌%◌, ◌<◌, ◌≤◌, Bool, true, false, eqb, List, Some, sym, refl, ap, ◌∙◌, arith}
use Rattle.network.specs.Sums.{when}
use Rattle.network.proofs.Sums.{sum_start, sum_more, sum_same}
use Rattle.table.specs.Table.{Situation, Lawful}
use Rattle.table.specs.Drawn.{place, slot, flow_of}
use Rattle.table.specs.Drawn.Arc.{supply, offer, bound, demand}
use Rattle.table.specs.Paths.{share}
use Rattle.table.proofs.Sums.{sum_front}
use Rattle.table.proofs.Paths.{paths_by_place}
use Rattle.table.proofs.Tables.{lawful_within_lem, within_lawful}
use Rattle.cover.specs.View.{at, pledge}
use Rattle.cover.specs.declared.load.Pledge.{Pledge}
use Rattle.cover.specs.Loading.{Within, Adds, TooMuch, FlowOf, along, front}

module _ (s : Situation) (table : List ℕ) where
  front_more : (n k : ℕ) → front s table (n + 1) k ≡ front s table n k + share s (n / 16) (n % 16) (at table n) k
  front_more n k = sum_more n (λ i. share s (i / 16) (i % 16) (at table i) k)

  front_whole : (k : ℕ) → k < 2128 → front s table 1024 k ≡ flow_of s (pledge table) k
  front_whole k h = sum_same 1024 _ _ (λ i _. let q : i ≡ i / 16 * 16 + i % 16 = omega arith in ap (λ j. share s (i / 16) (i % 16) (at table j) k) q) ∙ paths_by_place s (pledge table) k h

  pub load_none : (flow : List ℕ) → ((k : ℕ) → at flow k ≡ 0) → (k : ℕ) → at flow k ≡ front s table 0 k
  load_none flow z k = z k ∙ sym (sum_start (λ i. share s (i / 16) (i % 16) (at table i) k))

  none_at : (b : Bool) → when b 0 ≡ 0
  none_at true = refl
  none_at false = refl

  -- the pledge at the place n is p
  module _ (n : ℕ) (p : Pledge) (h-lot : p.pair.lot ≡ n / 16) (h-exposure : p.pair.exposure ≡ n % 16) (h-amount : p.amount ≡ at table n) where
    along_is : (k : ℕ) → along s p k ≡ share s (n / 16) (n % 16) (at table n) k
    along_is k = ap (λ l. share s l p.pair.exposure p.amount k) h-lot ∙ ap (λ e. share s (n / 16) e p.amount k) h-exposure ∙ ap (λ x. share s (n / 16) (n % 16) x k) h-amount

    pub load_more : (flow flow' : List ℕ) → ((k : ℕ) → at flow k ≡ front s table n k) → Adds s p flow flow' → (k : ℕ) → at flow' k ≡ front s table (n + 1) k
    load_more flow flow' w adds k = omega (arith, adds k, w k, front_more n k, along_is k)

    -- a pledge of 0 sends nothing
    pub load_skip : (flow : List ℕ) → p.amount ≤ 0 → ((k : ℕ) → at flow k ≡ front s table n k) → (k : ℕ) → at flow k ≡ front s table (n + 1) k
    load_skip flow h w k =
        let z : at table n ≡ 0 = omega arith in
        omega (arith, w k, front_more n k, ap (λ x. share s (n / 16) (n % 16) x k) z, none_at (eqb (place (supply (n / 16))) k), none_at (eqb (place (offer (n / 16) (n % 16))) k), none_at (eqb (place (bound (slot s (n / 16)) (n % 16))) k), none_at (eqb (place (demand (n % 16))) k))

    pub load_refused : (flow : List ℕ) → n < 1024 → ((k : ℕ) → at flow k ≡ front s table n k) → TooMuch s p flow → Lawful s (pledge table) → ⊥
    load_refused flow h w o v = omega (arith, o.2, w o.0, along_is o.0, front_more n o.0, sum_front (n + 1) 1024 (λ i. share s (i / 16) (i % 16) (at table i) o.0) (omega arith), front_whole o.0 o.1, lawful_within_lem s (pledge table) v o.0 o.1)

  pub load_all : (flow : List ℕ) → Within s flow → ((k : ℕ) → at flow k ≡ front s table 1024 k) → FlowOf s (pledge table) (Some flow)
  load_all flow v w = (within_lawful s (pledge table) (λ k h. omega (arith, front_whole k h, w k, v k h)), λ k h. w k ∙ front_whole k h)
