-- To believe: nothing; lemmas that a drawn network gives for its laws. It keeps the laws of networks.

use Rattle.std.specs.Prelude.{◌≡◌, ℕ, ◌^◌, ◌<◌}
use Rattle.std.proofs.Common.{sym, ap, subst, ◌∙◌, arith}
use Rattle.network.specs.Residual.{to}
use Rattle.flow.specs.Lawful.{Lawful}
use Rattle.table.specs.Drawn.{Node, number, node, arc, net_of, cap_of, drawn_arc, bears}
use Rattle.table.specs.Listing.{Members, deg_of, inc_of, target_of}
use Rattle.table.proofs.Sums.{when_low}
use Rattle.table.proofs.Slots.{slot_low}
use Rattle.table.proofs.Arcs.{each}
use Rattle.table.proofs.Tables.{net_sound}
use Rattle.table.proofs.Listing.{listed, short_lists, target_is}
use Rattle.cover.specs.declared.drawn.Drawn.{Drawn}
use Rattle.cover.specs.View.{at}
use Rattle.cover.specs.Drawing.{lots_of}
use Rattle.cover.specs.Picture.{pictured, count_of, member_of}
use Rattle.cover.specs.Rows.{lots_few, lots_before}

module _ (d : Drawn) where
  pub slot_below : (l : ℕ) → l < 64 → at d.slots l < 64
  slot_below l h = omega (arith, d.slotted l h, slot_low (pictured d) l h)

  pub count_below : (t : ℕ) → t < 64 → count_of d t < 65
  count_below t h = omega (arith, d.counted t h, lots_few d.slots t 64)

  members : Members (pictured d) (count_of d) (member_of d)
  members = record {
    few = count_below;
    theirs = λ t i h j. let low = d.known t i (h, j) in (low, sym (d.slotted _ low) ∙ d.rowed t i (h, j));
    all = λ l h.
        let e = d.slotted l h in
        subst (λ t. (i : ℕ) × (i < count_of d t) × (member_of d t i ≡ l)) e
        (lots_of d.slots (at d.slots l) l, omega (arith, d.counted (at d.slots l) (slot_below l h), lots_before d.slots l 64 h), d.ranked l h);
  }

  bears_small : (k : ℕ) → k < 2128 → bears (pictured d) (arc k) < 2 ^ 40
  bears_small = each (λ a. bears (pictured d) a < 2 ^ 40) (λ l h. d.problem.now.small.worths l) (λ l e h j. d.problem.now.small.worths l) (λ t e h j. d.problem.now.small.limits _) (λ e h. d.problem.now.small.amounts e)

  pub cap_small : (k : ℕ) → k < 2128 → cap_of (pictured d) (arc k) < 2 ^ 40
  cap_small k h = omega (arith, bears_small k h, when_low (drawn_arc (pictured d) (arc k)) (bears (pictured d) (arc k)))

  pub drawn_lawful : Lawful (net_of (pictured d)) (deg_of (count_of d)) (inc_of (member_of d))
  drawn_lawful = record {
    sound = net_sound (pictured d);
    listed = listed (pictured d) (count_of d) (member_of d) members;
    few_nodes = omega arith;
    few_arcs = omega arith;
    short_lists = short_lists (pictured d) (count_of d) (member_of d) members;
    small = λ k h. omega (arith, cap_small k h);
  }

  -- where the i-th arc of a node leads
  pub drawn_target : (v i : ℕ) (n : Node) → v < 1106 → i < deg_of (count_of d) v → node v ≡ n → to (net_of (pictured d)) (inc_of (member_of d) v i) ≡ number (target_of (pictured d) (member_of d) n i)
  drawn_target v i n h j e = target_is (pictured d) (count_of d) (member_of d) members v h i j ∙ ap (λ n. number (target_of (pictured d) (member_of d) n i)) e
