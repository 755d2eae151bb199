use Rattle.std.proofs.Common.{◌+◌, length, set, sym, refl, ap, ◌∙◌, subst, arith, length-set}
use Rattle.network.specs.Same.{Same}
use Rattle.flow.specs.Stored.{Joins, with_arc, listed_net}
use Rattle.flow.specs.StoredLaws.{joins_more, sums_more, same_more}
use Rattle.flow.proofs.stored.ArcList.add_arc.Goals as goal

pub invariant_of-self : goal.invariant_of-self
invariant_of-self c =
    let h = c.in_ok-total.ensures in
    let e = c.put_ends.ensures in
    record {
      sizes = (ap length e ∙ simp length-set c.args.self.now.sizes.0, simp length-set c.args.self.now.sizes.1, c.args.self.now.sizes.2, omega (arith, h));
      inner = c.args.self.now.inner;
      apart = c.args.self.now.apart;
      joins = subst (Joins c.args.self.now.nodes _) (sym e) (joins_more c.args.self.now.nodes c.args.self.now.source c.args.self.now.sink c.args.self.now.ends c.args.self.now.caps c.args.self.now.arcs c.args.tail c.args.head c.args.capacity (omega (arith, h, c.args.self.now.sizes)) (omega (arith, h, c.args.self.now.sizes)) c.args.self.now.joins h.1 h.2);
      sums = (omega (arith, h, c.args.self.now.sums, sums_more c.args.self.now.nodes c.args.self.now.source c.args.self.now.sink c.args.self.now.ends c.args.self.now.caps c.args.self.now.arcs c.args.tail c.args.head c.args.capacity (omega (arith, h, c.args.self.now.sizes)) (omega (arith, h, c.args.self.now.sizes))), h.5);
    }

pub returns : goal.returns
returns c =
    let h = c.in_ok-total.ensures in
    (h.0, refl, subst (λ xs. Same (with_arc (listed_net c.args.self.now.nodes c.args.self.now.arcs c.args.self.now.source c.args.self.now.sink c.args.self.now.ends c.args.self.now.caps) c.args.tail c.args.head c.args.capacity) (listed_net c.args.self.now.nodes (c.args.self.now.arcs + 1) c.args.self.now.source c.args.self.now.sink xs (set c.args.self.now.caps c.args.self.now.arcs c.args.capacity))) (sym c.put_ends.ensures) (same_more c.args.self.now.nodes c.args.self.now.source c.args.self.now.sink c.args.self.now.ends c.args.self.now.caps c.args.self.now.arcs c.args.tail c.args.head c.args.capacity (omega (arith, h, c.args.self.now.sizes)) (omega (arith, h, c.args.self.now.sizes))), h.4)
