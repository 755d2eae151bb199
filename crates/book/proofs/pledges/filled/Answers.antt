use Rattle.std.proofs.Common.{◌≡◌, ℕ, Bool, true, false, is_some, get_or, None, sym, arith, rules}
use Rattle.std.proofs.lemmas.List.{get_or_default}
use Rattle.book.proofs.Walks.{count_start, count_hit, count_miss}
use Rattle.book.proofs.pledges.filled.Goals as goal
use Rattle.book.proofs.pledges.filled.Goals.{then-is_some, else-is_some}

pub loop-place-init : goal.loop-place-init
loop-place-init g c = (sym (count_start _), omega arith)

pub loop-place-preserved : goal.loop-place-preserved
loop-place-preserved g c =
    let n = c.loop-place.place-index in
    let test : ℕ → Bool = λ k. is_some (get_or c.args.places.now k None) in
    let inv = c.loop-place.invariant in
    let default = get_or_default c.args.places.now n None c.place-item.result (omega (arith, c.loop-place-test.true)) in
    elim c.if-is_some.branch [
      | then-is_some w ↦ (
          let h : test n ≡ true = search (rules, default, c.place-item.is) in
          let e = count_hit test n h in
          (omega (arith, e, inv.0, w.count-is), omega (arith, inv.1, w.count-is)))
      | else-is_some w ↦ (
          let h : test n ≡ false = search (rules, default, c.place-item.is) in
          let e = count_miss test n h in
          (omega (arith, e, inv.0, w.count-is), omega (arith, inv.1, w.count-is)))
    ]
