use Rattle.std.proofs.Common.{◌≡◌, false, ltb, Some, ◌∙◌, arith, length-set}
use Rattle.std.proofs.lemmas.Bool.Decides.{nat_tests}
use Rattle.std.proofs.lemmas.Result.{err_from_is_err_and}
use Rattle.curve.specs.Card.{nth_points}
use Rattle.calls.specs.Situation.{worth_of}
use Rattle.book.specs.View.{view}
use Rattle.book.proofs.Pledged.{low_set, lot_filled}
use Rattle.book.proofs.Pricing.{worth_low, priced_step, unpriced_step}
use Rattle.book.proofs.book.Book.put_lot.Goals as goal

pub returns-in_err-lot : goal.returns-in_err-lot
returns-in_err-lot c =
    let q = err_from_is_err_and c.from_residual.result c.from_residual.ensures.1 in
    let place : ltb 63 c.args.place.at ≡ false = (let l = c.args.place.within in grind (arith, nat_tests)) in
    rw (q.1, q.2) (λ m. unpriced_step m (view c.args.self.now) c.args.place.at c.args.terms.now c.args.card.now place c.requires.idle
    c.requires.empty c.in_err-lot.ensures)

pub invariant_of-self : goal.invariant_of-self
invariant_of-self c =
    let b = c.args.self.now in
    let p = c.args.place.at in
    let l = c.in_ok-lot.lot in
    record {
      places = (length-set b.lots p (Some l) ∙ b.places.0, b.places.1);
      tables = b.tables;
      grounded = lot_filled b.lots b.exposures b.standing p l b.grounded;
      grounded_working = lot_filled b.lots b.exposures b.working p l b.grounded_working;
      low = b.low;
      low_working = b.low_working;
      worths = low_set worth_of b.lots p (Some l) 1099511627776 (worth_low (nth_points c.args.card.now.curves) c.args.terms.now l c.in_ok-lot.ensures) b.worths;
      amounts = b.amounts;
      idle = b.idle;
    }

pub returns : goal.returns
returns c =
    let place : ltb 63 c.args.place.at ≡ false = (let l = c.args.place.within in grind (arith, nat_tests)) in
    λ m. priced_step m (view c.args.self.now) c.args.place.at c.args.terms.now c.args.card.now place c.requires.idle
    c.requires.empty c.in_ok-lot.lot c.in_ok-lot.ensures
