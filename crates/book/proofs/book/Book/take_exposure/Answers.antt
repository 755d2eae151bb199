use Rattle.std.proofs.Common.{◌<◌, length, None, sym, ap, ◌∙◌, arith, length-set}
use Rattle.calls.specs.Situation.{amount_of}
use Rattle.calls.specs.Step.{zeroed}
use Rattle.calls.proofs.Sizes.{length_zeroed}
use Rattle.book.proofs.Pledged.{low_set, zeroed_low, exposure_emptied}
use Rattle.book.proofs.Few.{few_closings}
use Rattle.book.proofs.book.Book.take_exposure.Goals as goal

pub write_closings-count-requires : goal.write_closings-count-requires
write_closings-count-requires c =
    let b = c.args.self.now in
    let few = few_closings b.lots b.exposures b.standing b.grounded c.args.place.at c.args.place.within in
    record { low = b.low; room = omega (arith, few, c.requires) }

pub invariant_of-self : goal.invariant_of-self
invariant_of-self c =
    let b = c.args.self.now in
    let e = c.args.place.at in
    let within : e < 16 = c.args.place.within in
    let st = c.zero_column.new.pledges in
    let wt = c.zero_column-2.new.pledges in
    let is = c.zero_column.ensures in
    let is' = c.zero_column-2.ensures in
    record {
      places = (b.places.0, length-set b.exposures e None ∙ b.places.1);
      tables = (ap length is ∙ (length_zeroed b.standing e 64 ∙ b.tables.0), ap length is' ∙ (length_zeroed b.working e 64 ∙ b.tables.1));
      grounded = exposure_emptied b.standing st e is b.lots b.exposures within b.grounded;
      grounded_working = exposure_emptied b.working wt e is' b.lots b.exposures within b.grounded_working;
      low = zeroed_low b.standing st e is b.low;
      low_working = zeroed_low b.working wt e is' b.low_working;
      worths = b.worths;
      amounts = low_set amount_of b.exposures e None 1099511627776 (omega arith) b.amounts;
      idle = λ h. is' ∙ (ap (λ x. zeroed x e 64) (b.idle h) ∙ sym is);
    }
