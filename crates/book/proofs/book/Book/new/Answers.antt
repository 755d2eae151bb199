use Rattle.std.proofs.Common.{replicate, None, refl}
use Rattle.book.proofs.Empty.{zeros_low, zeros_grounded, none_worth, none_amount}
use Rattle.book.proofs.book.Book.new.Goals as goal

pub invariant_of-result : goal.invariant_of-result
invariant_of-result c =
    let ground = zeros_grounded (replicate 64 None) (replicate 16 None) 1024 in
    record {
      places = (refl, refl);
      tables = (refl, refl);
      grounded = ground;
      grounded_working = ground;
      low = zeros_low 1024;
      low_working = zeros_low 1024;
      worths = none_worth 64;
      amounts = none_amount 16;
      idle = λ h. refl;
    }
