use Rattle.grammar.proofs.Figured.{figured}
use Rattle.figures.proofs.Curved.{curve_figures}
use Rattle.figures.proofs.Booked.{book_figures}
use Rattle.figures.proofs.figures_hold.Goals as goal

pub returns : goal.returns
returns c = record { curves = curve_figures; rules = figured; books = book_figures }
