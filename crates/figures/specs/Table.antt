-- To believe: nothing. The one table of worked figures, to hold the definitions against.

use Rattle.grammar.specs.Figures.{Figures as RuleFigures}
use Rattle.figures.specs.Curves.{CurveFigures}
use Rattle.figures.specs.Books.{BookFigures}

pub record Figures : Type 0 where
  pub curves : CurveFigures
  pub rules : RuleFigures
  pub books : BookFigures
