-- To believe: which cause each explanation belongs to.

use Rattle.cause.specs.declared.Cause.{Cause}
use Rattle.cause.specs.declared.Cause.TheVariants.{PageShape, PageMonth, PageHaircut, PlaceOutside, FieldOutside}
use Rattle.report.specs.declared.reason.Reason.{Reason}
use Rattle.report.specs.declared.reason.Reason.TheVariants.{Plain, PageEmpty, PointsOutside, LengthWrong, FirstMonth, MonthFalling, MonthLate, HaircutFalling, HaircutLarge, LotPlace, IssuerLarge, ClassLarge, RatingOutside, MonthsLarge, ValueOutside}

abbrev pub cause_of : Reason → Cause
cause_of (Plain c) = c
cause_of PageEmpty = PageShape
cause_of PointsOutside = PageShape
cause_of LengthWrong = PageShape
cause_of FirstMonth = PageMonth
cause_of MonthFalling = PageMonth
cause_of MonthLate = PageMonth
cause_of HaircutFalling = PageHaircut
cause_of HaircutLarge = PageHaircut
cause_of LotPlace = PlaceOutside
cause_of IssuerLarge = FieldOutside
cause_of ClassLarge = FieldOutside
cause_of RatingOutside = FieldOutside
cause_of MonthsLarge = FieldOutside
cause_of ValueOutside = FieldOutside
