-- To believe: these are the causes for which a call may be refused, and their numbers.

use Rattle.std.specs.Prelude.{ℕ}
use Rattle.cause.specs.declared.Cause.{Cause}
use Rattle.cause.specs.declared.Cause.TheVariants.{PageShape, PageMonth, PageHaircut, BufferShort, TextLong, ByteUnexpected, NumberLarge, BracketDeep, StepsMany, RangePassed, ExclusionFull, SwitchLarge, PlaceOutside, RunOpen, PlaceTaken, PlaceEmpty, FieldOutside, PastCurve, ScheduleUnknown, LotPledged, RunsSpent, SlipStale, ListShort, NotCovered}

abbrev pub number : Cause → ℕ
-- page empty, a number of points outside 1 to 16, or a length that does not fit it
number PageShape = 1
-- first month not 0, a month not above the one before, or over 1,200
number PageMonth = 2
-- a haircut below the one before, or over 10,000
number PageHaircut = 3
-- buffer shorter than the page
number BufferShort = 4
-- rule text over 1,024 bytes
number TextLong = 5
-- a byte that no rule has there, or a text that ends too early
number ByteUnexpected = 6
-- a number over 65,535
number NumberLarge = 7
-- an opening bracket while 16 are open
number BracketDeep = 8
-- a sixty-fifth step
number StepsMany = 9
-- share, worst rating or longest term over its range
number RangePassed = 10
-- a new issuer for an exclusion that has 32
number ExclusionFull = 11
-- a switch over 16
number SwitchLarge = 12
-- lot place over 63 or exposure place over 15
number PlaceOutside = 13
-- add, withdraw, open, close or begin while a run is open
number RunOpen = 14
-- the place is taken (add, open)
number PlaceTaken = 15
-- the place is empty (withdraw, close, reading a lot or an exposure)
number PlaceEmpty = 16
-- a lot's field, an amount or a card's class outside its range
number FieldOutside = 17
-- months after the curve's last point
number PastCurve = 18
-- a schedule number that the binder does not hold (open)
number ScheduleUnknown = 19
-- the lot has a standing pledge (withdraw)
number LotPledged = 20
-- the run number is already 1,000,000 (begin)
number RunsSpent = 21
-- a slip whose two numbers are not those of this book's open run
number SlipStale = 22
-- a list shorter than held lots times open exposures (settle) or held lots (close)
number ListShort = 23
-- no lawful table covers (allocate)
number NotCovered = 24
