use Rattle.std.proofs.Common.{[], ◌∷◌, sym, subst, arith}
use Rattle.script.specs.Numerals.{Decimal}
use Rattle.script.specs.Words.Worded.{none, more}
use Rattle.script.specs.Says.Says.{book}
use Rattle.script.proofs.words.Words.book.Goals as goal

pub returns-in-Ok : goal.returns-in-Ok
returns-in-Ok c =
    let n = c.in_ok-number.ensures in
    let u = c.in-Ok.ensures in
    record { words = n.0 ∷ []; worded = more n.1 (none c.in_ok-end.ensures); says = book (subst (Decimal n.0) (sym u.1) n.2) (omega (arith, u.0, u.1)) }
