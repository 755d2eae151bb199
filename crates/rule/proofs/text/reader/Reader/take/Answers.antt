use Rattle.std.proofs.Common.{length, sym}
use Rattle.rule.specs.Marks.{opens}
use Rattle.rule.specs.Views.{waiting}
use Rattle.rule.proofs.Reading.{allowed_if, within}
use Rattle.rule.proofs.text.reader.Reader.take.Goals as goal

pub advance-requires-clause-deep : goal.advance-requires-clause-deep
advance-requires-clause-deep c =
    let r = c.args.self.now in
    let a = allowed_if r.mode c.from-mark.result (length (waiting r.outer)) r.count c.args.place r.digit (sym c.in_ok-admit.ensures) in
    within (opens c.from-mark.result) (length (waiting r.outer)) 16 c.requires.deep a.shallow
