use Rattle.std.proofs.Common.{◌≡◌, ℕ, length, sym, ◌∙◌, arith}
use Rattle.cover.specs.Seen.{seen}
use Rattle.book.specs.View.{view}
use Rattle.book.proofs.Lawfuls.{grounded, low}
use Rattle.book.proofs.Coverings.{lawful_after, covers_then, short_else}
use Rattle.book.proofs.book.Book.cover.Goals as goal

pub invariant_of-self : goal.invariant_of-self
invariant_of-self g c =
    let b = c.args.self.now in
    let m = g.B.Binder.meaning c.args.binder.now in
    let t = c.allocate-answer.new.table in
    let size : length t ≡ 1024 = omega arith in
    let law = lawful_after m (view b) (seen c.problem-problem.result) c.problem-problem.ensures c.args.record.now _ t
    c.allocate-answer.result (sym c.is_ok.ensures.value ∙ c.if-is_ok.true) c.allocate-answer.ensures in
    record {
      places = b.places;
      tables = (b.tables.0, size);
      grounded = b.grounded;
      grounded_working = grounded m b.lots b.exposures t law;
      low = b.low;
      low_working = low m b.lots b.exposures t law b.worths size;
      worths = b.worths;
      amounts = b.amounts;
      idle = λ idle. (let run = c.requires in let z : ◌≡◌ {A = ℕ} 0 1 = cc in absurd (omega arith));
    }

pub returns-then-is_ok : goal.returns-then-is_ok
returns-then-is_ok g c =
    let m = g.B.Binder.meaning c.args.binder.now in
    let t = c.allocate-answer.new.table in
    let size : length t ≡ 1024 = omega arith in
    covers_then m (view c.args.self.now) (seen c.problem-problem.result) c.problem-problem.ensures c.args.record.now _ t
    c.allocate-answer.result (sym c.is_ok.ensures.value ∙ c.if-is_ok.true) c.allocate-answer.ensures size

pub returns-else-is_ok : goal.returns-else-is_ok
returns-else-is_ok g c =
    let m = g.B.Binder.meaning c.args.binder.now in
    short_else m (view c.args.self.now) (seen c.problem-problem.result) c.problem-problem.ensures c.args.record.now _ c.allocate-answer.new.table
    c.allocate-answer.result (sym c.is_ok.ensures.value ∙ c.if-is_ok.false) c.allocate-answer.ensures
