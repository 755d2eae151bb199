use Rattle.std.proofs.Common.{◌≡◌, ◌-◌, cond, eqb, ltb, Ok, Err, sym, ap, ◌∙◌, subst}
use Rattle.flow.specs.Solved.{Solved}
use Rattle.table.specs.Table.{SameTable}
use Rattle.table.specs.Drawn.{net_of, table_of}
use Rattle.table.specs.Record.{SameMarks, marks_of}
use Rattle.table.specs.Outcome.{Begins}
use Rattle.cover.specs.View.{at, pledge}
use Rattle.cover.specs.Seen.{seen}
use Rattle.cover.specs.Picture.{pictured}
use Rattle.cover.specs.Answer.{noted, Allocated}
use Rattle.cover.proofs.Allocating.{Run, given_low, allocated, lacking}
use Rattle.cover.proofs.problem.Problem.allocate.Goals as goal
use Rattle.cover.proofs.problem.Problem.allocate.Goals.{then-given-owed, else-given-owed, Joined-given-owed}

-- the network that was solved is that of the problem
same : (c : Joined-given-owed) → pictured c.begin-position.result.drawn.now ≡ seen c.args.self.now
same c = ap pictured c.begin-position.ensures.drawn ∙ ap seen c.draw-drawn.ensures

run : (c : Joined-given-owed) → Run (seen c.args.self.now) (at c.begin-position.result.first) (at c.solve-rounds.new.flow) (at c.solve-rounds.new.mark) c.solve-rounds.result c.value-given.result c.owed-owed.result
run c = record {
  solved = subst (λ s. Solved (net_of s) (at c.begin-position.result.first) (at c.solve-rounds.new.flow) (at c.solve-rounds.new.mark) c.solve-rounds.result) (same c) c.solve-rounds.ensures;
  sum = c.value-given.ensures;
  owing = c.owed-owed.ensures;
}

pub answer-requires : goal.answer-requires
answer-requires c = given_low (run c)

-- the answer in either case
answered : (c : Joined-given-owed) → Allocated (seen c.args.self.now) c.args.table.now c.if-given-owed.table c.args.shortage.now c.if-given-owed.shortage
    (cond (eqb c.value-given.result c.owed-owed.result) (Ok c.solve-rounds.result) (Err (c.owed-owed.result - c.value-given.result)))
answered c =
    elim c.if-given-owed.branch [
      | then-given-owed w ↦
          let b = c.begin-position.ensures.begins in
          allocated (run c)
          c.args.table.now c.if-given-owed.table c.args.shortage.now c.if-given-owed.shortage
          b.0 (subst (λ s. Begins s (pledge c.args.table.now) (at c.begin-position.result.first) b.0) (ap seen c.draw-drawn.ensures) b.1)
          w.if-given-owed.true
          (subst (λ t. SameTable (table_of (at c.solve-rounds.new.flow)) (pledge t)) (sym w.table-is) w.store.ensures)
          w.shortage-is
      | else-given-owed w ↦
          lacking (run c)
          c.args.table.now c.if-given-owed.table c.args.shortage.now c.if-given-owed.shortage
          w.if-given-owed.false
          (subst (λ r. SameMarks (noted r) (marks_of (seen c.args.self.now) (λ v. ltb 0 (at c.solve-rounds.new.mark v)))) (sym w.shortage-is)
          (subst (λ s. SameMarks (noted w.note.result) (marks_of s (λ v. ltb 0 (at c.solve-rounds.new.mark v)))) (ap seen c.draw-drawn.ensures) w.note.ensures))
          w.table-is
    ]

pub returns : goal.returns
returns c = subst (Allocated (seen c.args.self.now) c.args.table.now c.if-given-owed.table c.args.shortage.now c.if-given-owed.shortage) (sym c.answer.ensures) (answered (goal.at.returns c).Joined-given-owed)
