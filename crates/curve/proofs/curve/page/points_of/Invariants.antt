use Rattle.std.proofs.Common.{◌≡◌, ℕ, ◌+◌, ◌*◌, ◌<◌}
use Rattle.curve.proofs.Spelling.{SpeltAt}
use Rattle.curve.proofs.curve.page.points_of.Given as goal

-- the points so far, and where the two readers stand
abbrev pub invariant-loop-point : goal.invariant-loop-point
invariant-loop-point l = record {
  spelt : (k : ℕ) → k < l.point-index → SpeltAt l.page l.count l.point-items k;
  month_bytes : l.months.bytes.now ≡ l.page;
  month_at : l.months.at ≡ 1 + 2 * l.point-index;
  haircut_bytes : l.haircuts.bytes.now ≡ l.page;
  haircut_at : l.haircuts.at ≡ 1 + 2 * l.count + 2 * l.point-index;
}
