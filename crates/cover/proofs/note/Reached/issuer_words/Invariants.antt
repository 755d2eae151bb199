use Rattle.std.proofs.Common.{◌≡◌, ℕ, ◌<◌}
use Rattle.words.specs.Word.{bit}
use Rattle.cover.specs.View.{at}
use Rattle.cover.specs.Marked.{marked}
use Rattle.cover.proofs.note.Reached.issuer_words.Given as goal

abbrev pub invariant-loop-e : goal.invariant-loop-e
invariant-loop-e l = (e : ℕ) → e < l.e → (t : ℕ) → t < 64 → bit (at l.word-items e) t ≡ (marked l.self).issuers e t
