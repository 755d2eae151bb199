-- A text may be cut beside a blank or a comment mark, since those are single bytes of ASCII.

use Rattle.std.proofs.Common.{◌≡◌, ℕ, zero, suc, ◌<◌, ◌≤◌, List, length, get_or, IsUtf8, sym, ◌∙◌, subst, ⊎_elim, add-one, arith}
use Rattle.std.proofs.lemmas.Bool.Decides.{nat_tests}
use Rattle.std.specs.Str.{IsCharBoundary}
use Rattle.std.proofs.str.Laws.{order}
use Rattle.std.proofs.lemmas.Str.{IsCharBoundary-start, IsCharBoundary-after_ascii}
use Rattle.script.specs.Words.{kind}
use Rattle.script.specs.declared.words.Kind.{Kind}
use Rattle.script.specs.declared.words.Kind.TheVariants.{Plain}

-- the first n bytes of a text are its longest run of a kind
pub record Run (k : Kind) (bs : List ℕ) (n : ℕ) : Type 0 where
  pub within : n ≤ length bs
  pub all : (i : ℕ) → i < n → kind (get_or bs i 0) ≡ k
  pub stops : n < length bs → kind (get_or bs n 0) ≡ k → ⊥

-- a run of the bytes of a text is one of the text
pub ran : {k : Kind} {bytes text : List ℕ} {n : ℕ} → bytes ≡ text → n ≤ length bytes
    → ((i : ℕ) → i < n → kind (get_or bytes i 0) ≡ k) → (n < length bytes → kind (get_or bytes n 0) ≡ k → ⊥) → Run k text n
ran {k} {bytes} {text} {n} e within all stops = subst (λ bs. Run k bs n) e (record { within = within; all = all; stops = stops })

wide_plain : (b : ℕ) → 128 ≤ b → kind b ≡ Plain
wide_plain b h = grind (arith, nat_tests)

-- a wide byte at the cut is part of a word, so the run is of another kind, and the byte before it is ASCII
pub between : (k : Kind) (bs : List ℕ) (n : ℕ) → IsUtf8 bs → Run k bs n → IsCharBoundary bs n
between k bs zero u run = IsCharBoundary-start bs u
between k bs (suc n) u run = (
  run.within,
  λ inside wide.
      ⊎_elim
      (λ low. (subst (IsCharBoundary bs) (add-one n) (IsCharBoundary-after_ascii bs n u (omega arith) low)).1 inside wide)
      (λ also. absurd (run.stops inside (wide_plain _ wide ∙ sym (wide_plain _ also) ∙ run.all n (omega arith))))
      (order (get_or bs n 0) 128),
)
