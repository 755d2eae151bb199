-- The words of a line, put together from the parts in which they were read.

use Rattle.std.proofs.Common.{◌<◌, length, ap, arith, length-append, ℕ, List, [], ◌∷◌, ◌++◌, sym, subst, append_assoc, append-nil}
use Rattle.curve.specs.declared.lot.Terms.{Terms}
use Rattle.script.specs.Numerals.{HexByte}
use Rattle.script.specs.Words.{Cut, Ended, Worded}
use Rattle.script.specs.Words.Worded.{none, more}
use Rattle.script.specs.Says.{Spelt, Fields, Described}
use Rattle.script.specs.Says.Spelt.{none as no_bytes, more as more_bytes}
use Rattle.script.specs.Says.Fields.{fields}

-- a word takes something of the text
pub shorter : {text word rest : List ℕ} → Cut text word rest → length rest < length text
shorter {text} {word} {rest} c = omega (arith, simp length-append at (ap length c.parts), c.some)

pub described : {text : List ℕ} {t : Terms} {rest : List ℕ} → Described text t rest → Ended rest → (ws : List (List ℕ)) × Worded text ws × Fields ws t
described d e = (
  _,
  more d.issuer.first (more d.issuer.second (more d.class.first (more d.class.second (more d.rating.first (more d.rating.second
      (more d.months.first (more d.months.second (more d.value.first (more d.value.second (none e)))))))))),
  fields d.issuer.number d.class.number d.rating.number d.months.number d.value.number,
)

-- words that spell bytes were read, and the rest is still to be read
pub record Sofar (text bytes rest : List ℕ) : Type 0 where
  pub words : List (List ℕ)
  pub spelt : Spelt words bytes
  pub goes : (ws : List (List ℕ)) → Worded rest ws → Worded text (words ++ ws)

pub started : (text : List ℕ) → Sofar text [] text
started text = record { words = []; spelt = no_bytes; goes = λ ws h. h }

spelt_more : {ws : List (List ℕ)} {bs w : List ℕ} {b : ℕ} → Spelt ws bs → HexByte w b → Spelt (ws ++ w ∷ []) (bs ++ b ∷ [])
spelt_more no_bytes h = more_bytes h no_bytes
spelt_more (more_bytes g s) h = more_bytes g (spelt_more s h)

pub one_more : {text bytes rest word after : List ℕ} {b : ℕ} → Sofar text bytes rest → Cut rest word after → HexByte word b → Sofar text (bytes ++ b ∷ []) after
one_more {word = word} s c h =
    record {
      words = s.words ++ word ∷ [];
      spelt = spelt_more s.spelt h;
      goes = λ ws g. subst (Worded _) (sym (append_assoc s.words (word ∷ []) ws)) (s.goes (word ∷ ws) (more c g));
    }

pub done : {text bytes rest : List ℕ} → Sofar text bytes rest → Ended rest → (ws : List (List ℕ)) × Worded text ws × Spelt ws bytes
done s e = (s.words, subst (Worded _) (append-nil s.words) (s.goes [] (none e)), s.spelt)
