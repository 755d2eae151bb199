-- To believe: what the words of a line are, and where the line ends.

use Rattle.std.specs.Prelude.{◌≡◌, ℕ, ◌<◌, cond, List, [], ◌∷◌, ◌++◌, length, ◌==◌, ◌≢◌, slice_index}
use Rattle.script.specs.declared.words.Kind.{Kind}
use Rattle.script.specs.declared.words.Kind.TheVariants.{Blank, Mark, Plain}

-- a space, a tab or a carriage return is a blank; # starts a comment; any other byte is part of a word
abbrev pub kind : ℕ → Kind
kind b = cond (b == 32) Blank (cond (b == 9) Blank (cond (b == 13) Blank (cond (b == 35) Mark Plain)))

abbrev pub AllOf : Kind → List ℕ → Type 0
AllOf k bs = (i : ℕ) → i < length bs → kind (slice_index bs i) ≡ k

-- a text is cut after its longest front of a kind
pub record Split (k : Kind) (text front rest : List ℕ) : Type 0 where
  pub parts : text ≡ front ++ rest
  pub all : AllOf k front
  pub stops : 0 < length rest → kind (slice_index rest 0) ≢ k

-- a text begins with a word, after blanks; the word goes on as far as it can, and the rest follows it
pub record Cut (text word rest : List ℕ) : Type 0 where
  pub blanks : List ℕ
  pub parts : text ≡ blanks ++ (word ++ rest)
  pub before : AllOf Blank blanks
  pub some : 0 < length word
  pub plain : AllOf Plain word
  pub ends : 0 < length rest → kind (slice_index rest 0) ≢ Plain

-- a text has no word: blanks alone, or blanks and a comment
pub record Ended (text : List ℕ) : Type 0 where
  pub blanks : List ℕ
  pub rest : List ℕ
  pub parts : text ≡ blanks ++ rest
  pub before : AllOf Blank blanks
  pub comment : 0 < length rest → kind (slice_index rest 0) ≡ Mark

-- the words of a text, in order
pub data Worded : List ℕ → List (List ℕ) → Type 0 where
  none : {text : List ℕ} → Ended text → Worded text []
  more : {text word rest : List ℕ} {words : List (List ℕ)} → Cut text word rest → Worded rest words → Worded text (word ∷ words)
