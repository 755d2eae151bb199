-- To believe: which words say which line.

use Rattle.std.specs.Prelude.{ℕ, ◌<◌, List, [], ◌∷◌, codes, Vec}
use Rattle.curve.specs.declared.lot.Terms.{Terms}
use Rattle.std.specs.declared.alloc.Global.{Global}
use Rattle.script.specs.Numerals.{Decimal, HexByte}
use Rattle.script.specs.Words.{Cut, Worded}
use Rattle.script.specs.declared.line.Line.{Line}
use Rattle.script.specs.declared.line.Line.TheVariants.{Book, Page, Add}

-- words spell bytes, one each
pub data Spelt : List (List ℕ) → List ℕ → Type 0 where
  none : Spelt [] []
  more : {w : List ℕ} {ws : List (List ℕ)} {b : ℕ} {bs : List ℕ} → HexByte w b → Spelt ws bs → Spelt (w ∷ ws) (b ∷ bs)

-- the words of a lot's fields, each after its name
pub data Fields : List (List ℕ) → Terms → Type 0 where
  fields : {i c r m v : List ℕ} {t : Terms}
      → Decimal i t.issuer → Decimal c t.class → Decimal r t.rating → Decimal m t.months → Decimal v t.market
      → Fields (codes "issuer" ∷ i ∷ codes "class" ∷ c ∷ codes "rating" ∷ r ∷ codes "months" ∷ m ∷ codes "value" ∷ v ∷ []) t

-- the words of a line, the first of which names it
pub data Says : List (List ℕ) → Line → Type 0 where
  book : {w : List ℕ} {n : ℕ} → Decimal w n → n < 65536 → Says (codes "book" ∷ w ∷ []) (Book n)
  page : {w : List ℕ} {ws : List (List ℕ)} {class : ℕ} {v : Vec ℕ Global} → Decimal w class → Spelt ws v.items → Says (codes "page" ∷ w ∷ ws) (Page class v)
  add : {w : List ℕ} {ws : List (List ℕ)} {place : ℕ} {t : Terms} → Decimal w place → Fields ws t → Says (codes "add" ∷ w ∷ ws) (Add place t)

-- a text begins with the name of a field and its number
pub record Field (text name : List ℕ) (n : ℕ) (rest : List ℕ) : Type 0 where
  pub between : List ℕ
  pub word : List ℕ
  pub first : Cut text name between
  pub second : Cut between word rest
  pub number : Decimal word n

-- a text begins with the fields of a lot, one after the other, and the rest follows
pub record Described (text : List ℕ) (t : Terms) (rest : List ℕ) : Type 0 where
  pub at_class : List ℕ
  pub at_rating : List ℕ
  pub at_months : List ℕ
  pub at_value : List ℕ
  pub issuer : Field text (codes "issuer") t.issuer at_class
  pub class : Field at_class (codes "class") t.class at_rating
  pub rating : Field at_rating (codes "rating") t.rating at_months
  pub months : Field at_months (codes "months") t.months at_value
  pub value : Field at_value (codes "value") t.market rest

-- what follows the first word of a line completes it
pub record Follows (first text : List ℕ) (l : Line) : Type 0 where
  pub words : List (List ℕ)
  pub worded : Worded text words
  pub says : Says (first ∷ words) l
