-- To believe: what each line does to a session, and with which outcome.

use Rattle.std.specs.Prelude.{◌≡◌, ℕ, ◌<◌, false, replicate, Option, Some, None, Ok, Err, Vec}
use Rattle.curve.specs.Points.{Points}
use Rattle.curve.specs.Card.{nth_points, Loaded, Unloaded}
use Rattle.curve.specs.declared.card.CardFault.{CardFault}
use Rattle.curve.specs.declared.lot.Lot.{Lot}
use Rattle.curve.specs.declared.lot.Terms.{Terms}
use Rattle.std.specs.declared.alloc.Global.{Global}
use Rattle.session.specs.Adding.{Added, Unadded}
use Rattle.session.specs.Refusing.{Names}
use Rattle.report.specs.Reasons.{cause_of}
use Rattle.script.specs.declared.line.Line.{Line}
use Rattle.script.specs.declared.line.Line.TheVariants.{Book, Page, Add}
use Rattle.report.specs.declared.outcome.Answer.TheVariants.{Opened, Points as Answered, Value}
use Rattle.report.specs.declared.outcome.Outcome.{Outcome}
use Rattle.report.specs.declared.outcome.Refusal.{Refusal}
use Rattle.report.specs.declared.outcome.Subject.TheVariants.{Book as OfBook, Page as OfPage, Add as OfAdd}
use Rattle.session.specs.declared.state.Session.{Session}
use Rattle.session.specs.declared.state.Stage.{Stage}
use Rattle.session.specs.declared.state.Stage.TheVariants.{Shut, SetUp, Called}

-- a session before its first line
pub record New (s : Session) : Type 0 where
  pub stage : s.stage ≡ Shut
  pub free : s.taken ≡ replicate 64 false
  pub blank : (k : ℕ) → k < 8 → ((nth_points s.card.curves k).count ≡ 1) × ((nth_points s.card.curves k).month 0 ≡ 0) × ((nth_points s.card.curves k).haircut 0 ≡ 10000)

-- the number of the book, once it is opened
abbrev pub book_of : Stage → Option ℕ
book_of Shut = None
book_of (SetUp n) = Some n
book_of (Called n) = Some n

-- how far an order moves the day on: the book is opened once, with its number; a page comes after that and before the
-- first call; a call comes after the book, and set-up lines have no place after it
abbrev pub Moves : Stage → Line → Stage → Type 0
Moves before (Book n) after = (before ≡ Shut) × (after ≡ SetUp n)
Moves before (Page class v) after = (n : ℕ) × (before ≡ SetUp n) × (after ≡ SetUp n)
Moves before (Add place t) after = (n : ℕ) × (book_of before ≡ Some n) × (after ≡ Called n)

-- the book is opened, and nothing else changes
pub record Opens (before after : Session) (n : ℕ) : Type 0 where
  pub moves : Moves before.stage (Book n) after.stage
  pub card : after.card ≡ before.card
  pub taken : after.taken ≡ before.taken

-- a page changes nothing but the card
pub record Loads (before after : Session) (class : ℕ) (v : Vec ℕ Global) : Type 0 where
  pub moves : Moves before.stage (Page class v) after.stage
  pub taken : after.taken ≡ before.taken

-- a call changes no card
pub record Calls (before after : Session) (place : ℕ) (t : Terms) : Type 0 where
  pub moves : Moves before.stage (Add place t) after.stage
  pub card : after.card ≡ before.card

abbrev pub curves : Session → ℕ → Points
curves s = nth_points s.card.curves

pub data Plays (before after : Session) : Line → Outcome → Type 0 where
  book : {n : ℕ} → Opens before after n → Plays before after (Book n) (record { subject = OfBook n; answer = Ok Opened })
  page : {class n : ℕ} {v : Vec ℕ Global} → Loads before after class v → Loaded v.items class (curves before) (curves after) n
      → Plays before after (Page class v) (record { subject = OfPage class; answer = Ok (Answered n) })
  no_page : {class : ℕ} {v : Vec ℕ Global} {r : Refusal} (f : CardFault) → Loads before after class v
      → Unloaded v.items class f → Names r f → after.card ≡ before.card
      → Plays before after (Page class v) (record { subject = OfPage class; answer = Err r })
  add : {place : ℕ} {t : Terms} {l : Lot} → Calls before after place t → Added before.taken after.taken (curves before) place t l
      → Plays before after (Add place t) (record { subject = OfAdd place; answer = Ok (Value l.worth) })
  no_add : {place : ℕ} {t : Terms} {r : Refusal} → Calls before after place t → Unadded before.taken (curves before) place t (cause_of r.reason)
      → r.point ≡ None → after.taken ≡ before.taken
      → Plays before after (Add place t) (record { subject = OfAdd place; answer = Err r })
