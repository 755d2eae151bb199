-- The outcome of an order, from how far it moves the day on and the answer that it gave.

use Rattle.std.proofs.Common.{◌≡◌, ℕ, List, Ok, Err, Result, vec_items, Vec, None, MatchResult, sym, subst}
use Rattle.curve.specs.Card.{Loaded, Unloaded}
use Rattle.curve.specs.declared.card.CardFault.{CardFault}
use Rattle.curve.specs.declared.lot.Lot.{Lot}
use Rattle.curve.specs.declared.lot.Terms.{Terms}
use Rattle.std.specs.declared.alloc.Global.{Global}
use Rattle.report.specs.Reasons.{cause_of}
use Rattle.report.specs.declared.outcome.Answer.{Answer}
use Rattle.report.specs.declared.outcome.Answer.TheVariants.{Opened, Points, Value}
use Rattle.report.specs.declared.outcome.Refusal.{Refusal}
use Rattle.report.specs.declared.outcome.Subject.{Subject}
use Rattle.report.specs.declared.outcome.Subject.TheVariants.{Book as OfBook, Page as OfPage, Add as OfAdd}
use Rattle.script.specs.declared.line.Line.{Line}
use Rattle.script.specs.declared.line.Line.TheVariants.{Book, Page, Add}
use Rattle.session.specs.Adding.{Added, Unadded}
use Rattle.session.specs.Refusing.{Names}
use Rattle.session.specs.Playing.{Moves, Plays, curves}
use Rattle.session.specs.Playing.Plays.{book, page, no_page, add, no_add}
use Rattle.session.specs.declared.state.Session.{Session}
use Rattle.session.specs.declared.state.Stage.{Stage}

module _ (before after : Session) (l : Line) (s : Stage) (moves : Moves before.stage l s) (stage : after.stage ≡ s) where
  abbrev With : Line → Subject → Result Answer Refusal → Type 0
  With l s a = Plays before after l (record { subject = s; answer = a })

  moved : (k : Line) → l ≡ k → Moves before.stage k after.stage
  moved k is = subst (Moves before.stage k) (sym stage) (subst (λ l. Moves before.stage l s) is moves)

  pub opened : (n : ℕ) → l ≡ Book n → after.card ≡ before.card → after.taken ≡ before.taken → With l (OfBook n) (Ok Opened)
  opened n is card taken = subst (λ l. With l (OfBook n) (Ok Opened)) (sym is) (book (record { moves = moved _ is; card = card; taken = taken }))

  pub paged : (class : ℕ) (v : Vec ℕ Global) (bytes : List ℕ) (r : Result Answer Refusal) → l ≡ Page class v → bytes ≡ vec_items v → after.taken ≡ before.taken
      → MatchResult r (λ a. (n : ℕ) × (a ≡ Points n) × Loaded bytes class (curves before) (curves after) n)
      (λ r. (f : CardFault) × Unloaded bytes class f × Names r f × (after.card ≡ before.card))
      → With l (OfPage class) r
  paged class v bytes r is held taken cases = subst (λ l. With l (OfPage class) r) (sym is) (by r cases)
    where
      by : (r : Result Answer Refusal) → MatchResult r (λ a. (n : ℕ) × (a ≡ Points n) × Loaded bytes class (curves before) (curves after) n)
          (λ r. (f : CardFault) × Unloaded bytes class f × Names r f × (after.card ≡ before.card))
          → With (Page class v) (OfPage class) r
      by (Ok a) h = subst (λ a. With (Page class v) (OfPage class) (Ok a)) (sym h.1) (page (record { moves = moved _ is; taken = taken }) (subst (λ bs. Loaded bs class (curves before) (curves after) h.0) held h.2))
      by (Err r) h = no_page h.0 (record { moves = moved _ is; taken = taken }) (subst (λ bs. Unloaded bs class h.0) held h.1) h.2 h.3

  pub called : (place : ℕ) (t : Terms) (r : Result Answer Refusal) → l ≡ Add place t → after.card ≡ before.card
      → MatchResult r (λ a. (o : Lot) × (a ≡ Value o.worth) × Added before.taken after.taken (curves before) place t o)
      (λ r. Unadded before.taken (curves before) place t (cause_of r.reason) × (r.point ≡ None) × (after.taken ≡ before.taken))
      → With l (OfAdd place) r
  called place t r is card cases = subst (λ l. With l (OfAdd place) r) (sym is) (by r cases)
    where
      by : (r : Result Answer Refusal) → MatchResult r (λ a. (o : Lot) × (a ≡ Value o.worth) × Added before.taken after.taken (curves before) place t o)
          (λ r. Unadded before.taken (curves before) place t (cause_of r.reason) × (r.point ≡ None) × (after.taken ≡ before.taken))
          → With (Add place t) (OfAdd place) r
      by (Ok a) h = subst (λ a. With (Add place t) (OfAdd place) (Ok a)) (sym h.1) (add (record { moves = moved _ is; card = card }) h.2)
      by (Err r) h = no_add (record { moves = moved _ is; card = card }) h.0 h.1 h.2
