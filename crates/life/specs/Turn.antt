-- To believe: what it means that an order, and a list of orders, is carried out.

use Rattle.std.specs.Prelude.{◌≡◌, ℕ, ◌≤◌, cond, List, [], ◌∷◌, ◌++◌, length, drop, Some, None, Ok, Err, Option, Result}
use Rattle.binder.specs.Meaning.{Meaning}
use Rattle.curve.specs.declared.card.Card.{Card}
use Rattle.calls.specs.declared.Instruction.{Instruction}
use Rattle.cover.specs.declared.record.Record.{Record}
use Rattle.calls.specs.State.{State}
use Rattle.calls.specs.Call.{Call, Numbers, given_out}
use Rattle.calls.specs.Call.Call.{add, withdraw, open_exposure, close, begin, allocate, settle, abandon}
use Rattle.calls.specs.Call.Outcome.{refused, short, added, withdrawn, exposed, closed, began, allocated, settled, abandoned}
use Rattle.calls.specs.Call as call
use Rattle.calls.specs.Step.{Step}
use Rattle.life.specs.declared.order.Order.{Order}
use Rattle.life.specs.declared.order.Order.TheVariants as order
use Rattle.life.specs.declared.order.Granted.{Granted}
use Rattle.life.specs.declared.order.Granted.TheVariants as grant
use Rattle.life.specs.declared.order.Refused.{Refused}
use Rattle.life.specs.declared.order.Refused.TheVariants as refusal

-- the slip of the open run
abbrev pub slip_of : State → Option Numbers
slip_of s = cond s.in_run (Some (record { book = s.number; run = s.run })) None

-- a call that needs a slip
abbrev pub with_slip : Option Numbers → (Numbers → Call) → Option Call
with_slip None f = None
with_slip (Some n) f = Some (f n)

-- The call that an order is, passed a list and a record. Only for want of a slip there is none.
abbrev pub call_of : Card → State → List Instruction → Record → Order → Option Call
call_of k s list note (order.Add p t) = Some (add p t k)
call_of k s list note (order.Withdraw p) = Some (withdraw p)
call_of k s list note (order.Open p a n) = Some (open_exposure p a n)
call_of k s list note (order.Close p) = Some (close p list)
call_of k s list note order.Begin = Some begin
call_of k s list note order.Allocate = with_slip (slip_of s) (λ n. allocate n note)
call_of k s list note order.Settle = with_slip (slip_of s) (λ n. settle n list)
call_of k s list note order.Abandon = with_slip (slip_of s) (λ n. abandon n)

-- what is told of an order: what it did, or why it did nothing
abbrev pub Outcome : Type 0
Outcome = Result Granted Refused

-- what is told of a call's outcome
abbrev pub told : call.Outcome → Outcome
told (refused e b) = Err (refusal.For e)
told (short x r) = Err (refusal.Short x r)
told (added v) = Ok (grant.Added v)
told withdrawn = Ok grant.Withdrawn
told exposed = Ok grant.Opened
told (closed n list) = Ok (grant.Closed n)
told (began n) = Ok (grant.Began n.run)
told (allocated k r) = Ok (grant.Allocated k)
told (settled n list) = Ok (grant.Settled n)
told abandoned = Ok grant.Abandoned

-- how many instructions an outcome tells of
abbrev pub count_of : Outcome → ℕ
count_of (Ok (grant.Added v)) = 0
count_of (Ok grant.Withdrawn) = 0
count_of (Ok grant.Opened) = 0
count_of (Ok (grant.Closed n)) = n
count_of (Ok (grant.Began n)) = 0
count_of (Ok (grant.Allocated k)) = 0
count_of (Ok (grant.Settled n)) = n
count_of (Ok grant.Abandoned) = 0
count_of (Err e) = 0

-- an order tells of so many instructions: they stand at the start of the list that it was lent, which is as it was behind them
pub record Wrote (o : Outcome) (before after : List Instruction) : Type 0 where
  pub room : count_of o ≤ length before
  pub behind : drop (count_of o) after ≡ drop (count_of o) before

-- an order is carried out: its call is made, or there is none to make and nothing happens
pub data Turn (m : Meaning) (k : Card) (o : Order) (s : State) : Outcome → List Instruction → State → Type 0 where
  made : (list : List Instruction) (note : Record) (c : Call) → call_of k s list note o ≡ Some c
      → (r : call.Outcome) (t : State) → Step m c s r t → Turn m k o s (told r) (given_out r) t
  idle : ((list : List Instruction) (note : Record) → call_of k s list note o ≡ None) → Turn m k o s (Err refusal.NoSlip) [] s

-- orders are carried out one after the other, from the state s on
pub data Played (m : Meaning) (k : Card) (s : State) : List Order → List Outcome → List Instruction → State → Type 0 where
  none : Played m k s [] [] [] s
  more : {os : List Order} {rs : List Outcome} {given : List Instruction} {t : State} → Played m k s os rs given t
      → (o : Order) (r : Outcome) (new : List Instruction) (u : State) → Turn m k o t r new u
      → Played m k s (os ++ (o ∷ [])) (rs ++ (r ∷ [])) (given ++ new) u
