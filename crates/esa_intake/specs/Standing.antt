-- What an intake, its senders and its taker are seen as.
use Rattle.std.specs.Prelude.{◌≡◌, ◌≤◌, ℕ, zero, suc, true, List, [], ◌∷◌, ◌++◌, length, map, All}
use Rattle.std.specs.List.{sum_by}
use Rattle.std.specs.List.Sorted.{IsPermutation}
use Rattle.crossbeam_queue.specs.Passes.{view, IsPassOf, ruled_capacity}
use Rattle.esa_params.specs.declared.form.Form.{Form}
use Rattle.esa_intake.specs.declared.sealed.Sealed.{Sealed}
use Rattle.esa_intake.specs.declared.intake.Intake.{Intake}
use Rattle.esa_intake.specs.declared.intake.Sender.{Sender}
use Rattle.esa_intake.specs.declared.intake.Taker.{Taker}
use Rattle.esa_intake.specs.declared.intake.Stand.{Stand}
use Rattle.esa_intake.specs.declared.hand.Closed.{Closed}
use Rattle.esa_intake.specs.Keeping.{IsSealedOf, envelopes, put_by, SenderSees, TakerSees}

abbrev pub form_of : Intake → Form
form_of intake = intake.form

-- how many envelopes can wait
abbrev pub room_of : Intake → ℕ
room_of intake = intake.room

-- the senders are counted from 1
abbrev pub number_of : Sender → ℕ
number_of sender = (view sender.pass).number

-- what the sender has put, in order
abbrev pub put_of : Sender → List Sealed
put_of sender = (view sender.pass).put

-- how many senders were made
abbrev pub senders_of : Taker → ℕ
senders_of taker = (view taker.pass).senders

-- what the taker has taken, in order
abbrev pub taken_of : Taker → List Sealed
taken_of taker = (view taker.pass).taken

-- it is a sender of this intake, and knows its form
abbrev pub IsSender : Intake → Sender → Type 0
IsSender intake sender = IsPassOf intake.line sender.pass × (ruled_capacity intake.line ≡ intake.room) × ((view sender.pass).puts ≡ true)
    × ((view sender.pass).form ≡ intake.form)

-- it is a pass of this intake that may take, put nothing, and knows the form
abbrev pub HasTaking : Intake → Taker → Type 0
HasTaking intake taker = IsPassOf intake.line taker.pass × (ruled_capacity intake.line ≡ intake.room) × (taker.pass.id ≡ 0)
    × ((view taker.pass).puts ≡ true) × ((view taker.pass).put ≡ []) × ((view taker.pass).form ≡ intake.form)

-- it is the taker of this intake, which puts nothing, and no sender was given back to it
abbrev pub IsTaker : Intake → Taker → Type 0
IsTaker intake taker = HasTaking intake taker × ((view taker.pass).closed ≡ [])

-- it is the taker of an intake that is being made, and knows the form from its first sender on
abbrev pub IsEarlyTaker : Intake → Taker → Type 0
IsEarlyTaker intake taker = IsPassOf intake.line taker.pass × (ruled_capacity intake.line ≡ intake.room) × (taker.pass.id ≡ 0)
    × ((view taker.pass).puts ≡ true) × ((view taker.pass).put ≡ []) × ((view taker.pass).closed ≡ [])
    × (1 ≤ senders_of taker → (view taker.pass).form ≡ intake.form)

-- at a moment as many envelopes waited as there is room for
abbrev pub HasWaited : ℕ → Sender → Type 0
HasWaited room sender = (waiting : List Sealed) × (length waiting ≡ room) × SenderSees (view sender.pass) waiting

-- at a moment none waited
abbrev pub WaitedNone : Taker → Type 0
WaitedNone taker = TakerSees (view taker.pass) []

-- ---- a new intake

-- the numbers from 1 to n
abbrev pub numbers : ℕ → List ℕ
numbers zero = []
numbers (suc n) = numbers n ++ suc n ∷ []

-- so many senders of the intake, in the order of their numbers, who have put nothing
pub record AreNew (intake : Intake) (number : ℕ) (senders : List Sender) : Type 0 where
  pub each : All (IsSender intake) senders
  pub numbers_are : map number_of senders ≡ numbers number
  pub none_put : All (λ sender. put_of sender ≡ []) senders

-- an intake of the form and the room, with so many senders, and nothing put or taken
pub record IsMade (form : Form) (room number : ℕ) (stand : Stand) : Type 0 where
  pub form_is : form_of stand.intake ≡ form
  pub room_is : room_of stand.intake ≡ room
  pub senders : AreNew stand.intake number stand.senders.items
  pub taker : IsTaker stand.intake stand.taker
  pub number_is : senders_of stand.taker ≡ number
  pub none_taken : taken_of stand.taker ≡ []

-- ---- what is kept

-- the senders are all that were made
abbrev pub AreAll : Taker → List Sender → Type 0
AreAll taker senders = IsPermutation (numbers (senders_of taker)) (map number_of senders)

-- summed by whatever, and so counted by whatever, the envelopes are those that the senders put
abbrev pub KeepsEach : List Sender → List Sealed → Type 0
KeepsEach senders kept = (f : Sealed → ℕ) → sum_by f kept ≡ sum_by (λ sender. sum_by f (put_of sender)) senders

-- there is a sender's number for each envelope, such that those of each sender are what it put, in its order
abbrev pub KeepsOrder : List Sender → List Sealed → Type 0
KeepsOrder senders kept = (log : List (ℕ × Sealed)) × (envelopes log ≡ kept) × All (λ sender. put_of sender ≡ put_by (number_of sender) log) senders

-- ---- within a close

abbrev pub closed_of : Sender → Closed
closed_of sender = record { number = number_of sender; put = put_of sender }

abbrev pub closed_of_taker : Taker → List Closed
closed_of_taker taker = (view taker.pass).closed

-- only senders were given back
abbrev pub AllBack : Intake → Taker → Taker → Type 0
AllBack intake old new = HasTaking intake new × (senders_of new ≡ senders_of old) × (taken_of new ≡ taken_of old)

-- every sender was given back
abbrev pub IsFull : Intake → Taker → Type 0
IsFull intake taker = HasTaking intake taker × IsPermutation (numbers (senders_of taker)) (map (λ (closed : Closed). closed.number) (closed_of_taker taker))

-- what was taken and this rest are together what the log has, which is of the form
abbrev pub TakerRest : Taker → List Sealed → Type 0
TakerRest taker rest = (log : List (ℕ × Sealed)) × (envelopes log ≡ taken_of taker ++ rest)
    × All (λ (closed : Closed). closed.put ≡ put_by closed.number log) (closed_of_taker taker)
    × ((f : Sealed → ℕ) → sum_by f (envelopes log) ≡ sum_by (λ (closed : Closed). sum_by f closed.put) (closed_of_taker taker))
    × All (IsSealedOf (view taker.pass).form) (envelopes log)
