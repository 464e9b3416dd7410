-- What was put into an intake, by whom, and what each pass knows of it.
use Rattle.std.specs.Prelude.{◌≡◌, ℕ, ◌+◌, ◌<◌, ◌≤◌, ◌==◌, true, false, List, [], ◌∷◌, ◌++◌, length, map, All}
use Rattle.std.specs.List.{filter}
use mathlib.Core.Option.{some}
use lib.ListN.{get_elem?}
use Rattle.esa_params.specs.Form.{envelope_length}
use Rattle.esa_params.specs.declared.form.Form.{Form}
use Rattle.esa_params.specs.declared.form.Form.TheVariants.{One}
use Rattle.esa_intake.specs.declared.sealed.Sealed.{Sealed}
use Rattle.esa_intake.specs.declared.hand.Hand.{Hand}
use Rattle.esa_intake.specs.declared.hand.Closed.{Closed}

-- ---- a log: what was put, in order, each with the number of the sender that put it

-- the envelopes of a log
abbrev pub envelopes : List (ℕ × Sealed) → List Sealed
envelopes log = map (λ entry. entry.1) log

-- those of the sender of a number
abbrev pub put_by : ℕ → List (ℕ × Sealed) → List Sealed
put_by number log = envelopes (filter (λ entry. entry.0 == number) log)

-- an envelope of a form is as long as all of the form
abbrev pub IsSealedOf : Form → Sealed → Type 0
IsSealedOf form sealed = sealed.length ≡ envelope_length form

-- ---- how what a pass knows changes. The first pass doesn't know the form before it makes a sender

abbrev pub first : Hand
first = record { puts = true; form = One; number = 0; put = []; senders = 0; taken = []; closed = [] }

abbrev pub with_sender : Form → Hand → Hand
with_sender form hand = record hand { form = form; senders = hand.senders + 1 }

abbrev pub new_sender : Form → Hand → Hand
new_sender form hand = record { puts = true; form = form; number = hand.senders + 1; put = []; senders = 0; taken = []; closed = [] }

abbrev pub with_closed : Hand → Hand → Hand
with_closed hand other = record hand { closed = hand.closed ++ record { number = other.number; put = other.put } ∷ [] }

abbrev pub spent : Hand
spent = record { puts = false; form = One; number = 0; put = []; senders = 0; taken = []; closed = [] }

abbrev pub with_put : Hand → Sealed → Hand
with_put hand sealed = record hand { put = hand.put ++ sealed ∷ [] }

abbrev pub with_taken : Hand → Sealed → Hand
with_taken hand sealed = record hand { taken = hand.taken ++ sealed ∷ [] }

-- ---- the rule

-- a pass that may put is known by its place, and has put what the log has of it
abbrev pub OwnLog : List (ℕ × Sealed) → List Hand → Type 0
OwnLog log hands = (place : ℕ) (hand : Hand) → get_elem? hands place ≡ some hand → hand.puts ≡ true → (hand.number ≡ place) × (hand.put ≡ put_by place log)

-- a sender that is given back had put what the log has of it, and puts no more
abbrev pub IsClosed : List (ℕ × Sealed) → List Hand → Closed → Type 0
IsClosed log hands closed = (closed.put ≡ put_by closed.number log) × (closed.number < length hands) × ((hand : Hand) → get_elem? hands closed.number ≡ some hand → hand.puts ≡ false)

-- how many passes there are, what was taken, and what the closed senders had put
abbrev pub Knows : List (ℕ × Sealed) → List Sealed → List Hand → Hand → Type 0
Knows log taken hands hand = (hand.taken ≡ taken) × (length hands ≡ hand.senders + 1) × All (IsClosed log hands) hand.closed

-- the taker knows it
abbrev pub TakerLog : List (ℕ × Sealed) → List Sealed → List Hand → Type 0
TakerLog log taken hands = (hand : Hand) → get_elem? hands 0 ≡ some hand → Knows log taken hands hand

-- each pass that may put knows this form
abbrev pub KnowForm : Form → List Hand → Type 0
KnowForm form hands = (place : ℕ) (hand : Hand) → get_elem? hands place ≡ some hand → hand.puts ≡ true → hand.form ≡ form

-- all that was put is of the form that they know
abbrev pub IsOfOneForm : List (ℕ × Sealed) → List Hand → Type 0
IsOfOneForm log hands = (form : Form) × All (IsSealedOf form) (envelopes log) × KnowForm form hands

-- What was put is what was taken, and then what waits
abbrev pub Kept : List Sealed → List Hand → Type 0
Kept waiting hands = (log : List (ℕ × Sealed)) × (taken : List Sealed) × (envelopes log ≡ taken ++ waiting)
    × OwnLog log hands × TakerLog log taken hands × ((number : ℕ) → length hands ≤ number → put_by number log ≡ []) × IsOfOneForm log hands

-- ---- what a pass sees of what waits

-- some log ends with what waits, and has what this sender put
abbrev pub SenderSees : Hand → List Sealed → Type 0
SenderSees hand waiting = (log : List (ℕ × Sealed)) × (taken : List Sealed) × (envelopes log ≡ taken ++ waiting) × (hand.put ≡ put_by hand.number log)

-- some log is what was taken and what waits, has what the closed senders had put, and is of the form
abbrev pub TakerSees : Hand → List Sealed → Type 0
TakerSees hand waiting = (log : List (ℕ × Sealed)) × (envelopes log ≡ hand.taken ++ waiting)
    × (hand.put ≡ put_by 0 log) × All (λ (closed : Closed). closed.put ≡ put_by closed.number log) hand.closed
    × ((number : ℕ) → hand.senders + 1 ≤ number → put_by number log ≡ []) × All (IsSealedOf hand.form) (envelopes log)
