-- The envelope of a line that is offered.
use Rattle.std.specs.Prelude.{◌≡◌, ℕ, ◌-◌, List, [], ◌∷◌, ◌++◌, length, replicate, Ok}
use Rattle.esa_params.specs.declared.form.Form.{Form}
use Rattle.esa_batcher.specs.Adding.{envelope_in}
use Rattle.esa_intake.specs.declared.sealed.Sealed.{Sealed}

-- an envelope as it waits: zero bytes behind it
abbrev pub sealed_of : List ℕ → Sealed
sealed_of envelope = record { length = length envelope; bytes = envelope ++ replicate (304 - length envelope) 0 }

-- it is the envelope of the line
abbrev pub IsSealedLine : Form → List ℕ → Sealed → Type 0
IsSealedLine form line sealed = (envelope : List ℕ) × (envelope_in form line ≡ Ok envelope) × (sealed ≡ sealed_of envelope)

-- it is a submission line of the form
abbrev pub IsAccepted : Form → List ℕ → Type 0
IsAccepted form line = (envelope : List ℕ) × (envelope_in form line ≡ Ok envelope)

-- the line's envelope joins the list
abbrev pub JoinsLine : Form → List ℕ → List Sealed → List Sealed → Type 0
JoinsLine form line before now = (envelope : List ℕ) × (envelope_in form line ≡ Ok envelope) × (now ≡ before ++ sealed_of envelope ∷ [])
