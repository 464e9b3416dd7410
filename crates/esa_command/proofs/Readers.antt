-- What is read of the bytes of a file.
use Rattle.std.proofs.Common.{Global, Vec, ◌≡◌, ◌⊎◌, inl, inr, ℕ, ◌+◌, List, [], Some, Result, Ok, Err, ap, sym, ◌∙◌, arith}
use Rattle.std.specs.Prelude.{unwrap_or}
use Rattle.esa_lists.specs.Files.{Files}
use Rattle.esa_job.specs.declared.command.Command.{Command}
use Rattle.esa_job.specs.declared.field.JobField.{JobField}
use Rattle.esa_job.specs.Request.{Request, name_at}
use Rattle.esa_refusal.specs.declared.refusal.Refusal.{Refusal}
use Rattle.esa_refusal.specs.declared.source.Source.{Source}
use Rattle.esa_refusal.specs.declared.stop.Stop.{Stop}
use Rattle.esa_refusal.specs.declared.stop.Stop.TheVariants.{OutOfMemory}
use Rattle.esa_refusal.specs.Source.{place_of}
use Rattle.esa_refusal.proofs.Stops.{Stopping}
use Rattle.esa_command.specs.Judged.{Judged}
use Rattle.esa_command.specs.Stand.{Stand}
use Rattle.esa_command.specs.Step.{Step, ◌>>=◌, accepted, refused, Reads, file}
use Rattle.esa_command.specs.Taking.{name_of, read_step}
use Rattle.esa_command.proofs.Composition.{judged_made, judged_not_made, judged_steps, judged_stop}

-- what is made of a step's value stops, for want of memory or for what is wrong with it
pub judged_stops : {X Y A B : Type 0} (first last : ℕ) (one : X → A) (two : Y → B) (steps : Reads → Step A) (next : A → Step B) (value : X) (before now : Stand Files) → Judged first last one steps before now (Ok value)
    → (refusal : Refusal) (stop : Stop) → Stopping stop refusal → (stop ≡ OutOfMemory) ⊎ (next (one value) ≡ refused refusal) → Judged first last two (λ read. steps read >>= next) before now (Err stop)
judged_stops first last one two steps next value before now j refusal stop stops answer =
    judged_not_made first last one two steps next value before now j refusal stop
    (elim answer [
      | inl starved ↦ inl starved
      | inr is ↦ elim stops [
        | inl none ↦ inl none
        | inr wrong ↦ inr (wrong.0, is, wrong.1)
      ]
    ])

-- `steps` give the bytes, as the list that `one` sees, and `reader` says what they are
pub judged_read : {X Y A B E : Type 0} (first last : ℕ) (one : X → A) (two : Y → B) (steps : Reads → Step A) (why : E → Refusal) (reader : A → Result B E) (value : X) (before now : Stand Files) → Judged first last one steps before now (Ok value)
    → (made : Y) → reader (one value) ≡ Ok (two made) → Judged first last two (λ read. steps read >>= λ all. read_step why (reader all)) before now (Ok made)
judged_read first last one two steps why reader value before now j made is = judged_made first last one two steps (λ all. read_step why (reader all)) value before now j made (ap (read_step why) is)

-- the name that a job has at a field
pub called_name : (request : Request) (field : JobField) (called : List ℕ) → name_at request field ≡ Some called → called ≡ name_of request field
called_name request field called is = sym (ap (λ name. unwrap_or name []) is)

-- A file of this name is read whole, and `next` says what is made of its bytes. `is` says that this is what `steps` do.
module _ {Y B : Type 0} (two : Y → B) (command : Command) (source : Source) (called : List ℕ) (next : List ℕ → Step B) (steps : Reads → Step B) (is : (λ read. file command source called read >>= next) ≡ steps)
    (before now : Stand Files) where
  abbrev pub WasRead : Result (Vec ℕ Global) Stop → Type 0
  WasRead result = Judged (place_of source) (place_of source + 1) (λ bytes. bytes.items) (file command source called) before now result

  abbrev pub IsTaken : Result Y Stop → Type 0
  IsTaken result = Judged (place_of source) (place_of source + 1) two steps before now result

  taken : (result : Result Y Stop) → Judged (place_of source) (place_of source + 1) two (λ read. file command source called read >>= next) before now result → IsTaken result
  taken result j = judged_steps (place_of source) (place_of source + 1) two (λ read. file command source called read >>= next) steps before now result is j

  -- it isn't read
  pub file_gone : (stop : Stop) → WasRead (Err stop) → IsTaken (Err stop)
  file_gone stop j = taken (Err stop)
      (judged_stop (place_of source) (place_of source) (place_of source + 1) (place_of source + 1) (λ bytes. bytes.items) two (file command source called) (λ _ bytes. next bytes) before now stop (omega arith) j)

  module _ (bytes : Vec ℕ Global) (j : WasRead (Ok bytes)) where
    -- something is made of its bytes
    pub file_made : (made : Y) → next bytes.items ≡ accepted (two made) → IsTaken (Ok made)
    file_made made answer = taken (Ok made)
        (judged_made (place_of source) (place_of source + 1) (λ bytes. bytes.items) two (file command source called) next bytes before now j made answer)

    -- or nothing is, for want of memory or for what is wrong with them
    pub file_stops : (refusal : Refusal) (stop : Stop) → Stopping stop refusal → (stop ≡ OutOfMemory) ⊎ (next bytes.items ≡ refused refusal) → IsTaken (Err stop)
    file_stops refusal stop stops answer = taken (Err stop)
        (judged_stops (place_of source) (place_of source + 1) (λ bytes. bytes.items) two (file command source called) next bytes before now j refusal stop stops answer)

-- the same where `reader` says what the bytes are, which it was handed as `seen`
module _ {Y B E : Type 0} (two : Y → B) (command : Command) (source : Source) (called : List ℕ) (why : E → Refusal) (reader : List ℕ → Result B E) (steps : Reads → Step B)
    (is : (λ read. file command source called read >>= λ all. read_step why (reader all)) ≡ steps) (before now : Stand Files)
    (bytes : Vec ℕ Global) (j : WasRead two command source called (λ all. read_step why (reader all)) steps is before now (Ok bytes)) (seen : List ℕ) (same : seen ≡ bytes.items) where
  pub file_read : (made : Y) → reader seen ≡ Ok (two made) → IsTaken two command source called (λ all. read_step why (reader all)) steps is before now (Ok made)
  file_read made answer = file_made two command source called (λ all. read_step why (reader all)) steps is before now bytes j made (ap (read_step why) (ap reader (sym same) ∙ answer))

  pub file_unread : (memory error : E) (stop_of : E → Stop) → stop_of memory ≡ OutOfMemory → Stopping (stop_of error) (why error) → (error ≡ memory) ⊎ (reader seen ≡ Err error)
      → IsTaken two command source called (λ all. read_step why (reader all)) steps is before now (Err (stop_of error))
  file_unread memory error stop_of starves stops answer =
      file_stops two command source called (λ all. read_step why (reader all)) steps is before now bytes j (why error) (stop_of error) stops
      (elim answer [
        | inl starved ↦ inl (ap stop_of starved ∙ starves)
        | inr wrong ↦ inr (ap (read_step why) (ap reader (sym same) ∙ wrong))
      ])
