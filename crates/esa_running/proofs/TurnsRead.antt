-- The turns file that a crew's run leaves is accepted, and read as the turns that were stored.
use Rattle.std.proofs.Common.{◌≡◌, ◌≢◌, ℕ, ◌+◌, ◌*◌, ◌<◌, ◌≤◌, Bool, false, cond, Some, Option, Ok, List, [], ◌∷◌, ◌++◌, All, length, flat_map, refl, sym, ap, ◌∙◌, subst, arith, length-append}
use Rattle.std.specs.Prelude.{decimal, nat_lt}
use Rattle.std.proofs.lemmas.Fmt.{length-decimal-le}
use Rattle.std.proofs.lemmas.List.{get_or_default}
use Rattle.std.proofs.lemmas.List.Elements.{All-head, All-tail}
use Rattle.std.proofs.lemmas.List.Sums.{sum_by-cons}
use Rattle.esa_command.specs.Step.{Step, ◌>>=◌, Reads, accepted, missing, refused, within}
use Rattle.esa_command.specs.Taking.{job_file, keys_file, read_step}
use Rattle.esa_job.specs.Request.{Request, name_at}
use Rattle.esa_job.specs.declared.command.Command.{Command}
use Rattle.esa_job.specs.declared.field.JobField.TheVariants as field
use Rattle.esa_model.specs.Drafts.{turns_in as number_of_turns}
use Rattle.esa_model.specs.Turns.{AreWorkers, CanRead, turns_of}
use Rattle.esa_model.proofs.ReadBack.{turns-back}
use Rattle.esa_params.specs.Numbers.{Numbers}
use Rattle.esa_params.specs.Sizes.{Sizes}
use Rattle.esa_refusal.specs.Source.{limit_of, role_of}
use Rattle.esa_refusal.specs.Stop.{turns_refusal}
use Rattle.esa_refusal.specs.declared.refusal.Refusal.TheVariants.{Large}
use Rattle.esa_refusal.specs.declared.source.Source.TheVariants as source
use Rattle.esa_shuffling.specs.Shuffle.{coins_file, numbers_asked, read_turns, turns_file, where_named}
use Rattle.esa_spec.specs.Files.{next_line, turn_line, turns_bytes}
use Rattle.esa_spec.specs.Histories.{lists}
use Rattle.esa_taking.specs.Run.{Asked, run_asked, run_batched, run_drawn, run_dropped, run_keyed, run_steps, run_turned, sizes_with, batch_file, drops_file}
use Rattle.esa_taking.specs.Wanted.{sizes_in, turns_by}
use Rattle.esa_running.specs.Replaying.{ActedRun, MayBeRead, turns_left}
use Rattle.esa_running.specs.declared.purpose.Purpose.{Purpose}
use Rattle.esa_running.proofs.Turned.{stored_are}

-- ---- how long the file is

module _ (w : ℕ) (small : w ≤ 16) where
  -- a worker's number has two digits at most
  line-short : (v : ℕ) → v < w → length (turn_line v) ≤ 3
  line-short v below = omega (arith, length-append (decimal v) (10 ∷ []), length-decimal-le 2 v (omega arith) (omega (arith, small, below)) (omega (arith, small, below)), small, below)

  lines-short : (h : List ℕ) → All (λ v. v < w) h → length (flat_map turn_line h) ≤ 3 * length h
  lines-short [] workers = omega arith
  lines-short (v ∷ h) workers =
      omega (arith, length-append (turn_line v) (flat_map turn_line h), line-short v (All-head (λ v. v < w) v h workers), lines-short h (All-tail (λ v. v < w) v h workers))

  bytes-short : (hs : List (List ℕ)) → AreWorkers w hs → length (turns_bytes hs) ≤ 3 * number_of_turns hs + 5 * length hs
  bytes-short [] workers = omega arith
  bytes-short (h ∷ []) workers =
      omega (arith, lines-short h (All-head (All (λ v. v < w)) h [] workers), sum_by-cons length h [])
  bytes-short (h ∷ other ∷ more) workers =
      let next : length next_line ≡ 5 = refl in
      let rest = turns_bytes (other ∷ more) in
      omega (
        arith,
        length-append (flat_map turn_line h ++ next_line) rest,
        length-append (flat_map turn_line h) next_line,
        next,
        lines-short h (All-head (All (λ v. v < w)) h (other ∷ more) workers),
        bytes-short (other ∷ more) (All-tail (All (λ v. v < w)) h (other ∷ more) workers),
        sum_by-cons length h (other ∷ more),
      )

-- ---- the step that reads it

-- a file that is there and isn't too long
not-too-long : (limit : ℕ) (held : Option (List ℕ)) (bytes : List ℕ) → held ≡ Some bytes → length bytes ≤ limit → within limit source.Turns held ≡ accepted bytes
not-too-long limit held bytes is short =
    let small : nat_lt limit (length bytes) ≡ false = grind (arith, short) in
    ap (within limit source.Turns) is ∙ ap (λ large. cond large (refused (Large (role_of source.Turns))) (accepted bytes)) small

some-lists : (hs : List (List ℕ)) → hs ≢ [] → 1 ≤ length hs
some-lists [] none = absurd (none refl)
some-lists (h ∷ hs) none = omega arith

-- steps after a first one, and what is accepted in the end
then : {A B : Type 0} (step : Step A) (next : A → Step B) (made : B) (P : Type 0) → ((value : A) → step ≡ accepted value → next value ≡ accepted made → P) → (step >>= next) ≡ accepted made → P
then (accepted value) next made P each is = each value refl is
then (refused refusal) next made P each is = absurd (cc)
then (missing gone) next made P each is = absurd (cc)

-- its turns are those of its turns file
abbrev AsksTurns : Command → Reads → Asked → Type 0
AsksTurns command read again = turns_file command again.job read ≡ accepted again.turns

-- the turns that a shuffle is asked for are those of its turns file
turns-asked : (command : Command) (crews : Bool) (name : List ℕ) (read : Reads) (again : Asked) → run_steps command crews name read ≡ accepted again → turns_file command again.job read ≡ accepted again.turns
unfolding run_steps
turns-asked command crews name read again is =
    then (job_file command crews name read) (run_asked command read) again (AsksTurns command read again)
    (λ job of_job is. then (keys_file command false job read) (run_keyed command job read) again (AsksTurns command read again)
    (λ keys of_keys is. then (drops_file command job read) (run_dropped command job keys read) again (AsksTurns command read again)
    (λ drops of_drops is. then (turns_file command job read) (run_turned command job keys drops read) again (AsksTurns command read again)
    (λ turns of_turns is. then (batch_file command job read) (run_batched command job keys drops turns read) again (AsksTurns command read again)
    (λ batch of_batch is. then (coins_file command (sizes_with job batch) job read) (run_drawn job keys drops turns batch) again (AsksTurns command read again)
    (λ draws of_draws is.
    let made : Asked = record { job = job; keys = keys; drops = drops; turns = turns; batch = batch; draws = draws } in
    let same : made ≡ again = cc in
    subst (λ (x : Asked). turns_file command x.job read ≡ accepted x.turns) same of_turns) is) is) is) is) is) is

same-turns : (one other : List (List ℕ)) → accepted one ≡ accepted other → one ≡ other
same-turns one other is = cc

-- ---- a crew's file

module _ {V : Type 0} {purpose : Purpose} (run : ActedRun V purpose) (may : MayBeRead run) where
  abbrev p : Sizes
  p = sizes_in run.asked

  abbrev hs : List (List ℕ)
  hs = lists p.workers run.history

  of-workers : AreWorkers p.workers hs
  of-workers = λ a d inside.
      subst (All (λ v. v < p.workers)) (get_or_default hs a [] d inside) ((run.owes.crew may.crew).took_part a inside).workers

  stored : hs ≡ turns_by run.asked run.history
  stored = stored_are run.asked p run.history refl may.crew

  few-lists : length hs ≤ p.attempts
  few-lists = omega (arith, ap length stored, run.owes.few)

  can-read : CanRead p.workers p.attempts hs
  can-read = record { some = some-lists hs may.begun; lists = few-lists; turns = may.few; workers = of-workers }

  reads-back : turns_of p.workers p.attempts (turns_bytes hs) ≡ Ok hs
  reads-back = turns-back p.workers p.attempts hs (omega (arith, may.planned.parameters.workers_greatest)) can-read

  short : length (turns_bytes hs) ≤ 16777216
  short =
      omega (arith, bytes-short p.workers may.planned.parameters.workers_greatest hs of-workers, may.few, few-lists, may.planned.parameters.attempts_greatest)

  module _ (command : Command) (job : Request) (read : Reads) (name : List ℕ) (numbers : numbers_asked job ≡ numbers_asked run.asked.job) (named : name_at job field.Turns ≡ Some name) (there : read source.Turns name ≡ Some (turns_left run)) where
    abbrev reader : List ℕ → Step (List (List ℕ))
    reader bytes = read_step turns_refusal (turns_of (numbers_asked job).workers (numbers_asked job).attempts bytes)

    pub file-is-read : turns_file command job read ≡ accepted (turns_by run.asked run.history)
    unfolding turns_file
    file-is-read =
        ap (λ n. where_named n (read_turns command job read) []) named
        ∙ ap (λ text. text >>= reader) (not-too-long (limit_of command source.Turns) (read source.Turns name) (turns_bytes hs) there short)
        ∙ ap (λ (n : Numbers). read_step turns_refusal (turns_of n.workers n.attempts (turns_bytes hs))) numbers
        ∙ ap (read_step turns_refusal) reads-back
        ∙ ap accepted stored

  pub turns-are-asked : (command : Command) (crews : Bool) (of : List ℕ) (read : Reads) (name : List ℕ) (again : Asked) → run_steps command crews of read ≡ accepted again
      → numbers_asked again.job ≡ numbers_asked run.asked.job → name_at again.job field.Turns ≡ Some name → read source.Turns name ≡ Some (turns_left run)
      → again.turns ≡ turns_by run.asked run.history
  turns-are-asked command crews of read name again is numbers named there =
      same-turns again.turns (turns_by run.asked run.history)
      (sym (turns-asked command crews of read again is) ∙ file-is-read command again.job read name numbers named there)
