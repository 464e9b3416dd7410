use Rattle.std.proofs.Common.{◌≡◌, ◌⊎◌, ℕ, List, [], Some, None, Result, Err, refl, ap, sym, subst, ◌∙◌, arith}
use Rattle.std.specs.Prelude.{option_map}
use Rattle.std.proofs.lemmas.Result.{err_from_is_err_and}
use Rattle.esa_job.specs.Seen.{request_of}
use Rattle.esa_job.specs.Request.{Request, name_at}
use Rattle.esa_job.specs.declared.command.Command.{Command}
use Rattle.esa_job.specs.declared.field.JobField.TheVariants as field
use Rattle.esa_model.specs.Turns.{turns_of}
use Rattle.esa_model.specs.declared.turns.TurnsRefused.{TurnsRefused}
use Rattle.esa_model.specs.declared.turns.TurnsRefused.TheVariants.{OutOfMemory}
use Rattle.esa_refusal.specs.declared.source.Source.TheVariants as source
use Rattle.esa_refusal.specs.Stop.{turns_refusal, stop_of_turns}
use Rattle.esa_refusal.proofs.Stops.{turns_stops}
use Rattle.esa_command.specs.Stand.{stand}
use Rattle.esa_command.specs.Step.{◌>>=◌, accepted, file}
use Rattle.esa_command.specs.Taking.{read_step}
use Rattle.esa_command.proofs.Composition.{judged_already}
use Rattle.esa_command.proofs.Readers.{file_gone, file_read, file_unread}
use Rattle.esa_shuffling.specs.Shuffle.{numbers_asked, where_named, read_turns, turns_file}
use Rattle.esa_shuffling.proofs.taking.take_turns.Goals as goal

-- the reader of the turns that a job asks for
abbrev reader : Request → List ℕ → Result (List (List ℕ)) TurnsRefused
reader job = turns_of (numbers_asked job).workers (numbers_asked job).attempts

same_steps : (command : Command) (job : Request) (name : List ℕ) → name_at job field.Turns ≡ Some name
    → (λ read. file command source.Turns name read >>= λ bytes. read_step turns_refusal (reader job bytes)) ≡ turns_file command job
unfolding turns_file
same_steps command job name is = λ i read. where_named (sym is i) (read_turns command job read) []

pub returns-in-None-clause-judged : goal.returns-in-None-clause-judged
unfolding turns_file
returns-in-None-clause-judged g c =
    let job = request_of c.args.job.now in
    let command = c.args.command in
    let before = stand g.K.Cabinet.told g.K.Cabinet.faults g.K.Cabinet.heard c.args.cabinet.now in
    let none : name_at job field.Turns ≡ None = sym c.turns.ensures ∙ ap (option_map (λ name. name.now)) c.in-None.is in
    judged_already 3 4 (λ turns. turns) (turns_file command job) before c.none.result (omega arith)
    (λ read. (λ i. where_named (none i) (read_turns command job read) []) ∙ ap accepted (sym c.none.ensures))

pub returns-in_err-bytes-in-Some-clause-judged : goal.returns-in_err-bytes-in-Some-clause-judged
returns-in_err-bytes-in-Some-clause-judged g c =
    let p = err_from_is_err_and c.from_residual.result c.from_residual.ensures.1 in
    let stands = stand g.K.Cabinet.told g.K.Cabinet.faults g.K.Cabinet.heard in
    let job = request_of c.args.job.now in
    let command = c.args.command in
    let name = c.in-Some.name.now in
    let named : name_at job field.Turns ≡ Some name = sym c.turns.ensures ∙ ap (option_map (λ name. name.now)) c.in-Some.is in
    rw (p.1, p.2) (file_gone (λ turns. turns) command source.Turns name (λ bytes. read_step turns_refusal (reader job bytes)) (turns_file command job) (same_steps command job name named)
    (stands c.args.cabinet.now) (stands c.read_file.new.cabinet) c.in_err-bytes-in-Some.field-0.0 c.in_err-bytes-in-Some.ensures)

pub returns-in_err-turns-in-Some-clause-judged : goal.returns-in_err-turns-in-Some-clause-judged
returns-in_err-turns-in-Some-clause-judged g c =
    let p = err_from_is_err_and c.from_residual-in_err-turns-in-Some.result c.from_residual-in_err-turns-in-Some.ensures.1 in
    let stands = stand g.K.Cabinet.told g.K.Cabinet.faults g.K.Cabinet.heard in
    let job = request_of c.args.job.now in
    let command = c.args.command in
    let name = c.in-Some.name.now in
    let named : name_at job field.Turns ≡ Some name = sym c.turns.ensures ∙ ap (option_map (λ name. name.now)) c.in-Some.is in
    let error = c.in_err-turns-in-Some.field-0.0 in
    let workers : c.workers.result ≡ (numbers_asked job).workers = c.workers.ensures.value ∙ ap (λ numbers. numbers.workers) c.settings-settings.ensures in
    let attempts : c.attempts.result ≡ (numbers_asked job).attempts = c.attempts.ensures.value ∙ ap (λ numbers. numbers.attempts) c.settings-settings.ensures in
    let same : turns_of c.workers.result c.attempts.result c.deref.result.now ≡ reader job c.deref.result.now = λ i. turns_of (workers i) (attempts i) c.deref.result.now in
    rw (p.1, p.2) (file_unread (λ turns. turns) command source.Turns name turns_refusal (reader job) (turns_file command job) (same_steps command job name named)
    (stands c.args.cabinet.now) (stands c.read_file.new.cabinet) c.in_ok-bytes-in-Some.bytes c.in_ok-bytes-in-Some.ensures c.deref.result.now c.deref.ensures.value
    OutOfMemory error stop_of_turns refl (turns_stops error) (subst (λ read. (error ≡ OutOfMemory) ⊎ (read ≡ Err error)) same c.in_err-turns-in-Some.ensures.first_refusal))

pub returns-in_ok-turns-in-Some-clause-judged : goal.returns-in_ok-turns-in-Some-clause-judged
returns-in_ok-turns-in-Some-clause-judged g c =
    let stands = stand g.K.Cabinet.told g.K.Cabinet.faults g.K.Cabinet.heard in
    let job = request_of c.args.job.now in
    let command = c.args.command in
    let name = c.in-Some.name.now in
    let named : name_at job field.Turns ≡ Some name = sym c.turns.ensures ∙ ap (option_map (λ name. name.now)) c.in-Some.is in
    let workers : c.workers.result ≡ (numbers_asked job).workers = c.workers.ensures.value ∙ ap (λ numbers. numbers.workers) c.settings-settings.ensures in
    let attempts : c.attempts.result ≡ (numbers_asked job).attempts = c.attempts.ensures.value ∙ ap (λ numbers. numbers.attempts) c.settings-settings.ensures in
    let same : turns_of c.workers.result c.attempts.result c.deref.result.now ≡ reader job c.deref.result.now = λ i. turns_of (workers i) (attempts i) c.deref.result.now in
    file_read (λ turns. turns) command source.Turns name turns_refusal (reader job) (turns_file command job) (same_steps command job name named)
    (stands c.args.cabinet.now) (stands c.read_file.new.cabinet) c.in_ok-bytes-in-Some.bytes c.in_ok-bytes-in-Some.ensures c.deref.result.now c.deref.ensures.value
    c.in_ok-turns-in-Some.turns (sym same ∙ c.in_ok-turns-in-Some.ensures.first_refusal)
