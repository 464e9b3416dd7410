use Rattle.std.proofs.Common.{◌≡◌, inr, ℕ, List, Some, refl}
use Rattle.std.proofs.lemmas.Result.{err_from_is_err_and}
use Rattle.esa_job.specs.Request.{Request, name_at}
use Rattle.esa_job.specs.Seen.{request_of}
use Rattle.esa_job.specs.declared.command.Command.{Command}
use Rattle.esa_job.specs.declared.field.JobField.TheVariants as field
use Rattle.esa_threshold.specs.Forward.{forward_in}
use Rattle.esa_threshold.specs.declared.refused.ForwardRefused.TheVariants.{OutOfMemory}
use Rattle.esa_refusal.specs.declared.refusal.Refusal.TheVariants as refusal
use Rattle.esa_refusal.specs.declared.source.Source.TheVariants as source
use Rattle.esa_refusal.specs.Stop.{stop_of_forward}
use Rattle.esa_refusal.proofs.Stops.{forward_stops}
use Rattle.esa_command.specs.Stand.{stand}
use Rattle.esa_command.specs.Step.{◌>>=◌, file}
use Rattle.esa_command.specs.Taking.{read_step}
use Rattle.esa_command.proofs.Readers.{called_name, file_gone, file_read, file_unread}
use Rattle.esa_analysing.specs.Analyse.{forward_file}
use Rattle.esa_analysing.proofs.forwarding.take_forward.Goals as goal

same_steps : (command : Command) (job : Request) (called : List ℕ) → name_at job field.Input ≡ Some called
    → (λ read. file command source.Input called read >>= λ bytes. read_step refusal.Forward (forward_in bytes)) ≡ forward_file command job
unfolding forward_file
same_steps command job called is = λ i read. file command source.Input (called_name job field.Input called is i) read >>= λ bytes. read_step refusal.Forward (forward_in bytes)

pub returns-in_err-bytes-clause-judged : goal.returns-in_err-bytes-clause-judged
returns-in_err-bytes-clause-judged g c =
    let p = err_from_is_err_and c.from_residual.result c.from_residual.ensures.1 in
    let stands = stand g.K.Cabinet.told g.K.Cabinet.faults g.K.Cabinet.heard in
    let command = c.args.command in
    let job = request_of c.args.job.now in
    let called = c.input.result.now in
    rw (p.1, p.2) (file_gone (λ forwarded. forwarded) command source.Input called (λ bytes. read_step refusal.Forward (forward_in bytes)) (forward_file command job) (same_steps command job called c.input.ensures)
    (stands c.args.cabinet.now) (stands c.read_file.new.cabinet) c.in_err-bytes.field-0.0 c.in_err-bytes.ensures)

pub returns-in_err-forward_of-clause-judged : goal.returns-in_err-forward_of-clause-judged
returns-in_err-forward_of-clause-judged g c =
    let p = err_from_is_err_and c.from_residual-in_err-forward_of.result c.from_residual-in_err-forward_of.ensures.1 in
    let stands = stand g.K.Cabinet.told g.K.Cabinet.faults g.K.Cabinet.heard in
    let command = c.args.command in
    let job = request_of c.args.job.now in
    let called = c.input.result.now in
    let error = c.in_err-forward_of.field-0.0 in
    rw (p.1, p.2) (file_unread (λ forwarded. forwarded) command source.Input called refusal.Forward forward_in (forward_file command job) (same_steps command job called c.input.ensures)
    (stands c.args.cabinet.now) (stands c.read_file.new.cabinet) c.in_ok-bytes.bytes c.in_ok-bytes.ensures c.in_ok-bytes.bytes.items refl
    OutOfMemory error stop_of_forward refl (forward_stops error) (inr c.in_err-forward_of.ensures.first_refusal))

pub returns-clause-judged : goal.returns-clause-judged
returns-clause-judged g c =
    let stands = stand g.K.Cabinet.told g.K.Cabinet.faults g.K.Cabinet.heard in
    let command = c.args.command in
    let job = request_of c.args.job.now in
    let called = c.input.result.now in
    file_read (λ forwarded. forwarded) command source.Input called refusal.Forward forward_in (forward_file command job) (same_steps command job called c.input.ensures)
    (stands c.args.cabinet.now) (stands c.read_file.new.cabinet) c.in_ok-bytes.bytes c.in_ok-bytes.ensures c.in_ok-bytes.bytes.items refl c.in_ok-forward_of.field-0 c.in_ok-forward_of.ensures.first_refusal
