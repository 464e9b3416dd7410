use Rattle.std.proofs.Common.{◌≡◌, Bool, ℕ, List, Some, refl}
use Rattle.std.proofs.lemmas.Result.{err_from_is_err_and}
use Rattle.esa_job.specs.Keys.{keys_of}
use Rattle.esa_job.specs.Request.{Request, name_at}
use Rattle.esa_job.specs.Seen.{request_of}
use Rattle.esa_job.specs.declared.command.Command.{Command}
use Rattle.esa_job.specs.declared.field.JobField.TheVariants as field
use Rattle.esa_job.specs.declared.keys.KeysRefused.TheVariants.{OutOfMemory}
use Rattle.esa_refusal.specs.Stop.{keys_refusal, stop_of_keys}
use Rattle.esa_refusal.specs.declared.source.Source.TheVariants as source
use Rattle.esa_refusal.proofs.Stops.{keys_stops}
use Rattle.esa_command.specs.Stand.{stand}
use Rattle.esa_command.specs.Step.{◌>>=◌, file}
use Rattle.esa_command.specs.Taking.{keys_file, read_step}
use Rattle.esa_command.proofs.Readers.{called_name, file_gone, file_read, file_unread}
use Rattle.esa_command.proofs.taking.take_keys.Goals as goal

same_steps : (command : Command) (shares : Bool) (job : Request) (called : List ℕ) → name_at job field.Keys ≡ Some called
    → (λ read. file command source.Keys called read >>= λ text. read_step keys_refusal (keys_of command shares text)) ≡ keys_file command shares job
unfolding keys_file
same_steps command shares job called is = λ i read. file command source.Keys (called_name job field.Keys called is i) read >>= λ text. read_step keys_refusal (keys_of command shares text)

pub returns-in_err-text-clause-judged : goal.returns-in_err-text-clause-judged
returns-in_err-text-clause-judged g c =
    let p = err_from_is_err_and c.from_residual.result c.from_residual.ensures.1 in
    let stands = stand g.K.Cabinet.told g.K.Cabinet.faults g.K.Cabinet.heard in
    let command = c.args.command in
    let job = request_of c.args.job.now in
    let called = c.keys.result.now in
    rw (p.1, p.2) (file_gone (λ ring. ring) command source.Keys called (λ text. read_step keys_refusal (keys_of command c.args.shares text)) (keys_file command c.args.shares job)
    (same_steps command c.args.shares job called c.keys.ensures) (stands c.args.cabinet.now) (stands c.read_file.new.cabinet) c.in_err-text.field-0.0 c.in_err-text.ensures)

pub returns-in_err-read-clause-judged : goal.returns-in_err-read-clause-judged
returns-in_err-read-clause-judged g c =
    let p = err_from_is_err_and c.from_residual-in_err-read.result c.from_residual-in_err-read.ensures.1 in
    let stands = stand g.K.Cabinet.told g.K.Cabinet.faults g.K.Cabinet.heard in
    let command = c.args.command in
    let job = request_of c.args.job.now in
    let called = c.keys.result.now in
    let error = c.in_err-read.field-0.0 in
    rw (p.1, p.2) (file_unread (λ ring. ring) command source.Keys called keys_refusal (keys_of command c.args.shares) (keys_file command c.args.shares job)
    (same_steps command c.args.shares job called c.keys.ensures) (stands c.args.cabinet.now) (stands c.read_file.new.cabinet) c.in_ok-text.text c.in_ok-text.ensures c.deref.result.now c.deref.ensures.value
    OutOfMemory error stop_of_keys refl (keys_stops error) c.in_err-read.ensures.err)

pub returns-clause-judged : goal.returns-clause-judged
returns-clause-judged g c =
    let stands = stand g.K.Cabinet.told g.K.Cabinet.faults g.K.Cabinet.heard in
    let command = c.args.command in
    let job = request_of c.args.job.now in
    let called = c.keys.result.now in
    file_read (λ ring. ring) command source.Keys called keys_refusal (keys_of command c.args.shares) (keys_file command c.args.shares job)
    (same_steps command c.args.shares job called c.keys.ensures) (stands c.args.cabinet.now) (stands c.read_file.new.cabinet) c.in_ok-text.text c.in_ok-text.ensures c.deref.result.now c.deref.ensures.value
    c.in_ok-read.field-0 c.in_ok-read.ensures.ok
