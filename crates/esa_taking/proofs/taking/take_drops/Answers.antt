use Rattle.std.proofs.Common.{◌≡◌, Some, None, Err, ap, sym, subst, ◌∙◌, arith}
use Rattle.std.specs.Prelude.{option_map, replicate}
use Rattle.std.proofs.lemmas.Result.{err_from_is_err_and}
use Rattle.esa_job.specs.Drops.{drops_of}
use Rattle.esa_job.specs.Request.{name_at}
use Rattle.esa_job.specs.Seen.{request_of}
use Rattle.esa_job.specs.declared.field.JobField.TheVariants as field
use Rattle.esa_refusal.specs.declared.source.Source.TheVariants as source
use Rattle.esa_command.specs.Judged.{Judged}
use Rattle.esa_command.specs.Stand.{stand}
use Rattle.esa_command.specs.Step.{accepted, file}
use Rattle.esa_command.specs.Taking.{read_step}
use Rattle.esa_command.proofs.Composition.{judged_stop, judged_steps, judged_already, judged_refused}
use Rattle.esa_command.proofs.Readers.{judged_read}
use Rattle.esa_shuffling.specs.Shuffle.{where_named}
use Rattle.esa_taking.specs.Run.{drops_refusal, read_drops, drops_file}
use Rattle.esa_taking.proofs.Needed.{of_drops}
use Rattle.esa_taking.proofs.taking.take_drops.Goals as goal

pub returns-in-None : goal.returns-in-None
unfolding drops_file
returns-in-None g c =
    let job = request_of c.args.job.now in
    let command = c.args.command in
    let before = stand g.K.Cabinet.told g.K.Cabinet.faults g.K.Cabinet.heard c.args.cabinet.now in
    let none : name_at job field.Drops ≡ None = sym c.drops.ensures ∙ ap (option_map (λ name. name.now)) c.in-None.is in
    judged_already 2 3 (λ drops. drops) (drops_file command job) before c.zero.result (omega arith)
    (λ read. (λ i. where_named (none i) (read_drops command read) (replicate 256 0)) ∙ ap accepted (sym c.zero.ensures))

pub returns-in_err-bytes-in-Some : goal.returns-in_err-bytes-in-Some
unfolding drops_file
returns-in_err-bytes-in-Some g c =
    let p = err_from_is_err_and c.from_residual.result c.from_residual.ensures.1 in
    let stands = stand g.K.Cabinet.told g.K.Cabinet.faults g.K.Cabinet.heard in
    let job = request_of c.args.job.now in
    let command = c.args.command in
    let name = c.in-Some.name.now in
    let named : name_at job field.Drops ≡ Some name = sym c.drops.ensures ∙ ap (option_map (λ name. name.now)) c.in-Some.is in
    rw (p.1, p.2) (judged_steps 2 3 (λ drops. drops) (λ read. read_drops command read name) (drops_file command job) (stands c.args.cabinet.now) (stands c.read_file.new.cabinet) _
    (λ i read. where_named (sym named i) (read_drops command read) (replicate 256 0))
    (judged_stop 2 2 3 3 (λ bytes. bytes.items) (λ drops. drops) (file command source.Drops name) (λ _ bytes. read_step drops_refusal (drops_of bytes))
    (stands c.args.cabinet.now) (stands c.read_file.new.cabinet) c.in_err-bytes-in-Some.field-0.0 (omega arith) c.in_err-bytes-in-Some.ensures))

pub returns-in-Ok : goal.returns-in-Ok
unfolding drops_file
returns-in-Ok g c =
    let stands = stand g.K.Cabinet.told g.K.Cabinet.faults g.K.Cabinet.heard in
    let job = request_of c.args.job.now in
    let command = c.args.command in
    let name = c.in-Some.name.now in
    let named : name_at job field.Drops ≡ Some name = sym c.drops.ensures ∙ ap (option_map (λ name. name.now)) c.in-Some.is in
    judged_steps 2 3 (λ drops. drops) (λ read. read_drops command read name) (drops_file command job) (stands c.args.cabinet.now) (stands c.read_file.new.cabinet) _
    (λ i read. where_named (sym named i) (read_drops command read) (replicate 256 0))
    (judged_read 2 3 (λ bytes. bytes.items) (λ drops. drops) (file command source.Drops name) drops_refusal drops_of c.in_ok-bytes-in-Some.bytes
    (stands c.args.cabinet.now) (stands c.read_file.new.cabinet) c.in_ok-bytes-in-Some.ensures c.in-Ok.drops (ap drops_of (sym c.deref.ensures.value) ∙ c.in-Ok.ensures.ok))

pub returns : goal.returns
unfolding drops_file
returns g c =
    let stands = stand g.K.Cabinet.told g.K.Cabinet.faults g.K.Cabinet.heard in
    let job = request_of c.args.job.now in
    let command = c.args.command in
    let name = c.in-Some.name.now in
    let named : name_at job field.Drops ≡ Some name = sym c.drops.ensures ∙ ap (option_map (λ name. name.now)) c.in-Some.is in
    let refused = c.in-Err.refused in
    subst (λ stop. Judged 2 3 (λ drops. drops) (drops_file command job) (stands c.args.cabinet.now) (stands c.read_file.new.cabinet) (Err stop)) (sym c.stop_for_drops.ensures)
    (judged_steps 2 3 (λ drops. drops) (λ read. read_drops command read name) (drops_file command job) (stands c.args.cabinet.now) (stands c.read_file.new.cabinet) _
    (λ i read. where_named (sym named i) (read_drops command read) (replicate 256 0))
    (judged_refused 2 3 (λ bytes. bytes.items) (λ drops. drops) (file command source.Drops name) (λ bytes. read_step drops_refusal (drops_of bytes)) c.in_ok-bytes-in-Some.bytes
    (stands c.args.cabinet.now) (stands c.read_file.new.cabinet) c.in_ok-bytes-in-Some.ensures (drops_refusal refused)
    (ap (read_step drops_refusal) (ap drops_of (sym c.deref.ensures.value) ∙ c.in-Err.ensures.err)) (of_drops refused)))
