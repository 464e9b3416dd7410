use Rattle.std.proofs.Common.{◌≡◌, Err, ap, sym, subst, ◌∙◌, arith}
use Rattle.std.specs.Prelude.{unwrap_or, []}
use Rattle.esa_batcher.specs.declared.scan.Scanned.{Scanned}
use Rattle.esa_batcher.specs.declared.scan.ScanRefused.TheVariants.{Grammar}
use Rattle.esa_job.specs.Seen.{request_of}
use Rattle.esa_job.specs.declared.field.JobField.TheVariants as field
use Rattle.esa_refusal.specs.declared.source.Source.TheVariants.{Input}
use Rattle.esa_command.specs.Asked.{number_of}
use Rattle.esa_command.specs.Stand.{stand}
use Rattle.esa_command.specs.Step.{◌>>=◌, file}
use Rattle.esa_command.specs.Taking.{name_of}
use Rattle.esa_command.proofs.Composition.{judged_steps}
use Rattle.esa_taking.specs.Run.{IsInside, batch_step, batch_file}
use Rattle.esa_taking.proofs.BatchSteps.{judged_scanned, judged_large, judged_unfit, judged_failed, heard_number}
use Rattle.esa_taking.proofs.taking.take_batch.Goals as goal

pub returns-in-Ok-clause-judged : goal.returns-in-Ok-clause-judged
unfolding batch_file
returns-in-Ok-clause-judged g c =
    let stands = stand g.K.Cabinet.told g.K.Cabinet.faults g.K.Cabinet.heard in
    let job = request_of c.args.job.now in
    let name : c.input.result.now ≡ name_of job field.Input = sym (ap (λ name. unwrap_or name []) c.input.ensures) in
    let m : c.m.result ≡ number_of job field.M = sym (ap (λ n. unwrap_or n 0) c.m.ensures.value) in
    judged_steps 4 5 (λ (made : Scanned). made) (λ read. file c.args.command Input c.input.result.now read >>= batch_step c.m.result) (batch_file c.args.command job) (stands c.args.cabinet.now) (stands c.scan_batch.new.cabinet) _
    (λ i read. file c.args.command Input (name i) read >>= batch_step (m i))
    (judged_scanned c.args.command c.requires.shuffles c.m.result c.input.result.now (stands c.args.cabinet.now) (stands c.scan_batch.new.cabinet) c.scan_batch.ensures.told
    c.in-Ok.batch c.in-Ok.ensures.heard c.in-Ok.ensures.cause)

pub returns-in-Ok-clause-number : goal.returns-in-Ok-clause-number
returns-in-Ok-clause-number g c =
    let is = heard_number c.m.result c.input.result.now (g.K.Cabinet.told c.args.cabinet.now) (g.K.Cabinet.heard c.args.cabinet.now) (g.K.Cabinet.heard c.scan_batch.new.cabinet) c.in-Ok.batch c.in-Ok.ensures.heard in
    (omega (arith, c.m.ensures.limits, is.many), is.few)

pub returns-in-Ok-clause-inside : goal.returns-in-Ok-clause-inside
returns-in-Ok-clause-inside g c =
    let job = request_of c.args.job.now in
    let name : c.input.result.now ≡ name_of job field.Input = sym (ap (λ name. unwrap_or name []) c.input.ensures) in
    subst (λ name. IsInside (g.K.Cabinet.told c.args.cabinet.now) name c.in-Ok.batch) name c.in-Ok.ensures.whole

pub returns-in-Err-Failed-clause-judged : goal.returns-in-Err-Failed-clause-judged
unfolding batch_file
returns-in-Err-Failed-clause-judged g c =
    let stands = stand g.K.Cabinet.told g.K.Cabinet.faults g.K.Cabinet.heard in
    let job = request_of c.args.job.now in
    let name : c.input.result.now ≡ name_of job field.Input = sym (ap (λ name. unwrap_or name []) c.input.ensures) in
    let m : c.m.result ≡ number_of job field.M = sym (ap (λ n. unwrap_or n 0) c.m.ensures.value) in
    judged_steps 4 5 (λ (made : Scanned). made) (λ read. file c.args.command Input c.input.result.now read >>= batch_step c.m.result) (batch_file c.args.command job) (stands c.args.cabinet.now) (stands c.scan_batch.new.cabinet) _
    (λ i read. file c.args.command Input (name i) read >>= batch_step (m i))
    (judged_failed c.args.command c.requires.shuffles c.m.result c.input.result.now (stands c.args.cabinet.now) (stands c.scan_batch.new.cabinet) c.scan_batch.ensures.told
    (rw c.in-Err-Failed.field-0-is at c.in-Err-Failed.ensures.heard) (rw c.in-Err-Failed.field-0-is at c.in-Err-Failed.ensures.cause).1)

pub returns-in-Err-TooLarge-clause-judged : goal.returns-in-Err-TooLarge-clause-judged
unfolding batch_file
returns-in-Err-TooLarge-clause-judged g c =
    let stands = stand g.K.Cabinet.told g.K.Cabinet.faults g.K.Cabinet.heard in
    let job = request_of c.args.job.now in
    let name : c.input.result.now ≡ name_of job field.Input = sym (ap (λ name. unwrap_or name []) c.input.ensures) in
    let m : c.m.result ≡ number_of job field.M = sym (ap (λ n. unwrap_or n 0) c.m.ensures.value) in
    judged_steps 4 5 (λ (made : Scanned). made) (λ read. file c.args.command Input c.input.result.now read >>= batch_step c.m.result) (batch_file c.args.command job) (stands c.args.cabinet.now) (stands c.scan_batch.new.cabinet) _
    (λ i read. file c.args.command Input (name i) read >>= batch_step (m i))
    (judged_large c.args.command c.requires.shuffles c.m.result c.input.result.now (stands c.args.cabinet.now) (stands c.scan_batch.new.cabinet) c.scan_batch.ensures.told
    c.in-Err-TooLarge.field-0-0 (rw c.in-Err-TooLarge.field-0-is at c.in-Err-TooLarge.ensures.heard) (rw c.in-Err-TooLarge.field-0-is at c.in-Err-TooLarge.ensures.cause))

pub returns-in-Err-Grammar-clause-judged : goal.returns-in-Err-Grammar-clause-judged
unfolding batch_file
returns-in-Err-Grammar-clause-judged g c =
    let stands = stand g.K.Cabinet.told g.K.Cabinet.faults g.K.Cabinet.heard in
    let job = request_of c.args.job.now in
    let name : c.input.result.now ≡ name_of job field.Input = sym (ap (λ name. unwrap_or name []) c.input.ensures) in
    let m : c.m.result ≡ number_of job field.M = sym (ap (λ n. unwrap_or n 0) c.m.ensures.value) in
    let why = c.in-Err-Grammar.refused in
    judged_steps 4 5 (λ (made : Scanned). made) (λ read. file c.args.command Input c.input.result.now read >>= batch_step c.m.result) (batch_file c.args.command job) (stands c.args.cabinet.now) (stands c.scan_batch.new.cabinet) _
    (λ i read. file c.args.command Input (name i) read >>= batch_step (m i))
    (judged_unfit c.args.command c.requires.shuffles c.m.result c.input.result.now (stands c.args.cabinet.now) (stands c.scan_batch.new.cabinet) c.scan_batch.ensures.told
    why (rw c.in-Err-Grammar.field-0-is at c.in-Err-Grammar.ensures.heard) (rw c.in-Err-Grammar.field-0-is at c.in-Err-Grammar.ensures.cause) (λ memory. c.in-Err-Grammar.ensures.memory (ap Err c.in-Err-Grammar.field-0-is ∙ ap (λ w. Err (Grammar w)) memory)))
