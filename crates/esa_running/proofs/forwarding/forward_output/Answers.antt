use Rattle.std.proofs.Common.{◌≡◌, refl, sym, ap}
use Rattle.std.specs.Prelude.{unwrap_or}
use Rattle.esa_job.specs.Seen.{request_of}
use Rattle.esa_job.specs.declared.field.JobField.TheVariants as field
use Rattle.esa_command.specs.Asked.{number_of}
use Rattle.esa_taking.specs.RunTaken.{run_taken}
use Rattle.esa_running.proofs.Forwarded.{forwarded_here, broken_here}
use Rattle.esa_taking.proofs.Needed.{needs}
use Rattle.esa_running.proofs.forwarding.forward_output.Goals as goal

pub t-requires : goal.t-requires
t-requires g c = needs field.T (request_of c.args.input.now.job).command (request_of c.args.input.now.job).command refl c.requires.taken.shuffles refl refl

pub returns-clause-forwarded : goal.returns-clause-forwarded
returns-clause-forwarded g c =
    let asked = run_taken c.args.input.now in
    let t : c.t.result ≡ number_of asked.job field.T = sym (ap (λ n. unwrap_or n 0) c.t.ensures.value) in
    forwarded_here g.V.Device.told g.V.Device.faults asked c.args.attempt c.args.recorder.now c.threshold.new.recorder c.args.input.now.plan c.block_keys.result c.drop_key.result c.t.result
    c.requires.taken.plan c.block_keys.ensures c.drop_key.ensures t c.threshold.new.tables.forward c.threshold.result c.threshold.ensures.forwarded

pub returns-clause-broken : goal.returns-clause-broken
returns-clause-broken g c =
    let asked = run_taken c.args.input.now in
    let t : c.t.result ≡ number_of asked.job field.T = sym (ap (λ n. unwrap_or n 0) c.t.ensures.value) in
    broken_here g.V.Device.told g.V.Device.faults asked c.args.attempt c.args.recorder.now c.threshold.new.recorder c.args.input.now.plan c.block_keys.result c.drop_key.result c.t.result
    c.requires.taken.plan c.block_keys.ensures c.drop_key.ensures t c.threshold.result c.threshold.ensures.fault
