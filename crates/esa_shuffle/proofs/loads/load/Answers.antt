-- The load ends the run, or the first attempt may begin.
use Rattle.std.proofs.Common.{◌+◌, ◌++◌, ◌∷◌, [], All, Ok, Err, sym, subst, arith}
use Rattle.esa_device.specs.Logs.{NoneFailed, OnlyLastFailed}
use Rattle.esa_floor.specs.declared.turn.Outcome.TheVariants as outcome
use Rattle.esa_floor.specs.Written.{WritesInput}
use Rattle.esa_load.specs.Loads.{LoadEnd, Source, failed_block, written_blocks}
use Rattle.esa_load.specs.declared.fault.LoadFault.{LoadFault}
use Rattle.esa_load.specs.declared.fault.LoadFault.TheVariants.{Batch, Device}
use Rattle.esa_shuffle.proofs.Inputs.{written_badly, written_well}
use Rattle.esa_shuffle.proofs.Loaded.{all_given, batch_ends, device_ends, is_loaded, log_is, moved, some_given}
use Rattle.esa_shuffle.proofs.Taken.{failed_input, failed_load, loaded_input, loaded_failed}
use Rattle.esa_shuffle.proofs.loads.load.Goals as goal

pub returns-in-Ok-clause-ends : goal.returns-in-Ok-clause-ends
returns-in-Ok-clause-ends g c =
    let faults = g.V.Device.faults in
    let f = c.args.floor.now in
    let r = c.load.new.recorder in
    let told = g.R.Records.told c.args.batch.now in
    let part = g.R.Records.part (g.R.Records.grounds c.args.batch.now) in
    let before : Source = record { faults = g.R.Records.faults c.args.batch.now; heard = g.R.Records.heard c.args.batch.now } in
    let after : Source = record { faults = g.R.Records.faults c.load.new.batch; heard = g.R.Records.heard c.load.new.batch } in
    let given = c.in-Ok.ensures.end.0 in
    let end = moved faults g.G.Told.plan g.G.Told.draws f c.requires.new r told part given before after c.args.loader.now.plan c.args.loader.now.run c.recorder.result.now (Ok c.in-Ok.field-0) c.requires.plan c.requires.run
    c.recorder.ensures.value c.in-Ok.ensures.end.1 in (
      c.loaded_floors_begin.ensures g.G.Told.plan g.G.Told.draws (record f { recorder = r })
          (is_loaded faults g.G.Told.plan g.G.Told.draws f c.requires.new r told part given before after end.0 end.1),
      end.2,
    )

pub returns-in-Err-Batch-clause-ends : goal.returns-in-Err-Batch-clause-ends
returns-in-Err-Batch-clause-ends g c =
    let faults = g.V.Device.faults in
    let f = c.args.floor.now in
    let r = c.load.new.recorder in
    let told = g.R.Records.told c.args.batch.now in
    let part = g.R.Records.part (g.R.Records.grounds c.args.batch.now) in
    let before : Source = record { faults = g.R.Records.faults c.args.batch.now; heard = g.R.Records.heard c.args.batch.now } in
    let after : Source = record { faults = g.R.Records.faults c.load.new.batch; heard = g.R.Records.heard c.load.new.batch } in
    let given = c.in-Err-Batch.ensures.end.0 in
    batch_ends faults g.G.Told.plan g.G.Told.draws f c.requires.new r told part given before after c.in-Err-Batch.field-0-0
    (moved faults g.G.Told.plan g.G.Told.draws f c.requires.new r told part given before after {T = Unit {0}} c.args.loader.now.plan c.args.loader.now.run c.recorder.result.now (Err (Batch c.in-Err-Batch.field-0-0)) c.requires.plan c.requires.run
    c.recorder.ensures.value
    (subst (λ (fault : LoadFault). LoadEnd {T = Unit {0}} faults c.args.loader.now.plan c.args.loader.now.run told part given c.recorder.result.now r before after (Err fault)) c.in-Err-Batch.field-0-is
    c.in-Err-Batch.ensures.end.1))

pub returns-in-Err-Device-clause-ends : goal.returns-in-Err-Device-clause-ends
returns-in-Err-Device-clause-ends g c =
    let faults = g.V.Device.faults in
    let f = c.args.floor.now in
    let r = c.load.new.recorder in
    let told = g.R.Records.told c.args.batch.now in
    let part = g.R.Records.part (g.R.Records.grounds c.args.batch.now) in
    let before : Source = record { faults = g.R.Records.faults c.args.batch.now; heard = g.R.Records.heard c.args.batch.now } in
    let after : Source = record { faults = g.R.Records.faults c.load.new.batch; heard = g.R.Records.heard c.load.new.batch } in
    let given = c.in-Err-Device.ensures.end.0 in
    device_ends faults g.G.Told.plan g.G.Told.draws f c.requires.new r told part given before after c.in-Err-Device.number
    (moved faults g.G.Told.plan g.G.Told.draws f c.requires.new r told part given before after {T = Unit {0}} c.args.loader.now.plan c.args.loader.now.run c.recorder.result.now (Err (Device c.in-Err-Device.number)) c.requires.plan c.requires.run
    c.recorder.ensures.value
    (subst (λ (fault : LoadFault). LoadEnd {T = Unit {0}} faults c.args.loader.now.plan c.args.loader.now.run told part given c.recorder.result.now r before after (Err fault)) c.in-Err-Device.field-0-is
    c.in-Err-Device.ensures.end.1))

pub returns-in-Ok-clause-given : goal.returns-in-Ok-clause-given
returns-in-Ok-clause-given g c =
    let faults = g.V.Device.faults in
    let f = c.args.floor.now in
    let r = c.load.new.recorder in
    let told = g.R.Records.told c.args.batch.now in
    let part = g.R.Records.part (g.R.Records.grounds c.args.batch.now) in
    let before : Source = record { faults = g.R.Records.faults c.args.batch.now; heard = g.R.Records.heard c.args.batch.now } in
    let after : Source = record { faults = g.R.Records.faults c.load.new.batch; heard = g.R.Records.heard c.load.new.batch } in
    let given = c.in-Ok.ensures.end.0 in
    let end = moved faults g.G.Told.plan g.G.Told.draws f c.requires.new r told part given before after c.args.loader.now.plan c.args.loader.now.run c.recorder.result.now (Ok c.in-Ok.field-0) c.requires.plan c.requires.run
    c.recorder.ensures.value c.in-Ok.ensures.end.1 in
    all_given faults g.G.Told.plan g.G.Told.draws f c.requires.new r told part given before after end.0 (c.loaded_batches_are_input.ensures f.plan f.outer f.run given f.recorder.log) tt

pub returns-in-Err-Batch-clause-given : goal.returns-in-Err-Batch-clause-given
returns-in-Err-Batch-clause-given g c =
    let faults = g.V.Device.faults in
    let f = c.args.floor.now in
    let r = c.load.new.recorder in
    let told = g.R.Records.told c.args.batch.now in
    let part = g.R.Records.part (g.R.Records.grounds c.args.batch.now) in
    let before : Source = record { faults = g.R.Records.faults c.args.batch.now; heard = g.R.Records.heard c.args.batch.now } in
    let after : Source = record { faults = g.R.Records.faults c.load.new.batch; heard = g.R.Records.heard c.load.new.batch } in
    let given = c.in-Err-Batch.ensures.end.0 in
    let end =
    moved faults g.G.Told.plan g.G.Told.draws f c.requires.new r told part given before after {T = Unit {0}} c.args.loader.now.plan c.args.loader.now.run c.recorder.result.now (Err (Batch c.in-Err-Batch.field-0-0)) c.requires.plan c.requires.run
    c.recorder.ensures.value
    (subst (λ (fault : LoadFault). LoadEnd {T = Unit {0}} faults c.args.loader.now.plan c.args.loader.now.run told part given c.recorder.result.now r before after (Err fault)) c.in-Err-Batch.field-0-is
    c.in-Err-Batch.ensures.end.1) in
    let inside = end.0 in
    some_given faults g.G.Told.plan g.G.Told.draws f c.requires.new r told part given before after c.in-Err-Batch.field-0-0 (written_blocks f.plan f.run given c.in-Err-Batch.field-0-0) (omega (arith, inside)) end.1
    (written_well f.plan f.run given c.in-Err-Batch.field-0-0 end.1.bytes) outcome.BatchFailed

pub returns-in-Err-Device-clause-given : goal.returns-in-Err-Device-clause-given
returns-in-Err-Device-clause-given g c =
    let faults = g.V.Device.faults in
    let f = c.args.floor.now in
    let r = c.load.new.recorder in
    let told = g.R.Records.told c.args.batch.now in
    let part = g.R.Records.part (g.R.Records.grounds c.args.batch.now) in
    let before : Source = record { faults = g.R.Records.faults c.args.batch.now; heard = g.R.Records.heard c.args.batch.now } in
    let after : Source = record { faults = g.R.Records.faults c.load.new.batch; heard = g.R.Records.heard c.load.new.batch } in
    let given = c.in-Err-Device.ensures.end.0 in
    let end =
    moved faults g.G.Told.plan g.G.Told.draws f c.requires.new r told part given before after {T = Unit {0}} c.args.loader.now.plan c.args.loader.now.run c.recorder.result.now (Err (Device c.in-Err-Device.number)) c.requires.plan c.requires.run
    c.recorder.ensures.value
    (subst (λ (fault : LoadFault). LoadEnd {T = Unit {0}} faults c.args.loader.now.plan c.args.loader.now.run told part given c.recorder.result.now r before after (Err fault)) c.in-Err-Device.field-0-is
    c.in-Err-Device.ensures.end.1) in
    let inside = end.1 in
    some_given faults g.G.Told.plan g.G.Told.draws f c.requires.new r told part given before after (end.0 + 1) (written_blocks f.plan f.run given end.0 ++ failed_block f.plan end.0 ∷ []) (omega (arith, inside)) end.3
    (written_badly f.plan f.run given end.0 end.3.bytes) (outcome.DeviceFault c.in-Err-Device.number)

pub returns-in-Ok-clause-input : goal.returns-in-Ok-clause-input
returns-in-Ok-clause-input g c = λ empty.
    let faults = g.V.Device.faults in
    let f = c.args.floor.now in
    let r = c.load.new.recorder in
    let told = g.R.Records.told c.args.batch.now in
    let part = g.R.Records.part (g.R.Records.grounds c.args.batch.now) in
    let before : Source = record { faults = g.R.Records.faults c.args.batch.now; heard = g.R.Records.heard c.args.batch.now } in
    let after : Source = record { faults = g.R.Records.faults c.load.new.batch; heard = g.R.Records.heard c.load.new.batch } in
    let given = c.in-Ok.ensures.end.0 in
    let end = moved faults g.G.Told.plan g.G.Told.draws f c.requires.new r told part given before after c.args.loader.now.plan c.args.loader.now.run c.recorder.result.now (Ok c.in-Ok.field-0) c.requires.plan c.requires.run
    c.recorder.ensures.value c.in-Ok.ensures.end.1 in
    let is = log_is faults g.G.Told.plan g.G.Told.draws f c.requires.new r told part given before after f.plan.b (written_blocks f.plan f.run given f.plan.b) end.0 empty in
    subst (All (WritesInput f.plan)) (sym is) (loaded_input f.plan f.run given f.plan.b (omega arith))

pub returns-in-Ok-clause-failed : goal.returns-in-Ok-clause-failed
returns-in-Ok-clause-failed g c = λ empty.
    let faults = g.V.Device.faults in
    let f = c.args.floor.now in
    let r = c.load.new.recorder in
    let told = g.R.Records.told c.args.batch.now in
    let part = g.R.Records.part (g.R.Records.grounds c.args.batch.now) in
    let before : Source = record { faults = g.R.Records.faults c.args.batch.now; heard = g.R.Records.heard c.args.batch.now } in
    let after : Source = record { faults = g.R.Records.faults c.load.new.batch; heard = g.R.Records.heard c.load.new.batch } in
    let given = c.in-Ok.ensures.end.0 in
    let end = moved faults g.G.Told.plan g.G.Told.draws f c.requires.new r told part given before after c.args.loader.now.plan c.args.loader.now.run c.recorder.result.now (Ok c.in-Ok.field-0) c.requires.plan c.requires.run
    c.recorder.ensures.value c.in-Ok.ensures.end.1 in
    let is = log_is faults g.G.Told.plan g.G.Told.draws f c.requires.new r told part given before after f.plan.b (written_blocks f.plan f.run given f.plan.b) end.0 empty in
    subst NoneFailed (sym is) (loaded_failed f.plan f.run given f.plan.b)

pub returns-in-Err-Batch-clause-input : goal.returns-in-Err-Batch-clause-input
returns-in-Err-Batch-clause-input g c = λ empty.
    let faults = g.V.Device.faults in
    let f = c.args.floor.now in
    let r = c.load.new.recorder in
    let told = g.R.Records.told c.args.batch.now in
    let part = g.R.Records.part (g.R.Records.grounds c.args.batch.now) in
    let before : Source = record { faults = g.R.Records.faults c.args.batch.now; heard = g.R.Records.heard c.args.batch.now } in
    let after : Source = record { faults = g.R.Records.faults c.load.new.batch; heard = g.R.Records.heard c.load.new.batch } in
    let given = c.in-Err-Batch.ensures.end.0 in
    let j = c.in-Err-Batch.field-0-0 in
    let end =
    moved faults g.G.Told.plan g.G.Told.draws f c.requires.new r told part given before after {T = Unit {0}} c.args.loader.now.plan c.args.loader.now.run c.recorder.result.now (Err (Batch j)) c.requires.plan c.requires.run
    c.recorder.ensures.value
    (subst (λ (fault : LoadFault). LoadEnd {T = Unit {0}} faults c.args.loader.now.plan c.args.loader.now.run told part given c.recorder.result.now r before after (Err fault)) c.in-Err-Batch.field-0-is
    c.in-Err-Batch.ensures.end.1) in
    let inside = end.0 in
    let is = log_is faults g.G.Told.plan g.G.Told.draws f c.requires.new r told part given before after j (written_blocks f.plan f.run given j) end.1 empty in
    subst (All (WritesInput f.plan)) (sym is) (loaded_input f.plan f.run given j (omega (arith, inside)))

pub returns-in-Err-Batch-clause-failed : goal.returns-in-Err-Batch-clause-failed
returns-in-Err-Batch-clause-failed g c = λ empty.
    let faults = g.V.Device.faults in
    let f = c.args.floor.now in
    let r = c.load.new.recorder in
    let told = g.R.Records.told c.args.batch.now in
    let part = g.R.Records.part (g.R.Records.grounds c.args.batch.now) in
    let before : Source = record { faults = g.R.Records.faults c.args.batch.now; heard = g.R.Records.heard c.args.batch.now } in
    let after : Source = record { faults = g.R.Records.faults c.load.new.batch; heard = g.R.Records.heard c.load.new.batch } in
    let given = c.in-Err-Batch.ensures.end.0 in
    let j = c.in-Err-Batch.field-0-0 in
    let end =
    moved faults g.G.Told.plan g.G.Told.draws f c.requires.new r told part given before after {T = Unit {0}} c.args.loader.now.plan c.args.loader.now.run c.recorder.result.now (Err (Batch j)) c.requires.plan c.requires.run
    c.recorder.ensures.value
    (subst (λ (fault : LoadFault). LoadEnd {T = Unit {0}} faults c.args.loader.now.plan c.args.loader.now.run told part given c.recorder.result.now r before after (Err fault)) c.in-Err-Batch.field-0-is
    c.in-Err-Batch.ensures.end.1) in
    let inside = end.0 in
    let is = log_is faults g.G.Told.plan g.G.Told.draws f c.requires.new r told part given before after j (written_blocks f.plan f.run given j) end.1 empty in
    subst NoneFailed (sym is) (loaded_failed f.plan f.run given j)

pub returns-in-Err-Device-clause-input : goal.returns-in-Err-Device-clause-input
returns-in-Err-Device-clause-input g c = λ empty.
    let faults = g.V.Device.faults in
    let f = c.args.floor.now in
    let r = c.load.new.recorder in
    let told = g.R.Records.told c.args.batch.now in
    let part = g.R.Records.part (g.R.Records.grounds c.args.batch.now) in
    let before : Source = record { faults = g.R.Records.faults c.args.batch.now; heard = g.R.Records.heard c.args.batch.now } in
    let after : Source = record { faults = g.R.Records.faults c.load.new.batch; heard = g.R.Records.heard c.load.new.batch } in
    let given = c.in-Err-Device.ensures.end.0 in
    let end =
    moved faults g.G.Told.plan g.G.Told.draws f c.requires.new r told part given before after {T = Unit {0}} c.args.loader.now.plan c.args.loader.now.run c.recorder.result.now (Err (Device c.in-Err-Device.number)) c.requires.plan c.requires.run
    c.recorder.ensures.value
    (subst (λ (fault : LoadFault). LoadEnd {T = Unit {0}} faults c.args.loader.now.plan c.args.loader.now.run told part given c.recorder.result.now r before after (Err fault)) c.in-Err-Device.field-0-is
    c.in-Err-Device.ensures.end.1) in
    let j = end.0 in
    let is = log_is faults g.G.Told.plan g.G.Told.draws f c.requires.new r told part given before after (j + 1) (written_blocks f.plan f.run given j ++ failed_block f.plan j ∷ []) end.3 empty in
    subst (All (WritesInput f.plan)) (sym is) (failed_input f.plan f.run given j end.1)

pub returns-in-Err-Device-clause-failed : goal.returns-in-Err-Device-clause-failed
returns-in-Err-Device-clause-failed g c = λ empty.
    let faults = g.V.Device.faults in
    let f = c.args.floor.now in
    let r = c.load.new.recorder in
    let told = g.R.Records.told c.args.batch.now in
    let part = g.R.Records.part (g.R.Records.grounds c.args.batch.now) in
    let before : Source = record { faults = g.R.Records.faults c.args.batch.now; heard = g.R.Records.heard c.args.batch.now } in
    let after : Source = record { faults = g.R.Records.faults c.load.new.batch; heard = g.R.Records.heard c.load.new.batch } in
    let given = c.in-Err-Device.ensures.end.0 in
    let end =
    moved faults g.G.Told.plan g.G.Told.draws f c.requires.new r told part given before after {T = Unit {0}} c.args.loader.now.plan c.args.loader.now.run c.recorder.result.now (Err (Device c.in-Err-Device.number)) c.requires.plan c.requires.run
    c.recorder.ensures.value
    (subst (λ (fault : LoadFault). LoadEnd {T = Unit {0}} faults c.args.loader.now.plan c.args.loader.now.run told part given c.recorder.result.now r before after (Err fault)) c.in-Err-Device.field-0-is
    c.in-Err-Device.ensures.end.1) in
    let j = end.0 in
    let is = log_is faults g.G.Told.plan g.G.Told.draws f c.requires.new r told part given before after (j + 1) (written_blocks f.plan f.run given j ++ failed_block f.plan j ∷ []) end.3 empty in
    subst OnlyLastFailed (sym is) (failed_load f.plan f.run given j)
