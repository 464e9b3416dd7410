-- The drain and the compression end the attempt.
use Rattle.std.proofs.Common.{◌+◌, ◌*◌, ◌≤◌, Ok, Err, sym, ap, ◌∙◌, subst, arith}
use Rattle.esa_device.specs.Logs.{IsFaithful}
use Rattle.esa_params.specs.Sizes.{Sizes}
use Rattle.esa_floor.specs.Parts.{Parts}
use Rattle.esa_floor.specs.Standing.{turns_made}
use Rattle.esa_floor.specs.Written.{EachUntil, GaveItsOwn}
use Rattle.esa_spec.specs.Turns.{order}
use Rattle.esa_spec.specs.Verdicts.{steps}
use Rattle.esa_ending.proofs.FrontLaws.{onward}
use Rattle.esa_shuffle.specs.Attempts.{AttemptEnd, EndsBehind}
use Rattle.esa_vault.specs.Traffic.{FailedByFault}
use Rattle.esa_press.proofs.Finishing.{chunks_are, queues_are, room_is, turns_are, turns_behind}
use Rattle.esa_shuffle.proofs.Behind.{drained_behind, pressed_behind}
use Rattle.esa_shuffle.proofs.Contents.{drain_bad, drained_log, faithful_before, outputs_on, press_bad, pressed_log}
use Rattle.esa_shuffle.proofs.Giving.{rest_gave}
use Rattle.esa_shuffle.proofs.Taken.{rest_failed, took_drained, took_pressed}
use Rattle.esa_shuffle.proofs.Stopped.{drain_ends, press_done, press_ends}
use Rattle.esa_shuffle.proofs.rest.press_on.Goals as goal

pub drain-requires-clause-room : goal.drain-requires-clause-room
drain-requires-clause-room g c =
    let room = room_is g.V.Device.faults g.G.Told.plan g.G.Told.draws c.args.floor.now c.args.attempt c.requires.distributed in
    omega (arith, room)

pub returns-in-Err-clause-ends : goal.returns-in-Err-clause-ends
returns-in-Err-clause-ends g c =
    subst (AttemptEnd g.V.Device.faults g.G.Told.plan g.G.Told.draws c.args.attempt c.drain.new.floor) (sym c.end_by.ensures)
    (drain_ends g.V.Device.faults g.G.Told.plan g.G.Told.draws c.args.floor.now c.args.attempt c.requires.distributed c.drain.new.floor c.in-Err.halt c.in-Err.ensures.ends)

pub compress-requires-clause-room : goal.compress-requires-clause-room
compress-requires-clause-room g c =
    let x = c.drain.new.floor in
    let room = room_is g.V.Device.faults g.G.Told.plan g.G.Told.draws c.args.floor.now c.args.attempt c.requires.distributed in
    let left = c.in_default.ensures.ends.1.room in
    subst (λ (q : Sizes). q.b * (q.b + 1) + q.b ≤ x.recorder.room) (sym (ap (λ (y : Parts _). y.plan) c.in_default.ensures.ends.1.others)) (omega (arith, room, left))

pub returns-in-Ok-clause-ends : goal.returns-in-Ok-clause-ends
returns-in-Ok-clause-ends g c =
    press_done g.V.Device.faults g.G.Told.plan g.G.Told.draws c.args.floor.now c.args.attempt c.requires.distributed c.drain.new.floor c.compress.new.floor c.in_default.field-0
    c.in_default.ensures.ends c.compress.ensures.floor c.compress.ensures.ready c.compress.ensures.total c.in-Ok.field-0 c.in-Ok.ensures.made

pub returns-in-Err-compress-clause-ends : goal.returns-in-Err-compress-clause-ends
returns-in-Err-compress-clause-ends g c =
    subst (AttemptEnd g.V.Device.faults g.G.Told.plan g.G.Told.draws c.args.attempt c.compress.new.floor) (sym c.end_by-in-Err-compress.ensures)
    (press_ends g.V.Device.faults g.G.Told.plan g.G.Told.draws c.args.floor.now c.args.attempt c.requires.distributed c.drain.new.floor c.compress.new.floor c.in_default.field-0
    c.in_default.ensures.ends c.compress.ensures.floor c.compress.ensures.ready c.compress.ensures.total c.in-Err-compress.halt c.in-Err-compress.ensures.made)

pub returns-in-Err-clause-log : goal.returns-in-Err-clause-log
returns-in-Err-clause-log g c =
    drained_log {T = Unit {0}} g.V.Device.faults (g.G.Told.draws c.args.attempt) (order c.args.floor.now.plan.b (turns_made c.args.floor.now)) c.args.attempt c.args.floor.now c.drain.new.floor (Err c.in-Err.halt) c.in-Err.ensures.ends

pub returns-in-Err-clause-input : goal.returns-in-Err-clause-input
returns-in-Err-clause-input g c = c.in-Err.ensures.input

pub returns-in-Err-clause-outputs : goal.returns-in-Err-clause-outputs
returns-in-Err-clause-outputs g c = λ record_of items queues slots faithful input good.
    absurd (drain_bad g.V.Device.faults (g.G.Told.draws c.args.attempt) (order c.args.floor.now.plan.b (turns_made c.args.floor.now)) c.args.attempt c.args.floor.now c.drain.new.floor c.in-Err.halt
    c.in-Err.ensures.ends (sym c.end_by.ensures ∙ good))

pub returns-in-Ok-clause-log : goal.returns-in-Ok-clause-log
returns-in-Ok-clause-log g c =
    onward c.args.floor.now.recorder.log c.drain.new.floor.recorder.log c.compress.new.floor.recorder.log
    (drained_log g.V.Device.faults (g.G.Told.draws c.args.attempt) (order c.args.floor.now.plan.b (turns_made c.args.floor.now)) c.args.attempt c.args.floor.now c.drain.new.floor (Ok c.in_default.field-0) c.in_default.ensures.ends)
    (pressed_log c.drain.new.floor.recorder.log c.compress.new.floor.recorder.log c.compress.ensures.log)

pub returns-in-Err-compress-clause-log : goal.returns-in-Err-compress-clause-log
returns-in-Err-compress-clause-log g c =
    onward c.args.floor.now.recorder.log c.drain.new.floor.recorder.log c.compress.new.floor.recorder.log
    (drained_log g.V.Device.faults (g.G.Told.draws c.args.attempt) (order c.args.floor.now.plan.b (turns_made c.args.floor.now)) c.args.attempt c.args.floor.now c.drain.new.floor (Ok c.in_default.field-0) c.in_default.ensures.ends)
    (pressed_log c.drain.new.floor.recorder.log c.compress.new.floor.recorder.log c.compress.ensures.log)

pub returns-in-Ok-clause-input : goal.returns-in-Ok-clause-input
returns-in-Ok-clause-input g c = λ record_of faithful input.
    let x = c.drain.new.floor in
    let before = faithful_before c.args.floor.now.plan x.recorder.log c.compress.new.floor.recorder.log (pressed_log x.recorder.log c.compress.new.floor.recorder.log c.compress.ensures.log) faithful in
    c.compress.ensures.input record_of
    (subst (λ (q : Sizes). IsFaithful q c.compress.new.floor.recorder.log) (sym (ap (λ (y : Parts _). y.plan) c.in_default.ensures.ends.1.others)) faithful)
    (c.in_default.ensures.input record_of before input)

pub returns-in-Err-compress-clause-input : goal.returns-in-Err-compress-clause-input
returns-in-Err-compress-clause-input g c = λ record_of faithful input.
    let x = c.drain.new.floor in
    let before = faithful_before c.args.floor.now.plan x.recorder.log c.compress.new.floor.recorder.log (pressed_log x.recorder.log c.compress.new.floor.recorder.log c.compress.ensures.log) faithful in
    c.compress.ensures.input record_of
    (subst (λ (q : Sizes). IsFaithful q c.compress.new.floor.recorder.log) (sym (ap (λ (y : Parts _). y.plan) c.in_default.ensures.ends.1.others)) faithful)
    (c.in_default.ensures.input record_of before input)

pub returns-in-Ok-clause-outputs : goal.returns-in-Ok-clause-outputs
returns-in-Ok-clause-outputs g c = λ record_of items queues slots faithful input good.
    let f = c.args.floor.now in
    let x = c.drain.new.floor in
    let ready = c.requires.distributed in
    let queued = queues_are g.V.Device.faults g.G.Told.plan g.G.Told.draws f c.args.attempt ready record_of input queues in
    let chunks = chunks_are g.V.Device.faults g.G.Told.plan g.G.Told.draws f c.args.attempt ready record_of input slots in
    outputs_on f x (g.G.Told.draws c.args.attempt) c.args.attempt (g.C.Coins.order_list c.args.coins.now c.args.attempt) record_of c.compress.new.floor.recorder.log c.in_default.ensures.ends.1.others
    (λ orders holds true. (c.in-Ok.ensures.outputs record_of orders holds true).outputs) c.requires.orders
    (record { items = items; chunks = c.in_default.ensures.chunks record_of chunks; tails = c.in_default.ensures.tails record_of queued }) faithful

pub returns-in-Err-compress-clause-outputs : goal.returns-in-Err-compress-clause-outputs
returns-in-Err-compress-clause-outputs g c = λ record_of items queues slots faithful input good.
    absurd (press_bad g.V.Device.faults c.drain.new.floor (g.G.Told.draws c.args.attempt) c.args.attempt c.compress.new.floor.recorder c.in-Err-compress.halt c.in-Err-compress.ensures.made
    (sym c.end_by-in-Err-compress.ensures ∙ good))

pub returns-in-Err-clause-took : goal.returns-in-Err-clause-took
returns-in-Err-clause-took g c = λ record_of items queues slots.
    took_drained g.V.Device.faults g.G.Told.plan g.G.Told.draws c.args.floor.now c.drain.new.floor c.args.attempt c.requires.distributed record_of
    (Err c.in-Err.halt) c.in-Err.ensures.ends queues (c.in-Err.ensures.took record_of)

pub returns-in-Ok-clause-took : goal.returns-in-Ok-clause-took
returns-in-Ok-clause-took g c = λ record_of items queues slots.
    took_pressed g.V.Device.faults g.G.Told.plan g.G.Told.draws c.args.floor.now c.drain.new.floor c.args.attempt c.requires.distributed record_of
    c.in_default.field-0 c.in_default.ensures.ends items queues slots (g.C.Coins.order_list c.args.coins.now c.args.attempt) c.requires.orders
    (c.in_default.ensures.tails record_of) (c.in_default.ensures.chunks record_of) (c.in_default.ensures.took record_of)
    c.compress.new.floor c.compress.ensures.floor c.compress.ensures.log (c.compress.ensures.took record_of)

pub returns-in-Err-compress-clause-took : goal.returns-in-Err-compress-clause-took
returns-in-Err-compress-clause-took g c = λ record_of items queues slots.
    took_pressed g.V.Device.faults g.G.Told.plan g.G.Told.draws c.args.floor.now c.drain.new.floor c.args.attempt c.requires.distributed record_of
    c.in_default.field-0 c.in_default.ensures.ends items queues slots (g.C.Coins.order_list c.args.coins.now c.args.attempt) c.requires.orders
    (c.in_default.ensures.tails record_of) (c.in_default.ensures.chunks record_of) (c.in_default.ensures.took record_of)
    c.compress.new.floor c.compress.ensures.floor c.compress.ensures.log (c.compress.ensures.took record_of)

pub returns-in-Err-clause-failed : goal.returns-in-Err-clause-failed
returns-in-Err-clause-failed g c = λ none.
    subst (λ result. FailedByFault result c.drain.new.floor.recorder.log) (sym c.end_by.ensures) (rest_failed c.in-Err.halt c.drain.new.floor.recorder.log (c.in-Err.ensures.failed none))

pub returns-in-Ok-clause-failed : goal.returns-in-Ok-clause-failed
returns-in-Ok-clause-failed g c = λ none. c.in-Ok.ensures.failed (c.in_default.ensures.failed none)

pub returns-in-Err-compress-clause-failed : goal.returns-in-Err-compress-clause-failed
returns-in-Err-compress-clause-failed g c = λ none.
    subst (λ result. FailedByFault result c.compress.new.floor.recorder.log) (sym c.end_by-in-Err-compress.ensures)
    (rest_failed c.in-Err-compress.halt c.compress.new.floor.recorder.log (c.in-Err-compress.ensures.failed (c.in_default.ensures.failed none)))

pub returns-in-Err-clause-reads : goal.returns-in-Err-clause-reads
returns-in-Err-clause-reads g c = λ gave.
    let x = c.drain.new.floor in
    let Own = GaveItsOwn g.G.Told.draws x in
    subst (λ result. EachUntil Own result x.recorder.log) (sym c.end_by.ensures)
    (rest_gave Own c.in-Err.halt x.recorder.log
    (c.in-Err.ensures.reads (turns_are g.V.Device.faults g.G.Told.plan g.G.Told.draws c.args.floor.now c.args.attempt c.requires.distributed) gave))

pub returns-in-Ok-clause-reads : goal.returns-in-Ok-clause-reads
returns-in-Ok-clause-reads g c = λ gave.
    let f = c.args.floor.now in
    let a = c.args.attempt in
    c.in-Ok.ensures.reads
    (turns_behind g.V.Device.faults g.G.Told.plan g.G.Told.draws f a c.requires.distributed c.drain.new.floor (Ok c.in_default.field-0) c.in_default.ensures.ends)
    (c.in_default.ensures.reads (turns_are g.V.Device.faults g.G.Told.plan g.G.Told.draws f a c.requires.distributed) gave)

pub returns-in-Err-compress-clause-reads : goal.returns-in-Err-compress-clause-reads
returns-in-Err-compress-clause-reads g c = λ gave.
    let f = c.args.floor.now in
    let a = c.args.attempt in
    let new = c.compress.new.floor in
    let Own = GaveItsOwn g.G.Told.draws new in
    subst (λ result. EachUntil Own result new.recorder.log) (sym c.end_by-in-Err-compress.ensures)
    (rest_gave Own c.in-Err-compress.halt new.recorder.log
    (c.in-Err-compress.ensures.reads
    (turns_behind g.V.Device.faults g.G.Told.plan g.G.Told.draws f a c.requires.distributed c.drain.new.floor (Ok c.in_default.field-0) c.in_default.ensures.ends)
    (c.in_default.ensures.reads (turns_are g.V.Device.faults g.G.Told.plan g.G.Told.draws f a c.requires.distributed) gave)))

pub returns-in-Err-clause-behind : goal.returns-in-Err-clause-behind
returns-in-Err-clause-behind g c =
    subst (EndsBehind c.args.attempt c.drain.new.floor.recorder.trace) (sym c.end_by.ensures)
    (drained_behind g.V.Device.faults (g.G.Told.draws c.args.attempt) (order c.args.floor.now.plan.b (turns_made c.args.floor.now)) c.args.attempt c.args.floor.now c.drain.new.floor c.in-Err.halt c.in-Err.ensures.ends)

pub returns-in-Err-compress-clause-behind : goal.returns-in-Err-compress-clause-behind
returns-in-Err-compress-clause-behind g c =
    let x = c.drain.new.floor in
    subst (EndsBehind c.args.attempt c.compress.new.floor.recorder.trace) (sym c.end_by-in-Err-compress.ensures)
    (pressed_behind g.V.Device.faults x.plan x.run (g.G.Told.draws c.args.attempt) (order x.plan.b (turns_made x)) c.args.attempt (steps x.plan) x.recorder c.compress.new.floor.recorder
    c.in-Err-compress.halt c.in-Err-compress.ensures.made)
