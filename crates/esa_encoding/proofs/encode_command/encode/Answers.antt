use Rattle.std.proofs.Common.{◌≡◌, ap, sym, subst}
use Rattle.std.specs.Prelude.{unwrap_or, []}
use Rattle.esa_job.specs.Seen.{request_of}
use Rattle.esa_job.specs.declared.field.JobField.TheVariants as field
use Rattle.esa_command.specs.Settled.{Settles}
use Rattle.esa_command.specs.Stand.{stand}
use Rattle.esa_command.specs.Taking.{name_of}
use Rattle.esa_command.proofs.Ending.{ends_stop, ends_work}
use Rattle.esa_encoding.specs.Encode.{encode_steps, encode_work}
use Rattle.esa_encoding.specs.EncodeTaken.{encode_taken}
use Rattle.esa_encoding.proofs.encode_command.encode.Goals as goal

pub returns-in-Ok : goal.returns-in-Ok
returns-in-Ok g c =
    let cabinet = stand g.K.Cabinet.told g.K.Cabinet.faults g.K.Cabinet.heard in
    let printer = stand g.P.Printer.told g.P.Printer.faults g.P.Printer.heard in
    let before = cabinet c.args.cabinet.now in
    let middle = cabinet c.take_encode.new.cabinet in
    let now = cabinet c.work_encode.new.cabinet in
    let input = c.in-Ok.input in
    let output : c.output.result.now ≡ name_of (request_of input.job) field.Output = sym (ap (λ name. unwrap_or name []) c.output.ensures) in
    let same : encode_work c.output.result.now c.deref.result.now input.sealed.lines ≡ encode_taken input = λ i. encode_work (output i) (c.deref.ensures.value i) input.sealed.lines in
    ends_work encode_taken (encode_steps c.args.crew_allowed c.args.name.now) before middle now (printer c.args.printer.now) (printer c.work_encode.new.printer) c.work_encode.result input c.in-Ok.ensures.judged
    (subst (λ work. Settles work middle now (printer c.args.printer.now) (printer c.work_encode.new.printer) c.work_encode.result) same c.work_encode.ensures)

pub returns-in-Err : goal.returns-in-Err
returns-in-Err g c =
    let cabinet = stand g.K.Cabinet.told g.K.Cabinet.faults g.K.Cabinet.heard in
    let printer = stand g.P.Printer.told g.P.Printer.faults g.P.Printer.heard in
    ends_stop encode_taken (encode_steps c.args.crew_allowed c.args.name.now) (cabinet c.args.cabinet.now) (cabinet c.take_encode.new.cabinet) (printer c.args.printer.now) c.in-Err.stop c.from.result c.from.ensures c.in-Err.ensures.judged
