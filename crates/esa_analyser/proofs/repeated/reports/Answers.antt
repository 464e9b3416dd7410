use Rattle.std.proofs.Common.{◌+◌, ap, arith}
use Rattle.esa_analyser.specs.declared.repeated.Repeated.{Repeated}
use Rattle.esa_analyser.proofs.Repeats.{length-next, length-front}
use Rattle.esa_analyser.proofs.repeated.reports.Goals as goal

pub overflow_add-reports : goal.overflow_add-reports
overflow_add-reports g c =
    let list = c.args.list.now in
    let place = c.loop-repeated.repeated-index in
    let item = c.repeated-item.result in
    let times = ap (λ (repeated : Repeated _). repeated.times) c.repeated-item.is in
    omega (arith, c.loop-repeated.invariant.counted, c.requires, times, length-next list place item c.loop-repeated-test.true, length-front list (place + 1))
