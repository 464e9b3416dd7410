use Rattle.std.proofs.Common.{Err, arith, ap}
use Rattle.esa_command.specs.Stand.{stand}
use Rattle.esa_command.proofs.WholeFiles.{read_ok, read_long, read_failed, read_starved}
use Rattle.esa_command.proofs.reading.read_file.Goals as goal

pub returns-in-Ok : goal.returns-in-Ok
returns-in-Ok g c =
    let stands = stand g.K.Cabinet.told g.K.Cabinet.faults g.K.Cabinet.heard in
    read_ok (λ bytes. bytes.items) c.args.command c.args.source c.args.name.now (stands c.args.cabinet.now) (stands c.read_whole.new.cabinet) c.read_whole.ensures.told
    c.in-Ok.bytes c.in-Ok.ensures.bytes (omega (arith, c.in-Ok.ensures.within, c.limit.ensures)) c.in-Ok.ensures.heard c.in-Ok.ensures.cause

pub returns-in-Err-Failed : goal.returns-in-Err-Failed
returns-in-Err-Failed g c =
    let stands = stand g.K.Cabinet.told g.K.Cabinet.faults g.K.Cabinet.heard in
    read_failed (λ bytes. bytes.items) c.args.command c.args.source c.args.name.now (stands c.args.cabinet.now) (stands c.read_whole.new.cabinet) c.read_whole.ensures.told
    c.limit.result (rw c.in-Err-Failed.field-0-is at c.in-Err-Failed.ensures.heard_refused) (rw c.in-Err-Failed.field-0-is at c.in-Err-Failed.ensures.cause).1

pub returns-in-Err-TooLarge : goal.returns-in-Err-TooLarge
returns-in-Err-TooLarge g c =
    let stands = stand g.K.Cabinet.told g.K.Cabinet.faults g.K.Cabinet.heard in
    rw c.role.ensures (read_long (λ bytes. bytes.items) c.args.command c.args.source c.args.name.now (stands c.args.cabinet.now) (stands c.read_whole.new.cabinet) c.read_whole.ensures.told
    c.in-Err-TooLarge.field-0-0 (λ files told. (rw c.in-Err-TooLarge.field-0-is at c.in-Err-TooLarge.ensures.refused files told).0) (omega (arith, c.in-Err-TooLarge.ensures.past_limit _ (ap Err c.in-Err-TooLarge.field-0-is), c.limit.ensures)) (rw c.in-Err-TooLarge.field-0-is at c.in-Err-TooLarge.ensures.heard_refused) (rw c.in-Err-TooLarge.field-0-is at c.in-Err-TooLarge.ensures.cause))

pub returns-in-Err-OutOfMemory : goal.returns-in-Err-OutOfMemory
returns-in-Err-OutOfMemory g c =
    let stands = stand g.K.Cabinet.told g.K.Cabinet.faults g.K.Cabinet.heard in
    read_starved (λ bytes. bytes.items) c.args.command c.args.source c.args.name.now (stands c.args.cabinet.now) (stands c.read_whole.new.cabinet) c.read_whole.ensures.told
    c.limit.result (rw c.in-Err-OutOfMemory.field-0-is at c.in-Err-OutOfMemory.ensures.heard_refused) (rw c.in-Err-OutOfMemory.field-0-is at c.in-Err-OutOfMemory.ensures.cause)
