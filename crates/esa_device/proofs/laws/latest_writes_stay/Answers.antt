use Rattle.esa_device.proofs.LogLaws.{took-elsewhere, took-read, took-written}
use Rattle.esa_device.proofs.laws.latest_writes_stay.Goals as goal

pub returns-clause-read : goal.returns-clause-read
returns-clause-read c = took-read

pub returns-clause-elsewhere : goal.returns-clause-elsewhere
returns-clause-elsewhere c = took-elsewhere

pub returns-clause-written : goal.returns-clause-written
returns-clause-written c = took-written
