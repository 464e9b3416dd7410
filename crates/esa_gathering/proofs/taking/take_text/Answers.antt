use Rattle.esa_job.specs.declared.command.Command.TheVariants.{Intake}
use Rattle.esa_refusal.specs.declared.source.Source.TheVariants.{Inputs}
use Rattle.esa_command.specs.Stand.{stand}
use Rattle.esa_gathering.proofs.Reading.{file_short}
use Rattle.esa_gathering.proofs.taking.take_text.Goals as goal

pub returns-clause-short : goal.returns-clause-short
returns-clause-short g c =
    let stands = stand g.K.Cabinet.told g.K.Cabinet.faults g.K.Cabinet.heard in
    file_short _ _ Intake (Inputs c.args.place) c.args.name.now (stands c.args.cabinet.now) (stands c.read_file.new.cabinet) c.read_file.result c.read_file.ensures
