-- A failed call leaves the file as it was.
use Rattle.std.proofs.Common.{ap, ◌∙◌}
use Rattle.esa_outside.proofs.Fronts.{HoldsFront-unchanged}
use Rattle.esa_outside.proofs.memory.MemCabinetCabinet.append.Goals as goal

pub returns-then-is_listed-clause-failed : goal.returns-then-is_listed-clause-failed
returns-then-is_listed-clause-failed c = λ files held is there. HoldsFront-unchanged files _ c.args.self.now.files c.args.name.now held c.args.bytes.now (ap (λ cabinet. cabinet.files) c.self.view_is) is there

pub returns-in-Err-NoMemory-clause-failed : goal.returns-in-Err-NoMemory-clause-failed
returns-in-Err-NoMemory-clause-failed c = λ files held is there. HoldsFront-unchanged files _ c.args.self.now.files c.args.name.now held c.args.bytes.now (c.in-Err-NoMemory.ensures.err ∙ ap (λ cabinet. cabinet.files) c.self.view_is) is there
