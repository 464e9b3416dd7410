use Rattle.esa_laws.proofs.WindowLaws.{window-parts}
use Rattle.esa_laws.proofs.windows.parts_are_held.Goals as goal

pub returns : goal.returns
returns c = window-parts
