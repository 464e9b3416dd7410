-- The text of a label.
use Rattle.std.specs.Prelude.{ℕ, List, codes}
use Rattle.esa_envelope.specs.declared.label.Label.{Label}
use Rattle.esa_envelope.specs.declared.label.Label.TheVariants.{Inner, Outer, Block}

abbrev pub label_text : Label → List ℕ
label_text Inner = codes "inner"
label_text Outer = codes "outer"
label_text Block = codes "block"
