use Rattle.std.proofs.Common.{◌≡◌, ◌*◌, take}
use Rattle.esa_vault.specs.Filled.{text_of}
use Rattle.esa_vault.proofs.text.write_all.Given as goal

-- the items before this one are written
abbrev pub invariant-loop-place : goal.invariant-loop-place
invariant-loop-place l = take (l.place * l.size) l.text ≡ text_of l.size (take l.place l.items)
