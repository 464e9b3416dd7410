-- Files that are left as they were.
use Rattle.std.proofs.Common.{◌≡◌, ℕ, List, ◌++◌, length, Some, sym, ap, ◌∙◌, arith, length-append}
use Rattle.std.proofs.Math.Seq.{take-append_seam}
use Rattle.std.specs.FinMap as map
use Rattle.esa_lists.specs.Files.{Files}
use Rattle.esa_lists.proofs.FilesLaws.{insert-there}
use Rattle.esa_outside.specs.Told.{HoldsFront, AddsFront}

-- a file that was left as it was holds a front of what it would hold
pub HoldsFront-unchanged : (files now told : Files) (name held bytes : List ℕ) → now ≡ told → Some told ≡ Some files → map.get files name ≡ Some held → HoldsFront files name (held ++ bytes) (Some now)
HoldsFront-unchanged files now told name held bytes same is there =
    (length held, omega (arith, length-append held bytes), ap Some same ∙ is ∙ ap Some (sym (ap (map.insert files name) (take-append_seam held bytes) ∙ insert-there files name held there)))

-- what was printed without its last bytes
pub AddsFront-front : (before front rest now : List ℕ) → now ≡ before ++ front → AddsFront before (front ++ rest) (Some now)
AddsFront-front before front rest now is =
    (length front, omega (arith, length-append front rest), ap Some (is ∙ ap (λ added. before ++ added) (sym (take-append_seam front rest))))
