-- What is written where nothing was done.
use Rattle.std.proofs.Common.{◌≡◌, suc, true, List, [], ◌∷◌, length, refl, arith}
use Rattle.std.specs.Prelude.{◌==◌}
use Rattle.std.proofs.lemmas.Bool.Decides.{nat_tests}
use Rattle.esa_command.specs.Work.{Write}
use Rattle.esa_running.specs.RunOwes.{where_made}

-- where no access was made, nothing is written
pub none_made : {A : Type 0} (xs : List A) (writes : List Write) → true ≡ (length xs == 0) → where_made xs writes ≡ []
none_made [] writes none = refl
none_made (x ∷ xs) writes none = let empty : suc (length xs) ≡ 0 = grind (arith, nat_tests) in absurd (omega (arith, empty))
