-- What is said of accesses that were cut short, and of the block of the last one.
use Rattle.std.specs.Prelude.{◌≡◌, ℕ, ◌/◌, ◌%◌, List, [], ◌∷◌, ◌++◌, length}
use Rattle.esa_params.specs.Sizes.{Sizes, size}
use Rattle.esa_params.specs.declared.slot.Access.{Access}
use Rattle.esa_params.specs.declared.slot.Region.{Region}
use Rattle.esa_params.specs.declared.slot.Region.TheVariants.{Input, Mid, Tail, Output}
use Rattle.esa_spec.specs.Draws.{Draw}
use Rattle.esa_spec.specs.Lines.{backlog, chunk}
use Rattle.esa_spec.specs.Places.{exchange_of}

-- a list begins another one
abbrev pub Begins : {X : Type 0} → List X → List X → Type 0
Begins {X} front whole = (more : List X) × (whole ≡ front ++ more)

-- the list ends with this access
abbrev pub EndsWith : List Access → Access → Type 0
EndsWith accesses access = (before : List Access) × (accesses ≡ before ++ access ∷ [])

-- how many items stand before the dummies in the block of an access, in an attempt with this order of exchanges
abbrev pub items_at : Sizes → Draw → List ℕ → Region → ℕ → ℕ
items_at p d o Input index = 0
items_at p d o Mid index = length (chunk p d o (exchange_of o (index / p.b)) (index % p.b))
items_at p d o Tail index = backlog p d o p.b index
items_at p d o Output index = size p index

abbrev pub items_in : Sizes → Draw → List ℕ → Access → ℕ
items_in p d o access = items_at p d o access.region access.index
