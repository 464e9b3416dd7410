-- Which seal stands in a slot after a list of accesses.
use Rattle.std.specs.Prelude.{◌≡◌, ◌≢◌, ℕ, ◌<◌, Option, Some, None, List, find, map, reverse, slice_get}
use Rattle.esa_device.specs.Logs.{Carried, Took}
use Rattle.esa_envelope.specs.declared.keys.Keys.{Keys}
use Rattle.esa_envelope.specs.declared.label.Label.TheVariants.{Block}
use Rattle.esa_envelope.specs.Envelope.{sealed_as}
use Rattle.esa_params.specs.Sizes.{Sizes}
use Rattle.esa_params.specs.Slots.{slots_of, writes_number}
use Rattle.esa_params.specs.declared.slot.Access.{Access}

-- the last of the accesses that writes the slot of this number
abbrev pub latest_write : Sizes → ℕ → List Access → Option Access
latest_write p number accesses = find (writes_number p number) (reverse accesses)

-- where accesses write the slot of this number, it holds the seal of the latest write. What each write seals is given
abbrev pub HoldsLatest : Sizes → Keys → (Access → List ℕ) → List (List ℕ) → List Access → ℕ → Type 0
HoldsLatest p keys text held accesses number =
    (access : Access) → latest_write p number accesses ≡ Some access
    → slice_get held number ≡ Some (sealed_as keys Block access.nonce (text access))

-- so it is with each slot of the plan
abbrev pub AllHoldLatest : Sizes → Keys → (Access → List ℕ) → List (List ℕ) → List Access → Type 0
AllHoldLatest p keys text held accesses = (number : ℕ) → number < slots_of p → HoldsLatest p keys text held accesses number

-- the same of the slot of this number, where the blocks are told
abbrev pub ToldLatest : Sizes → Keys → (Access → List ℕ) → Option (List (List ℕ)) → List Access → ℕ → Type 0
ToldLatest p keys text told accesses number =
    (blocks : List (List ℕ)) → told ≡ Some blocks → HoldsLatest p keys text blocks accesses number

-- and of each slot of the plan
abbrev pub AllToldLatest : Sizes → Keys → (Access → List ℕ) → Option (List (List ℕ)) → List Access → Type 0
AllToldLatest p keys text told accesses = (number : ℕ) → number < slots_of p → ToldLatest p keys text told accesses number

-- the accesses of a log
abbrev pub accesses_of : List Carried → List Access
accesses_of log = map (λ entry. entry.access) log

-- where accesses write the slot of this number, the latest write took the seal of its text
abbrev pub TookLatest : Sizes → Keys → (Access → List ℕ) → List Carried → ℕ → Type 0
TookLatest p keys text log number =
    (access : Access) → latest_write p number (accesses_of log) ≡ Some access
    → Took p number (sealed_as keys Block access.nonce (text access)) log

-- any slot but this one, if there is one
abbrev pub IsNot : Option ℕ → ℕ → Type 0
IsNot None number = Unit {0}
IsNot (Some other) number = number ≢ other

-- so it is with each slot of the plan but one, if there is one
abbrev pub AllTookLatest : Sizes → Keys → (Access → List ℕ) → List Carried → Option ℕ → Type 0
AllTookLatest p keys text log but = (number : ℕ) → number < slots_of p → IsNot but number → TookLatest p keys text log number
