-- What accesses carried, and when a log of it is faithful. Only proofs read a log.
use Rattle.std.specs.Prelude.{◌≡◌, ◌≢◌, ℕ, ◌&&◌, Bool, List, [], ◌∷◌, ◌++◌, All, find, reverse, slice_get, Option, Some, None, Result, Ok, Err, is_some, not, unwrap_or}
use Rattle.std.specs.Option.{option_map_or}
use Rattle.esa_params.specs.Sizes.{Sizes}
use Rattle.esa_params.specs.Slots.{is_writing, slot_number, writes_number}
use Rattle.esa_params.specs.declared.slot.Access.{Access}
use Rattle.esa_params.specs.declared.slot.Op.TheVariants.{Read}

-- an access, and the bytes that it gave or took, unless it failed
pub record Carried : Type 0 where
  pub access : Access
  pub bytes : Option (List ℕ)

-- the bytes that moved, unless the access failed
abbrev pub moved : {T E : Type 0} → Result T E → List ℕ → Option (List ℕ)
moved (Ok done) bytes = Some bytes
moved (Err failure) bytes = None

-- what is noted of an access that was made
abbrev pub carried_by : {T E : Type 0} → Access → Result T E → List ℕ → Carried
carried_by access result bytes = record { access = access; bytes = moved result bytes }

-- the latest write of the slot of this number, and what it took
abbrev pub latest_carried : Sizes → ℕ → List Carried → Option Carried
latest_carried p number log = find (λ entry. writes_number p number entry.access) (reverse log)

-- the latest write of the slot of this number took these bytes
abbrev pub Took : Sizes → ℕ → List ℕ → List Carried → Type 0
Took p number bytes log = (write : Access) × (latest_carried p number log ≡ Some (record { access = write; bytes = Some bytes }))

-- a read that didn't fail gave these bytes
abbrev pub Gave : Carried → List ℕ → Type 0
Gave entry bytes = (entry.access.op ≡ Read) × (entry.bytes ≡ Some bytes)

-- an entry is of a read that didn't fail
abbrev pub has_given : Carried → Bool
has_given entry = not (is_writing entry.access.op) && is_some entry.bytes

-- what the last read of the log that didn't fail gave, or no bytes where there was none
abbrev pub last_given : List Carried → List ℕ
last_given log = option_map_or (λ (entry : Carried). unwrap_or entry.bytes []) (find has_given (reverse log)) []

-- no access of the log failed
abbrev pub NoneFailed : List Carried → Type 0
NoneFailed log = All (λ (entry : Carried). entry.bytes ≢ None) log

-- the last access of the log failed, and no other
pub record OnlyLastFailed (log : List Carried) : Type 0 where
  pub before : List Carried
  pub access : Access
  pub is : log ≡ before ++ record { access = access; bytes = None } ∷ []
  pub none : NoneFailed before

-- each read gave the bytes that the latest write of its slot took. Where that write failed or there was none, any bytes
-- will do
abbrev pub IsFaithful : Sizes → List Carried → Type 0
IsFaithful p log =
    (before after : List Carried) (entry : Carried) (given written : List ℕ) → log ≡ before ++ entry ∷ after
    → Gave entry given → Took p (slot_number p entry.access) written before → given ≡ written

-- each slot holds the bytes that its latest write took
abbrev pub HoldsWritten : Sizes → List (List ℕ) → List Carried → Type 0
HoldsWritten p blocks log = (number : ℕ) (bytes : List ℕ) → Took p number bytes log → slice_get blocks number ≡ Some bytes

-- where a device tells, it holds what was written to it, and the log of its accesses is faithful
abbrev pub IsBacked : Option Sizes → Option (List (List ℕ)) → List Carried → Type 0
IsBacked None told log = Unit {0}
IsBacked (Some p) told log = (blocks : List (List ℕ)) → told ≡ Some blocks → HoldsWritten p blocks log × IsFaithful p log
