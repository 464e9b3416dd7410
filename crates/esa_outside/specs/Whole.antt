-- Why a file was not read whole.
use Rattle.std.specs.Prelude.{◌≡◌, ◌⊎◌, ℕ, ◌<◌, ◌≤◌, List, [], ◌∷◌, ◌++◌, length, Option, Some, Result, Ok, Err, IsSomeAnd}
use Rattle.std.specs.Option.{option_map}
use Rattle.esa_outside.specs.Cause.{Rose}
use Rattle.esa_outside.specs.Heard.{Event, length_of}
use Rattle.esa_outside.specs.declared.whole.ReadRefused.{ReadRefused}
use Rattle.esa_outside.specs.declared.whole.ReadRefused.TheVariants.{Failed, TooLarge, OutOfMemory}

-- by what the cabinet tells of the file: its length passes the limit; or it is there and does not
abbrev pub Refuses : Option (List ℕ) → ℕ → ReadRefused → Type 0
Refuses file limit Failed = Unit {0}
Refuses file limit (TooLarge n) = (option_map length file ≡ Some n) × (limit < n)
Refuses file limit OutOfMemory = IsSomeAnd file (λ held. length held ≤ limit)

-- by the count of faults: it fails only where the count rose, or what it needs is missing; another answer leaves the count
abbrev pub Counted : {T : Type 0} → ℕ → ℕ → Type 0 → Result T ReadRefused → Type 0
Counted before now missing (Ok bytes) = now ≡ before
Counted before now missing (Err Failed) = (before ≤ now) × (Rose before now ⊎ missing)
Counted before now missing (Err (TooLarge n)) = now ≡ before
Counted before now missing (Err OutOfMemory) = now ≡ before

-- the file's length was heard, and no more
abbrev pub HasHeardLength : List Event → List ℕ → List Event → ℕ → Type 0
HasHeardLength before name now n = now ≡ before ++ length_of name n ∷ []

-- By what was heard: the length that passes the limit; or one that doesn't, where there is no memory for the bytes, or
-- they failed; or nothing, where the length failed.
abbrev pub HasHeard : List Event → List ℕ → ℕ → List Event → ReadRefused → Type 0
HasHeard before name limit now Failed = (now ≡ before) ⊎ ((n : ℕ) × (n ≤ limit) × HasHeardLength before name now n)
HasHeard before name limit now (TooLarge n) = HasHeardLength before name now n
HasHeard before name limit now OutOfMemory = (n : ℕ) × (n ≤ limit) × HasHeardLength before name now n
