-- The bytes of a trace file and of a turns file. All numbers of a trace file are big-endian.
use Rattle.std.specs.Prelude.{ℕ, List, [], ◌∷◌, ◌++◌, length, flat_map, codes, decimal}
use Rattle.std.specs.Int.{w32, w64, to_be_bytes}
use Rattle.esa_params.specs.declared.slot.Region.{Region}
use Rattle.esa_params.specs.declared.slot.Region.TheVariants.{Input, Mid, Tail, Output}
use Rattle.esa_params.specs.declared.slot.Op.{Op}
use Rattle.esa_params.specs.declared.slot.Op.TheVariants.{Read, Write}
use Rattle.esa_params.specs.declared.slot.Access.{Access}

-- a read is 0 and a write is 1
abbrev pub op_code : Op → ℕ
op_code Read = 0
op_code Write = 1

-- the regions by number
abbrev pub region_code : Region → ℕ
region_code Input = 0
region_code Mid = 1
region_code Tail = 2
region_code Output = 3

-- the 19 bytes of an access: operation, region, attempt, index, length and nonce
abbrev pub access_bytes : Access → List ℕ
access_bytes x =
    op_code x.op ∷ region_code x.region ∷ x.attempt ∷ [] ++ to_be_bytes w32 x.index ++ to_be_bytes w32 x.length ++ to_be_bytes w64 x.nonce

-- the first nine bytes of a trace file: its name, its version, and the number of accesses
abbrev pub trace_header : ℕ → List ℕ
trace_header count = codes "ESAT" ++ 1 ∷ [] ++ to_be_bytes w32 count

-- a trace file
abbrev pub trace_bytes : List Access → List ℕ
trace_bytes accesses = trace_header (length accesses) ++ flat_map access_bytes accesses

-- the line of a turn: the worker's number in decimal
abbrev pub turn_line : ℕ → List ℕ
turn_line worker = decimal worker ++ 10 ∷ []

-- the line that ends a list of turns and begins the next one
abbrev pub next_line : List ℕ
next_line = codes "next" ++ 10 ∷ []

-- a turns file: the turns of each list, with a line between two lists
abbrev pub turns_bytes : List (List ℕ) → List ℕ
turns_bytes [] = []
turns_bytes (turns ∷ []) = flat_map turn_line turns
turns_bytes (turns ∷ other ∷ more) = flat_map turn_line turns ++ next_line ++ turns_bytes (other ∷ more)
