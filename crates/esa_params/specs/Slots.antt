-- The blocks of the external memory: which there are, their numbers, lengths and nonces, and the accesses to them.
use Rattle.std.specs.Prelude.{ℕ, ◌+◌, ◌-◌, ◌*◌, ◌^◌, ◌<◌, Bool, true, false, ◌&&◌, ◌==◌, nat_lt, if◌then◌else◌, map, sum}
use Rattle.esa_params.specs.Form.{body_length, envelope_length}
use Rattle.esa_params.specs.Sizes.{Sizes, size, below}
use Rattle.esa_params.specs.declared.form.Form.{Form}
use Rattle.esa_params.specs.declared.slot.Region.{Region}
use Rattle.esa_params.specs.declared.slot.Region.TheVariants.{Input, Mid, Tail, Output}
use Rattle.esa_params.specs.declared.slot.Slot.{Slot}
use Rattle.esa_params.specs.declared.slot.Op.{Op}
use Rattle.esa_params.specs.declared.slot.Op.TheVariants.{Read, Write}
use Rattle.esa_params.specs.declared.slot.Access.{Access}

-- the slot at an index of a region
abbrev pub at : Region → ℕ → Slot
at region index = record { region = region; index = index }

-- how many blocks a region has
abbrev pub blocks : Sizes → Region → ℕ
blocks p Input = p.b
blocks p Mid = p.b * p.b
blocks p Tail = p.b
blocks p Output = p.b

-- the slot is one of the plan
abbrev pub IsPlanned : Sizes → Slot → Type 0
IsPlanned p slot = slot.index < blocks p slot.region

-- the number of the first block of a region, where Input, Mid, Tail and Output follow one another
abbrev pub start : Sizes → Region → ℕ
start p Input = 0
start p Mid = p.b
start p Tail = p.b + p.b * p.b
start p Output = 2 * p.b + p.b * p.b

-- the number of a slot
abbrev pub number_of : Sizes → Slot → ℕ
number_of p slot = start p slot.region + slot.index

-- the number of slots
abbrev pub slots_of : Sizes → ℕ
slots_of p = 3 * p.b + p.b * p.b

-- the slot that has a number
abbrev pub slot_at : Sizes → ℕ → Slot
slot_at p x =
    if nat_lt x p.b then at Input x
    else if nat_lt x (p.b + p.b * p.b) then at Mid (x - p.b)
    else if nat_lt x (2 * p.b + p.b * p.b) then at Tail (x - (p.b + p.b * p.b))
    else at Output (x - (2 * p.b + p.b * p.b))

-- the length of an item: its kind in one byte, and the body
abbrev pub item_length : Form → ℕ
item_length form = body_length form + 1

-- the length of the plain text of a block
abbrev pub plain_length : Sizes → Region → ℕ → ℕ
plain_length p Input index = envelope_length p.form * size p index
plain_length p Mid index = item_length p.form * p.c
plain_length p Tail index = item_length p.form * p.k
plain_length p Output index = item_length p.form * size p index

-- the length of a block, which is sealed: a nonce and a tag stand round its text
abbrev pub block_length : Sizes → Slot → ℕ
block_length p slot = plain_length p slot.region slot.index + 40

-- the length of the block that has a number
abbrev pub length_at : Sizes → ℕ → ℕ
length_at p x = block_length p (slot_at p x)

-- where the block that has a number begins: the lengths of the blocks with lower numbers, together
abbrev pub offset_at : Sizes → ℕ → ℕ
offset_at p x = sum (map (length_at p) (below x))

-- the attempt of a nonce: a block of Input is written once, and keeps the nonce of attempt 0
abbrev pub sealed_in : ℕ → Region → ℕ
sealed_in attempt Input = 0
sealed_in attempt _ = attempt

-- the nonce of a slot in an attempt
abbrev pub nonce_of : Sizes → ℕ → Slot → ℕ
nonce_of p attempt slot = sealed_in attempt slot.region * 2 ^ 32 + number_of p slot

-- the access to a slot in an attempt
abbrev pub access_of : Sizes → ℕ → Op → Slot → Access
access_of p attempt op slot = record {
  op = op;
  region = slot.region;
  index = slot.index;
  length = block_length p slot;
  nonce = nonce_of p attempt slot;
  attempt = attempt;
}

-- the number of the slot that an access is to
abbrev pub slot_number : Sizes → Access → ℕ
slot_number p access = number_of p (at access.region access.index)

-- an operation writes
abbrev pub is_writing : Op → Bool
is_writing Read = false
is_writing Write = true

-- an access writes the slot that has this number
abbrev pub writes_number : Sizes → ℕ → Access → Bool
writes_number p number access = is_writing access.op && slot_number p access == number

-- the most accesses that a shuffle makes: the load, the attempts, and two scans of the output
abbrev pub greatest_trace : Sizes → ℕ
greatest_trace p = 3 * p.b + p.attempts * (2 * p.b * p.b + 4 * p.b)
