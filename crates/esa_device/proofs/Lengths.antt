-- The lengths of all blocks of a plan, together.
use Rattle.std.proofs.Common.{◌≡◌, ℕ, zero, suc, ◌+◌, ◌-◌, ◌*◌, ◌^◌, ◌≤◌, ◌<◌, ◌∙◌, ap, sym, add-one, arith}
use Rattle.std.proofs.lemmas.List.FromFn.{sum_by-map-range_with_len_more}
use Rattle.std.proofs.lemmas.Nat.{mul-le}
use Rattle.esa_params.specs.Form.{envelope_length}
use Rattle.esa_params.specs.Sizes.{Sizes, ArePlanned, size}
use Rattle.esa_params.specs.Slots.{at, slots_of, start, slot_at, item_length, block_length, length_at, offset_at}
use Rattle.esa_params.specs.declared.form.Form.{Form}
use Rattle.esa_params.specs.declared.form.Form.TheVariants.{One, Two}
use Rattle.esa_params.specs.declared.slot.Region.{Region}
use Rattle.esa_params.specs.declared.slot.Region.TheVariants.{Input, Mid, Tail, Output}

envelope-le : (form : Form) → envelope_length form ≤ 304
envelope-le One = omega arith
envelope-le Two = omega arith

item-le : (form : Form) → item_length form ≤ 304
item-le One = omega arith
item-le Two = omega arith

size-le : (p : Sizes) (j : ℕ) → ArePlanned p → size p j ≤ 262144
size-le p j planned = omega (arith, planned.n_greatest)

-- no block is longer than this
block-le : (p : Sizes) (region : Region) (index : ℕ) → ArePlanned p → block_length p (at region index) ≤ 79691816
block-le p Input index planned = omega (arith, mul-le (envelope_length p.form) (size p index) 304 262144 (envelope-le p.form) (size-le p index planned))
block-le p Mid index planned = omega (arith, mul-le (item_length p.form) p.c 304 262144 (item-le p.form) (omega (arith, planned.parameters.c_greatest)))
block-le p Tail index planned = omega (arith, mul-le (item_length p.form) p.k 304 262144 (item-le p.form) (omega (arith, planned.parameters.k_greatest)))
block-le p Output index planned = omega (arith, mul-le (item_length p.form) (size p index) 304 262144 (item-le p.form) (size-le p index planned))

length-le : (p : Sizes) (x : ℕ) → ArePlanned p → length_at p x ≤ 79691816
length-le p x planned = block-le p (slot_at p x).region (slot_at p x).index planned

more : (p : Sizes) (x : ℕ) → offset_at p (x + 1) ≡ offset_at p x + length_at p x
more p x = sum_by-map-range_with_len_more (λ y. y) (length_at p) 0 x x (omega arith)

offset-le : (p : Sizes) (x : ℕ) → ArePlanned p → offset_at p x ≤ x * 79691816
offset-le p zero planned = omega arith
offset-le p (suc x) planned = omega (arith, ap (offset_at p) (sym (add-one x)) ∙ more p x, offset-le p x planned, length-le p x planned)

-- the last block ends within a u64
pub last_small : (p : Sizes) (x n : ℕ) → ArePlanned p → x < slots_of p → n ≡ length_at p x → offset_at p x + n < 2 ^ 64
last_small p x n planned inside is =
    let pairs = mul-le p.b p.b 256 256 planned.parameters.b_greatest planned.parameters.b_greatest in
    omega (arith, offset-le p x planned, length-le p x planned, is, pairs, planned.parameters.b_greatest, inside)

-- and there all blocks end
pub last_is : (p : Sizes) → ArePlanned p → offset_at p (start p Output + (p.b - 1)) + length_at p (start p Output + (p.b - 1)) ≡ offset_at p (slots_of p)
last_is p planned =
    let one : (start p Output + (p.b - 1)) + 1 ≡ slots_of p = omega (arith, planned.parameters.b_least) in
    sym (more p (start p Output + (p.b - 1))) ∙ ap (offset_at p) one
