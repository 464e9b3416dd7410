-- The blocks lie one after another by their numbers, region after region.
use Rattle.std.proofs.Common.{◌≡◌, ℕ, zero, suc, ◌+◌, ◌-◌, ◌*◌, ◌^◌, ◌≤◌, ◌<◌, max, ⊎_elim, sym, ◌∙◌, ap, add-one, add-zero, arith}
use Rattle.std.proofs.lemmas.Bool.{cases_lt}
use Rattle.std.proofs.lemmas.Bool.Decides.{nat_tests}
use Rattle.std.proofs.lemmas.List.FromFn.{sum_by-map-range_with_len_more}
use Rattle.std.proofs.lemmas.Nat.{mul-le}
use Rattle.esa_params.specs.Form.{envelope_length}
use Rattle.esa_params.specs.Sizes.{Sizes, first, size}
use Rattle.esa_params.specs.Slots.{at, blocks, start, slot_at, item_length, block_length, length_at, offset_at, IsPlanned}
use Rattle.esa_params.specs.declared.form.Form.{Form}
use Rattle.esa_params.specs.declared.form.Form.TheVariants.{One, Two}
use Rattle.esa_params.specs.declared.slot.Region.{Region}
use Rattle.esa_params.specs.declared.slot.Region.TheVariants.{Input, Mid, Tail, Output}
use Rattle.esa_params.specs.declared.slot.Slot.{Slot}

-- the slot that has the number of an index of a region
located : (p : Sizes) (r : Region) (x : ℕ) → x < blocks p r → slot_at p (start p r + x) ≡ at r x
located p Input x h = grind (arith, nat_tests)
located p Mid x h = grind (arith, nat_tests)
located p Tail x h = grind (arith, nat_tests)
located p Output x h = grind (arith, nat_tests)

-- one block more
offset_at-more : (p : Sizes) (x : ℕ) → offset_at p (x + 1) ≡ offset_at p x + length_at p x
offset_at-more p x = sum_by-map-range_with_len_more (λ y. y) (length_at p) 0 x x (omega arith)

first-le : (p : Sizes) (j : ℕ) → first p j ≤ first p (j + 1)
first-le p j = omega arith

-- the lengths of the first x blocks of a region, together
abbrev inside : Sizes → Region → ℕ → ℕ
inside p Input x = envelope_length p.form * first p x + 40 * x
inside p Mid x = x * (item_length p.form * p.c + 40)
inside p Tail x = x * (item_length p.form * p.k + 40)
inside p Output x = item_length p.form * first p x + 40 * x

scaled : (e a b : ℕ) → a ≤ b → e * b ≡ e * a + e * (b - a)
scaled e a b h = let split : b ≡ a + (b - a) = omega arith in ap (λ y. e * y) split ∙ omega arith

inside-more : (p : Sizes) (r : Region) (x : ℕ) → inside p r (x + 1) ≡ inside p r x + block_length p (at r x)
inside-more p Input x = omega (arith, scaled (envelope_length p.form) (first p x) (first p (x + 1)) (first-le p x))
inside-more p Mid x = omega arith
inside-more p Tail x = omega arith
inside-more p Output x = omega (arith, scaled (item_length p.form) (first p x) (first p (x + 1)) (first-le p x))

inside-zero : (p : Sizes) (r : Region) → inside p r 0 ≡ 0
inside-zero p Input = let none : first p 0 ≡ 0 = omega arith in omega (arith, ap (λ y. envelope_length p.form * y) none)
inside-zero p Mid = omega arith
inside-zero p Tail = omega arith
inside-zero p Output = let none : first p 0 ≡ 0 = omega arith in omega (arith, ap (λ y. item_length p.form * y) none)

-- where a block begins, from where its region begins
laid : (p : Sizes) (r : Region) (x : ℕ) → x ≤ blocks p r → offset_at p (start p r + x) ≡ offset_at p (start p r) + inside p r x
laid p r zero h = ap (offset_at p) (add-zero (start p r)) ∙ omega (arith, inside-zero p r)
laid p r (suc x) h =
    let next : start p r + suc x ≡ (start p r + x) + 1 = omega arith in
    let before : offset_at p (start p r + x) ≡ offset_at p (start p r) + inside p r x = laid p r x (omega arith) in
    let more : offset_at p ((start p r + x) + 1) ≡ offset_at p (start p r + x) + length_at p (start p r + x) = offset_at-more p (start p r + x) in
    let here : length_at p (start p r + x) ≡ block_length p (at r x) = ap (block_length p) (located p r x h) in
    let one : inside p r (suc x) ≡ inside p r x + block_length p (at r x) = ap (inside p r) (sym (add-one x)) ∙ inside-more p r x in
    ap (offset_at p) next ∙ omega (arith, before, more, here, one)

-- every record lies in a bucket
whole : (p : Sizes) → 1 ≤ p.b → first p p.b ≡ p.n
whole p h = omega arith

pub mid_begins : (p : Sizes) → 1 ≤ p.b → offset_at p (start p Mid) ≡ envelope_length p.form * p.n + 40 * p.b
mid_begins p h =
    let at_end : offset_at p (0 + p.b) ≡ envelope_length p.form * first p p.b + 40 * p.b = laid p Input p.b (omega arith) ∙ omega arith in
    let here : 0 + p.b ≡ p.b = omega arith in
    let all = ap (λ y. envelope_length p.form * y) (whole p h) in
    ap (offset_at p) (sym here) ∙ omega (arith, at_end, all)

pub tail_begins : (p : Sizes) → 1 ≤ p.b → offset_at p (start p Tail) ≡ envelope_length p.form * p.n + 40 * p.b + p.b * p.b * (item_length p.form * p.c + 40)
tail_begins p h = omega (arith, laid p Mid (p.b * p.b) (omega arith), mid_begins p h)

pub output_begins : (p : Sizes) → 1 ≤ p.b → offset_at p (start p Output)
    ≡ envelope_length p.form * p.n + 40 * p.b + p.b * p.b * (item_length p.form * p.c + 40) + p.b * (item_length p.form * p.k + 40)
output_begins p h =
    let here : start p Output ≡ start p Tail + p.b = omega arith in
    ap (offset_at p) here ∙ omega (arith, laid p Tail p.b (omega arith), tail_begins p h)

pub input_inside : (p : Sizes) (x : ℕ) → x < p.b → offset_at p (start p Input + x) ≡ offset_at p (start p Input) + (envelope_length p.form * first p x + 40 * x)
input_inside p x h = laid p Input x (omega arith)

pub mid_inside : (p : Sizes) (x : ℕ) → x < p.b * p.b → offset_at p (start p Mid + x) ≡ offset_at p (start p Mid) + x * (item_length p.form * p.c + 40)
mid_inside p x h = laid p Mid x (omega arith)

pub tail_inside : (p : Sizes) (x : ℕ) → x < p.b → offset_at p (start p Tail + x) ≡ offset_at p (start p Tail) + x * (item_length p.form * p.k + 40)
tail_inside p x h = laid p Tail x (omega arith)

pub output_inside : (p : Sizes) (x : ℕ) → x < p.b → offset_at p (start p Output + x) ≡ offset_at p (start p Output) + (item_length p.form * first p x + 40 * x)
output_inside p x h = laid p Output x (omega arith)

pub envelope_small : (form : Form) → envelope_length form ≤ 304
envelope_small One = omega arith
envelope_small Two = omega arith

pub item_small : (form : Form) → item_length form ≤ 265
item_small One = omega arith
item_small Two = omega arith

-- all regions together are shorter than 2^62 bytes
pub fits_together : (e n b i c k : ℕ) → e ≤ 304 → n ≤ 262144 → b ≤ 256 → i ≤ 265 → c ≤ 1024 → k ≤ 4096
    → e * n + 40 * b + b * b * (i * c + 40) + b * (i * k + 40) < 2 ^ 62
fits_together e n b i c k he hn hb hi hc hk =
    let envelopes = mul-le e n 304 262144 he hn in
    let chunk = mul-le i c 265 1024 hi hc in
    let tail = mul-le i k 265 4096 hi hk in
    let pairs = mul-le b b 256 256 hb hb in
    let chunk' : i * c + 40 ≤ 271400 = omega (arith, chunk) in
    let tail' : i * k + 40 ≤ 1085480 = omega (arith, tail) in
    let pairs' : b * b ≤ 65536 = omega (arith, pairs) in
    let chunks = mul-le (b * b) (i * c + 40) 65536 271400 pairs' chunk' in
    let tails = mul-le b (i * k + 40) 256 1085480 hb tail' in
    omega (arith, envelopes, chunks, tails)

-- the longest block is one of Input, Mid or Tail
pub longest : (p : Sizes) → 1 ≤ p.b → (m : ℕ) → m ≡ max (envelope_length p.form * size p 0) (item_length p.form * max p.c p.k)
    → (slot : Slot) × IsPlanned p slot × (block_length p slot ≡ m + 40)
longest p h m e = ⊎_elim
    (λ (shorter : item_length p.form * max p.c p.k < envelope_length p.form * size p 0). (at Input 0, omega arith, omega arith))
    (λ (longer : envelope_length p.form * size p 0 ≤ item_length p.form * max p.c p.k). ⊎_elim
    (λ (short : p.c < p.k).
    let tail : max p.c p.k ≡ p.k = omega arith in
    let same = ap (λ y. item_length p.form * y) tail in
    (at Tail 0, omega arith, omega (arith, same)))
    (λ (long : p.k ≤ p.c).
    let chunk : max p.c p.k ≡ p.c = omega arith in
    let same = ap (λ y. item_length p.form * y) chunk in
    (at Mid 0, omega (arith, mul-le 1 1 p.b p.b h h), omega (arith, same)))
    (cases_lt p.c p.k))
    (cases_lt (item_length p.form * max p.c p.k) (envelope_length p.form * size p 0))

pub ruleset regions = (mid_begins, tail_begins, output_begins)

pub ruleset insides = (input_inside, mid_inside, tail_inside, output_inside)
