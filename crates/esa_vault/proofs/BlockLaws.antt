-- When a sealed block opens, by its nonce.
use Rattle.std.proofs.Common.{◌≡◌, ◌≢◌, ℕ, ◌+◌, ◌*◌, ◌^◌, ◌<◌, ◌≤◌, true, false, ◌==◌, List, Some, None, refl, sym, ap, ◌∙◌, arith}
use Rattle.std.specs.Prelude.{if◌then◌else◌}
use Rattle.std.specs.Option.{option_map_or}
use Rattle.std.proofs.Math.Nat.{mul-le-mul}
use Rattle.std.proofs.lemmas.Bool.Decides.{nat_tests}
use Rattle.esa_envelope.specs.declared.keys.Keys.{Keys}
use Rattle.esa_envelope.specs.declared.label.Label.TheVariants.{Block}
use Rattle.esa_envelope.specs.Envelope.{nonce_in, opened}
use Rattle.esa_envelope.proofs.EnvelopeLemmas.{nonce_in-sealed_as, opened-sealed_as}
use Rattle.esa_params.specs.Sizes.{Sizes, ArePlanned}
use Rattle.esa_params.specs.Slots.{IsPlanned, at, blocks, nonce_of, number_of, sealed_in, slot_at, start}
use Rattle.esa_params.specs.declared.slot.Region.{Region}
use Rattle.esa_params.specs.declared.slot.Region.TheVariants.{Input, Mid, Tail, Output}
use Rattle.esa_params.specs.declared.slot.Slot.{Slot}
use Rattle.esa_vault.specs.Seals.{is_text_of, opens, sealed_block, text_in}

pub square : (p : Sizes) → ArePlanned p → p.b * p.b ≤ 65536
square p planned =
    let kept = planned.parameters.b_greatest in
    mul-le-mul kept kept

-- the numbers of slots are small
number-small : (p : Sizes) (region : Region) (index : ℕ) → ArePlanned p → index < blocks p region → start p region + index < 2 ^ 32
number-small p Input index planned inside = let kept = planned.parameters.b_greatest in omega arith
number-small p Mid index planned inside = let kept = planned.parameters.b_greatest in let few = square p planned in omega arith
number-small p Tail index planned inside = let kept = planned.parameters.b_greatest in let few = square p planned in omega arith
number-small p Output index planned inside = let kept = planned.parameters.b_greatest in let few = square p planned in omega arith

sealed_in-small : (region : Region) (attempt : ℕ) → attempt < 2 ^ 32 → sealed_in attempt region < 2 ^ 32
sealed_in-small Input attempt small = omega arith
sealed_in-small Mid attempt small = small
sealed_in-small Tail attempt small = small
sealed_in-small Output attempt small = small

-- so nonces fit
pub nonce-fits : (p : Sizes) (slot : Slot) (attempt : ℕ) → ArePlanned p → IsPlanned p slot → attempt < 2 ^ 32 → nonce_of p attempt slot < 2 ^ 64
nonce-fits p slot attempt planned inside small =
    omega (arith, number-small p slot.region slot.index planned inside, sealed_in-small slot.region attempt small)

-- bytes whose nonce is that of the slot and the attempt
own_nonce : (p : Sizes) (keys : Keys) (slot : Slot) (attempt : ℕ) (bytes : List ℕ) → nonce_in bytes ≡ nonce_of p attempt slot
    → text_in p keys slot attempt bytes ≡ opened keys Block bytes
unfolding text_in
own_nonce p keys slot attempt bytes own =
    let is : (nonce_in bytes == nonce_of p attempt slot) ≡ true = grind (arith, nat_tests) in
    ap (λ same. if same then opened keys Block bytes else None) is

-- bytes with another one
other_nonce : (p : Sizes) (keys : Keys) (slot : Slot) (attempt : ℕ) (bytes : List ℕ) → nonce_in bytes ≢ nonce_of p attempt slot
    → text_in p keys slot attempt bytes ≡ None
unfolding text_in
other_nonce p keys slot attempt bytes other =
    let is : (nonce_in bytes == nonce_of p attempt slot) ≡ false = grind (arith, nat_tests) in
    ap (λ same. if same then opened keys Block bytes else None) is

pub text_in-sealed : (p : Sizes) (keys : Keys) (slot : Slot) (attempt : ℕ) (text : List ℕ)
    → ArePlanned p → IsPlanned p slot → attempt < 2 ^ 32 → text_in p keys slot attempt (sealed_block p keys slot attempt text) ≡ Some text
text_in-sealed p keys slot attempt text planned inside small =
    let fits = nonce-fits p slot attempt planned inside small in
    own_nonce p keys slot attempt (sealed_block p keys slot attempt text) (nonce_in-sealed_as keys Block (nonce_of p attempt slot) text fits)
    ∙ opened-sealed_as keys Block (nonce_of p attempt slot) text fits

pub opens-sealed : (p : Sizes) (keys : Keys) (slot : Slot) (attempt count : ℕ) (text : List ℕ)
    → ArePlanned p → IsPlanned p slot → attempt < 2 ^ 32
    → opens p keys slot attempt count (sealed_block p keys slot attempt text) ≡ is_text_of p slot.region count text
opens-sealed p keys slot attempt count text planned inside small =
    ap (λ text. option_map_or (is_text_of p slot.region count) text false) (text_in-sealed p keys slot attempt text planned inside small)

pub opens-other_nonce : (p : Sizes) (keys : Keys) (slot : Slot) (attempt count : ℕ) (bytes : List ℕ)
    → nonce_in bytes ≢ nonce_of p attempt slot → opens p keys slot attempt count bytes ≡ false
opens-other_nonce p keys slot attempt count bytes other =
    ap (λ text. option_map_or (is_text_of p slot.region count) text false) (other_nonce p keys slot attempt bytes other)

-- outside of Input the attempt stands in the nonce
sealed_in-attempt : (region : Region) (attempt : ℕ) → region ≢ Input → sealed_in attempt region ≡ attempt
sealed_in-attempt Input attempt not = absurd (not refl)
sealed_in-attempt Mid attempt not = refl
sealed_in-attempt Tail attempt not = refl
sealed_in-attempt Output attempt not = refl

apart : (attempt earlier x y n : ℕ) → x ≡ attempt → y ≡ earlier → x * 2 ^ 32 + n ≡ y * 2 ^ 32 + n → attempt ≡ earlier
apart attempt earlier x y n now before same = omega arith

pub opens-other_attempt : (p : Sizes) (keys : Keys) (slot : Slot) (attempt earlier count : ℕ) (text : List ℕ)
    → ArePlanned p → IsPlanned p slot → attempt < 2 ^ 32 → earlier < 2 ^ 32 → slot.region ≢ Input → attempt ≢ earlier
    → opens p keys slot attempt count (sealed_block p keys slot earlier text) ≡ false
opens-other_attempt p keys slot attempt earlier count text planned inside small early outside differs =
    let own = nonce_in-sealed_as keys Block (nonce_of p earlier slot) text (nonce-fits p slot earlier planned inside early) in
    let now = sealed_in-attempt slot.region attempt outside in
    let before = sealed_in-attempt slot.region earlier outside in
    opens-other_nonce p keys slot attempt count (sealed_block p keys slot earlier text)
    (λ same. differs (apart attempt earlier (sealed_in attempt slot.region) (sealed_in earlier slot.region) (number_of p slot) now before (sym same ∙ own)))

-- a slot is known by its number
slot_at-number : (p : Sizes) (region : Region) (index : ℕ) → index < blocks p region → slot_at p (start p region + index) ≡ at region index
slot_at-number p Input index inside = grind (arith, nat_tests)
slot_at-number p Mid index inside = grind (arith, nat_tests)
slot_at-number p Tail index inside = grind (arith, nat_tests)
slot_at-number p Output index inside = grind (arith, nat_tests)

-- the number stands in the nonce
alike : (x y m n : ℕ) → m < 2 ^ 32 → n < 2 ^ 32 → x * 2 ^ 32 + m ≡ y * 2 ^ 32 + n → m ≡ n
alike x y m n first second same = omega arith

pub opens-other_slot : (p : Sizes) (keys : Keys) (slot other : Slot) (attempt earlier count : ℕ) (text : List ℕ)
    → ArePlanned p → IsPlanned p slot → IsPlanned p other → attempt < 2 ^ 32 → earlier < 2 ^ 32 → slot ≢ other
    → opens p keys slot attempt count (sealed_block p keys other earlier text) ≡ false
opens-other_slot p keys slot other attempt earlier count text planned inside there small early differs =
    let own = nonce_in-sealed_as keys Block (nonce_of p earlier other) text (nonce-fits p other earlier planned there early) in
    let first = number-small p slot.region slot.index planned inside in
    let second = number-small p other.region other.index planned there in
    opens-other_nonce p keys slot attempt count (sealed_block p keys other earlier text)
    (λ same.
    let numbers = alike (sealed_in attempt slot.region) (sealed_in earlier other.region) (number_of p slot) (number_of p other) first second (sym same ∙ own) in
    differs (sym (slot_at-number p slot.region slot.index inside) ∙ ap (slot_at p) numbers ∙ slot_at-number p other.region other.index there))
