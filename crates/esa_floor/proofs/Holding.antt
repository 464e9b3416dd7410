-- What a worker holds at a stage serves its next turn: its items can be spelled and are no dummies, and its blocks carry
-- the nonces of their slots.
use Rattle.std.proofs.Common.{◌≡◌, ℕ, ◌*◌, ◌<◌, ◌≤◌, List, [], length, get_or, map, All, Option, Some, None, refl, sym, ap, ◌∙◌, subst, arith, zero-add}
use Rattle.std.specs.Prelude.{unwrap_or}
use Rattle.std.proofs.lemmas.List.{length-drop, length-take}
use Rattle.std.proofs.lemmas.List.Elements.{All-map}
use Rattle.std.proofs.lemmas.List.FromFn.{get_or-range_with_len, length-range_with_len}
use Rattle.esa_envelope.proofs.EnvelopeLemmas.{nonce_in-sealed_as}
use Rattle.esa_envelope.specs.Envelope.{nonce_in}
use Rattle.esa_envelope.specs.declared.keys.Keys.{Keys}
use Rattle.esa_envelope.specs.declared.label.Label.TheVariants.{Block}
use Rattle.esa_params.specs.Form.{envelope_length}
use Rattle.esa_params.specs.declared.form.Form.{Form}
use Rattle.esa_params.specs.Sizes.{ArePlanned, Sizes, below}
use Rattle.esa_params.specs.Slots.{item_length, nonce_of}
use Rattle.esa_report.specs.declared.item.Item.{Item}
use Rattle.esa_spec.specs.Traces.{chunk_slot}
use Rattle.esa_stash.specs.Dealing.{chunk_at}
use Rattle.esa_vault.specs.Filled.{text_of}
use Rattle.esa_vault.specs.Placed.{IsHeld, IsSpelled}
use Rattle.esa_vault.proofs.BlockLaws.{nonce-fits}
use Rattle.esa_vault.proofs.NewItems.{held-item_of, spelled-item_of}
use Rattle.esa_floor.specs.Private.{AreSealed, envelope_at, item_opened}
use Rattle.esa_floor.specs.Working.{IsBegun, attempt_in}
use Rattle.esa_floor.proofs.Counting.{ends_before, row_inside}

-- an envelope of a text that has room for it
long : (size n x : ℕ) (text : List ℕ) → x < n → n * size ≤ length text → length (envelope_at size text x) ≡ size
long size n x text inside fits =
    let row = ends_before size x n inside in
    omega (arith, row, fits, length-take {A = ℕ}, length-drop {A = ℕ})

pub opened_are_spelled : (outer : Keys) (form : Form) (text : List ℕ) (n : ℕ) → n * envelope_length form ≤ length text
    → All (IsSpelled (item_length form)) (map (item_opened outer (envelope_length form) text) (below n))
opened_are_spelled outer form text n fits =
    All-map (IsSpelled (item_length form)) (item_opened outer (envelope_length form) text) (below n) (λ k d inside.
    let within : k < n = let all = length-range_with_len 0 n in omega (arith, inside, all) in
    let is : get_or (below n) k d ≡ k = get_or-range_with_len 0 n k d within ∙ zero-add k in
    spelled-item_of outer form (envelope_at (envelope_length form) text (get_or (below n) k d))
    (long (envelope_length form) n (get_or (below n) k d) text (subst (λ (x : ℕ). x < n) (sym is) within) fits))

pub opened_are_held : (outer : Keys) (size : ℕ) (text : List ℕ) (n : ℕ) → All IsHeld (map (item_opened outer size text) (below n))
opened_are_held outer size text n =
    All-map IsHeld (item_opened outer size text) (below n) (λ k d inside. held-item_of outer (envelope_at size text (get_or (below n) k d)))

pub attempt_is : (attempt : Option ℕ) → unwrap_or attempt 0 ≡ attempt_in attempt
attempt_is None = refl
attempt_is (Some a) = refl

begun_below : (p : Sizes) (attempt : Option ℕ) → IsBegun p attempt → attempt_in attempt < p.attempts
begun_below p None never = absurd never
begun_below p (Some a) begun = begun

pub nonce_kept : (p : Sizes) (keys : Keys) (attempt : Option ℕ) (j i : ℕ) (chunks : List Item) (blocks : List (List ℕ))
    → ArePlanned p → IsBegun p attempt → j < p.b → i < p.b → AreSealed p keys j (attempt_in attempt) chunks blocks p.b
    → nonce_in (get_or blocks i []) ≡ nonce_of p (attempt_in attempt) (chunk_slot p j i)
nonce_kept p keys attempt j i chunks blocks planned begun bucket target sealed =
    let row = row_inside p.b j bucket in
    let few = planned.parameters.attempts_greatest in
    let inside = begun_below p attempt begun in
    ap nonce_in (sealed i target)
    ∙ nonce_in-sealed_as keys Block (nonce_of p (attempt_in attempt) (chunk_slot p j i)) (text_of (item_length p.form) (chunk_at p.c chunks i))
    (nonce-fits p (chunk_slot p j i) (attempt_in attempt) planned (omega (arith, row, target)) (omega (arith, few, inside)))
