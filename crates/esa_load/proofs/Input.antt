-- What was loaded is the input.
use Rattle.std.proofs.Common.{◌≡◌, ℕ, zero, suc, ◌+◌, ◌-◌, ◌*◌, ◌<◌, ◌≤◌, List, [], ◌∷◌, ◌++◌, map, take, drop, refl, sym, ap, ◌∙◌, subst, arith, append_assoc, mul-add, mul-le-mul_left, mul_comm, drop-drop, take-take, inl, inr}
use Rattle.std.specs.Prelude.{slice_range}
use Rattle.std.specs.List.{range_with_len}
use Rattle.std.proofs.lemmas.Bool.{cases_eq}
use Rattle.std.proofs.lemmas.List.{drop-take}
use Rattle.esa_device.specs.Logs.{Carried, IsFaithful, Took}
use Rattle.esa_device.proofs.LogLaws.{took-elsewhere, took-written}
use Rattle.esa_envelope.specs.declared.keys.Keys.{Keys}
use Rattle.esa_floor.specs.Keeping.{AreRecords, IsInput}
use Rattle.esa_floor.specs.Private.{envelope_at, item_opened}
use Rattle.esa_laws.proofs.Ranges.{map-below-suc, range-suc}
use Rattle.esa_laws.proofs.SizeLaws.{first-more}
use Rattle.esa_params.specs.Form.{envelope_length}
use Rattle.esa_params.specs.Sizes.{Sizes, below, first, size}
use Rattle.esa_params.specs.Slots.{at, number_of}
use Rattle.esa_params.specs.declared.slot.Region.TheVariants.{Input}
use Rattle.esa_vault.specs.Items.{item_of}
use Rattle.esa_vault.specs.Seals.{sealed_block}
use Rattle.esa_load.specs.Loads.{bucket_text, written_block, written_blocks}
use Rattle.std.proofs.lemmas.List.{map-append}

-- the latest write of each block is that of the load
took_blocks : (p : Sizes) (run : Keys) (given : List ℕ) (log : List Carried) (k j : ℕ) → j < k
    → Took p (number_of p (at Input j)) (sealed_block p run (at Input j) 0 (bucket_text p given j)) (log ++ written_blocks p run given k)
took_blocks p run given log zero j inside = absurd (omega (arith, inside))
took_blocks p run given log (suc k) j inside =
    let last : Carried = written_block p run k (bucket_text p given k) in
    let whole : log ++ written_blocks p run given (suc k) ≡ (log ++ written_blocks p run given k) ++ last ∷ [] =
    ap (λ xs. log ++ xs) (map-below-suc (λ i. written_block p run i (bucket_text p given i)) k) ∙ sym (append_assoc log (written_blocks p run given k) (last ∷ [])) in
    subst (λ (xs : List Carried). Took p (number_of p (at Input j)) (sealed_block p run (at Input j) 0 (bucket_text p given j)) xs) (sym whole)
    (elim (cases_eq j k) [
      | inl same ↦ subst (λ (i : ℕ). Took p (number_of p (at Input i)) (sealed_block p run (at Input i) 0 (bucket_text p given i)) ((log ++ written_blocks p run given k) ++ last ∷ [])) (sym same)
          (took-written p (sealed_block p run (at Input k) 0 (bucket_text p given k)) (log ++ written_blocks p run given k) last refl refl)
      | inr other ↦ took-elsewhere p (number_of p (at Input j)) (sealed_block p run (at Input j) 0 (bucket_text p given j)) (log ++ written_blocks p run given k) last
          (λ same. other (let is : 0 + j ≡ 0 + k = same in omega (arith, is)))
          (took_blocks p run given log k j (let apart = other in omega (arith, inside, apart)))
    ])

-- an envelope of a range of a list is one of the list
envelope_in : (e a n k : ℕ) (given : List ℕ) → k < n → envelope_at e (slice_range given (e * a) (e * (a + n))) k ≡ envelope_at e given (a + k)
envelope_in e a n k given inside =
    let room : (k + 1) * e ≤ n * e = mul-le-mul_left' e (k + 1) n (omega (arith, inside)) in
    let row : (k + 1) * e ≡ k * e + e = omega arith in
    let long : e * (a + n) ≡ e * a + e * n = mul-add e a n in
    let turn : e * n ≡ n * e = mul_comm e n in
    let rest : ℕ = n * e - k * e in
    let from : e * (a + n) - e * a ≡ k * e + rest = omega (arith, room, row, long, turn) in
    let width : k * e + e - k * e ≡ e = omega arith in
    let place : (a + k) * e ≡ e * a + k * e = let l : (a + k) * e ≡ a * e + k * e = add-mul' a k e in let r : a * e ≡ e * a = mul_comm a e in omega (arith, l, r) in
    let wide : (a + k) * e + e - (a + k) * e ≡ e = omega arith in
    ap (λ m. take (k * e + e - k * e) (drop (k * e) (take m (drop (e * a) given)))) from
    ∙ ap (take (k * e + e - k * e)) (drop-take (k * e) rest (drop (e * a) given))
    ∙ ap (λ w. take w (take rest (drop (k * e) (drop (e * a) given)))) width
    ∙ take-take e rest (drop (k * e) (drop (e * a) given)) (omega (arith, room, row))
    ∙ ap (take e) (drop-drop (k * e) (e * a) given)
    ∙ ap (λ m. take e (drop m given)) (sym place)
    ∙ ap (λ w. take w (drop ((a + k) * e) given)) (sym wide)
  where
    mul-le-mul_left' : (e m n : ℕ) → m ≤ n → m * e ≤ n * e
    mul-le-mul_left' e m n less = subst (λ (x : ℕ). x ≤ n * e) (mul_comm e m) (subst (λ (x : ℕ). e * m ≤ x) (mul_comm e n) (mul-le-mul_left e less))

    add-mul' : (a k e : ℕ) → (a + k) * e ≡ a * e + k * e
    add-mul' a k e = omega arith

-- functions that agree, the one from 0 on and the other from a place on
map-shifted : {X : Type 0} (f g : ℕ → X) (a n : ℕ) → ((k : ℕ) → k < n → f k ≡ g (a + k)) → map f (below n) ≡ map g (range_with_len a n)
map-shifted f g a zero same = refl
map-shifted f g a (suc n) same =
    map-below-suc f n
    ∙ ap (λ xs. xs ++ f n ∷ []) (map-shifted f g a n (λ k inside. same k (omega (arith, inside))))
    ∙ ap (λ x. map g (range_with_len a n) ++ x ∷ []) (same n (omega arith))
    ∙ sym (ap (map g) (range-suc a n) ∙ map-append g (range_with_len a n) ((a + n) ∷ []))

are_records : (p : Sizes) (outer : Keys) (given : List ℕ) (j : ℕ) → AreRecords p outer (item_opened outer (envelope_length p.form) given) j (bucket_text p given j)
are_records p outer given j =
    map-shifted (item_opened outer (envelope_length p.form) (bucket_text p given j)) (item_opened outer (envelope_length p.form) given) (first p j) (size p j)
    (λ k inside. ap (item_of outer)
    (ap (λ n. envelope_at (envelope_length p.form) (slice_range given (envelope_length p.form * first p j) (envelope_length p.form * n)) k) (first-more p j)
    ∙ envelope_in (envelope_length p.form) (first p j) (size p j) k given inside))

pub is_input : (p : Sizes) (outer run : Keys) (given : List ℕ) (log : List Carried) → IsFaithful p (log ++ written_blocks p run given p.b)
    → IsInput p outer run (item_opened outer (envelope_length p.form) given) (log ++ written_blocks p run given p.b)
is_input p outer run given log faithful = record {
  faithful = faithful;
  sealed = λ j inside. (bucket_text p given j, took_blocks p run given log p.b j inside, are_records p outer given j);
}
