-- What a faithful device gives of the output is what its blocks were sealed with.
use Rattle.std.proofs.Common.{◌≡◌, ◌≢◌, ℕ, zero, suc, ◌+◌, ◌^◌, ◌<◌, ◌≤◌, ◌⊎◌, inl, inr, List, [], ◌∷◌, ◌++◌, length, get_or, map, Option, Some, Result, Err, true, refl, sym, ap, ◌∙◌, subst, arith, append_assoc, append-nil, add-one}
use Rattle.std.specs.List.{concat, flat_map, range_with_len}
use Rattle.std.specs.Prelude.{All, slice_get, unwrap_or}
use Rattle.std.proofs.lemmas.Bool.{false≢true}
use Rattle.std.proofs.lemmas.List.Elements.{All-append, All-cons, All-head, All-map, All-nil, All-tail}
use Rattle.esa_crowds.specs.Entries.{entries}
use Rattle.esa_crowds.specs.Kept.{drops_in, forward, sent_from}
use Rattle.esa_crowds.specs.Rows.{kept_at}
use Rattle.esa_crowds.proofs.PlaceLaws.{picked-all}
use Rattle.esa_crowds.proofs.SentLaws.{sent-forwarded}
use Rattle.esa_device.specs.Recording.{Recorded}
use Rattle.esa_scans.specs.Forwarded.{HasForwarded}
use Rattle.esa_device.specs.Logs.{Carried, IsFaithful}
use Rattle.esa_device.proofs.LogLaws.{faithful-front, faithful-last, took-read}
use Rattle.esa_envelope.specs.declared.keys.Keys.{Keys}
use Rattle.esa_params.specs.Sizes.{ArePlanned, Sizes, below, size}
use Rattle.esa_params.specs.Slots.{at, item_length, number_of}
use Rattle.esa_params.specs.declared.slot.Region.TheVariants.{Output}
use Rattle.esa_report.specs.declared.item.Item.{Item}
use Rattle.esa_report.specs.Item.{IsItemLength, dummy_item}
use Rattle.esa_params.specs.declared.slot.Access.{Access}
use Rattle.esa_params.specs.declared.slot.Op.TheVariants.{Read}
use Rattle.esa_spec.specs.Traces.{read_output, scan}
use Rattle.esa_vault.specs.Filled.{bytes_at, is_filled, text_of}
use Rattle.esa_vault.specs.Placed.{IsHeld, IsSpelled}
use Rattle.esa_vault.specs.Seals.{opens, sealed_block}
use Rattle.esa_vault.specs.Traffic.{ReadAnswer, given_by}
use Rattle.esa_vault.specs.declared.fault.VaultFault.{VaultFault}
use Rattle.esa_vault.specs.declared.fault.VaultFault.TheVariants.{Tampered}
use Rattle.esa_vault.proofs.BlockLaws.{opens-sealed, text_in-sealed}
use Rattle.esa_vault.proofs.TextLaws.{item-found, text-fills}
use Rattle.esa_scans.specs.Held.{item_held, items_in}
use Rattle.esa_scans.specs.Scans.{FailsAt, carried_from, items_from, items_of, reads}
use Rattle.esa_scans.specs.Sealed.{AreHeld, AreSealed}
use Rattle.esa_scans.proofs.HeldLaws.{either}

got : (items : List Item) (place : ℕ) → place < length items → unwrap_or (slice_get items place) dummy_item ≡ get_or items place dummy_item
got [] place inside = absurd (omega arith)
got (item ∷ items) zero inside = refl
got (item ∷ items) (suc place) inside = got items place (omega arith)

alike : {X : Type 0} (f g : ℕ → X) (a n : ℕ) → ((k : ℕ) → k < a + n → f k ≡ g k) → map f (range_with_len a n) ≡ map g (range_with_len a n)
alike f g a zero same = refl
alike f g a (suc n) same =
    let here = same a (omega arith) in
    let rest = alike f g (a + 1) n (λ k below. same k (omega (arith, below))) in
    (λ i. here i ∷ rest i)

same : (items : List Item) → map (λ (item : Item). item) items ≡ items
same [] = refl
same (item ∷ items) = ap (λ rest. item ∷ rest) (same items)

-- the items of a text are those that it is made of
pub items-found : (size : ℕ) (items : List Item) → IsItemLength size → All (IsSpelled size) items → items_in size (length items) (text_of size items) ≡ items
items-found size items long spelled =
    alike (λ place. item_held (bytes_at size (text_of size items) place)) (λ place. get_or items place dummy_item) 0 (length items)
    (λ place below. ap (λ held. unwrap_or held dummy_item) (item-found size place items long spelled (omega (arith, below))) ∙ got items place (omega (arith, below)))
    ∙ picked-all (λ (item : Item). item) dummy_item items
    ∙ same items

-- entries are reads where their accesses are
only-reads : (passed : List Carried) → All (λ (access : Access). access.op ≡ Read) (map (λ (entry : Carried). entry.access) passed) → All (λ (entry : Carried). entry.access.op ≡ Read) passed
only-reads [] read = All-nil (λ (entry : Carried). entry.access.op ≡ Read)
only-reads (entry ∷ passed) read =
    All-cons (λ (entry : Carried). entry.access.op ≡ Read) entry passed
    (All-head (λ (access : Access). access.op ≡ Read) entry.access (map (λ (entry : Carried). entry.access) passed) read)
    (only-reads passed (All-tail (λ (access : Access). access.op ≡ Read) entry.access (map (λ (entry : Carried). entry.access) passed) read))

-- a scan reads
pub scan-reads : (p : Sizes) (attempt : ℕ) → All (λ (access : Access). access.op ≡ Read) (scan p attempt)
scan-reads p attempt = All-map (λ (access : Access). access.op ≡ Read) (read_output p attempt) (below p.b) (λ k d inside. refl)

-- a read of one of both scans failed
abbrev pub Fails : {V T : Type 0} → (V → Option (List (List ℕ))) → (V → ℕ) → Sizes → Keys → ℕ → Recorded V → Recorded V → Result T VaultFault → Type 0
Fails told faults p keys attempt old new result =
    (j : ℕ) × (FailsAt told faults p keys attempt [] j old new result ⊎ FailsAt told faults p keys attempt (scan p attempt) j old new result)

module _ (p : Sizes) (keys : Keys) (attempt : ℕ) (records : ℕ → List Item) (planned : ArePlanned p) (small : attempt < 2 ^ 32) where
  one-given : (j : ℕ) (bytes : List ℕ) → j < p.b → All (IsSpelled (item_length p.form)) (records j) → length (records j) ≡ size p j
      → bytes ≡ sealed_block p keys (at Output j) attempt (text_of (item_length p.form) (records j)) → items_of p keys attempt j bytes ≡ records j
  one-given j bytes inside spelled whole is =
      ap (items_of p keys attempt j) is
      ∙ ap (λ text. items_in (item_length p.form) (size p j) (unwrap_or text [])) (text_in-sealed p keys (at Output j) attempt (text_of (item_length p.form) (records j)) planned inside small)
      ∙ ap (λ n. items_in (item_length p.form) n (text_of (item_length p.form) (records j))) (sym whole)
      ∙ items-found (item_length p.form) (records j) (either p.form (item_length p.form) refl) spelled

  -- a read changes nothing of what the blocks were sealed with
  sealed-read : (log : List Carried) (entry : Carried) → entry.access.op ≡ Read → AreSealed p keys attempt records log → AreSealed p keys attempt records (log ++ entry ∷ [])
  sealed-read log entry reads sealed k below =
      let there = sealed k below in
      record {
        spelled = there.spelled;
        whole = there.whole;
        took = took-read p (number_of p (at Output k)) (sealed_block p keys (at Output k) attempt (text_of (item_length p.form) (records k))) log entry reads there.took;
      }

  sealed-scan : (j : ℕ) (log : List Carried) (given : List (List ℕ)) → AreSealed p keys attempt records log → AreSealed p keys attempt records (log ++ carried_from p attempt j given)
  sealed-scan j log [] sealed = subst (AreSealed p keys attempt records) (sym (append-nil log)) sealed
  sealed-scan j log (bytes ∷ given) sealed =
      let entry : Carried = record { access = read_output p attempt j; bytes = Some bytes } in
      subst (AreSealed p keys attempt records) (append_assoc log (entry ∷ []) (carried_from p attempt (suc j) given))
      (sealed-scan (suc j) (log ++ entry ∷ []) given (sealed-read log entry refl sealed))

  -- nor do many
  sealed-passed : (log passed : List Carried) → All (λ (entry : Carried). entry.access.op ≡ Read) passed → AreSealed p keys attempt records log → AreSealed p keys attempt records (log ++ passed)
  sealed-passed log [] read sealed = subst (AreSealed p keys attempt records) (sym (append-nil log)) sealed
  sealed-passed log (entry ∷ passed) read sealed =
      subst (AreSealed p keys attempt records) (append_assoc log (entry ∷ []) passed)
      (sealed-passed (log ++ entry ∷ []) passed (All-tail (λ (entry : Carried). entry.access.op ≡ Read) entry passed read)
      (sealed-read log entry (All-head (λ (entry : Carried). entry.access.op ≡ Read) entry passed read) sealed))

  pub given-faithful : (j : ℕ) (log : List Carried) (given : List (List ℕ)) → j + length given ≤ p.b → AreSealed p keys attempt records log
      → IsFaithful p (log ++ carried_from p attempt j given) → items_from p keys attempt j given ≡ flat_map records (range_with_len j (length given))
  given-faithful j log [] fits sealed faithful = refl
  given-faithful j log (bytes ∷ given) fits sealed faithful =
      let entry : Carried = record { access = read_output p attempt j; bytes = Some bytes } in
      let longer : IsFaithful p ((log ++ entry ∷ []) ++ carried_from p attempt (suc j) given) =
      subst (IsFaithful p) (sym (append_assoc log (entry ∷ []) (carried_from p attempt (suc j) given))) faithful in
      let inside : j < p.b = omega (arith, fits) in
      let here = sealed j inside in
      let gave = faithful-last p log entry bytes (sealed_block p keys (at Output j) attempt (text_of (item_length p.form) (records j)))
      (faithful-front p (log ++ entry ∷ []) (carried_from p attempt (suc j) given) longer) (refl, refl) here.took in
      let rest = given-faithful (suc j) (log ++ entry ∷ []) given (omega (arith, fits))
      (sealed-read log entry refl sealed) longer in
      (λ i. one-given j bytes inside here.spelled here.whole gave i ++ rest i)
      ∙ ap (λ k. records j ++ flat_map records (range_with_len k (length given))) (sym (add-one j))

  -- what a block was sealed with opens, where no item is a dummy
  opens-held : (j : ℕ) (bytes : List ℕ) → j < p.b → All (IsSpelled (item_length p.form)) (records j) → All IsHeld (records j) → length (records j) ≡ size p j
      → bytes ≡ sealed_block p keys (at Output j) attempt (text_of (item_length p.form) (records j)) → opens p keys (at Output j) attempt (size p j) bytes ≡ true
  opens-held j bytes inside spelled held whole is =
      ap (opens p keys (at Output j) attempt (size p j)) is
      ∙ opens-sealed p keys (at Output j) attempt (size p j) (text_of (item_length p.form) (records j)) planned inside small
      ∙ ap (λ n. is_filled (item_length p.form) n (text_of (item_length p.form) (records j))) (sym whole)
      ∙ ap (λ items. is_filled (item_length p.form) (length (records j)) (text_of (item_length p.form) items)) (sym (append-nil (records j)))
      ∙ text-fills (item_length p.form) 0 (records j) (either p.form (item_length p.form) refl) spelled held

  -- so no scan ends with one that doesn't
  pub opens-latest : {V T : Type 0} (told : V → Option (List (List ℕ))) (faults : V → ℕ) (before : List Access) (j : ℕ) (old new : Recorded V) (result : Result T VaultFault) (slot : ℕ)
      → All (λ (access : Access). access.op ≡ Read) before → FailsAt told faults p keys attempt before j old new result → IsFaithful p new.log
      → AreSealed p keys attempt records old.log → AreHeld p records → result ≢ Err (Tampered slot)
  opens-latest {V} {T} told faults before j old new result slot first failed faithful sealed held is =
      let ends = failed.log in
      let entry : Carried = record { access = read_output p attempt j; bytes = given_by result new.last } in
      let answer : ReadAnswer {T = T} (number_of p (at Output j)) (faults old.device) (faults new.device) (opens p keys (at Output j) attempt (size p j) new.last) (Err (Tampered slot)) =
      subst (λ (result : Result T VaultFault). ReadAnswer (number_of p (at Output j)) (faults old.device) (faults new.device) (opens p keys (at Output j) attempt (size p j) new.last) result) is failed.answer in
      let gave : given_by result new.last ≡ Some new.last = ap (λ (result : Result T VaultFault). given_by result new.last) is in
      let read : All (λ (access : Access). access.op ≡ Read) (before ++ reads p attempt j) =
      All-append (λ (access : Access). access.op ≡ Read) before (reads p attempt j) first (All-map (λ (access : Access). access.op ≡ Read) (read_output p attempt) (below j) (λ k d inside. refl)) in
      let passed = sealed-passed old.log ends.passed (only-reads ends.passed (subst (All (λ (access : Access). access.op ≡ Read)) (sym ends.accesses) read)) sealed in
      let whole : IsFaithful p ((old.log ++ ends.passed) ++ entry ∷ []) = subst (IsFaithful p) (ends.log ∙ sym (append_assoc old.log ends.passed (entry ∷ []))) faithful in
      let here = passed j failed.inside in
      let same = faithful-last p (old.log ++ ends.passed) entry new.last (sealed_block p keys (at Output j) attempt (text_of (item_length p.form) (records j))) whole (refl, gave) here.took in
      false≢true (sym answer.1 ∙ opens-held j new.last failed.inside here.spelled (held j failed.inside) here.whole same)

  -- in neither scan
  pub opens-both : {V T : Type 0} (told : V → Option (List (List ℕ))) (faults : V → ℕ) (old new : Recorded V) (result : Result T VaultFault) (slot : ℕ)
      → Fails told faults p keys attempt old new result → IsFaithful p new.log → AreSealed p keys attempt records old.log → AreHeld p records → result ≢ Err (Tampered slot)
  opens-both told faults old new result slot failed faithful sealed held = elim failed.1 [
    | inl here ↦ opens-latest told faults [] failed.0 old new result slot (All-nil (λ (access : Access). access.op ≡ Read)) here faithful sealed held
    | inr there ↦ opens-latest told faults (scan p attempt) failed.0 old new result slot (scan-reads p attempt) there faithful sealed held
  ]

  -- both scans are given what the blocks were sealed with
  pub both-given : {V : Type 0} (told : V → Option (List (List ℕ))) (faults : V → ℕ) (key drops : List ℕ) (t : ℕ) (old new : Recorded V) (sent : List ℕ)
      → (done : HasForwarded told faults p keys attempt key drops t old new sent) → IsFaithful p new.log → AreSealed p keys attempt records old.log
      → (items_from p keys attempt 0 done.first ≡ flat_map records (below p.b)) × (items_from p keys attempt 0 done.second ≡ flat_map records (below p.b))
  both-given told faults key drops t old new sent done faithful sealed =
      let whole : IsFaithful p (old.log ++ (carried_from p attempt 0 done.first ++ carried_from p attempt 0 done.second)) = subst (IsFaithful p) done.log faithful in
      let parted : IsFaithful p ((old.log ++ carried_from p attempt 0 done.first) ++ carried_from p attempt 0 done.second) =
      subst (IsFaithful p) (sym (append_assoc old.log (carried_from p attempt 0 done.first) (carried_from p attempt 0 done.second))) whole in
      let front = faithful-front p (old.log ++ carried_from p attempt 0 done.first) (carried_from p attempt 0 done.second) parted in (
        given-faithful 0 old.log done.first (omega (arith, done.whole_first)) sealed front ∙ ap (λ n. flat_map records (below n)) done.whole_first,
        given-faithful 0 (old.log ++ carried_from p attempt 0 done.first) done.second (omega (arith, done.whole_second)) (sealed-scan 0 old.log done.first sealed) parted
            ∙ ap (λ n. flat_map records (below n)) done.whole_second,
      )

  -- and forward its kept records
  pub forwarded-latest : {V : Type 0} (told : V → Option (List (List ℕ))) (faults : V → ℕ) (key drops : List ℕ) (t : ℕ) (old new : Recorded V) (sent : List ℕ)
      → HasForwarded told faults p keys attempt key drops t old new sent → IsFaithful p new.log → AreSealed p keys attempt records old.log
      → sent ≡ concat (forward p.form key drops t (flat_map records (below p.b)))
  forwarded-latest told faults key drops t old new sent done faithful sealed =
      let both = both-given told faults key drops t old new sent done faithful sealed in
      done.sent
      ∙ (λ i. concat (sent_from p.form (kept_at (drops_in key drops) t (entries p.form key (both.0 i))) 0 (both.1 i)))
      ∙ ap concat (sent-forwarded p.form key (drops_in key drops) t (flat_map records (below p.b)))
