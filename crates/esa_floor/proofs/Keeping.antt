-- The records of the input, in what a floor and its workers keep.
use Rattle.std.proofs.Common.{◌≡◌, ◌≢◌, ℕ, suc, zero, ◌+◌, ◌-◌, ◌*◌, ◌<◌, ◌≤◌, Bool, true, false, List, [], ◌∷◌, ◌++◌, take, drop, Option, Some, None, Result, Ok, Err, refl, sym, ap, ◌∙◌, subst, arith, append-nil, zero-add}
use Rattle.std.specs.Prelude.{OnOk, unwrap_or}
use Rattle.std.specs.Option.{option_map_or}
use Rattle.std.proofs.Math.Nat.{mul_comm}
use Rattle.std.proofs.lemmas.List.{drop-take}
use Rattle.esa_laws.proofs.Ranges.{map-below-same}
use Rattle.esa_device.specs.Logs.{Carried}
use Rattle.esa_device.specs.Recording.{Recorded}
use Rattle.esa_device.proofs.LogLaws.{faithful-front, reads_nothing, took-before, writes_elsewhere}
use Rattle.esa_envelope.specs.declared.keys.Keys.{Keys}
use Rattle.esa_params.specs.Form.{envelope_length}
use Rattle.esa_params.specs.Sizes.{Sizes, size}
use Rattle.esa_params.specs.Slots.{access_of, at, number_of, plain_length, writes_number}
use Rattle.esa_params.specs.declared.slot.Op.{Op}
use Rattle.esa_params.specs.declared.slot.Op.TheVariants.{Read as Reads, Write as Writes}
use Rattle.esa_params.specs.declared.slot.Region.TheVariants.{Input}
use Rattle.esa_report.specs.declared.item.Item.{Item}
use Rattle.esa_spec.specs.Traces.{chunk_slot}
use Rattle.esa_spec.specs.declared.event.Event.{Event}
use Rattle.esa_spec.specs.declared.event.Event.TheVariants.{Claim, Read, Exchange, Write, Done, Idle}
use Rattle.esa_vault.specs.Items.{item_of}
use Rattle.esa_vault.specs.Seals.{is_text_of, opens, text_in}
use Rattle.esa_vault.specs.Traffic.{GivesLatest, IsOpenedTo, IsRead}
use Rattle.esa_vault.specs.declared.fault.VaultFault.{VaultFault}
use Rattle.esa_floor.specs.Keeping.{AreRecords, HasInput, HasText, IsInput, OpensTo}
use Rattle.esa_floor.specs.Logging.{noted_of, read_of, write_of}
use Rattle.esa_floor.specs.Parts.{Parts}
use Rattle.esa_floor.specs.Private.{envelope_at, item_opened}
use Rattle.esa_floor.specs.Working.{Working}
use Rattle.esa_floor.specs.declared.turn.Stop.{Stop}
use Rattle.esa_floor.proofs.Counting.{ends_before}

-- bytes that open have a text
text_there : (o : Option (List ℕ)) (suits : List ℕ → Bool) (before text : List ℕ) → option_map_or suits o false ≡ true → text ≡ unwrap_or o before → o ≡ Some text
text_there None suits before text opened is = absurd (cc opened)
text_there (Some there) suits before text opened is = ap Some (sym is)

-- a read that opened gave the text
opens_here : {V T : Type 0} (told : V → Option (List (List ℕ))) (faults : V → ℕ) (last_call : V → Option (Op × ℕ)) (p : Sizes) (run : Keys) (a j : ℕ) (bytes before text : List ℕ) (old new : Recorded V) (result : Result T VaultFault)
    → IsRead told faults last_call p (at Input j) a (opens p run (at Input j) a 0) bytes old new result
    → IsOpenedTo p run (at Input j) a bytes before (take (plain_length p Input j) text) result
    → GivesLatest p run (at Input j) a 0 (take (plain_length p Input j) text) old new result → OnOk result (OpensTo p run a j text old new)
opens_here told faults last_call p run a j bytes before text old new (Ok done) read opened latest =
    let there : opens p run (at Input j) a 0 bytes ≡ true = subst (λ (given : List ℕ). opens p run (at Input j) a 0 given ≡ true) read.given read.answer.0 in
    record {
      given = subst (λ (given : List ℕ). HasText p run a j given text) (sym read.given)
          (text_there (text_in p run (at Input j) a bytes) (is_text_of p Input 0) before (take (plain_length p Input j) text) there opened.given);
      latest = λ sealed faithful took. (latest sealed faithful took).opened;
    }
opens_here told faults last_call p run a j bytes before text old new (Err fault) read opened latest = tt

-- the same where the text has so many bytes
pub opens_ok : {V T : Type 0} (told : V → Option (List (List ℕ))) (faults : V → ℕ) (last_call : V → Option (Op × ℕ)) (p : Sizes) (run : Keys) (a j n : ℕ) (bytes before text : List ℕ) (old new : Recorded V) (result : Result T VaultFault)
    → IsRead told faults last_call p (at Input j) a (opens p run (at Input j) a 0) bytes old new result
    → IsOpenedTo p run (at Input j) a bytes before (take n text) result
    → GivesLatest p run (at Input j) a 0 (take n text) old new result → n ≡ plain_length p Input j → OnOk result (OpensTo p run a j text old new)
opens_ok told faults last_call p run a j n bytes before text old new result read opened latest is =
    opens_here told faults last_call p run a j bytes before text old new result read
    (subst (λ (n : ℕ). IsOpenedTo p run (at Input j) a bytes before (take n text) result) is opened)
    (subst (λ (n : ℕ). GivesLatest p run (at Input j) a 0 (take n text) old new result) is latest)

module _ (p : Sizes) (outer run : Keys) (record_of : ℕ → Item) where
  one_before : (log : List Carried) (last : Carried) → ((j : ℕ) → j < p.b → writes_number p (number_of p (at Input j)) last.access ≡ false)
      → IsInput p outer run record_of (log ++ last ∷ []) → IsInput p outer run record_of log
  one_before log last none input = record {
    faithful = faithful-front p log (last ∷ []) input.faithful;
    sealed = λ j inside.
        let was = input.sealed j inside in
        (was.0, took-before p (number_of p (at Input j)) _ log last (none j inside) was.1, was.2);
  }

  -- what the input holds after a turn, it held before it
  pub input_before : (a : ℕ) (e : Event) (s : Option Stop) (given : List ℕ) (chunks : List Item) (log : List Carried)
      → IsInput p outer run record_of (log ++ noted_of p run a e s given chunks) → IsInput p outer run record_of log
  input_before a (Claim j) s given chunks log input = subst (IsInput p outer run record_of) (append-nil log) input
  input_before a (Read j) s given chunks log input =
      one_before log (read_of p a j s given) (λ k inside. reads_nothing p (number_of p (at Input k)) (access_of p a Reads (at Input j)) refl) input
  input_before a (Exchange j) s given chunks log input = subst (IsInput p outer run record_of) (append-nil log) input
  input_before a (Write j i) s given chunks log input =
      one_before log (write_of p run a j i s chunks) (λ k inside.
      let other : k ≢ p.b + (j * p.b + i) = λ same. absurd (omega (arith, same, inside)) in
      writes_elsewhere p (number_of p (at Input k)) (access_of p a Writes (chunk_slot p j i)) (λ same. other (sym (zero-add k) ∙ same))) input
  input_before a Done s given chunks log input = subst (IsInput p outer run record_of) (append-nil log) input
  input_before a Idle s given chunks log input = subst (IsInput p outer run record_of) (append-nil log) input

-- so many of the first are the first of more
front : {X : Type 0} (a n : ℕ) (xs : List X) → a ≤ n → take a (take n xs) ≡ take a xs
front zero n xs less = refl
front (suc a) zero xs less = absurd (omega arith)
front (suc a) (suc n) [] less = refl
front (suc a) (suc n) (x ∷ xs) less = ap (λ ys. x ∷ ys) (front a n xs (omega arith))

-- an envelope that lies within the front of a text
envelope_front : (size n k : ℕ) (text : List ℕ) → k * size + size ≤ n → envelope_at size (take n text) k ≡ envelope_at size text k
envelope_front size n k text inside =
    let more = n - k * size in
    let whole : k * size + more ≡ n = omega (arith, inside) in
    ap (λ (xs : List ℕ). take (k * size + size - k * size) xs)
    (ap (λ (m : ℕ). drop (k * size) (take m text)) (sym whole) ∙ drop-take (k * size) more text)
    ∙ front (k * size + size - k * size) more (drop (k * size) text) (omega (arith, inside))

-- where a text has the records, so has a buffer that begins with it
front_records : (p : Sizes) (outer : Keys) (record_of : ℕ → Item) (j : ℕ) (buffer text : List ℕ) → take (plain_length p Input j) buffer ≡ text
    → AreRecords p outer record_of j text → AreRecords p outer record_of j buffer
front_records p outer record_of j buffer text is records =
    map-below-same (item_opened outer (envelope_length p.form) buffer) (item_opened outer (envelope_length p.form) text) (size p j)
    (λ k inside.
    let row = ends_before (envelope_length p.form) k (size p j) inside in
    let turn = mul_comm (envelope_length p.form) (size p j) in
    ap (item_of outer) (sym (envelope_front (envelope_length p.form) (plain_length p Input j) k buffer (omega (arith, row, turn)))
    ∙ ap (λ (xs : List ℕ). envelope_at (envelope_length p.form) xs k) is))
    ∙ records

-- the worker that read a block holds its records
pub read_holds : {V C : Type 0} (f new : Parts V) (w v : Working C) (a : ℕ) → new ≡ record f { recorder = new.recorder; stop = new.stop } → v.bucket ≡ w.bucket
    → new.recorder.log ≡ f.recorder.log ++ read_of f.plan a w.bucket new.stop new.recorder.last ∷ []
    → OpensTo f.plan f.run a w.bucket v.buffers.text f.recorder new.recorder
    → (record_of : ℕ → Item) → HasInput new record_of → w.bucket < f.plan.b → AreRecords new.plan new.outer record_of v.bucket v.buffers.text
read_holds f new w v a same bucket noted opens_to record_of input inside =
    let now : IsInput f.plan f.outer f.run record_of new.recorder.log =
    subst (λ (x : Parts _). IsInput x.plan x.outer x.run record_of new.recorder.log) same input in
    let entry = read_of f.plan a w.bucket new.stop new.recorder.last in
    let was = one_before f.plan f.outer f.run record_of f.recorder.log entry
    (λ k within. reads_nothing f.plan (number_of f.plan (at Input k)) (access_of f.plan a Reads (at Input w.bucket)) refl)
    (subst (IsInput f.plan f.outer f.run record_of) noted now) in
    let sealed = was.sealed w.bucket inside in
    let there = front_records f.plan f.outer record_of w.bucket v.buffers.text sealed.0 (opens_to.latest sealed.0 now.faithful sealed.1) sealed.2 in
    subst (λ (x : Parts _). AreRecords x.plan x.outer record_of v.bucket v.buffers.text) (sym same)
    (subst (λ (j : ℕ). AreRecords f.plan f.outer record_of j v.buffers.text) (sym bucket) there)
