-- What the log of a floor tells as texts, and what turns leave of the input.
use Rattle.std.proofs.Common.{◌≡◌, ◌≢◌, ℕ, zero, suc, ◌<◌, List, [], ◌∷◌, ◌++◌, All, false, get_or, map, drop, Option, Some, None, refl, sym, ap, ◌∙◌, subst, inl, inr, arith, append-nil, append_assoc}
use Rattle.std.specs.Prelude.{◌⊎◌, filter_map}
use Rattle.std.proofs.lemmas.List.{map-append}
use Rattle.std.proofs.lemmas.List.Elements.{All-cons, All-head, All-nil, All-tail}
use mathlib.Core.List.{IsPrefix}
use Rattle.esa_device.specs.Logs.{Carried, Took}
use Rattle.esa_device.proofs.LogLaws.{reads_nothing, took-before, took-elsewhere, took-read, writes_elsewhere}
use Rattle.esa_params.specs.Sizes.{Sizes}
use Rattle.esa_params.specs.Slots.{access_of, at, number_of, slot_number, writes_number}
use Rattle.esa_params.specs.declared.slot.Access.{Access}
use Rattle.esa_params.specs.declared.slot.Op.{Op}
use Rattle.esa_params.specs.declared.slot.Op.TheVariants.{Read as Reads, Write as Writes}
use Rattle.esa_params.specs.declared.slot.Region.{Region}
use Rattle.esa_params.specs.declared.slot.Region.TheVariants.{Input, Mid, Tail, Output}
use Rattle.esa_spec.specs.Fronts.{Begins}
use Rattle.esa_spec.specs.Traces.{asked, chunk_slot}
use Rattle.esa_spec.specs.declared.event.Event.{Event}
use Rattle.esa_spec.specs.declared.event.Event.TheVariants.{Claim, Read, Exchange, Write, Done, Idle}
use Rattle.esa_floor.specs.Trails.{bytes_code, entry_text, op_code, region_code}

-- the entry that a text tells
op_of : ℕ → Op
op_of zero = Reads
op_of (suc n) = Writes

region_of : ℕ → Region
region_of zero = Input
region_of (suc zero) = Mid
region_of (suc (suc zero)) = Tail
region_of (suc (suc (suc n))) = Output

bytes_of : List ℕ → Option (List ℕ)
bytes_of [] = None
bytes_of (n ∷ bytes) = Some bytes

entry_of : List ℕ → Carried
entry_of text = record {
  access = record {
    op = op_of (get_or text 0 0);
    region = region_of (get_or text 1 0);
    index = get_or text 2 0;
    length = get_or text 3 0;
    nonce = get_or text 4 0;
    attempt = get_or text 5 0;
  };
  bytes = bytes_of (drop 6 text);
}

op_back : (op : Op) → op_of (op_code op) ≡ op
unfolding op_of
op_back Reads = refl
op_back Writes = refl

region_back : (region : Region) → region_of (region_code region) ≡ region
unfolding region_of
region_back Input = refl
region_back Mid = refl
region_back Tail = refl
region_back Output = refl

bytes_back : (bytes : Option (List ℕ)) → bytes_of (bytes_code bytes) ≡ bytes
unfolding bytes_of
bytes_back None = refl
bytes_back (Some bytes) = refl

entry_back : (e : Carried) → entry_of (entry_text e) ≡ e
unfolding entry_of
entry_back e i = record {
  access = record {
    op = op_back e.access.op i;
    region = region_back e.access.region i;
    index = e.access.index;
    length = e.access.length;
    nonce = e.access.nonce;
    attempt = e.access.attempt;
  };
  bytes = bytes_back e.bytes i;
}

log_back : (log : List Carried) → map entry_of (map entry_text log) ≡ log
log_back [] = refl
log_back (e ∷ log) = λ i. entry_back e i ∷ log_back log i

-- logs whose texts begin one another do so themselves
pub log_begins : (old new : List Carried) → IsPrefix (map entry_text old) (map entry_text new) → Begins old new
log_begins old new front = (
  map entry_of front.0,
  sym (log_back new) ∙ ap (map entry_of) (sym front.1) ∙ map-append entry_of (map entry_text old) front.0
      ∙ ap (λ (l : List Carried). l ++ map entry_of front.0) (log_back old),
)

pub texts_begin : (old new : List Carried) → Begins old new → IsPrefix (map entry_text old) (map entry_text new)
texts_begin old new on = (map entry_text on.0, sym (map-append entry_text old on.0) ∙ ap (map entry_text) (sym on.1))

-- an access doesn't write the slot of this number
abbrev pub SparesSlot : Sizes → ℕ → Access → Type 0
SparesSlot p number access = (access.op ≡ Reads) ⊎ (number ≢ slot_number p access)

-- the turns write no block of the input
pub asked_spares : (p : Sizes) (a j : ℕ) → j < p.b → (es : List Event) → All (SparesSlot p (number_of p (at Input j))) (filter_map (asked p a) es)
asked_spares p a j j_in [] = All-nil (SparesSlot p (number_of p (at Input j)))
asked_spares p a j j_in (Claim k ∷ es) = asked_spares p a j j_in es
asked_spares p a j j_in (Read k ∷ es) =
    All-cons (SparesSlot p (number_of p (at Input j))) (access_of p a Reads (at Input k)) (filter_map (asked p a) es) (inl refl) (asked_spares p a j j_in es)
asked_spares p a j j_in (Exchange k ∷ es) = asked_spares p a j j_in es
asked_spares p a j j_in (Write k i ∷ es) =
    All-cons (SparesSlot p (number_of p (at Input j))) (access_of p a Writes (chunk_slot p k i)) (filter_map (asked p a) es) (inr (λ same. absurd (omega (arith, same, j_in)))) (asked_spares p a j j_in es)
asked_spares p a j j_in (Done ∷ es) = asked_spares p a j j_in es
asked_spares p a j j_in (Idle ∷ es) = asked_spares p a j j_in es

abbrev pub accesses_in : List Carried → List Access
accesses_in log = map (λ (entry : Carried). entry.access) log

pub spared : (p : Sizes) (number : ℕ) (more : List Carried) → All (SparesSlot p number) (accesses_in more) → All (λ (e : Carried). SparesSlot p number e.access) more
spared p number [] all = All-nil (λ (e : Carried). SparesSlot p number e.access)
spared p number (entry ∷ more) all =
    All-cons (λ (e : Carried). SparesSlot p number e.access) entry more (All-head (SparesSlot p number) entry.access (accesses_in more) all)
    (spared p number more (All-tail (SparesSlot p number) entry.access (accesses_in more) all))

-- what the latest write of a slot took it had taken before, where what came behind it doesn't write the slot
pub took_back : (p : Sizes) (number : ℕ) (bytes : List ℕ) (log more : List Carried) → All (λ (e : Carried). SparesSlot p number e.access) more
    → Took p number bytes (log ++ more) → Took p number bytes log
took_back p number bytes log [] all took = subst (λ (l : List Carried). Took p number bytes l) (append-nil log) took
took_back p number bytes log (last ∷ more) all took =
    took-before p number bytes log last (unwritten (All-head (λ (e : Carried). SparesSlot p number e.access) last more all))
    (took_back p number bytes (log ++ last ∷ []) more (All-tail (λ (e : Carried). SparesSlot p number e.access) last more all)
    (subst (λ (l : List Carried). Took p number bytes l) (sym (append_assoc log (last ∷ []) more)) took))
  where
    unwritten : SparesSlot p number last.access → writes_number p number last.access ≡ false
    unwritten (inl reads) = reads_nothing p number last.access reads
    unwritten (inr other) = writes_elsewhere p number last.access other

-- and it still has
pub took_on : (p : Sizes) (number : ℕ) (bytes : List ℕ) (log more : List Carried) → All (λ (e : Carried). SparesSlot p number e.access) more
    → Took p number bytes log → Took p number bytes (log ++ more)
took_on p number bytes log [] all took = subst (λ (l : List Carried). Took p number bytes l) (sym (append-nil log)) took
took_on p number bytes log (last ∷ more) all took =
    subst (λ (l : List Carried). Took p number bytes l) (append_assoc log (last ∷ []) more)
    (took_on p number bytes (log ++ last ∷ []) more (All-tail (λ (e : Carried). SparesSlot p number e.access) last more all)
    (one (All-head (λ (e : Carried). SparesSlot p number e.access) last more all)))
  where
    one : SparesSlot p number last.access → Took p number bytes (log ++ last ∷ [])
    one (inl reads) = took-read p number bytes log last reads took
    one (inr other) = took-elsewhere p number bytes log last other took
