-- What the latest write of a slot took, where each write took its block.
use Rattle.std.proofs.Common.{◌≡◌, ℕ, ◌+◌, ◌*◌, ◌%◌, ◌<◌, Bool, true, false, ◌==◌, List, [], ◌∷◌, ◌++◌, map, All, Some, refl, sym, ap, ◌∙◌, subst, arith}
use Rattle.std.specs.Prelude.{if◌then◌else◌}
use Rattle.std.proofs.lemmas.List.Elements.{All-pop}
use Rattle.std.proofs.lemmas.Nat.{div-mul-add, mod-mul-add}
use Rattle.esa_device.specs.Logs.{Carried, latest_carried}
use Rattle.esa_device.proofs.LogLaws.{latest-push}
use Rattle.esa_envelope.specs.declared.keys.Keys.{Keys}
use Rattle.esa_laws.proofs.PairLaws.{both-true}
use Rattle.esa_laws.proofs.RoundLaws.{by_pushes}
use Rattle.esa_laws.proofs.Tests.{equal}
use Rattle.esa_params.specs.Sizes.{Sizes}
use Rattle.esa_params.specs.Slots.{IsPlanned, at, is_writing, item_length, number_of, slot_number, writes_number}
use Rattle.esa_params.specs.declared.slot.Access.{Access}
use Rattle.esa_params.specs.declared.slot.Op.{Op}
use Rattle.esa_params.specs.declared.slot.Op.TheVariants.{Read as Reads, Write as Writes}
use Rattle.esa_params.specs.declared.slot.Region.{Region}
use Rattle.esa_params.specs.declared.slot.Region.TheVariants.{Input, Mid, Tail, Output}
use Rattle.esa_report.specs.declared.item.Item.{Item}
use Rattle.esa_spec.specs.Draws.{Draw}
use Rattle.esa_spec.specs.Lines.{chunk}
use Rattle.esa_spec.specs.Places.{exchange_of}
use Rattle.esa_spec.specs.Traces.{chunk_slot}
use Rattle.esa_spec.specs.Turns.{order}
use Rattle.esa_stash.specs.Stash.{padded}
use Rattle.esa_vault.specs.Filled.{text_of}
use Rattle.esa_vault.specs.Seals.{sealed_block}
use Rattle.esa_floor.specs.Keeping.{chunk_block}
use Rattle.esa_floor.specs.Written.{TookItsBlock, block_items, output_seal, tail_seal}
use Rattle.esa_floor.proofs.Writing.{inside_mid}

-- the latest write of a slot is an entry of the log, and writes the slot
record Is_latest (p : Sizes) (number : ℕ) (P : Carried → Type 0) (entry : Carried) : Type 0 where
  has : P entry
  writes : writes_number p number entry.access ≡ true

latest-found : (p : Sizes) (number : ℕ) (P : Carried → Type 0) (entry : Carried) (log : List Carried) → All P log
    → latest_carried p number log ≡ Some entry → Is_latest p number P entry
latest-found p number P entry =
    by_pushes (λ (log : List Carried). All P log → latest_carried p number log ≡ Some entry → Is_latest p number P entry)
    (λ all is. absurd (cc is))
    (λ log last before all is.
    let parts = All-pop P (log ++ last ∷ []) log (Some last) refl all in
    let pushed = sym (latest-push p number log last) ∙ is in
    by log last before parts.0 parts.1 (writes_number p number last.access) refl pushed)
  where
    by : (log : List Carried) (last : Carried) → (All P log → latest_carried p number log ≡ Some entry → Is_latest p number P entry) → All P log → P last
        → (writes : Bool) → writes_number p number last.access ≡ writes → (if writes_number p number last.access then Some last else latest_carried p number log) ≡ Some entry
        → Is_latest p number P entry
    by log last before all has true writes is =
        let here : Some last ≡ Some entry = sym (ap (λ (w : Bool). if w then Some last else latest_carried p number log) writes) ∙ is in
        let same : last ≡ entry = cc here in
        subst (Is_latest p number P) same (record { has = has; writes = writes })
    by log last before all has false writes is =
        before all (sym (ap (λ (w : Bool). if w then Some last else latest_carried p number log) writes) ∙ is)

-- an operation that writes is a write
is_write : (op : Op) → is_writing op ≡ true → op ≡ Writes
is_write Reads never = absurd (cc never)
is_write Writes writes = refl

pub writes_op : (p : Sizes) (number : ℕ) (access : Access) → writes_number p number access ≡ true → access.op ≡ Writes
writes_op p number access writes = is_write access.op (both-true (is_writing access.op) (slot_number p access == number) writes).0

-- slots of one number are one slot
same_mid : (p : Sizes) (r : Region) (x y : ℕ) → IsPlanned p (at r x) → y < p.b * p.b → number_of p (at r x) ≡ number_of p (at Mid y) → (r ≡ Mid) × (x ≡ y)
same_mid p Input x y inside y_in same = absurd (omega (arith, inside, y_in, same))
same_mid p Mid x y inside y_in same = (refl, omega (arith, same))
same_mid p Tail x y inside y_in same = absurd (omega (arith, inside, y_in, same))
same_mid p Output x y inside y_in same = absurd (omega (arith, inside, y_in, same))

same_tail : (p : Sizes) (r : Region) (x y : ℕ) → IsPlanned p (at r x) → y < p.b → number_of p (at r x) ≡ number_of p (at Tail y) → (r ≡ Tail) × (x ≡ y)
same_tail p Input x y inside y_in same = absurd (omega (arith, inside, y_in, same))
same_tail p Mid x y inside y_in same = absurd (omega (arith, inside, y_in, same))
same_tail p Tail x y inside y_in same = (refl, omega (arith, same))
same_tail p Output x y inside y_in same = absurd (omega (arith, inside, y_in, same))

same_output : (p : Sizes) (r : Region) (x y : ℕ) → IsPlanned p (at r x) → y < p.b → number_of p (at r x) ≡ number_of p (at Output y) → (r ≡ Output) × (x ≡ y)
same_output p Input x y inside y_in same = absurd (omega (arith, inside, y_in, same))
same_output p Mid x y inside y_in same = absurd (omega (arith, inside, y_in, same))
same_output p Tail x y inside y_in same = absurd (omega (arith, inside, y_in, same))
same_output p Output x y inside y_in same = (refl, omega (arith, same))

-- the slot that the latest write of a slot names
module _ (p : Sizes) (run : Keys) (ds : ℕ → Draw) (record_of : ℕ → Item) (turns : ℕ → List ℕ) (log : List Carried)
    (all : All (TookItsBlock p run ds record_of turns) log) (access : Access) (bytes : List ℕ)
  where
    abbrev a : ℕ
    a = access.attempt

    abbrev entry : Carried
    entry = record { access = access; bytes = Some bytes }

    abbrev Block : Region → ℕ → Type 0
    Block r x = bytes ≡ sealed_block p run (at r x) a (text_of (item_length p.form) (block_items p (ds a) record_of (turns a) r x))

    module _ (number : ℕ) (latest : latest_carried p number log ≡ Some entry) where
      found : Is_latest p number (TookItsBlock p run ds record_of turns) entry
      found = latest-found p number (TookItsBlock p run ds record_of turns) entry log all latest

      tests : (is_writing access.op ≡ true) × ((slot_number p access == number) ≡ true)
      tests = both-true (is_writing access.op) (slot_number p access == number) found.writes

      writes : access.op ≡ Writes
      writes = is_write access.op tests.0

      named : slot_number p access ≡ number
      named = equal (slot_number p access) number tests.1

      planned : IsPlanned p (at access.region access.index)
      planned = found.has.planned writes

      -- where that slot is known
      block_there : (r : Region) (x : ℕ) → (r ≡ Input → ⊥) → (access.region ≡ r) × (access.index ≡ x) → Block r x
      block_there r x other there =
          (found.has.took bytes writes (λ input. other (sym there.0 ∙ input)) refl).sealed
          ∙ ap (λ (k : Region). sealed_block p run (at k access.index) a (text_of (item_length p.form) (block_items p (ds a) record_of (turns a) k access.index))) there.0
          ∙ ap (λ (k : ℕ). sealed_block p run (at r k) a (text_of (item_length p.form) (block_items p (ds a) record_of (turns a) r k))) there.1

    pub chunk_latest : (j i : ℕ) → j < p.b → i < p.b → latest_carried p (number_of p (chunk_slot p j i)) log ≡ Some entry
        → bytes ≡ chunk_block p run a (ds a) record_of (order p.b (turns a)) j i
    chunk_latest j i j_in i_in latest =
        let x = j * p.b + i in
        let number = number_of p (chunk_slot p j i) in
        let o = order p.b (turns a) in
        block_there number latest Mid x (λ input. cc input)
        (same_mid p access.region access.index x (planned number latest) (inside_mid p.b j i j_in i_in) (named number latest))
        ∙ ap (λ (k : ℕ). sealed_block p run (at Mid x) a (text_of (item_length p.form) (padded p.c (map record_of (chunk p (ds a) o (exchange_of o k) (x % p.b))))))
        (div-mul-add j p.b i i_in)
        ∙ ap (λ (k : ℕ). sealed_block p run (at Mid x) a (text_of (item_length p.form) (padded p.c (map record_of (chunk p (ds a) o (exchange_of o j) k)))))
        (mod-mul-add j p.b i i_in)

    pub tail_latest : (i : ℕ) → i < p.b → latest_carried p (number_of p (at Tail i)) log ≡ Some entry
        → bytes ≡ tail_seal p run a (ds a) record_of (order p.b (turns a)) i
    tail_latest i i_in latest =
        let number = number_of p (at Tail i) in
        block_there number latest Tail i (λ input. cc input)
        (same_tail p access.region access.index i (planned number latest) i_in (named number latest))

    pub output_latest : (j : ℕ) → j < p.b → latest_carried p (number_of p (at Output j)) log ≡ Some entry
        → bytes ≡ output_seal p run a (ds a) record_of (turns a) j
    output_latest j j_in latest =
        let number = number_of p (at Output j) in
        block_there number latest Output j (λ input. cc input)
        (same_output p access.region access.index j (planned number latest) j_in (named number latest))
