-- What the latest writes of a log took, when an access comes behind the others.
use Rattle.std.proofs.Common.{◌≡◌, ◌≢◌, ℕ, false, ◌==◌, List, [], ◌∷◌, ◌++◌, Option, Some, None, Result, Ok, Err, refl, sym, ap, subst, ◌∙◌, arith, inl, inr}
use Rattle.std.specs.Prelude.{OnOk, if◌then◌else◌}
use Rattle.std.proofs.lemmas.Bool.{cases_Bool}
use Rattle.std.proofs.lemmas.Bool.Decides.{nat_tests}
use Rattle.std.proofs.lemmas.List.{map-append}
use Rattle.esa_device.specs.Logs.{Carried, HoldsWritten, Took, carried_by}
use Rattle.esa_device.proofs.LogLaws.{reads_nothing, took-elsewhere, took-read, took-written, writes_elsewhere, writes_here}
use Rattle.esa_envelope.specs.declared.keys.Keys.{Keys}
use Rattle.esa_envelope.specs.declared.label.Label.TheVariants.{Block}
use Rattle.esa_envelope.specs.Envelope.{sealed_as}
use Rattle.esa_params.specs.Sizes.{Sizes}
use Rattle.esa_params.specs.Slots.{access_of, nonce_of, number_of, slot_number, writes_number}
use Rattle.esa_params.specs.declared.slot.Access.{Access}
use Rattle.esa_params.specs.declared.slot.Op.TheVariants.{Read, Write}
use Rattle.esa_params.specs.declared.slot.Slot.{Slot}
use Rattle.esa_vault.specs.declared.fault.VaultFault.{VaultFault}
use Rattle.esa_vault.specs.Latest.{AllTookLatest, HoldsLatest, TookLatest, accesses_of, latest_write}
use Rattle.esa_vault.specs.Seals.{sealed_block}
use Rattle.esa_vault.proofs.LatestLaws.{latest-push}

accesses-push : (log : List Carried) (last : Carried) → accesses_of (log ++ last ∷ []) ≡ accesses_of log ++ last.access ∷ []
accesses-push log last = map-append (λ (entry : Carried). entry.access) log (last ∷ [])

-- the latest write once a log is longer by one
latest-noted : (p : Sizes) (number : ℕ) (log : List Carried) (last : Carried)
    → latest_write p number (accesses_of (log ++ last ∷ [])) ≡ (if writes_number p number last.access then Some last.access else latest_write p number (accesses_of log))
latest-noted p number log last = ap (latest_write p number) (accesses-push log last) ∙ latest-push p number (accesses_of log) last.access

pub took-nothing : (p : Sizes) (keys : Keys) (text : Access → List ℕ) (but : Option ℕ) → AllTookLatest p keys text [] but
took-nothing p keys text but number planned other access none = cc none

-- a slot that the last access doesn't write
unwritten : (p : Sizes) (keys : Keys) (text : Access → List ℕ) (log : List Carried) (last : Carried) (number : ℕ) → writes_number p number last.access ≡ false
    → ((bytes : List ℕ) → Took p number bytes log → Took p number bytes (log ++ last ∷ []))
    → TookLatest p keys text log number → TookLatest p keys text (log ++ last ∷ []) number
unwritten p keys text log last number none keeps took access latest =
    keeps (sealed_as keys Block access.nonce (text access))
    (took access (sym (latest-noted p number log last ∙ ap (λ writes. if writes then Some last.access else latest_write p number (accesses_of log)) none) ∙ latest))

pub took-latest_read : (p : Sizes) (keys : Keys) (text : Access → List ℕ) (log : List Carried) (last : Carried) (number : ℕ) → last.access.op ≡ Read
    → TookLatest p keys text log number → TookLatest p keys text (log ++ last ∷ []) number
took-latest_read p keys text log last number reads took =
    unwritten p keys text log last number (reads_nothing p number last.access reads) (λ bytes. took-read p number bytes log last reads) took

pub took-latest_other : (p : Sizes) (keys : Keys) (text : Access → List ℕ) (log : List Carried) (last : Carried) (number : ℕ) → number ≢ slot_number p last.access
    → TookLatest p keys text log number → TookLatest p keys text (log ++ last ∷ []) number
took-latest_other p keys text log last number other took =
    unwritten p keys text log last number (writes_elsewhere p number last.access other) (λ bytes. took-elsewhere p number bytes log last other) took

-- the slot that it writes
pub took-latest_here : (p : Sizes) (keys : Keys) (text : Access → List ℕ) (log : List Carried) (last : Carried) (number : ℕ) → last.access.op ≡ Write
    → number ≡ slot_number p last.access → last.bytes ≡ Some (sealed_as keys Block last.access.nonce (text last.access))
    → TookLatest p keys text (log ++ last ∷ []) number
took-latest_here p keys text log last number writes same is access latest =
    let one : Some last.access ≡ Some access =
    sym (latest-noted p number log last ∙ ap (λ writes. if writes then Some last.access else latest_write p number (accesses_of log)) (writes_here p number last.access writes same)) ∙ latest in
    let it : last.access ≡ access = cc one in
    subst (λ (n : ℕ). Took p n (sealed_as keys Block access.nonce (text access)) (log ++ last ∷ [])) (sym same)
    (took-written p (sealed_as keys Block access.nonce (text access)) log last writes
    (is ∙ ap (λ (a : Access). Some (sealed_as keys Block a.nonce (text a))) it))

pub all-took_read : (p : Sizes) (keys : Keys) (text : Access → List ℕ) (log : List Carried) (last : Carried) (but : Option ℕ) → last.access.op ≡ Read
    → AllTookLatest p keys text log but → AllTookLatest p keys text (log ++ last ∷ []) but
all-took_read p keys text log last but reads all number planned other = took-latest_read p keys text log last number reads (all number planned other)

pub all-took_put : (p : Sizes) (keys : Keys) (text : Access → List ℕ) (log : List Carried) (slot : Slot) (attempt : ℕ) (result : Result (Unit {0}) VaultFault)
    → AllTookLatest p keys text log None
    → OnOk result (AllTookLatest p keys text (log ++ carried_by (access_of p attempt Write slot) result (sealed_block p keys slot attempt (text (access_of p attempt Write slot))) ∷ []) None)
all-took_put p keys text log slot attempt (Err fault) all = tt
all-took_put p keys text log slot attempt (Ok done) all = λ number planned other.
    let last : Carried = record { access = access_of p attempt Write slot; bytes = Some (sealed_block p keys slot attempt (text (access_of p attempt Write slot))) } in
    elim (cases_Bool (number == number_of p slot)) [
      | inl here ↦ took-latest_here p keys text log last number refl (grind (arith, nat_tests)) refl
      | inr there ↦ took-latest_other p keys text log last number (grind (arith, nat_tests)) (all number planned tt)
    ]

pub all-took_but : (p : Sizes) (keys : Keys) (text : Access → List ℕ) (log : List Carried) (slot : Slot) (attempt : ℕ) (bytes : List ℕ) (result : Result (Unit {0}) VaultFault)
    → AllTookLatest p keys text log None
    → AllTookLatest p keys text (log ++ carried_by (access_of p attempt Write slot) result bytes ∷ []) (Some (number_of p slot))
all-took_but p keys text log slot attempt bytes result all number planned other =
    took-latest_other p keys text log (carried_by (access_of p attempt Write slot) result bytes) number other (all number planned tt)

pub took-agreed : (p : Sizes) (keys : Keys) (text other : Access → List ℕ) (log : List Carried) (but : Option ℕ)
    → ((number : ℕ) (access : Access) → latest_write p number (accesses_of log) ≡ Some access → text access ≡ other access)
    → AllTookLatest p keys text log but → AllTookLatest p keys other log but
took-agreed p keys text other log but agree all number planned apart access latest =
    subst (λ (bytes : List ℕ). Took p number (sealed_as keys Block access.nonce bytes) log) (agree number access latest) (all number planned apart access latest)

pub took-seal : (p : Sizes) (keys : Keys) (text : Access → List ℕ) (log : List Carried) (access : Access) (slot : Slot) (attempt : ℕ)
    → TookLatest p keys text log (number_of p slot) → latest_write p (number_of p slot) (accesses_of log) ≡ Some access
    → access.nonce ≡ nonce_of p attempt slot → Took p (number_of p slot) (sealed_block p keys slot attempt (text access)) log
took-seal p keys text log access slot attempt took latest own =
    subst (λ (nonce : ℕ). Took p (number_of p slot) (sealed_as keys Block nonce (text access)) log) own (took access latest)

pub took-holds : (p : Sizes) (keys : Keys) (text : Access → List ℕ) (log : List Carried) (held : List (List ℕ)) (number : ℕ)
    → TookLatest p keys text log number → HoldsWritten p held log → HoldsLatest p keys text held (accesses_of log) number
took-holds p keys text log held number took holds access latest =
    holds number (sealed_as keys Block access.nonce (text access)) (took access latest)
