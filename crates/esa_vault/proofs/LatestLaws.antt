-- The latest write of a slot, when an access comes behind the others.
use Rattle.std.proofs.Common.{◌≡◌, ◌≢◌, ℕ, ◌<◌, ◌==◌, List, [], ◌∷◌, ◌++◌, length, Option, Some, sym, ap, ◌∙◌, arith, inl, inr}
use Rattle.std.specs.Prelude.{find, slice_get, slice_set, if◌then◌else◌}
use Rattle.std.proofs.lemmas.Bool.{cases_Bool}
use Rattle.std.proofs.lemmas.Bool.Decides.{nat_tests}
use Rattle.std.proofs.lemmas.List.{reverse-append}
use Rattle.esa_envelope.specs.declared.keys.Keys.{Keys}
use Rattle.esa_envelope.specs.declared.label.Label.TheVariants.{Block}
use Rattle.esa_envelope.specs.Envelope.{sealed_as}
use Rattle.esa_params.specs.Slots.{slot_number, writes_number}
use Rattle.esa_params.specs.Sizes.{Sizes}
use Rattle.esa_params.specs.declared.slot.Access.{Access}
use Rattle.esa_params.specs.declared.slot.Op.TheVariants.{Read, Write}
use Rattle.esa_device.proofs.LogLaws.{get-set_other, get-set_same, reads_nothing, writes_elsewhere, writes_here}
use Rattle.esa_vault.specs.Latest.{AllHoldLatest, AllToldLatest, HoldsLatest, latest_write}

-- by whether the last access writes the slot
pub latest-push : (p : Sizes) (number : ℕ) (accesses : List Access) (access : Access)
    → latest_write p number (accesses ++ access ∷ []) ≡ (if writes_number p number access then Some access else latest_write p number accesses)
latest-push p number accesses access = ap (find (writes_number p number)) (reverse-append accesses (access ∷ []))

pub latest-read : (p : Sizes) (number : ℕ) (accesses : List Access) (access : Access) → access.op ≡ Read
    → latest_write p number (accesses ++ access ∷ []) ≡ latest_write p number accesses
latest-read p number accesses access reads =
    latest-push p number accesses access
    ∙ ap (λ writes. if writes then Some access else latest_write p number accesses) (reads_nothing p number access reads)

pub holds-read : (p : Sizes) (keys : Keys) (text : Access → List ℕ) (held : List (List ℕ)) (accesses : List Access) (access : Access)
    → access.op ≡ Read → AllHoldLatest p keys text held accesses → AllHoldLatest p keys text held (accesses ++ access ∷ [])
holds-read p keys text held accesses access reads holds number planned latest is =
    holds number planned latest (sym (latest-read p number accesses access reads) ∙ is)

pub told-read : (p : Sizes) (keys : Keys) (text : Access → List ℕ) (old new : Option (List (List ℕ))) (accesses : List Access) (access : Access)
    → access.op ≡ Read → new ≡ old → AllToldLatest p keys text old accesses → AllToldLatest p keys text new (accesses ++ access ∷ [])
told-read p keys text old new accesses access reads same told number planned blocks is latest wrote =
    told number planned blocks (sym same ∙ is) latest (sym (latest-read p number accesses access reads) ∙ wrote)

pub holds-other : (p : Sizes) (keys : Keys) (text : Access → List ℕ) (held : List (List ℕ)) (accesses : List Access) (access : Access) (number : ℕ) (bytes : List ℕ)
    → number ≢ slot_number p access → HoldsLatest p keys text held accesses number
    → HoldsLatest p keys text (slice_set held (slot_number p access) bytes) (accesses ++ access ∷ []) number
holds-other p keys text held accesses access number bytes other holds latest is =
    get-set_other held (slot_number p access) number bytes other
    ∙ holds latest (sym (latest-push p number accesses access
    ∙ ap (λ writes. if writes then Some access else latest_write p number accesses) (writes_elsewhere p number access other)) ∙ is)

-- the write that is the latest is the one that came last
same_access : (access latest : Access) → Some access ≡ Some latest → access ≡ latest
same_access access latest is = cc

holds-here : (p : Sizes) (keys : Keys) (text : Access → List ℕ) (held : List (List ℕ)) (accesses : List Access) (access : Access) (number : ℕ)
    → access.op ≡ Write → slot_number p access < length held → number ≡ slot_number p access
    → HoldsLatest p keys text (slice_set held (slot_number p access) (sealed_as keys Block access.nonce (text access))) (accesses ++ access ∷ []) number
holds-here p keys text held accesses access number writes there same latest is =
    let last : access ≡ latest = same_access access latest (sym (latest-push p number accesses access
    ∙ ap (λ does. if does then Some access else latest_write p number accesses) (writes_here p number access writes same)) ∙ is) in
    ap (λ n. slice_get (slice_set held (slot_number p access) (sealed_as keys Block access.nonce (text access))) n) same
    ∙ get-set_same held (slot_number p access) (sealed_as keys Block access.nonce (text access)) there
    ∙ ap (λ (access : Access). Some (sealed_as keys Block access.nonce (text access))) last

pub holds-write : (p : Sizes) (keys : Keys) (text : Access → List ℕ) (held : List (List ℕ)) (accesses : List Access) (access : Access)
    → access.op ≡ Write → slot_number p access < length held → AllHoldLatest p keys text held accesses
    → AllHoldLatest p keys text (slice_set held (slot_number p access) (sealed_as keys Block access.nonce (text access))) (accesses ++ access ∷ [])
holds-write p keys text held accesses access writes there holds number planned =
    elim (cases_Bool (number == slot_number p access)) [
      | inl same ↦ holds-here p keys text held accesses access number writes there (grind (arith, nat_tests))
      | inr other ↦ holds-other p keys text held accesses access number (sealed_as keys Block access.nonce (text access))
          (grind (arith, nat_tests)) (holds number planned)
    ]
