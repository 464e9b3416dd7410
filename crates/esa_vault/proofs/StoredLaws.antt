-- What is told of the slots once a block was put.
use Rattle.std.proofs.Common.{◌≡◌, ◌≢◌, ℕ, ◌<◌, List, [], ◌∷◌, ◌++◌, Option, Some, None, Result, Ok, Err, refl, ap, ◌∙◌, subst}
use Rattle.std.specs.Prelude.{OnOk, slice_get, slice_set}
use Rattle.esa_envelope.specs.declared.keys.Keys.{Keys}
use Rattle.esa_envelope.specs.declared.label.Label.TheVariants.{Block}
use Rattle.esa_envelope.specs.Envelope.{sealed_as}
use Rattle.esa_params.specs.Sizes.{Sizes}
use Rattle.esa_params.specs.Slots.{access_of, nonce_of, number_of, slots_of}
use Rattle.esa_params.specs.declared.slot.Access.{Access}
use Rattle.esa_params.specs.declared.slot.Op.TheVariants.{Write}
use Rattle.esa_params.specs.declared.slot.Slot.{Slot}
use Rattle.esa_vault.specs.declared.fault.VaultFault.{VaultFault}
use Rattle.esa_vault.specs.Latest.{AllHoldLatest, AllToldLatest, HoldsLatest, ToldLatest, latest_write}
use Rattle.esa_vault.specs.Seals.{sealed_block}
use Rattle.esa_vault.specs.Traffic.{Stores}
use Rattle.esa_vault.proofs.LatestLaws.{holds-other, holds-write}

-- blocks that are told are those that are said to be
told-one : {X : Type 0} (P : X → Type 0) (told : Option X) (is held : X) → told ≡ Some is → told ≡ Some held → P is → P held
told-one P told is held first second fact = let same : is ≡ held = cc in subst P same fact

pub put-stored : (p : Sizes) (keys : Keys) (text : Access → List ℕ) (old new : Option (List (List ℕ))) (slot : Slot) (attempt : ℕ) (accesses : List Access) (result : Result (Unit {0}) VaultFault)
    → AllToldLatest p keys text old accesses
    → Stores old new (number_of p slot) (sealed_block p keys slot attempt (text (access_of p attempt Write slot))) result
    → OnOk result (AllToldLatest p keys text new (accesses ++ access_of p attempt Write slot ∷ []))
put-stored p keys text None new slot attempt accesses (Ok done) all stores = λ number planned blocks told. cc (stores.silent refl, told)
put-stored p keys text (Some held) new slot attempt accesses (Ok done) all stores = λ number planned blocks told.
    told-one (λ blocks. HoldsLatest p keys text blocks (accesses ++ access_of p attempt Write slot ∷ []) number) new
    (slice_set held (number_of p slot) (sealed_block p keys slot attempt (text (access_of p attempt Write slot)))) blocks
    (stores.written held refl) told
    (holds-write p keys text held accesses (access_of p attempt Write slot) refl (stores.there held refl)
    (λ number planned. all number planned held refl) number planned)
put-stored p keys text old new slot attempt accesses (Err fault) all stores = tt

pub put-others : (p : Sizes) (keys : Keys) (text : Access → List ℕ) (old new : Option (List (List ℕ))) (slot : Slot) (attempt : ℕ) (accesses : List Access) (bytes : List ℕ) (result : Result (Unit {0}) VaultFault) (number : ℕ)
    → ToldLatest p keys text old accesses number → Stores old new (number_of p slot) bytes result → number ≢ number_of p slot
    → ToldLatest p keys text new (accesses ++ access_of p attempt Write slot ∷ []) number
put-others p keys text None new slot attempt accesses bytes result number before stores other = λ blocks told. cc (stores.silent refl, told)
put-others p keys text (Some held) new slot attempt accesses bytes (Ok done) number before stores other = λ blocks told.
    told-one (λ blocks. HoldsLatest p keys text blocks (accesses ++ access_of p attempt Write slot ∷ []) number) new
    (slice_set held (number_of p slot) bytes) blocks (stores.written held refl) told
    (holds-other p keys text held accesses (access_of p attempt Write slot) number bytes other (before held refl))
put-others p keys text (Some held) new slot attempt accesses bytes (Err fault) number before stores other = λ blocks told.
    let left = stores.failed held refl in
    told-one (λ blocks. HoldsLatest p keys text blocks (accesses ++ access_of p attempt Write slot ∷ []) number) new
    (slice_set held (number_of p slot) left.0) blocks left.1 told
    (holds-other p keys text held accesses (access_of p attempt Write slot) number left.0 other (before held refl))

pub latest-sealed : (p : Sizes) (keys : Keys) (text : Access → List ℕ) (held : List (List ℕ)) (accesses : List Access) (access : Access) (slot : Slot) (attempt : ℕ)
    → AllHoldLatest p keys text held accesses → number_of p slot < slots_of p → latest_write p (number_of p slot) accesses ≡ Some access
    → access.nonce ≡ nonce_of p attempt slot
    → slice_get held (number_of p slot) ≡ Some (sealed_block p keys slot attempt (text access))
latest-sealed p keys text held accesses access slot attempt all planned latest own =
    all (number_of p slot) planned access latest ∙ ap (λ nonce. Some (sealed_as keys Block nonce (text access))) own
