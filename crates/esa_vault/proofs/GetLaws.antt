-- What a read gives, and what it opens to.
use Rattle.std.proofs.Common.{◌≡◌, ℕ, ◌^◌, ◌<◌, ◌++◌, [], ◌∷◌, Bool, true, false, subst, List, Result, Ok, Err, Option, Some, refl, sym, ap, ◌∙◌, is_err}
use Rattle.std.specs.Prelude.{OnOk, slice_get, unwrap_or}
use Rattle.esa_device.specs.Logs.{Carried, IsFaithful, Took}
use Rattle.esa_device.specs.Recording.{Recorded}
use Rattle.esa_device.proofs.LogLaws.{faithful-last}
use Rattle.esa_device.specs.Recording.{number_in}
use Rattle.esa_params.specs.declared.slot.Op.TheVariants.{Read}
use Rattle.esa_vault.specs.declared.fault.VaultFault.{VaultFault}
use Rattle.esa_vault.specs.declared.fault.VaultFault.TheVariants.{Device, Tampered}
use Rattle.esa_vault.specs.Traffic.{Gives, GivesLatest, GivesTold, IsOpenedTo, IsRead, OnGiven, ReadAnswer, given_by}
use Rattle.esa_envelope.specs.declared.keys.Keys.{Keys}
use Rattle.esa_params.specs.Sizes.{Sizes, ArePlanned}
use Rattle.esa_params.specs.Slots.{IsPlanned, access_of, number_of}
use Rattle.esa_params.specs.declared.slot.Access.{Access}
use Rattle.esa_params.specs.declared.slot.Op.{Op}
use Rattle.esa_params.specs.declared.slot.Slot.{Slot}
use Rattle.esa_vault.specs.Seals.{is_text_of, opens, sealed_block, text_in}
use Rattle.esa_vault.proofs.BlockLaws.{opens-sealed, text_in-sealed}

-- the number of the slot that an access is to, in the plan that the recorder is ready for
pub number-named : (plan : Option Sizes) (p : Sizes) (op : Op) (slot : Slot) (attempt : ℕ) (access : Access) → plan ≡ Some p
    → access ≡ access_of p attempt op slot → number_in plan access ≡ number_of p slot
number-named plan p op slot attempt access ready is =
    ap (number_in plan) is ∙ ap (λ q. number_in q (access_of p attempt op slot)) ready

-- a read that didn't fail gave what its slot holds
pub read-gave : {T E : Type 0} (result : Result T E) (blocks : List (List ℕ)) (named number : ℕ) (out : List ℕ) → is_err result ≡ false
    → named ≡ number → OnOk result (slice_get blocks named ≡ Some out) → slice_get blocks number ≡ Some out
read-gave (Ok done) blocks named number out given same read = sym (ap (slice_get blocks) same) ∙ read
read-gave (Err failure) blocks named number out given same read = cc given

-- the bytes of a slot are one list
pub same-bytes : (block : Option (List ℕ)) (out held : List ℕ) → block ≡ Some out → block ≡ Some held → out ≡ held
same-bytes block out held gave is = cc

-- what was sealed is opened
pub opened-text : (p : Sizes) (keys : Keys) (slot : Slot) (attempt : ℕ) (text bytes plain before : List ℕ)
    → ArePlanned p → IsPlanned p slot → attempt < 2 ^ 32 → bytes ≡ sealed_block p keys slot attempt text
    → plain ≡ unwrap_or (text_in p keys slot attempt bytes) before → plain ≡ text
opened-text p keys slot attempt text bytes plain before planned inside small is opened =
    opened ∙ ap (λ text. unwrap_or text before) (ap (text_in p keys slot attempt) is ∙ text_in-sealed p keys slot attempt text planned inside small)

-- and taken, where it is the text of a block with so many items
pub taken-text : (p : Sizes) (keys : Keys) (slot : Slot) (attempt count : ℕ) (text bytes : List ℕ) (answer : Bool)
    → ArePlanned p → IsPlanned p slot → attempt < 2 ^ 32 → bytes ≡ sealed_block p keys slot attempt text
    → answer ≡ opens p keys slot attempt count bytes → is_text_of p slot.region count text ≡ true → answer ≡ true
taken-text p keys slot attempt count text bytes answer planned inside small is answers fits =
    answers ∙ ap (opens p keys slot attempt count) is ∙ opens-sealed p keys slot attempt count text planned inside small ∙ fits

no_both : (b : Bool) → b ≡ true → b ≡ false → ⊥
no_both b first second = cc (first, second)

given-same : {T : Type 0} (result : Result T VaultFault) (block : Option (List ℕ)) (out held : List ℕ) → OnGiven result (block ≡ Some out) → block ≡ Some held → OnGiven result (out ≡ held)
given-same (Ok done) block out held given is = same-bytes block out held given is
given-same (Err (Device other)) block out held given is = tt
given-same (Err (Tampered other)) block out held given is = same-bytes block out held given is

-- the text is got where the bytes are its seal
gives : {T : Type 0} (p : Sizes) (keys : Keys) (slot : Slot) (attempt count number before now : ℕ) (last bytes text_before text sealed : List ℕ) (result : Result T VaultFault)
    → OnGiven result (ArePlanned p) → IsPlanned p slot → attempt < 2 ^ 32
    → IsOpenedTo p keys slot attempt bytes text_before text result
    → ReadAnswer number before now (opens p keys slot attempt count last) result → OnGiven result (last ≡ bytes)
    → OnGiven result (bytes ≡ sealed_block p keys slot attempt sealed)
    → Gives p slot count sealed text result
gives p keys slot attempt count number before now last bytes text_before text sealed (Ok done) limits planned small opened answer same is = record {
  opened = opened-text p keys slot attempt sealed bytes text text_before limits planned small is opened.given;
  taken = λ fits. refl;
}
gives p keys slot attempt count number before now last bytes text_before text sealed (Err (Device other)) limits planned small opened answer same is = record {
  opened = tt;
  taken = λ fits. tt;
}
gives p keys slot attempt count number before now last bytes text_before text sealed (Err (Tampered other)) limits planned small opened answer same is = record {
  opened = opened-text p keys slot attempt sealed bytes text text_before limits planned small is opened.given;
  taken = λ fits.
      let takes = taken-text p keys slot attempt count sealed bytes (opens p keys slot attempt count last) limits planned small is (ap (opens p keys slot attempt count) same) fits in
      absurd (no_both (opens p keys slot attempt count last) takes answer.1);
}

-- what a read gave, where the log is faithful
gave : {T : Type 0} (p : Sizes) (slot : Slot) (attempt : ℕ) (bytes written : List ℕ) (old new : List Carried) (result : Result T VaultFault)
    → new ≡ old ++ record { access = access_of p attempt Read slot; bytes = given_by result bytes } ∷ []
    → IsFaithful p new → Took p (number_of p slot) written old → OnGiven result (bytes ≡ written)
gave p slot attempt bytes written old new (Ok done) is faithful took =
    faithful-last p old (record { access = access_of p attempt Read slot; bytes = Some bytes }) bytes written (subst (IsFaithful p) is faithful) (refl, refl) took
gave p slot attempt bytes written old new (Err (Device other)) is faithful took = tt
gave p slot attempt bytes written old new (Err (Tampered other)) is faithful took =
    faithful-last p old (record { access = access_of p attempt Read slot; bytes = Some bytes }) bytes written (subst (IsFaithful p) is faithful) (refl, refl) took

module _ {V T : Type 0} (told : V → Option (List (List ℕ))) (faults : V → ℕ) (last_call : V → Option (Op × ℕ))
    (p : Sizes) (keys : Keys) (slot : Slot) (attempt count : ℕ) (bytes before text : List ℕ) (old new : Recorded V) (result : Result T VaultFault)
    (limits : OnGiven result (ArePlanned p)) (planned : IsPlanned p slot) (small : attempt < 2 ^ 32)
    (read : IsRead told faults last_call p slot attempt (opens p keys slot attempt count) bytes old new result)
    (opened : IsOpenedTo p keys slot attempt bytes before text result)
  where
    pub gives-latest : GivesLatest p keys slot attempt count text old new result
    gives-latest sealed faithful took =
        gives p keys slot attempt count (number_of p slot) (faults old.device) (faults new.device) new.last bytes before text sealed result limits planned small opened read.answer read.given
        (gave p slot attempt bytes (sealed_block p keys slot attempt sealed) old.log new.log result read.recorded.log faithful took)

    pub gives-told : ((blocks : List (List ℕ)) → told old.device ≡ Some blocks → OnGiven result (slice_get blocks (number_of p slot) ≡ Some bytes))
        → GivesTold p keys slot attempt count bytes text (told old.device) result
    gives-told holds = record {
      held = holds;
      gives = λ blocks sealed is held.
          gives p keys slot attempt count (number_of p slot) (faults old.device) (faults new.device) new.last bytes before text sealed result limits planned small opened read.answer read.given
          (given-same result (slice_get blocks (number_of p slot)) bytes (sealed_block p keys slot attempt sealed) (holds blocks is) held);
    }
