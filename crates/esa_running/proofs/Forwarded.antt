-- What the two scans answer, in the words of what is asked for.
use Rattle.std.proofs.Common.{◌≡◌, ◌⊎◌, ℕ, List, [], Option, Result, Ok, Err, subst}
use Rattle.std.specs.Prelude.{OnOk, OnErr}
use Rattle.esa_crowds.specs.Entries.{entries}
use Rattle.esa_crowds.specs.Kept.{drops_in}
use Rattle.esa_crowds.specs.Rows.{kept_at}
use Rattle.esa_device.specs.Recording.{Recorded}
use Rattle.esa_envelope.specs.declared.keys.Keys.{Keys}
use Rattle.esa_job.specs.declared.field.JobField.TheVariants as field
use Rattle.esa_params.specs.Sizes.{Sizes}
use Rattle.esa_spec.specs.Traces.{scan}
use Rattle.esa_scans.specs.Forwarded.{sent_of, HasForwarded}
use Rattle.esa_scans.specs.Scans.{items_from, FailsAt}
use Rattle.esa_vault.specs.declared.fault.VaultFault.{VaultFault}
use Rattle.esa_command.specs.Asked.{number_of}
use Rattle.esa_running.specs.Forwarding.{AreJoined, Forwards, BreaksOff}
use Rattle.esa_taking.specs.Run.{Asked}
use Rattle.esa_taking.specs.Wanted.{sizes_in, block_keys, drop_key}
use Rattle.esa_running.proofs.SentLaws.{forwarded_whole, forwarded_few}

module _ {V : Type 0} (told : V → Option (List (List ℕ))) (faults : V → ℕ) (asked : Asked) (attempt : ℕ) (old new : Recorded V) where
  -- these envelopes are forwarded, and the bytes are theirs
  abbrev pub Sent : List ℕ → Type 0
  Sent bytes = (envelopes : List (List ℕ)) × Forwards told faults asked attempt old new envelopes × AreJoined asked envelopes bytes

  sent : (bytes : List ℕ) → HasForwarded told faults (sizes_in asked) (block_keys asked) attempt (drop_key asked) asked.drops (number_of asked.job field.T) old new bytes → Sent bytes
  sent bytes f =
      let p = sizes_in asked in
      let keys = block_keys asked in
      let t = number_of asked.job field.T in
      let kept = kept_at (drops_in (drop_key asked) asked.drops) t (entries p.form (drop_key asked) (items_from p keys attempt 0 f.first)) in
      let whole = forwarded_whole p keys attempt kept f.second in (
        sent_of p keys attempt (drop_key asked) asked.drops t f.first f.second,
        record { whole = whole; forwarded = subst (HasForwarded told faults p keys attempt (drop_key asked) asked.drops t old new) f.sent f },
        record { whole = whole; few = forwarded_few p keys attempt kept f.second; joined = f.sent },
      )

  module _ {T : Type 0} (p : Sizes) (keys : Keys) (key : List ℕ) (t : ℕ) (plan_is : p ≡ sizes_in asked) (keys_are : keys ≡ block_keys asked) (key_is : key ≡ drop_key asked) (t_is : t ≡ number_of asked.job field.T) where
    pub forwarded_here : (bytes : List ℕ) (result : Result T VaultFault) → OnOk result (HasForwarded told faults p keys attempt key asked.drops t old new bytes) → OnOk result (Sent bytes)
    forwarded_here bytes (Ok done) f =
        sent bytes (subst (λ (x : Sizes × Keys × List ℕ × ℕ). HasForwarded told faults x.0 x.1 attempt x.2 asked.drops x.3 old new bytes) (λ i. (plan_is i, keys_are i, key_is i, t_is i)) f)
    forwarded_here bytes (Err fault) f = tt

    pub broken_here : (result : Result T VaultFault)
        → OnErr result ((j : ℕ) × (FailsAt told faults p keys attempt [] j old new result ⊎ FailsAt told faults p keys attempt (scan p attempt) j old new result))
        → OnErr result (BreaksOff told faults asked attempt old new result)
    broken_here (Ok done) fails = tt
    broken_here (Err fault) fails =
        subst (λ (x : Sizes × Keys). (j : ℕ) × (FailsAt {V = V} {T = T} told faults x.0 x.1 attempt [] j old new (Err fault) ⊎ FailsAt {V = V} {T = T} told faults x.0 x.1 attempt (scan x.0 attempt) j old new (Err fault)))
        (λ i. (plan_is i, keys_are i)) fails
