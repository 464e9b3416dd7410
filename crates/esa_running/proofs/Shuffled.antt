-- How it ends where a shuffle succeeded, by what the scans of its output answer.
use Rattle.std.proofs.Common.{◌≡◌, ◌⊎◌, inl, inr, ℕ, ◌+◌, ◌<◌, List, [], ◌++◌, Bool, Option, Err, refl, sym, ap, subst, ◌∙◌}
use Rattle.esa_device.specs.Recording.{Recorded}
use Rattle.esa_ending.specs.Endings.{Succeeds}
use Rattle.esa_ending.specs.Seen.{Seen, stored}
use Rattle.esa_envelope.specs.declared.keys.Keys.{Keys}
use Rattle.esa_outside.specs.Cause.{Rose}
use Rattle.esa_params.specs.Sizes.{Sizes, size}
use Rattle.esa_params.specs.Slots.{at, number_of}
use Rattle.esa_params.specs.declared.slot.Access.{Access}
use Rattle.esa_params.specs.declared.slot.Region.TheVariants.{Output}
use Rattle.esa_params.specs.declared.slot.Slot.{Slot}
use Rattle.esa_spec.specs.Draws.{Draw}
use Rattle.esa_spec.specs.Traces.{scan, shuffle_trace}
use Rattle.esa_scans.specs.Forwarded.{HasForwarded}
use Rattle.esa_scans.specs.Scans.{FailsAt, reads}
use Rattle.esa_vault.specs.Seals.{opens}
use Rattle.esa_vault.specs.Traffic.{ReadAnswer}
use Rattle.esa_vault.specs.declared.fault.VaultFault.{VaultFault}
use Rattle.esa_vault.specs.declared.fault.VaultFault.TheVariants.{Device, Tampered}
use Rattle.esa_shuffle.specs.Runs.{IsShuffled, seen_of}
use Rattle.esa_running.proofs.ScanEnds.{Closed, Fails, scanned_whole, scan_fails, scan_tampered}

module _ {V : Type 0} (told : V → Option (List (List ℕ))) (faults : V → ℕ) (p : Sizes) (ds : ℕ → Draw) (hs : List (List ℕ)) (device batch now : ℕ) (history : List ℕ) (a : ℕ) (old new : Recorded V)
    (s : IsShuffled p ds hs (seen_of faults device batch old history now) a) where
  abbrev seen : Seen
  seen = seen_of faults device batch new history now

  -- both scans were made
  pub shuffled_succeeds : (keys : Keys) (key drops : List ℕ) (t : ℕ) (forward : List ℕ) → HasForwarded told faults p keys a key drops t old new forward → Succeeds p ds hs seen a
  shuffled_succeeds keys key drops t forward f =
      scanned_whole p ds hs seen a s.planned s.good s.turns s.history (f.calm ∙ s.calm.0, s.calm.1)
      (f.trace ∙ ap (λ xs. xs ++ (scan p a ++ scan p a)) s.made)

  -- a block wasn't got
  abbrev pub EndsAt : Keys → VaultFault → Type 0
  EndsAt keys (Device number) = Fails p ds hs seen number
  EndsAt keys (Tampered number) = Closed p ds hs seen (λ slot attempt count. opens p keys slot attempt count new.last) number

  ends_by : (T : Type 0) (keys : Keys) (before : List Access) (j : ℕ) → (before ≡ []) ⊎ (before ≡ scan p a) → j < p.b
      → seen.trace ≡ shuffle_trace p ds (stored p seen) ++ (before ++ reads p a (j + 1)) → (fault : VaultFault)
      → ReadAnswer {T = T} (number_of p (at Output j)) (faults old.device) (faults new.device) (opens p keys (at Output j) a (size p j) new.last) (Err fault) → EndsAt keys fault
  ends_by T keys before j where_is inside made (Device number) answer =
      subst (λ n. Fails p ds hs seen n) (sym answer.0)
      (scan_fails p ds hs seen a s.planned s.good s.turns s.history before j where_is inside made (subst (λ n. Rose n (faults new.device)) s.calm.0 answer.1) s.calm.1)
  ends_by T keys before j where_is inside made (Tampered number) answer =
      let open_for : Slot → ℕ → ℕ → Bool = λ slot attempt count. opens p keys slot attempt count new.last in
      subst (λ n. Closed p ds hs seen open_for n) (sym answer.0)
      (scan_tampered p ds hs seen a s.planned s.good s.turns s.history before j where_is inside made open_for answer.1 (answer.2 ∙ s.calm.0, s.calm.1))

  pub shuffled_fails : (T : Type 0) (keys : Keys) (fault : VaultFault)
      → ((j : ℕ) × (FailsAt {V = V} {T = T} told faults p keys a [] j old new (Err fault) ⊎ FailsAt {V = V} {T = T} told faults p keys a (scan p a) j old new (Err fault))) → EndsAt keys fault
  shuffled_fails T keys fault fails = elim fails.1 [
    | inl f ↦ ends_by T keys [] fails.0 (inl refl) f.inside (f.trace ∙ ap (λ xs. xs ++ ([] ++ reads p a (fails.0 + 1))) s.made) fault f.answer
    | inr f ↦ ends_by T keys (scan p a) fails.0 (inr refl) f.inside (f.trace ∙ ap (λ xs. xs ++ (scan p a ++ reads p a (fails.0 + 1))) s.made) fault f.answer
  ]
