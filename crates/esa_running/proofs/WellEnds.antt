-- A run without faults ends with Ok or with Overflow.
use Rattle.std.proofs.Common.{◌≡◌, ℕ, ◌≤◌, inl, inr, true, false, List, [], ◌∷◌, ◌++◌, length, Option, sym, ap, ◌∙◌, subst, arith}
use Rattle.esa_command.specs.Stand.{Stand}
use Rattle.esa_command.specs.Work.{Work}
use Rattle.esa_device.specs.Logs.{NoneFailed}
use Rattle.esa_device.specs.Recording.{Recorded}
use Rattle.esa_ending.specs.Seen.{AreCut, Seen}
use Rattle.esa_floor.specs.Written.{AreItems}
use Rattle.esa_lists.specs.Files.{Files}
use Rattle.esa_params.specs.Sizes.{Sizes, first}
use Rattle.esa_params.specs.Slots.{at, item_length}
use Rattle.esa_params.specs.declared.slot.Access.{Access}
use Rattle.esa_refusal.specs.declared.status.Status.{Status}
use Rattle.esa_shuffle.specs.Runs.{seen_of}
use Rattle.esa_shuffle.proofs.Records.{are_items}
use Rattle.esa_spec.specs.Fronts.{Begins, items_in}
use Rattle.esa_spec.specs.Histories.{lists}
use Rattle.esa_spec.specs.Traces.{trace}
use Rattle.esa_spec.specs.Turns.{order}
use Rattle.esa_ending.specs.Seen.{turns_in}
use Rattle.esa_vault.specs.Seals.{opens}
use Rattle.esa_running.proofs.GivenBack.{last-opens}
use Rattle.esa_running.specs.ComingOut.{FailedByStatus, batch_record}
use Rattle.esa_running.specs.RunOwes.{IsTamperedAt, RunOwes}
use Rattle.esa_running.specs.WellEnded.{EndsWell, IsWithoutFaults}
use Rattle.esa_running.specs.declared.purpose.Purpose.{Purpose}
use Rattle.esa_taking.specs.Run.{Asked}
use Rattle.esa_taking.specs.Wanted.{block_keys, outer_keys, sizes_in, turns_by}

-- turns that were cut short are of no more attempts
cut-few : (made hs : List (List ℕ)) → AreCut made hs → length made ≤ length hs
cut-few [] hs cut = omega arith
cut-few (h ∷ made) [] cut = absurd cut
cut-few (h ∷ []) (g ∷ hs) cut = omega arith
cut-few (h ∷ other ∷ made) (g ∷ hs) cut = let rest = cut-few (other ∷ made) hs cut.1 in omega (arith, rest)

module _ {V : Type 0} (purpose : Purpose) (told : V → Option (List (List ℕ))) (faults : V → ℕ) (before : ℕ) (now : Recorded V) (history : List ℕ) (asked : Asked)
    (taken acted : Stand Files) (work : Work) (calm : IsWithoutFaults faults before now asked taken acted)
    (owes : RunOwes purpose told faults before now history asked taken acted work)
  where
    abbrev p : Sizes
    p = sizes_in asked

    abbrev hs : List (List ℕ)
    hs = lists p.workers history

    abbrev seen : Seen
    seen = seen_of faults before taken.faults now history acted.faults

    items : AreItems (item_length p.form) (batch_record asked owes.given)
    items = are_items p (outer_keys asked) (first p owes.load.count) owes.given owes.load.bytes

    -- no block that was read last doesn't open
    never-tampered : IsTamperedAt asked seen now.last work → ⊥
    never-tampered t =
        let cut = t.ends.cut in
        let read = t.ends.access in
        let few : length hs ≤ p.attempts = let made = cut-few hs (turns_by asked history) cut.turns in let most = owes.few in omega (arith, made, most) in
        let none : NoneFailed now.log = subst (λ (s : Status). FailedByStatus s now.log) (ap (λ (w : Work). w.ended) t.owed) owes.became.failed in
        let front : Begins (cut.last.0 ++ read ∷ []) (trace p asked.draws hs) = subst (λ (xs : List Access). Begins xs (trace p asked.draws hs)) cut.last.1 cut.of_stored in
        let opened = last-opens p (block_keys asked) asked.draws hs (batch_record asked owes.given) items owes.can.planned few owes.can.drawn owes.given now.log
        (owes.became.took calm.faithful) owes.became.written.took none calm.faithful cut.last.0 read (owes.recorder.logged ∙ cut.last.1) front t.ends.reads in
        let both : false ≡ true = sym t.ends.closed
        ∙ ap (opens p (block_keys asked) (at read.region read.index) read.attempt (items_in p (asked.draws read.attempt) (order p.b (turns_in hs read.attempt)) read)) owes.recorder.last
        ∙ opened in cc both

    pub ends-well : EndsWell asked history work.ended
    ends-well = elim owes.ends [
      | inl s ↦ inl (record { attempt = s.attempt; good = s.ends.good; status = ap (λ (w : Work). w.ended) s.owed })
      | inr (inl o) ↦ inr (record { failures = o.failures; failed = o.ends.failed; verdicts = o.ends.verdicts; status = ap (λ (w : Work). w.ended) o.owed })
      | inr (inr (inl f)) ↦ absurd (calm.device f.ends.cause)
      | inr (inr (inr (inl t))) ↦ absurd (never-tampered t)
      | inr (inr (inr (inr (inl u)))) ↦ absurd (calm.batch u.ends.cause)
      | inr (inr (inr (inr (inr n)))) ↦ absurd (calm.device n.cause)
    ]
