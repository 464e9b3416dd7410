-- What a turn's act makes of the parts of a floor, and what it answers.
use Rattle.std.specs.Prelude.{◌≡◌, ◌≢◌, ℕ, ◌+◌, ◌<◌, ◌≤◌, Bool, true, false, List, Option, Some, None}
use Rattle.esa_envelope.specs.declared.keys.Keys.{Keys}
use Rattle.esa_outside.specs.Cause.{Rose}
use Rattle.esa_params.specs.Sizes.{Sizes}
use Rattle.esa_params.specs.Slots.{at, number_of}
use Rattle.esa_params.specs.declared.slot.Region.TheVariants.{Input}
use Rattle.esa_spec.specs.Draws.{Draw}
use Rattle.esa_spec.specs.declared.event.Event.{Event}
use Rattle.esa_spec.specs.declared.event.Event.TheVariants as event
use Rattle.esa_stash.specs.Stash.{Handed, count, exchanged, total}
use Rattle.esa_vault.specs.Seals.{opens}
use Rattle.esa_floor.specs.Exchanges.{Exchanges}
use Rattle.esa_floor.specs.Parts.{Counted, Parts, count_at}
use Rattle.esa_floor.specs.Standing.{IsAtWork}
use Rattle.esa_floor.specs.declared.turn.Stop.{Stop}
use Rattle.esa_floor.specs.declared.turn.Stop.TheVariants as stop
use Rattle.esa_floor.specs.declared.turn.Turn.{Turn}
use Rattle.esa_floor.specs.declared.turn.Turn.TheVariants as turn

-- what a turn answers, by its event and by the stop that there is after it
abbrev pub answer_of : Event → Option Stop → Turn
answer_of e (Some s) = turn.Stopped s
answer_of (event.Claim j) None = turn.Claimed j
answer_of (event.Read j) None = turn.Read j
answer_of (event.Exchange j) None = turn.Exchanged j
answer_of (event.Write j i) None = turn.Wrote j i
answer_of event.Done None = turn.Done
answer_of event.Idle None = turn.Idle

-- the same on a floor that may be in no attempt
abbrev pub answer_in : Option ℕ → Event → Option Stop → Turn
answer_in None e s = turn.Done
answer_in (Some a) e s = answer_of e s

-- the answer of a turn that would answer this, by the stop that there is after it
abbrev pub answered : Turn → Option Stop → Turn
answered t None = t
answered t (Some s) = turn.Stopped s

-- the stop after a read of the slot of this number, by whether the bytes that were given open and by the counts of faults
abbrev pub StopsReading : ℕ → Bool → ℕ → ℕ → Option Stop → Type 0
StopsReading number opened before now None = (opened ≡ true) × (now ≡ before)
StopsReading number opened before now (Some (stop.DeviceFault n)) = (n ≡ number) × Rose before now
StopsReading number opened before now (Some (stop.Tampered n)) = (n ≡ number) × (opened ≡ false) × (now ≡ before)
StopsReading number opened before now (Some (stop.StashOverflow j)) = ⊥

-- so it is with a turn whose event is a read of the block of bucket j
abbrev pub StopsBy : Sizes → Keys → ℕ → Event → List ℕ → ℕ → ℕ → Option Stop → Type 0
StopsBy p run a (event.Read j) given before now s = StopsReading (number_of p (at Input j)) (opens p run (at Input j) a 0 given) before now s
StopsBy p run a (event.Claim j) given before now s = Unit {0}
StopsBy p run a (event.Exchange j) given before now s = Unit {0}
StopsBy p run a (event.Write j i) given before now s = Unit {0}
StopsBy p run a event.Done given before now s = Unit {0}
StopsBy p run a event.Idle given before now s = Unit {0}

-- the stop after a write
abbrev pub StopsWriting : ℕ → ℕ → ℕ → Option Stop → Type 0
StopsWriting number before now None = now ≡ before
StopsWriting number before now (Some (stop.DeviceFault n)) = (n ≡ number) × Rose before now
StopsWriting number before now (Some (stop.Tampered n)) = ⊥
StopsWriting number before now (Some (stop.StashOverflow j)) = ⊥

-- what an exchange of bucket j makes of the stash and the counts
pub record IsExchanged (old new : Exchanges) (j : ℕ) (handed : Handed) : Type 0 where
  pub plan : new.plan ≡ old.plan
  pub stash : new.stash ≡ exchanged old.stash handed
  pub counts : (i : ℕ) → i < old.plan.b → count_at old.plan.b new.counts j i ≡ count old.stash handed i
  pub others : (k i : ℕ) → i < old.plan.b → k ≢ j → count_at old.plan.b new.counts k i ≡ count_at old.plan.b old.counts k i

-- the stop after an exchange: exactly where the stash would hold too much, and then it is as it was
abbrev pub StopsExchanging : Exchanges → Exchanges → ℕ → Handed → Option Stop → Type 0
StopsExchanging old new j handed None = (total (exchanged old.stash handed) ≤ old.plan.s) × IsExchanged old new j handed
StopsExchanging old new j handed (Some (stop.StashOverflow k)) =
    (k ≡ j) × (old.plan.s < total (exchanged old.stash handed)) × (new ≡ old)
StopsExchanging old new j handed (Some (stop.DeviceFault number)) = ⊥
StopsExchanging old new j handed (Some (stop.Tampered number)) = ⊥

-- what is counted after a write
abbrev pub one_more : ℕ → Option Stop → ℕ
one_more n None = n + 1
one_more n (Some s) = n

abbrev pub counted_after : Counted → Option Stop → Counted
counted_after c s = record c { writes = one_more c.writes s }

-- an attempt is at work. One of its turns more than so many did not fail, unless the next one did
abbrev pub WorksOn : {V : Type 0} → (V → ℕ) → (ℕ → Draw) → Parts V → ℕ → ℕ → Type 0
WorksOn faults ds f a before = (at_work : IsAtWork faults ds f a) × (at_work.done ≡ one_more before f.stop)
