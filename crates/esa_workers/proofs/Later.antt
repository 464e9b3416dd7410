-- What a worker holds on a floor it holds on the floor that others' turns make of it.
use Rattle.std.proofs.Common.{◌≡◌, ◌≢◌, ℕ, ◌+◌, ◌-◌, ◌<◌, List, ◌++◌, length, take, drop_at, All, Some, None, refl, sym, ap, ◌∙◌, subst, arith, append_assoc}
use Rattle.std.proofs.lemmas.List.{append_cancel_left, map-append}
use Rattle.std.proofs.lemmas.List.Elements.{All-drop}
use mathlib.Core.List.{IsPrefix}
use Rattle.esa_device.specs.Logs.{Carried, IsFaithful, Took}
use Rattle.esa_device.proofs.LogLaws.{faithful-front}
use Rattle.esa_envelope.specs.declared.keys.Keys.{Keys}
use Rattle.esa_params.specs.Sizes.{Sizes}
use Rattle.esa_params.specs.Slots.{at, number_of}
use Rattle.esa_params.specs.declared.slot.Access.{Access}
use Rattle.esa_params.specs.declared.slot.Region.TheVariants.{Input}
use Rattle.esa_report.specs.declared.item.Item.{Item}
use Rattle.esa_spec.specs.Draws.{Draw}
use Rattle.esa_spec.specs.Fronts.{Begins}
use Rattle.esa_spec.specs.Histories.{begun, latest, lists}
use Rattle.esa_spec.specs.Traces.{attempts, load, made, spread}
use Rattle.esa_spec.specs.Turns.{events, order}
use Rattle.esa_spec.specs.Verdicts.{failing}
use Rattle.esa_vault.specs.Seals.{sealed_block}
use Rattle.esa_floor.specs.Keeping.{AreChunks, AreRecords, HasInput, HoldsChunks, HoldsRecords, IsInput}
use Rattle.esa_floor.specs.Parts.{Parts}
use Rattle.esa_floor.specs.Standing.{attempt_begun, turns_made}
use Rattle.esa_floor.specs.Trails.{IsKept, trail_of}
use Rattle.esa_floor.specs.Working.{Working}
use Rattle.esa_floor.proofs.Chunking.{more_chunks}
use Rattle.esa_floor.proofs.Resting.{working}
use Rattle.esa_floor.proofs.Trailing.{SparesSlot, accesses_in, asked_spares, log_begins, spared, took_back, took_on}
use Rattle.esa_crew.specs.Posts.{KeepsRecords}
use Rattle.esa_workers.proofs.Listing.{latest_on, lists_on}
use Rattle.esa_workers.proofs.Turning.{begun_is, there}

-- a floor in an attempt, and a later one in the same attempt
module _ {V : Type 0} (faults : V → ℕ) (p : Sizes) (ds : ℕ → Draw) (a : ℕ) (old f : Parts V) (was : IsKept faults p ds old) (kept : IsKept faults p ds f)
    (was_at : old.attempt ≡ Some a) (is_at : f.attempt ≡ Some a) (outer : f.outer ≡ old.outer) (run : f.run ≡ old.run)
    (more : List ℕ) (history : f.history ≡ old.history ++ more) (none : begun p.workers more ≡ 0) (front : IsPrefix (trail_of old) (trail_of f)) where
  abbrev base : List Access
  base = load p ++ attempts p ds 0 (lists p.workers old.history)

  number_is : (x : Parts V) → IsKept faults p ds x → x.attempt ≡ Some a → attempt_begun x ≡ a
  number_is x held in_it =
      let is = begun_is faults p ds x held.stands a in_it in
      let same : attempt_begun x ≡ begun p.workers x.history - 1 = ap (λ (q : Sizes). begun q.workers x.history - 1) held.stands.of.plan in
      omega (arith, is, same)

  -- the accesses of a floor at work, in the words of the plan: those of some of its turns come last
  traced : (x : Parts V) → IsKept faults p ds x → x.attempt ≡ Some a
      → (h : List ℕ) × (accesses_in x.recorder.log ≡ (load p ++ attempts p ds 0 (lists p.workers x.history)) ++ spread p (ds a) a h)
  traced x held in_it =
      let work = (working faults ds x x.outcome x.attempt held.stands.state (λ empty. there a (sym in_it ∙ empty))).1 in
      let n = attempt_begun x in
      let h = take (work.done + 1) (turns_made x) in (
        h,
        held.logged ∙ work.traced
            ∙ ap (λ (q : Sizes). (load q ++ attempts q ds 0 (lists q.workers x.history)) ++ spread q (ds n) n h) held.stands.of.plan
            ∙ ap (λ (k : ℕ). (load p ++ attempts p ds 0 (lists p.workers x.history)) ++ spread p (ds k) k h) (number_is x held in_it),
      )

  pub log_on : Begins old.recorder.log f.recorder.log
  log_on = log_begins old.recorder.log f.recorder.log front

  abbrev before : List ℕ
  before = (traced old was was_at).0

  abbrev after : List ℕ
  after = (traced f kept is_at).0

  -- what the log has more are accesses of turns
  rest_is : spread p (ds a) a before ++ accesses_in log_on.0 ≡ spread p (ds a) a after
  rest_is =
      append_cancel_left base (spread p (ds a) a before ++ accesses_in log_on.0) (spread p (ds a) a after)
      (sym (append_assoc base (spread p (ds a) a before) (accesses_in log_on.0))
      ∙ ap (λ (t : List Access). t ++ accesses_in log_on.0) (sym (traced old was was_at).1)
      ∙ sym (map-append (λ (entry : Carried). entry.access) old.recorder.log log_on.0)
      ∙ ap accesses_in (sym log_on.1)
      ∙ (traced f kept is_at).1
      ∙ ap (λ (ls : List (List ℕ)). (load p ++ attempts p ds 0 ls) ++ spread p (ds a) a after) (ap (lists p.workers) history ∙ lists_on p.workers old.history more none))

  rest_spares : (j : ℕ) → j < p.b → All (λ (e : Carried). SparesSlot p (number_of p (at Input j)) e.access) log_on.0
  rest_spares j j_in =
      spared p (number_of p (at Input j)) log_on.0
      (behind (SparesSlot p (number_of p (at Input j))) (spread p (ds a) a before) (accesses_in log_on.0)
      (subst (All (SparesSlot p (number_of p (at Input j)))) (sym rest_is)
      (asked_spares p a j j_in (made (failing p (ds a) (order p.b after)) (events p.b after)))))
    where
      behind : (P : Access → Type 0) (xs ys : List Access) → All P (xs ++ ys) → All P ys
      behind P xs ys all = subst (All P) (drop_at xs ys (length xs) refl) (All-drop P (length xs) (xs ++ ys) all)

  plan_was : old.plan ≡ p
  plan_was = was.stands.of.plan

  -- the input of the later floor was that of the earlier one
  input_back : (record_of : ℕ → Item) → HasInput f record_of → HasInput old record_of
  input_back record_of input =
      let now : IsInput p f.outer f.run record_of f.recorder.log = subst (λ (q : Sizes). IsInput q f.outer f.run record_of f.recorder.log) kept.stands.of.plan input in
      let log_is = log_on.1 in
      subst (λ (q : Sizes). IsInput q old.outer old.run record_of old.recorder.log) (sym plan_was)
      (subst (λ (k : Keys). IsInput p k old.run record_of old.recorder.log) outer
      (subst (λ (k : Keys). IsInput p f.outer k record_of old.recorder.log) run (record {
        faithful = faithful-front p old.recorder.log log_on.0 (subst (IsFaithful p) log_is now.faithful);
        sealed = λ j j_in.
            let one = now.sealed j j_in in (
              one.0,
              took_back p (number_of p (at Input j)) (sealed_block p f.run (at Input j) 0 one.0) old.recorder.log log_on.0 (rest_spares j j_in)
                  (subst (Took p (number_of p (at Input j)) (sealed_block p f.run (at Input j) 0 one.0)) log_is one.1),
              one.2,
            );
      })))

  -- and stays, where the log is faithful
  pub input_on : (record_of : ℕ → Item) → IsFaithful p f.recorder.log → HasInput old record_of → HasInput f record_of
  input_on record_of faithful input =
      let was_in : IsInput p old.outer old.run record_of old.recorder.log = subst (λ (q : Sizes). IsInput q old.outer old.run record_of old.recorder.log) plan_was input in
      subst (λ (q : Sizes). IsInput q f.outer f.run record_of f.recorder.log) (sym kept.stands.of.plan)
      (subst (λ (k : Keys). IsInput p k f.run record_of f.recorder.log) (sym outer)
      (subst (λ (k : Keys). IsInput p old.outer k record_of f.recorder.log) (sym run) (record {
        faithful = faithful;
        sealed = λ j j_in.
            let one = was_in.sealed j j_in in (
              one.0,
              subst (Took p (number_of p (at Input j)) (sealed_block p old.run (at Input j) 0 one.0)) (sym log_on.1)
                  (took_on p (number_of p (at Input j)) (sealed_block p old.run (at Input j) 0 one.0) old.recorder.log log_on.0 (rest_spares j j_in) one.1),
              one.2,
            );
      })))

  was_there : old.attempt ≢ None
  was_there empty = there a (sym was_at ∙ empty)

  module _ {C : Type 0} (w : Working C) (ran : old.stop ≡ None) where
    turns_on : latest p.workers f.history ≡ latest p.workers old.history ++ more
    turns_on = ap (latest p.workers) history ∙ latest_on p.workers old.history more none

    records_on : HoldsRecords old w → HoldsRecords f w
    records_on holds record_of input some goes second inside =
        let in_it : w.bucket < old.plan.b = subst (λ (q : Sizes). w.bucket < q.b) (kept.stands.of.plan ∙ sym plan_was) inside in
        subst (λ (q : Sizes). AreRecords q f.outer record_of w.bucket w.buffers.text) (plan_was ∙ sym kept.stands.of.plan)
        (subst (λ (k : Keys). AreRecords old.plan k record_of w.bucket w.buffers.text) (sym outer)
        (holds record_of (input_back record_of input) was_there ran second in_it))

    chunks_on : HoldsChunks ds old w → HoldsChunks ds f w
    chunks_on holds record_of input some goes third inside =
        let in_it : w.bucket < old.plan.b = subst (λ (q : Sizes). w.bucket < q.b) (kept.stands.of.plan ∙ sym plan_was) inside in
        let earlier = holds record_of (input_back record_of input) was_there ran third in_it in
        let here : AreChunks p (ds a) record_of (order p.b (latest p.workers old.history)) w.bucket w.buffers.chunks =
        subst (λ (k : ℕ). AreChunks p (ds k) record_of (order p.b (latest p.workers old.history)) w.bucket w.buffers.chunks) (number_is old was was_at)
        (subst (λ (q : Sizes). AreChunks q (ds (attempt_begun old)) record_of (order q.b (latest q.workers old.history)) w.bucket w.buffers.chunks) plan_was earlier) in
        subst (λ (q : Sizes). AreChunks q (ds (attempt_begun f)) record_of (order q.b (latest q.workers f.history)) w.bucket w.buffers.chunks) (sym kept.stands.of.plan)
        (subst (λ (k : ℕ). AreChunks p (ds k) record_of (order p.b (latest p.workers f.history)) w.bucket w.buffers.chunks) (sym (number_is f kept is_at))
        (subst (λ (t : List ℕ). AreChunks p (ds a) record_of (order p.b t) w.bucket w.buffers.chunks) (sym turns_on)
        (more_chunks p (ds a) record_of (latest p.workers old.history) more w.bucket w.buffers.chunks here)))

    pub keeps_on : KeepsRecords ds old w → KeepsRecords ds f w
    keeps_on keeps = record { records = records_on keeps.records; chunks = chunks_on keeps.chunks }
