-- Each read of a drain or of a compression gave its block, but the last one.
use Rattle.std.proofs.Common.{◌≡◌, ℕ, ◌+◌, ◌<◌, ◌≤◌, true, List, [], ◌∷◌, ◌++◌, map, All, Option, Some, Result, Ok, Err, refl, sym, subst, arith, inl, inr}
use Rattle.std.specs.Prelude.{count_by, ◌==◌}
use Rattle.std.proofs.lemmas.Bool.{cases_lt}
use Rattle.std.proofs.lemmas.List.Elements.{All-append, All-map, All-push, All-weaker}
use Rattle.std.proofs.lemmas.Nat.{div-mul-add}
use Rattle.esa_device.specs.Logs.{Carried, carried_by}
use Rattle.esa_device.specs.Recording.{Recorded}
use Rattle.esa_envelope.specs.declared.keys.Keys.{Keys}
use Rattle.esa_floor.specs.Parts.{Parts}
use Rattle.esa_floor.specs.Written.{AreExchanged, EachButLast, EachGaveItsBlock, GaveItsBlock, GaveItsOwn, attempt_turns}
use Rattle.esa_floor.proofs.Giving.{each_append, each_but, gave-write}
use Rattle.esa_laws.proofs.TotalLaws.{once}
use Rattle.esa_params.specs.Sizes.{Sizes, below}
use Rattle.esa_params.specs.Slots.{access_of, at}
use Rattle.esa_params.specs.declared.slot.Op.{Op}
use Rattle.esa_params.specs.declared.slot.Op.TheVariants.{Read as Reads, Write as Writes}
use Rattle.esa_params.specs.declared.slot.Region.TheVariants.{Output}
use Rattle.esa_params.specs.declared.slot.Slot.{Slot}
use Rattle.esa_report.specs.declared.item.Item.{Item}
use Rattle.esa_spec.specs.Draws.{Draw}
use Rattle.esa_spec.specs.Fronts.{items_in}
use Rattle.esa_spec.specs.Turns.{order}
use Rattle.esa_vault.specs.Seals.{opens}
use Rattle.esa_vault.specs.declared.fault.VaultFault.TheVariants.{Device, Tampered}
use Rattle.esa_press.specs.Contents.{EndsReading}
use Rattle.esa_press.specs.Drained.{DrainEnd, failed_tail, stored_tail}
use Rattle.esa_press.specs.Fetched.{GavePart, IsFetched, part_slot}
use Rattle.esa_press.specs.Pressed.{ImportAnswer, PutAnswer, output_block}
use Rattle.esa_press.specs.Stepped.{AreCounted, parts_counted}
use Rattle.esa_press.specs.declared.halt.Halt.{Halt}
use Rattle.esa_press.specs.declared.halt.Halt.TheVariants as halt
use Rattle.esa_press.proofs.Counting.{part_items}
use Rattle.esa_press.proofs.Fetching.{part_is_chunk, part_is_tail}

-- the parts of an import, by what is counted of an attempt
module _ (p : Sizes) (keys : Keys) (ds : ℕ → Draw) (turns : ℕ → List ℕ) (a : ℕ) (h counts tails : List ℕ) (counted : AreCounted p (ds a) h counts tails)
    (i : ℕ) (i_in : i < p.b) (made : turns a ≡ h)
  where
    abbrev Gave : Carried → Type 0
    Gave = GaveItsBlock p keys ds turns

    abbrev parts : List ℕ
    parts = parts_counted p counts tails i

    exchanged_once : (j : ℕ) → j < p.b → 1 ≤ count_by (λ k. k == j) (order p.b h)
    exchanged_once j j_in = let one = once p.b h j counted.all j_in in omega (arith, one)

    exchanged_part : (x : ℕ) → AreExchanged p h (part_slot p i x).region (part_slot p i x).index
    exchanged_part x = elim (cases_lt x p.b) [
      | inl before ↦
          subst (λ (s : Slot). AreExchanged p h s.region s.index) (sym (part_is_chunk p a i x before))
          (subst (λ (j : ℕ). 1 ≤ count_by (λ k. k == j) (order p.b h)) (sym (div-mul-add x p.b i i_in)) (exchanged_once x before))
      | inr behind ↦
          subst (λ (s : Slot). AreExchanged p h s.region s.index) (sym (part_is_tail p a i x behind)) exchanged_once
    ]

    part_gave : (entry : Carried) → GavePart p keys a i parts entry → Gave entry
    part_gave entry part =
        let x = part.part in
        let slot = part_slot p i x in
        subst Gave (sym part.is)
        (record {
          exchanged = λ reads. subst (λ (g : List ℕ). AreExchanged p g slot.region slot.index) (sym made) (exchanged_part x);
          opened = λ reads. (
            part.bytes,
            refl,
            subst (λ (g : List ℕ). opens p keys slot a (items_in p (ds a) (order p.b g) (access_of p a Reads slot)) part.bytes ≡ true) (sym made)
                (subst (λ (n : ℕ). opens p keys slot a n part.bytes ≡ true) (part_items p (ds a) h counts tails counted i i_in a x part.inside) part.opened),
          );
        })

    module _ {V : Type 0} (faults : V → ℕ) (queue : List Item) (old new : Recorded V) (each : All Gave old.log) where
      all_gave : {T : Type 0} (done : T) → IsFetched faults p keys a i parts (p.b + 1) old new (Ok done) → All Gave new.log
      all_gave done fetched =
          subst (All Gave) (sym fetched.log.longer)
          (All-append Gave old.log fetched.log.more each (All-weaker (GavePart p keys a i parts) Gave part_gave fetched.log.more fetched.gave))

      pub import_gave : {T : Type 0} (result : Result T Halt) → ImportAnswer faults p keys a i parts queue old new result → EndsReading Gave result new.log
      import_gave (Ok done) answer = all_gave done answer.1
      import_gave (Err (halt.Verdict v)) answer = all_gave tt answer.2
      import_gave (Err (halt.Fault fault)) answer =
          subst (EachButLast Gave) (sym answer.log.longer)
          (each_append Gave old.log answer.log.more each (λ x entry inside. part_gave _ (answer.gave x entry inside)))

-- what is written gives nothing
module _ (Fact : Carried → Type 0) (write : (entry : Carried) → entry.access.op ≡ Writes → Fact entry) where
  pub any_reading : {T : Type 0} (result : Result T Halt) (log : List Carried) → All Fact log → EndsReading Fact result log
  any_reading (Ok done) log each = each
  any_reading (Err (halt.Verdict v)) log each = each
  any_reading (Err (halt.Fault fault)) log each = each_but Fact log each

  -- an output bucket more
  pub put_gave : {V : Type 0} (told : V → Option (List (List ℕ))) (faults : V → ℕ) (last_call : V → Option (Op × ℕ)) (p : Sizes) (keys : Keys) (a j : ℕ) (queue rest : List Item) (old new : Recorded V) (result : Result (Unit {0}) Halt)
      → PutAnswer told faults last_call p keys a j queue rest old new result → All Fact old.log → EndsReading Fact result new.log
  put_gave told faults last_call p keys a j queue rest old new (Ok done) answer each =
      let entry : Carried = record { access = access_of p a Writes (at Output j); bytes = Some (output_block p keys a j queue) } in
      subst (All Fact) (sym answer.2.recorded.log) (All-push Fact old.log entry each (write entry refl))
  put_gave told faults last_call p keys a j queue rest old new (Err (halt.Verdict v)) answer each =
      subst (λ (r : Recorded _). All Fact r.log) (sym answer.3) each
  put_gave told faults last_call p keys a j queue rest old new (Err (halt.Fault fault)) answer each =
      let entry = carried_by {T = Unit {0}} (access_of p a Writes (at Output j)) (Err fault) (output_block p keys a j queue) in
      subst (EachButLast Fact) (sym answer.2.recorded.log)
      (each_but Fact (old.log ++ entry ∷ []) (All-push Fact old.log entry each (write entry refl)))

  -- the tails of a drain
  tails_gave : {V : Type 0} (f : Parts V) (a n : ℕ) → All Fact f.recorder.log → All Fact (f.recorder.log ++ map (stored_tail f a) (below n))
  tails_gave f a n each =
      All-append Fact f.recorder.log (map (stored_tail f a) (below n)) each
      (All-map Fact (stored_tail f a) (below n) (λ k e inside. write _ refl))

-- the floor of a drain
module _ {V : Type 0} (ds : ℕ → Draw) (faults : V → ℕ) (a : ℕ) (f : Parts V) (d : Draw) (o : List ℕ) (each : EachGaveItsBlock ds f) where
  abbrev Own : Carried → Type 0
  Own = GaveItsOwn ds f

  write : (entry : Carried) → entry.access.op ≡ Writes → Own entry
  write = gave-write f.plan f.run ds (attempt_turns f)

  pub drained_gave : (new : Parts V) (result : Result (Unit {0}) Halt) → DrainEnd faults d o a f new result → EndsReading (GaveItsOwn ds new) result new.recorder.log
  drained_gave new (Ok done) end =
      subst (λ (x : Parts V). All (GaveItsOwn ds x) new.recorder.log) (sym end.1.others)
      (subst (All Own) (sym end.1.log) (tails_gave Own write f a f.plan.b each))
  drained_gave new (Err (halt.Verdict v)) end =
      subst (λ (x : Parts V). All (GaveItsOwn ds x) new.recorder.log) (sym end.3.others)
      (subst (All Own) (sym end.3.log) (tails_gave Own write f a end.0 each))
  drained_gave new (Err (halt.Fault (Device number))) end =
      let tails = map (stored_tail f a) (below end.0) in
      subst (λ (x : Parts V). EachButLast (GaveItsOwn ds x) new.recorder.log) (sym end.3.others)
      (subst (EachButLast Own) (sym end.3.log)
      (each_append Own f.recorder.log (tails ++ failed_tail f a end.0 ∷ []) each
      (each_but Own (tails ++ failed_tail f a end.0 ∷ [])
      (All-push Own tails (failed_tail f a end.0) (All-map Own (stored_tail f a) (below end.0) (λ k e inside. write _ refl)) (write _ refl)))))
  drained_gave new (Err (halt.Fault (Tampered number))) never = absurd never
