-- Each write took its block, also those of a drain and of a compression.
use Rattle.std.proofs.Common.{◌≡◌, ℕ, ◌*◌, ◌<◌, ◌≤◌, false, List, [], ◌∷◌, ◌++◌, get_or, map, All, Option, Some, None, Result, Ok, Err, refl, sym, ap, ◌∙◌, subst, arith, append-nil, append_assoc, inl, inr}
use Rattle.std.proofs.lemmas.List.Elements.{All-append, All-map, All-pop, All-push, All-weaker}
use Rattle.esa_device.specs.Logs.{Carried, Took}
use Rattle.esa_device.specs.Recording.{Recorded}
use Rattle.esa_device.proofs.LogLaws.{faithful-front, reads_nothing, took-before, writes_elsewhere}
use Rattle.esa_envelope.specs.declared.keys.Keys.{Keys}
use Rattle.esa_laws.proofs.FinishLaws.{All-below}
use Rattle.esa_laws.proofs.RoundLaws.{by_pushes}
use Rattle.esa_laws.proofs.SpreadLaws.{find-below}
use Rattle.esa_laws.proofs.TotalLaws.{all-exchanged, once}
use Rattle.esa_params.specs.Sizes.{Sizes, below}
use Rattle.esa_params.specs.Slots.{at, item_length, number_of, writes_number}
use Rattle.esa_params.specs.declared.slot.Region.TheVariants.{Input, Tail}
use Rattle.esa_report.specs.declared.item.Item.{Item}
use Rattle.esa_spec.specs.Draws.{Draw}
use Rattle.esa_spec.specs.Lines.{queued, tail}
use Rattle.esa_spec.specs.Traces.{written_tail}
use Rattle.esa_spec.specs.Turns.{order, writes}
use Rattle.esa_spec.specs.Verdicts.{is_left}
use Rattle.esa_stash.specs.Stash.{padded, queue_at}
use Rattle.esa_vault.specs.Filled.{text_of}
use Rattle.esa_vault.specs.Seals.{sealed_block}
use Rattle.esa_vault.specs.declared.fault.VaultFault.TheVariants.{Device, Tampered}
use Rattle.esa_floor.specs.Keeping.{IsInput}
use Rattle.esa_floor.specs.Parts.{Parts}
use Rattle.esa_floor.specs.Written.{EachTookItsBlock, IsBlock, TookItsBlock, attempt_turns}
use Rattle.esa_press.specs.Contents.{ArePut, AreQueued, EachOpens, IsOfPress, WroteItsBlock}
use Rattle.esa_press.specs.Drained.{DrainEnd, failed_tail, stored_tail, tail_block}
use Rattle.esa_press.specs.declared.halt.Halt.{Halt}
use Rattle.esa_press.specs.declared.halt.Halt.TheVariants as halt
use Rattle.esa_press.proofs.Fetching.{Spares}
use Rattle.esa_press.proofs.Storing.{spared_before, the_same_but}

-- the input of a log is that of a longer one, where what it has more spares the blocks of the input
module _ (p : Sizes) where
  unwritten : (number : ℕ) (entry : Carried) → Spares p number entry → writes_number p number entry.access ≡ false
  unwritten number entry (inl reads) = reads_nothing p number entry.access reads
  unwritten number entry (inr other) = writes_elsewhere p number entry.access other

  took_front : (number : ℕ) (bytes : List ℕ) (old more : List Carried) → All (Spares p number) more → Took p number bytes (old ++ more) → Took p number bytes old
  took_front number bytes old more =
      by_pushes (λ (xs : List Carried). All (Spares p number) xs → Took p number bytes (old ++ xs) → Took p number bytes old)
      (λ spared took. subst (Took p number bytes) (append-nil old) took)
      (λ xs entry before spared took.
      let parts = All-pop (Spares p number) (xs ++ entry ∷ []) xs (Some entry) refl spared in
      before parts.0 (took-before p number bytes (old ++ xs) entry (unwritten number entry parts.1)
      (subst (Took p number bytes) (sym (append_assoc old xs (entry ∷ []))) took)))
      more

  pub input_front : (outer run : Keys) (record_of : ℕ → Item) (old more : List Carried) → ((j : ℕ) → j < p.b → All (Spares p (number_of p (at Input j))) more)
      → IsInput p outer run record_of (old ++ more) → IsInput p outer run record_of old
  input_front outer run record_of old more spared input = record {
    faithful = faithful-front p old more input.faithful;
    sealed = λ j j_in.
        let one = input.sealed j j_in in
        (one.0, took_front (number_of p (at Input j)) _ old more (spared j j_in) one.1, one.2);
  }

-- what a log has more of an attempt
module _ {V : Type 0} (f : Parts V) (ds : ℕ → Draw) (a : ℕ) (h : List ℕ) (record_of : ℕ → Item) (made : attempt_turns f a ≡ h) where
  abbrev Of_attempt : Carried → Type 0
  Of_attempt = WroteItsBlock f.plan f.run (ds a) h a record_of

  abbrev Takes : Carried → Type 0
  Takes = TookItsBlock f.plan f.run ds record_of (attempt_turns f)

  taken : (entry : Carried) → Of_attempt entry → Takes entry
  taken entry wrote = record {
    planned = wrote.block.planned;
    took = λ bytes writing other moved.
        subst (λ (k : ℕ). IsBlock f.plan f.run (ds k) record_of (attempt_turns f k) entry.access bytes) (sym (wrote.attempt writing))
        (subst (λ (g : List ℕ). IsBlock f.plan f.run (ds a) record_of g entry.access bytes) (sym made) (wrote.block.took bytes writing other moved));
  }

  pub took_more : (r : Recorded V) (more : List Carried) → r.log ≡ f.recorder.log ++ more
      → ((j : ℕ) → j < f.plan.b → All (Spares f.plan (number_of f.plan (at Input j))) more) → All Of_attempt more
      → EachTookItsBlock ds record_of f → IsInput f.plan f.outer f.run record_of r.log → All Takes r.log
  took_more r more is spared each before input =
      let was = input_front f.plan f.outer f.run record_of f.recorder.log more spared (subst (IsInput f.plan f.outer f.run record_of) is input) in
      subst (All Takes) (sym is) (All-append Takes f.recorder.log more (before was) (All-weaker Of_attempt Takes taken more each))

  -- the output buckets of a compression
  pub took_put : (r : Recorded V) (n : ℕ) → ArePut f.plan f.run (ds a) h a record_of n f.recorder.log r.log
      → EachTookItsBlock ds record_of f → EachTookItsBlock ds record_of (record f { recorder = r })
  took_put r n put before input =
      took_more r put.log.more put.log.longer
      (λ j j_in. All-weaker IsOfPress (Spares f.plan (number_of f.plan (at Input j))) (spared_before f.plan (number_of f.plan (at Input j)) (omega (arith, j_in))) put.log.more put.log.each)
      put.each before input

  pub took_put_until : (r : Recorded V) (n : ℕ) (stop : Halt)
      → EachOpens {T = Unit {0}} (Err stop) (ArePut f.plan f.run (ds a) h a record_of n f.recorder.log r.log)
      ((m : ℕ) × (m < n) × ArePut f.plan f.run (ds a) h a record_of m f.recorder.log r.log)
      → EachTookItsBlock ds record_of f → EachTookItsBlock ds record_of (record f { recorder = r })
  took_put_until r n (halt.Verdict v) put before = took_put r put.0 put.2 before
  took_put_until r n (halt.Fault (Device number)) put before = took_put r put.0 put.2 before
  took_put_until r n (halt.Fault (Tampered number)) never before = absurd never

  -- the tails of a drain
  module _ (faults : V → ℕ) (wrote : writes f.plan.b h ≡ f.plan.b * f.plan.b) (queues : AreQueued f.plan (ds a) h record_of f.stash) where
    tail_spared : (i j : ℕ) (bytes : Option (List ℕ)) → j < f.plan.b → Spares f.plan (number_of f.plan (at Input j)) (record { access = written_tail f.plan a i; bytes = bytes })
    tail_spared i j bytes j_in = inr (λ same. absurd (omega (arith, same, j_in)))

    tails_spared : (n j : ℕ) → j < f.plan.b → All (Spares f.plan (number_of f.plan (at Input j))) (map (stored_tail f a) (below n))
    tails_spared n j j_in =
        All-map (Spares f.plan (number_of f.plan (at Input j))) (stored_tail f a) (below n)
        (λ k d inside. tail_spared (get_or (below n) k d) j (Some (tail_block f a (get_or (below n) k d))) j_in)

    items_are : (i : ℕ) → i < f.plan.b → queue_at f.stash i ≡ map record_of (tail f.plan (ds a) (order f.plan.b h) i)
    items_are i i_in =
        queues i i_in ∙ ap (λ (k : ℕ). map record_of (queued f.plan (ds a) (order f.plan.b h) k i)) (all-exchanged f.plan.b h wrote)

    tail_took : (i : ℕ) (moved : Option (List ℕ)) → i < f.plan.b → ((bytes : List ℕ) → moved ≡ Some bytes → bytes ≡ tail_block f a i)
        → Of_attempt (record { access = written_tail f.plan a i; bytes = moved })
    tail_took i moved i_in is = record {
      attempt = λ writing. refl;
      block = record {
        planned = λ writing. i_in;
        took = λ bytes writing other there. record {
          exchanged = λ j j_in. let one = once f.plan.b h j wrote j_in in omega (arith, one);
          sealed = is bytes there
              ∙ ap (λ (items : List Item). sealed_block f.plan f.run (at Tail i) a (text_of (item_length f.plan.form) (padded f.plan.k items))) (items_are i i_in);
        };
      };
    }

    tails_took : (n : ℕ) → n ≤ f.plan.b → All Of_attempt (map (stored_tail f a) (below n))
    tails_took n few =
        All-map Of_attempt (stored_tail f a) (below n)
        (All-weaker (λ (i : ℕ). i < n) (λ (i : ℕ). Of_attempt (stored_tail f a i))
        (λ i i_in. tail_took i (Some (tail_block f a i)) (omega (arith, i_in, few)) (λ bytes there. cc there)) (below n) (All-below n n (omega arith)))

    abbrev o : List ℕ
    o = order f.plan.b h

    drained_log : {T : Type 0} (new : Parts V) (result : Result T Halt) → DrainEnd faults (ds a) o a f new result
        → EachTookItsBlock ds record_of f → IsInput f.plan f.outer f.run record_of new.recorder.log → All Takes new.recorder.log
    drained_log new (Ok done) end before input =
        took_more new.recorder (map (stored_tail f a) (below f.plan.b)) end.1.log (tails_spared f.plan.b) (tails_took f.plan.b (omega arith)) before input
    drained_log new (Err (halt.Verdict v)) end before input =
        took_more new.recorder (map (stored_tail f a) (below end.0)) end.3.log (tails_spared end.0) (tails_took end.0 (let inside = (find-below (is_left f.plan (ds a) o) f.plan.b end.0 end.1).0 in omega (arith, inside))) before input
    drained_log new (Err (halt.Fault (Device slot))) end before input =
        took_more new.recorder (map (stored_tail f a) (below end.0) ++ failed_tail f a end.0 ∷ []) end.3.log
        (λ j j_in. All-push (Spares f.plan (number_of f.plan (at Input j))) (map (stored_tail f a) (below end.0)) (failed_tail f a end.0) (tails_spared end.0 j j_in) (tail_spared end.0 j None j_in))
        (All-push Of_attempt (map (stored_tail f a) (below end.0)) (failed_tail f a end.0) (tails_took end.0 (let inside = end.1 in omega (arith, inside)))
        (tail_took end.0 None end.1 (λ bytes there. absurd (cc there)))) before input
    drained_log new (Err (halt.Fault (Tampered slot))) never before input = absurd never

    pub took_drained : {T : Type 0} (new : Parts V) (result : Result T Halt) → DrainEnd faults (ds a) o a f new result
        → EachTookItsBlock ds record_of f → EachTookItsBlock ds record_of new
    took_drained new result end before =
        subst (λ (x : Parts V). EachTookItsBlock ds record_of x) (sym (the_same_but faults a f (ds a) h record_of o new result end))
        (λ input. drained_log new result end before input)
