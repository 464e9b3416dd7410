use Rattle.std.proofs.Common.{◌≡◌, ◌+◌, ◌*◌, ◌<◌, ◌≤◌, ℕ, All, Ok, Err, refl, get_or, length, take, ap, sym, subst, arith, flat_map}
use Rattle.std.proofs.lemmas.List.Elements.{All-nil}
use Rattle.esa_compress.specs.Held.{held_count}
use Rattle.esa_params.specs.Sizes.{below}
use Rattle.esa_params.specs.Slots.{item_length}
use Rattle.esa_spec.specs.Traces.{chunk_slot}
use Rattle.esa_stash.specs.Dealing.{chunk_at}
use Rattle.esa_vault.specs.Seals.{opens}
use Rattle.esa_vault.proofs.TextLaws.{place-inside}
use Rattle.esa_stash.specs.Stash.{padded}
use Rattle.esa_vault.specs.Placed.{IsSpelled}
use Rattle.esa_press.proofs.Fetching.{chunks_counted, chunks_given, chunks_spelled, faithful_old, fetched_bad, fetched_more, fetched_none, length_here, part_is_chunk, records_got}
use Rattle.esa_press.proofs.import.fetch_chunks.Goals as goal

pub loop-bucket-init : goal.loop-bucket-init
loop-bucket-init g c =
    let p = c.args.plan.now in
    let items = c.args.items.now in
    let none : 0 * p.c ≡ 0 = omega arith in
    record {
      fetched = fetched_none g.V.Device.told g.V.Device.faults g.V.Device.last_call p c.args.keys.now c.args.attempt c.args.target c.args.counts.now c.args.recorder.now tt;
      counted = ap (λ (n : ℕ). held_count (take n items)) none;
      spelled = subst (λ (n : ℕ). All (IsSpelled (item_length p.form)) (take n items)) (sym none) (All-nil (IsSpelled (item_length p.form)));
      gives = λ records faithful stored. ap (λ (n : ℕ). take n items) none;
    }

pub returns-in-Err-clause-fetched : goal.returns-in-Err-clause-fetched
returns-in-Err-clause-fetched g c =
    let p = c.args.plan.now in
    let x = c.loop-bucket.bucket in
    let inside : x < p.b = omega (arith, c.loop-bucket-test.true, c.b-bucket-end.ensures.value) in
    fetched_bad g.V.Device.told g.V.Device.faults g.V.Device.last_call p c.args.keys.now c.args.attempt c.args.target c.args.counts.now
    (x + 1) p.b c.args.recorder.now c.fetch_chunk.new.recorder c.in-Err.fault (omega arith)
    (fetched_more g.V.Device.told g.V.Device.faults g.V.Device.last_call p c.args.keys.now c.args.attempt c.args.target c.args.counts.now
    x (chunk_slot p x c.args.target) (get_or c.args.counts.now x 0) c.args.recorder.now c.loop-bucket.recorder c.fetch_chunk.new.recorder tt c.fetch_chunk.new.sealed (Err c.in-Err.fault)
    (omega arith) (part_is_chunk p c.args.attempt c.args.target x inside) refl c.loop-bucket.invariant.fetched c.in-Err.ensures.read)

pub loop-bucket-preserved : goal.loop-bucket-preserved
loop-bucket-preserved g c =
    let p = c.args.plan.now in
    let x = c.loop-bucket.bucket in
    let inside : x < p.b = omega (arith, c.loop-bucket-test.true, c.b-bucket-end.ensures.value) in
    let size = item_length p.form in
    let old = c.loop-bucket.items in
    let new = c.fetch_chunk.new.items in
    let front = c.fetch_chunk.ensures.front in
    let within : x * p.c + p.c ≤ length new =
    let whole = place-inside p.c x p.b inside in
    omega (arith, whole, c.requires.items, c.fetch_chunk.auto.items, c.loop-bucket.auto.items) in
    record {
      fetched =
          fetched_more g.V.Device.told g.V.Device.faults g.V.Device.last_call p c.args.keys.now c.args.attempt c.args.target c.args.counts.now
          x (chunk_slot p x c.args.target) (get_or c.args.counts.now x 0) c.args.recorder.now c.loop-bucket.recorder c.fetch_chunk.new.recorder tt c.fetch_chunk.new.sealed (Ok tt)
          (omega arith) (part_is_chunk p c.args.attempt c.args.target x inside) refl c.loop-bucket.invariant.fetched c.in_default.ensures.read;
      counted = chunks_counted p.c x old new front c.args.counts.now (omega (arith, c.requires.each)) c.loop-bucket.invariant.counted c.in_default.ensures.got.counted;
      spelled = chunks_spelled p.c x old new front size c.loop-bucket.invariant.spelled c.in_default.ensures.got.spelled;
      gives = λ records faithful stored.
          chunks_given p.c x old new front (λ j. padded p.c (records j))
          (c.loop-bucket.invariant.gives records
          (faithful_old g.V.Device.told g.V.Device.faults g.V.Device.last_call p (chunk_slot p x c.args.target) c.args.attempt
          (opens p c.args.keys.now (chunk_slot p x c.args.target) c.args.attempt (get_or c.args.counts.now x 0)) c.fetch_chunk.new.sealed
          c.loop-bucket.recorder c.fetch_chunk.new.recorder c.fetch_chunk.result c.fetch_chunk.ensures.read faithful)
          (λ j j_in. stored j (omega arith)))
          (records_got p c.args.keys.now (chunk_slot p x c.args.target) c.args.attempt p.c (chunk_at p.c new x) c.args.recorder.now c.loop-bucket.recorder c.fetch_chunk.new.recorder c.in_default.field-0 (records x)
          (length_here p.c x old new front within) c.loop-bucket.invariant.fetched.log faithful c.in_default.ensures.got.gives (stored x (omega arith)));
    }

pub returns-clause-gives : goal.returns-clause-gives
returns-clause-gives g c = λ records faithful stored.
    let p = c.args.plan.now in
    let end : c.loop-bucket.bucket ≡ p.b = omega (arith, c.loop-bucket-test.false, c.b-bucket-end.ensures.value, c.loop-bucket.auto.bucket-end) in
    subst (λ (n : ℕ). take (n * p.c) c.loop-bucket.items ≡ flat_map (λ (j : ℕ). padded p.c (records j)) (below n)) end
    (c.loop-bucket.invariant.gives records faithful (λ j j_in. stored j (omega arith)))
