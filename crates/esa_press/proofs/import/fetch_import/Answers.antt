use Rattle.std.proofs.Common.{◌≡◌, ℕ, ◌*◌, ◌+◌, drop, length, get_or, flat_map, ap, sym, arith, length-drop}
use Rattle.esa_params.specs.Sizes.{below}
use Rattle.esa_params.specs.Slots.{at, item_length}
use Rattle.esa_params.specs.declared.slot.Region.TheVariants.{Tail}
use Rattle.esa_stash.specs.Stash.{padded}
use Rattle.esa_vault.specs.Seals.{opens}
use Rattle.esa_press.proofs.Fetching.{faithful_old, fetched_bad, fetched_more, import_counted, import_given, import_spelled, on_ok, part_is_tail, records_got-ok}
use Rattle.esa_press.proofs.import.fetch_import.Goals as goal

pub returns-in-Err-clause-fetched : goal.returns-in-Err-clause-fetched
returns-in-Err-clause-fetched g c =
    let p = c.args.plan.now in
    fetched_bad g.V.Device.told g.V.Device.faults g.V.Device.last_call p c.args.keys.now c.args.attempt c.args.target c.args.counts.now
    p.b (p.b + 1) c.args.recorder.now c.fetch_chunks.new.recorder c.in-Err.fault (omega arith) c.in-Err.ensures.fetched

pub returns-clause-fetched : goal.returns-clause-fetched
returns-clause-fetched g c =
    let p = c.args.plan.now in
    fetched_more g.V.Device.told g.V.Device.faults g.V.Device.last_call p c.args.keys.now c.args.attempt c.args.target c.args.counts.now
    p.b (at Tail c.args.target) (get_or c.args.counts.now c.b.result 0) c.args.recorder.now c.fetch_chunks.new.recorder c.fetch_tail.new.recorder c.in_default.field-0
    c.fetch_tail.new.sealed c.fetch_tail.result
    (omega arith) (part_is_tail p c.args.attempt c.args.target p.b (omega arith)) (ap (λ (n : ℕ). get_or c.args.counts.now n 0) (sym c.b.ensures.value))
    c.in_default.ensures.fetched c.fetch_tail.ensures.read

pub returns-clause-counted : goal.returns-clause-counted
returns-clause-counted g c =
    let p = c.args.plan.now in
    on_ok c.fetch_tail.result c.fetch_tail.ensures.got.counted
    (import_counted (p.b * p.c) c.fetch_chunks.new.items c.fetch_tail.new.items c.fetch_tail.ensures.front p.b (get_or c.args.counts.now c.b.result 0) c.args.counts.now
    c.requires.each c.in_default.ensures.counted (ap (λ (n : ℕ). get_or c.args.counts.now n 0) (sym c.b.ensures.value)))

pub returns-clause-spelled : goal.returns-clause-spelled
returns-clause-spelled g c =
    let p = c.args.plan.now in
    on_ok c.fetch_tail.result c.fetch_tail.ensures.got.spelled
    (import_spelled (p.b * p.c) c.fetch_chunks.new.items c.fetch_tail.new.items c.fetch_tail.ensures.front (item_length p.form) c.in_default.ensures.spelled)

pub returns-clause-gives : goal.returns-clause-gives
returns-clause-gives g c = λ chunks left faithful stored.
    let p = c.args.plan.now in
    let n = p.b * p.c in
    let new = c.fetch_tail.new.items in
    let many : length (drop n new) ≡ p.k = omega (arith, length-drop n new, c.requires.items, c.fetch_chunks.auto.items, c.fetch_tail.auto.items) in
    let before = c.in_default.ensures.gives chunks
    (faithful_old g.V.Device.told g.V.Device.faults g.V.Device.last_call p (at Tail c.args.target) c.args.attempt
    (opens p c.args.keys.now (at Tail c.args.target) c.args.attempt (get_or c.args.counts.now c.b.result 0)) c.fetch_tail.new.sealed
    c.fetch_chunks.new.recorder c.fetch_tail.new.recorder c.fetch_tail.result c.fetch_tail.ensures.read faithful)
    stored.chunk in
    on_ok c.fetch_tail.result
    (records_got-ok p c.args.keys.now (at Tail c.args.target) c.args.attempt p.k (drop n new) c.args.recorder.now c.fetch_chunks.new.recorder c.fetch_tail.new.recorder c.fetch_tail.result left
    many c.in_default.ensures.fetched.log faithful c.fetch_tail.ensures.got.gives stored.left)
    (import_given n c.fetch_chunks.new.items new c.fetch_tail.ensures.front (flat_map (λ (j : ℕ). padded p.c (chunks j)) (below p.b)) (padded p.k left) before)
