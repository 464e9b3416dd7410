use Rattle.std.proofs.Common.{◌+◌, ◌-◌, ◌*◌, ◌/◌, ◌≤◌, Option, length, take, refl, sym, subst, ◌∙◌, arith}
use Rattle.esa_lists.specs.Files.{Files}
use Rattle.esa_outside.specs.Told.{Lacks}
use Rattle.esa_batcher.specs.Paging.{PartScanned}
use Rattle.esa_batcher.proofs.InFileLaws.{not_missing}
use Rattle.esa_batcher.proofs.OrderLaws.{room_two}
use Rattle.esa_batcher.proofs.PagingLaws.{one_place_on, at_least_one, part_in_file, passed-more, passed-found, passed-last}
use Rattle.esa_batcher.proofs.order.scan_order.Goals as goal

pub part_fall-requires-clause-whole : goal.part_fall-requires-clause-whole
part_fall-requires-clause-whole g c =
    let size = c.args.records.now.size in
    let all = c.args.records.now.count in
    let number = c.lesser-number.result in
    let room : 2 ≤ length c.args.buffer.now / size = room_two size size (length c.args.buffer.now) refl c.requires.size c.requires.room in
    let two : 2 ≤ number = omega (arith, c.lesser-number.ensures, c.loop-first-test.true) in
    let fits : c.loop-first.first + number ≤ all = omega (arith, c.lesser-number.ensures, c.loop-first-test.true) in
    let inside = part_in_file c.loop-first.first number all size c.loop-first.kept c.args.records.now.at c.loop-first.at c.args.records.now.kept (omega (arith, two)) fits c.loop-first.invariant.kept c.loop-first.invariant.place c.requires.kept in
    subst (λ (t : Option Files). Lacks t c.args.name.now (c.loop-first.at + (number * size - c.loop-first.kept)) → ⊥) (sym c.loop-first.invariant.told)
    (not_missing (g.K.Cabinet.told c.args.cabinet.now) c.args.name.now _ _ inside c.requires.whole)

pub returns-in-Some-clause-records : goal.returns-in-Some-clause-records
returns-in-Some-clause-records g c =
    let size = c.args.records.now.size in
    let all = c.args.records.now.count in
    let number = c.lesser-number.result in
    let room : 2 ≤ length c.args.buffer.now / size = room_two size size (length c.args.buffer.now) refl c.requires.size c.requires.room in
    let two : 2 ≤ number = omega (arith, c.lesser-number.ensures, c.loop-first-test.true) in
    let fits : c.loop-first.first + number ≤ all = omega (arith, c.lesser-number.ensures, c.loop-first-test.true) in
    let told = g.K.Cabinet.told c.args.cabinet.now in
    let part = subst (λ (t : Option Files). PartScanned c.args.name.now t c.loop-first.at (g.K.Cabinet.heard c.loop-first.cabinet) (g.K.Cabinet.heard c.part_fall.new.cabinet)
    size c.loop-first.first number (take c.loop-first.kept c.loop-first.buffer) c.part_fall.new.buffer c.in_ok-fall.field-0) c.loop-first.invariant.told c.in_ok-fall.ensures.part in
    passed-found c.args.name.now told c.args.records.now.at (g.K.Cabinet.heard c.args.cabinet.now) size all (take c.args.records.now.kept c.args.buffer.now)
    c.loop-first.first c.loop-first.at c.loop-first.kept c.loop-first.buffer (g.K.Cabinet.heard c.loop-first.cabinet) (g.K.Cabinet.heard c.part_fall.new.cabinet)
    c.loop-first.invariant.passed number c.part_fall.new.buffer c.in_ok-fall.field-0 part two fits c.in-Some.fall c.in-Some.is

pub overflow_add-at : goal.overflow_add-at
overflow_add-at g c =
    let size = c.args.records.now.size in
    let all = c.args.records.now.count in
    let number = c.lesser-number.result in
    let room : 2 ≤ length c.args.buffer.now / size = room_two size size (length c.args.buffer.now) refl c.requires.size c.requires.room in
    let two : 2 ≤ number = omega (arith, c.lesser-number.ensures, c.loop-first-test.true) in
    let fits : c.loop-first.first + number ≤ all = omega (arith, c.lesser-number.ensures, c.loop-first-test.true) in
    let inside = part_in_file c.loop-first.first number all size c.loop-first.kept c.args.records.now.at c.loop-first.at c.args.records.now.kept (omega (arith, two)) fits c.loop-first.invariant.kept c.loop-first.invariant.place c.requires.kept in
    omega (arith, inside, c.requires.few)

pub loop-first-preserved : goal.loop-first-preserved
loop-first-preserved g c =
    let size = c.args.records.now.size in
    let all = c.args.records.now.count in
    let number = c.lesser-number.result in
    let room : 2 ≤ length c.args.buffer.now / size = room_two size size (length c.args.buffer.now) refl c.requires.size c.requires.room in
    let two : 2 ≤ number = omega (arith, c.lesser-number.ensures, c.loop-first-test.true) in
    let fits : c.loop-first.first + number ≤ all = omega (arith, c.lesser-number.ensures, c.loop-first-test.true) in
    let told = g.K.Cabinet.told c.args.cabinet.now in
    let part = subst (λ (t : Option Files). PartScanned c.args.name.now t c.loop-first.at (g.K.Cabinet.heard c.loop-first.cabinet) (g.K.Cabinet.heard c.part_fall.new.cabinet)
    size c.loop-first.first number (take c.loop-first.kept c.loop-first.buffer) c.part_fall.new.buffer c.in_ok-fall.field-0) c.loop-first.invariant.told c.in_ok-fall.ensures.part in
    record {
      within = omega (arith, fits, two);
      kept = omega arith;
      place = omega (arith, c.loop-first.invariant.place, c.loop-first.invariant.kept, one_place_on c.loop-first.first number size two, at_least_one number size (omega (arith, two)));
      told = c.part_fall.ensures.told ∙ c.loop-first.invariant.told;
      faults = c.in_ok-fall.ensures.cause.kept ∙ c.loop-first.invariant.faults;
      buffer = c.part_fall.ensures.buffer ∙ c.loop-first.invariant.buffer;
      passed = passed-more c.args.name.now told c.args.records.now.at (g.K.Cabinet.heard c.args.cabinet.now) size all (take c.args.records.now.kept c.args.buffer.now)
          c.loop-first.first c.loop-first.at c.loop-first.kept c.loop-first.buffer (g.K.Cabinet.heard c.loop-first.cabinet) (g.K.Cabinet.heard c.part_fall.new.cabinet)
          c.loop-first.invariant.passed number c.part_fall.new.buffer c.in_ok-fall.field-0 part two fits _ c.in-None.is refl;
    }

pub returns-clause-records : goal.returns-clause-records
returns-clause-records g c =
    let told = g.K.Cabinet.told c.args.cabinet.now in
    let size = c.args.records.now.size in
    let all = c.args.records.now.count in
    passed-last c.args.name.now told c.args.records.now.at (g.K.Cabinet.heard c.args.cabinet.now) size all (take c.args.records.now.kept c.args.buffer.now)
    c.loop-first.first c.loop-first.at c.loop-first.kept c.loop-first.buffer (g.K.Cabinet.heard c.loop-first.cabinet)
    c.loop-first.invariant.passed (omega (arith, c.loop-first-test.false))
