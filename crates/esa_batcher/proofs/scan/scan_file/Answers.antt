use Rattle.std.proofs.Common.{◌≡◌, ◌-◌, Ok, Err, ◌∙◌, arith, take}
use Rattle.std.specs.Prelude.{min}
use Rattle.std.proofs.lemmas.Result.{err_from_is_err_and}
use Rattle.esa_params.specs.Form.{envelope_length}
use Rattle.esa_batcher.proofs.ScanLaws.{records_here, unheaded_file, begun_file, fallen_file, risen_file}
use Rattle.esa_batcher.proofs.scan.scan_file.Goals as goal

pub returns-in_err-header-clause-file : goal.returns-in_err-header-clause-file
returns-in_err-header-clause-file g c =
    let p = err_from_is_err_and c.from_residual.result c.from_residual.ensures.1 in
    rw (p.1, p.2) (unheaded_file c.args.m c.args.name.now (g.K.Cabinet.told c.args.cabinet.now) c.args.have c.requires.few (g.K.Cabinet.heard c.args.cabinet.now) (g.K.Cabinet.heard c.scan_header.new.cabinet) c.scan_header.new.buffer _ c.in_err-header.ensures.header)

pub returns-in_err-place-clause-file : goal.returns-in_err-place-clause-file
returns-in_err-place-clause-file g c =
    let told = g.K.Cabinet.told c.args.cabinet.now in
    let header = c.in_ok-header.header in
    let size = envelope_length header.form in
    let middle = g.K.Cabinet.heard c.scan_header.new.cabinet in
    let now = g.K.Cabinet.heard c.scan_order.new.cabinet in
    let at_is : c.min-at.result ≡ min 15 c.args.have = omega (arith, c.min-at.ensures) in
    let kept = take (c.min-at.result - c.length.result) c.scan_header.new.buffer in
    let records = records_here c.args.name.now (g.K.Cabinet.told c.scan_header.new.cabinet) told c.min-at.result (min 15 c.args.have) middle now c.envelope.result size header.count kept
    (Err c.in_err-place.field-0.0) c.scan_header.ensures.told at_is c.envelope.ensures c.in_err-place.ensures.records in
    let p = err_from_is_err_and c.from_residual-in_err-place.result c.from_residual-in_err-place.ensures.1 in
    rw (p.1, p.2) (begun_file c.args.m c.args.name.now told c.args.have c.requires.few (g.K.Cabinet.heard c.args.cabinet.now) middle now header c.in_ok-header.ensures.header.0 records)

pub returns-in-Some-clause-file : goal.returns-in-Some-clause-file
returns-in-Some-clause-file g c =
    let told = g.K.Cabinet.told c.args.cabinet.now in
    let header = c.in_ok-header.header in
    let size = envelope_length header.form in
    let middle = g.K.Cabinet.heard c.scan_header.new.cabinet in
    let now = g.K.Cabinet.heard c.scan_order.new.cabinet in
    let at_is : c.min-at.result ≡ min 15 c.args.have = omega (arith, c.min-at.ensures) in
    let kept = take (c.min-at.result - c.length.result) c.scan_header.new.buffer in
    let kept_is = (λ i. take (at_is i - c.length.ensures i) c.scan_header.new.buffer) ∙ c.in_ok-header.ensures.header.1 in
    let records = records_here {E = Unit {0}} c.args.name.now (g.K.Cabinet.told c.scan_header.new.cabinet) told c.min-at.result (min 15 c.args.have) middle now c.envelope.result size header.count kept
    (Ok c.in_ok-place.field-0) c.scan_header.ensures.told at_is c.envelope.ensures c.in_ok-place.ensures.records in
    fallen_file c.args.m c.args.name.now told c.args.have c.requires.few (g.K.Cabinet.heard c.args.cabinet.now) middle now header c.in_ok-header.ensures.length c.in_ok-header.ensures.header.0 kept kept_is c.in_ok-place.field-0 records c.in-Some.place c.in-Some.is

pub returns-in_err-check_number-in-None-clause-file : goal.returns-in_err-check_number-in-None-clause-file
returns-in_err-check_number-in-None-clause-file g c =
    let told = g.K.Cabinet.told c.args.cabinet.now in
    let header = c.in_ok-header.header in
    let size = envelope_length header.form in
    let middle = g.K.Cabinet.heard c.scan_header.new.cabinet in
    let now = g.K.Cabinet.heard c.scan_order.new.cabinet in
    let at_is : c.min-at.result ≡ min 15 c.args.have = omega (arith, c.min-at.ensures) in
    let kept = take (c.min-at.result - c.length.result) c.scan_header.new.buffer in
    let kept_is = (λ i. take (at_is i - c.length.ensures i) c.scan_header.new.buffer) ∙ c.in_ok-header.ensures.header.1 in
    let records = records_here {E = Unit {0}} c.args.name.now (g.K.Cabinet.told c.scan_header.new.cabinet) told c.min-at.result (min 15 c.args.have) middle now c.envelope.result size header.count kept
    (Ok c.in_ok-place.field-0) c.scan_header.ensures.told at_is c.envelope.ensures c.in_ok-place.ensures.records in
    let p = err_from_is_err_and c.from_residual-in_err-check_number-in-None.result c.from_residual-in_err-check_number-in-None.ensures.1 in
    rw (p.1, p.2) (risen_file c.args.m c.args.name.now told c.args.have c.requires.few (g.K.Cabinet.heard c.args.cabinet.now) middle now header c.in_ok-header.ensures.length c.in_ok-header.ensures.header.0 kept kept_is c.in_ok-place.field-0 records c.in-None.is (Err c.in_err-check_number-in-None.field-0.0) c.in_err-check_number-in-None.ensures)

pub returns-clause-file : goal.returns-clause-file
returns-clause-file g c =
    let told = g.K.Cabinet.told c.args.cabinet.now in
    let header = c.in_ok-header.header in
    let size = envelope_length header.form in
    let middle = g.K.Cabinet.heard c.scan_header.new.cabinet in
    let now = g.K.Cabinet.heard c.scan_order.new.cabinet in
    let at_is : c.min-at.result ≡ min 15 c.args.have = omega (arith, c.min-at.ensures) in
    let kept = take (c.min-at.result - c.length.result) c.scan_header.new.buffer in
    let kept_is = (λ i. take (at_is i - c.length.ensures i) c.scan_header.new.buffer) ∙ c.in_ok-header.ensures.header.1 in
    let records = records_here {E = Unit {0}} c.args.name.now (g.K.Cabinet.told c.scan_header.new.cabinet) told c.min-at.result (min 15 c.args.have) middle now c.envelope.result size header.count kept
    (Ok c.in_ok-place.field-0) c.scan_header.ensures.told at_is c.envelope.ensures c.in_ok-place.ensures.records in
    risen_file c.args.m c.args.name.now told c.args.have c.requires.few (g.K.Cabinet.heard c.args.cabinet.now) middle now header c.in_ok-header.ensures.length c.in_ok-header.ensures.header.0 kept kept_is c.in_ok-place.field-0 records c.in-None.is (Ok c.in_ok-check_number-in-None.field-0) c.in_ok-check_number-in-None.ensures
