use Rattle.std.proofs.Common.{◌≡◌, ◌<◌, ◌≤◌, [], length, get_or, sym, ◌∙◌, arith}
use Rattle.std.proofs.lemmas.Result.{err_from_is_err_and}
use Rattle.esa_refusal.specs.Failures.{verdict_texts}
use Rattle.esa_command.specs.Stand.{stand}
use Rattle.esa_command.proofs.Printing.{none_printed, printed_next, printed_end, cut_next}
use Rattle.esa_command.proofs.VerdictTexts.{texts_length, text_at}
use Rattle.esa_command.proofs.status_lines.print_verdicts.Goals as goal

pub loop-attempt-init : goal.loop-attempt-init
loop-attempt-init g c = none_printed (stand g.P.Printer.told g.P.Printer.faults g.P.Printer.heard c.args.printer.now)

pub returns-in_err-print_line : goal.returns-in_err-print_line
returns-in_err-print_line g c =
    let p = err_from_is_err_and c.from_residual.result c.from_residual.ensures.1 in
    let printer = stand g.P.Printer.told g.P.Printer.faults g.P.Printer.heard in
    let verdicts = c.args.verdicts.now in
    let i = c.loop-attempt.attempt in
    let below : i < length verdicts = c.loop-attempt-test.true in
    let line : c.as_bytes.result.now ≡ get_or (verdict_texts 0 verdicts) i [] = c.as_bytes.ensures ∙ c.verdict_line-line.ensures ∙ sym (text_at verdicts i _ below) in
    rw p.1 (cut_next (verdict_texts 0 verdicts) i c.as_bytes.result.now (omega (arith, below, texts_length 0 verdicts)) line (printer c.args.printer.now) (printer c.loop-attempt.printer) (printer c.print_line.new.printer) c.loop-attempt.invariant c.in_err-print_line.ensures)

pub loop-attempt-preserved : goal.loop-attempt-preserved
loop-attempt-preserved g c =
    let printer = stand g.P.Printer.told g.P.Printer.faults g.P.Printer.heard in
    let verdicts = c.args.verdicts.now in
    let i = c.loop-attempt.attempt in
    let below : i < length verdicts = c.loop-attempt-test.true in
    let line : c.as_bytes.result.now ≡ get_or (verdict_texts 0 verdicts) i [] = c.as_bytes.ensures ∙ c.verdict_line-line.ensures ∙ sym (text_at verdicts i _ below) in
    printed_next (verdict_texts 0 verdicts) i c.as_bytes.result.now (omega (arith, below, texts_length 0 verdicts)) line (printer c.args.printer.now) (printer c.loop-attempt.printer) (printer c.print_line.new.printer) c.loop-attempt.invariant c.in_ok-print_line.ensures

pub returns : goal.returns
returns g c =
    let printer = stand g.P.Printer.told g.P.Printer.faults g.P.Printer.heard in
    let verdicts = c.args.verdicts.now in
    let past : length verdicts ≤ c.loop-attempt.attempt = c.loop-attempt-test.false in
    printed_end (verdict_texts 0 verdicts) c.loop-attempt.attempt (printer c.args.printer.now) (printer c.loop-attempt.printer) (omega (arith, past, texts_length 0 verdicts)) c.loop-attempt.invariant
