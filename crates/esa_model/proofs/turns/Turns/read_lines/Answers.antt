use Rattle.std.proofs.Common.{◌≡◌, ◌+◌, ap, sym, ◌∙◌, subst, arith}
use Rattle.esa_bytes.specs.Lines.{text_lines}
use Rattle.esa_model.specs.Drafts.{Begun, with_word}
use Rattle.esa_model.proofs.Reading.{AreBegun, read_from}
use Rattle.esa_model.proofs.TurnLemmas.{begun_with_word, good_line}
use Rattle.esa_model.proofs.turns.Turns.read_lines.Goals as goal

pub loop-line-preserved : goal.loop-line-preserved
loop-line-preserved c =
    let inv = c.loop-line.invariant in
    let line = c.in-Some.line.now in
    let word = c.in-Some-word_of.word in
    let draft = c.loop-line.draft in
    let rest = text_lines c.in-Some.behind.now in
    let taken : c.take.new.self ≡ with_word draft word = c.in_ok-take-in-Some-word_of.ensures.ok in
    record {
      counted = omega (arith, inv.counted, c.in-Some.ensures.shorter);
      workers = subst (AreBegun c.args.workers) (sym taken) (begun_with_word c.args.workers draft word inv.workers c.in-Some-word_of.ensures.turn);
      so_far =
          ap (λ (b : Begun). read_from c.args.workers c.args.attempts (c.loop-line.number + 1) b rest) taken
          ∙ sym (ap (read_from c.args.workers c.args.attempts c.loop-line.number draft) c.in-Some.ensures.lines
          ∙ good_line c.args.workers c.args.attempts c.loop-line.number draft line rest word
          (sym c.in-Some-word_of.ensures.value) (sym c.can_take.ensures ∙ c.if-can_take.true))
          ∙ inv.so_far;
    }
