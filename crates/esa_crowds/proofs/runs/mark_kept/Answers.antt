use Rattle.std.proofs.Common.{◌<◌, length, refl, ap, subst, sym, ◌∙◌, arith}
use Rattle.std.specs.Prelude.{All}
use Rattle.std.proofs.lemmas.List.Elements.{All-drop}
use Rattle.std.proofs.lemmas.List.Sorted.{All-permutation}
use Rattle.esa_crowds.specs.Kept.{drops_in}
use Rattle.esa_crowds.specs.Rows.{row_at}
use Rattle.esa_crowds.proofs.PlaceLaws.{inside-below}
use Rattle.esa_crowds.proofs.TableLaws.{positions_below}
use Rattle.esa_crowds.proofs.MarkLaws.{AreMarked-first, AreMarked-more, AreMarked-last, no_places, first_place}
use Rattle.esa_crowds.proofs.runs.mark_kept.Goals as goal

pub loop-rest-init : goal.loop-rest-init
loop-rest-init c = record {
  inside = All-permutation (λ place. place < length c.args.rows.now) _ _ c.requires.permutation (inside-below (length c.args.rows.now));
  long = refl;
  so_far = λ form key padded rise stands.
      AreMarked-first form c.args.rows.now c.args.order.now (drops_in key c.args.drops.now) c.args.t (length c.args.marks.now) c.args.marks.now c.requires.permutation c.requires.sorted padded rise c.requires.unmarked;
}

pub mark_run-requires-clause-marked : goal.mark_run-requires-clause-marked
mark_run-requires-clause-marked c = λ k below.
    omega (arith, positions_below c.requires.form.0 0 (length c.args.marks.now) c.args.rows.now c.requires.form.2 k below, c.loop-rest.invariant.long)

pub loop-rest-preserved : goal.loop-rest-preserved
loop-rest-preserved c = record {
  inside = subst (All (λ place. place < length c.args.rows.now)) (sym c.split_at.ensures.back) (All-drop (λ place. place < length c.args.rows.now) c.run_length.result c.loop-rest.rest.now c.loop-rest.invariant.inside);
  long = c.mark_run.ensures.length ∙ c.loop-rest.invariant.long;
  so_far = λ form key padded rise stands.
      AreMarked-more form c.args.rows.now c.args.order.now c.loop-rest.rest.now c.split_at.result.0.now c.split_at.result.1.now (drops_in key c.args.drops.now) c.args.t (length c.args.marks.now) c.run_length.result c.loop-rest.marks c.mark_run.new.marks
      (c.loop-rest.invariant.so_far form key padded rise stands) c.loop-rest.invariant.long c.split_at.ensures.front c.split_at.ensures.back c.run_length.ensures.some c.run_length.ensures.inside c.run_length.ensures.one_crowd c.run_length.ensures.another
      c.dropped_of-dropped.result (c.dropped_of-dropped.ensures key stands ∙ ap (λ place. drops_in key c.args.drops.now (row_at c.args.rows.now place).crowd) (first_place c.run_length.result c.loop-rest.rest.now c.split_at.result.0.now c.split_at.ensures.front c.run_length.ensures.some)) (c.mark_run.ensures.marks form);
}

pub returns-clause-marks : goal.returns-clause-marks
returns-clause-marks c = λ form key position padded rise stands below.
    AreMarked-last form c.args.rows.now c.args.order.now c.loop-rest.rest.now (drops_in key c.args.drops.now) c.args.t (length c.args.marks.now) c.loop-rest.marks c.requires.permutation padded
    (no_places c.loop-rest.rest.now c.loop-rest-test.ensures) (c.loop-rest.invariant.so_far form key padded rise stands) position below
