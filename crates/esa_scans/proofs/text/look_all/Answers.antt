use Rattle.std.proofs.Common.{◌≡◌, ◌+◌, ap, ◌∙◌, arith}
use Rattle.esa_crowds.specs.Gathered.{Gathered}
use Rattle.esa_params.specs.Slots.{item_length}
use Rattle.esa_scans.proofs.HeldLaws.{looked-more}
use Rattle.esa_scans.proofs.text.look_all.Goals as goal

pub loop-place-preserved : goal.loop-place-preserved
loop-place-preserved c =
    let before = c.loop-place.invariant.others in
    let next : c.args.table.now.next + c.loop-place.place + 1 ≡ c.args.table.now.next + (c.loop-place.place + 1) = omega arith in
    record {
      others = c.look.ensures.others
          ∙ ap (λ (h : Gathered). record h { next = h.next + 1; entries = c.look.new.table.entries }) before
          ∙ ap (λ n. record c.args.table.now { next = n; entries = c.look.new.table.entries }) next;
      entries = λ key stands.
          looked-more c.args.form c.loop-place.table.form key c.args.table.now.next c.loop-place.table.next c.loop-place.place (item_length c.args.form) (c.body.result + 1) c.args.text.now
          c.args.table.now.entries c.loop-place.table.entries c.look.new.table.entries
          (ap (λ (h : Gathered). h.form) before ∙ c.requires.form) (ap (λ (h : Gathered). h.next) before) (ap (λ n. n + 1) c.body.ensures)
          (c.loop-place.invariant.entries key stands) (c.look.ensures.entries key stands);
    }
