use Rattle.std.proofs.Common.{◌+◌, ap, ◌∙◌, arith}
use Rattle.esa_params.specs.Form.{inner_length}
use Rattle.esa_params.specs.Slots.{item_length}
use Rattle.esa_scans.specs.Held.{is_marked}
use Rattle.esa_scans.proofs.HeldLaws.{room_more, sent-more}
use Rattle.esa_scans.proofs.text.send_all.Goals as goal

pub send-requires-clause-room : goal.send-requires-clause-room
send-requires-clause-room c =
    let more = room_more c.args.form (is_marked c.args.table.now.kept) c.args.first c.loop-place.place c.args.count (item_length c.args.form) c.args.text.now
    c.args.sent.now.bytes c.loop-place.sent.bytes c.args.sent.now.room c.loop-place-test.true c.loop-place.invariant.bytes c.requires.room in
    omega (arith, more, ap inner_length c.requires.form, c.loop-place.invariant.room)

pub loop-place-preserved : goal.loop-place-preserved
loop-place-preserved c = record {
  room = c.send.ensures.room ∙ c.loop-place.invariant.room;
  bytes =
      sent-more c.args.form c.args.table.now.form (is_marked c.args.table.now.kept) c.args.first c.loop-place.place (item_length c.args.form) (c.body.result + 1) c.args.text.now
      c.args.sent.now.bytes c.loop-place.sent.bytes c.send.new.sent.bytes c.requires.form (ap (λ n. n + 1) c.body.ensures)
      c.loop-place.invariant.bytes c.send.ensures.bytes;
}
