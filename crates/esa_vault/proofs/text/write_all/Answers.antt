use Rattle.std.proofs.Common.{◌≡◌, ◌+◌, ◌-◌, ◌*◌, ℕ, length, take, drop, ◌∙◌, arith, length-take, length-drop}
use Rattle.esa_vault.proofs.TextLaws.{all-written, place-inside, written-here, written-more}
use Rattle.esa_vault.proofs.text.write_all.Goals as goal

pub loop-place-preserved : goal.loop-place-preserved
loop-place-preserved c =
    let room = place-inside c.args.size c.loop-place.place (length c.args.items.now) c.loop-place-test.true in
    let whole : length c.loop-place.text ≡ length c.args.items.now * c.args.size = c.loop-place.auto.text ∙ c.requires.whole in
    let one : length (take (c.loop-place.place * c.args.size + c.args.size - c.loop-place.place * c.args.size) (drop (c.loop-place.place * c.args.size) c.loop-place.text)) ≡ c.args.size =
    omega (arith, length-take {A = ℕ}, length-drop {A = ℕ}) in
    written-more c.args.size c.loop-place.place c.args.items.now c.loop-place.text c.put.new.out
    c.requires.length c.requires.spelled c.loop-place-test.true whole c.loop-place.invariant
    (written-here c.args.size _ c.loop-place.place c.args.items.now _ c.put.new.out one c.loop-place-test.true c.put.ensures.written)

pub returns : goal.returns
returns c =
    all-written c.args.size c.loop-place.place c.args.items.now c.loop-place.text (omega arith) (c.loop-place.auto.text ∙ c.requires.whole) c.loop-place.invariant
