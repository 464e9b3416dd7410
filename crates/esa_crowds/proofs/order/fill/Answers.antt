use Rattle.std.proofs.Common.{◌∙◌, ap, arith, length, ◌++◌, ◌∷◌, []}
use Rattle.esa_crowds.proofs.PlaceLaws.{below-push, length-range}
use Rattle.esa_crowds.proofs.order.fill.Goals as goal

pub push_reserved-requires : goal.push_reserved-requires
push_reserved-requires c = omega (arith, ap length c.loop-place.invariant.places, length-range 0 c.loop-place.place, c.loop-place.invariant.room, c.requires.room)

pub loop-place-preserved : goal.loop-place-preserved
loop-place-preserved c = record {
  places = c.push_reserved.ensures.items ∙ ap (λ places. places ++ c.loop-place.place ∷ []) c.loop-place.invariant.places ∙ below-push c.loop-place.place;
  room = c.push_reserved.ensures.capacity ∙ c.loop-place.invariant.room;
}
