-- One block more.
use Rattle.std.proofs.Common.{◌≡◌, ℕ, List, [], ◌∷◌, ◌++◌, map, Vec, Global, arith, sym, ap, ◌∙◌, rules}
use Rattle.std.proofs.lemmas.List.{map-append}
use Rattle.std.proofs.lemmas.List.FromFn.{map-range_with_len_more}
use Rattle.esa_params.specs.Sizes.{below}
use Rattle.esa_params.specs.Slots.{length_at}
use Rattle.esa_device.specs.Blocks.{zero_block}
use Rattle.esa_device.specs.Memory.{contents}
use Rattle.esa_device.proofs.memory.zeroed.Goals as goal

pub loop-number-preserved : goal.loop-number-preserved
loop-number-preserved c =
    let zero : ℕ → List ℕ = λ slot. zero_block (length_at c.args.plan.now slot) in
    let block : c.in_ok-block.block.items ≡ zero_block (length_at c.args.plan.now c.loop-number.number) =
    c.in_ok-block.ensures.items_if_clones_equal (search rules) ∙ ap zero_block c.length.ensures in
    ap contents c.in_ok-push.ensures.items
    ∙ map-append (λ (block : Vec ℕ Global). block.items) c.loop-number.blocks.items (c.in_ok-block.block ∷ [])
    ∙ ap (λ blocks. blocks ++ c.in_ok-block.block.items ∷ []) c.loop-number.invariant
    ∙ ap (λ block. map zero (below c.loop-number.number) ++ block ∷ []) block
    ∙ sym (map-range_with_len_more zero 0 c.loop-number.number c.loop-number.number (omega arith))
