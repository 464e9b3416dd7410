-- The block of the slot is read.
use Rattle.std.proofs.Common.{◌≡◌, ℕ, Vec, Global, Some, length, get_or, slice_get, sym, ap, ◌∙◌, subst, arith}
use Rattle.std.specs.Option.{option_map}
use Rattle.std.proofs.lemmas.List.{length-map}
use Rattle.std.proofs.lemmas.Option.{slice_get-get_or}
use Rattle.std.proofs.Math.ListN.{get_or-map}
use Rattle.esa_outside.specs.Calls.{up}
use Rattle.esa_device.specs.declared.counts.Counts.{Counts}
use Rattle.esa_device.specs.Blocks.{HasBlock}
use Rattle.esa_device.specs.Memory.{InMemory, contents, flipped}
use Rattle.esa_device.proofs.BlockLaws.{within, fits, told_read}
use Rattle.esa_device.proofs.memory.MemDeviceDevice.read.Goals as goal

pub index-requires : goal.index-requires
index-requires c =
    let has = subst (λ (device : InMemory). HasBlock device.plan c.args.slot (length c.args.out.now)) (sym c.self.view_is) c.requires in
    let inside = within c.self.inside.plan (contents c.self.inside.blocks.items) c.args.slot (length c.args.out.now) c.self.invariant has in
    omega (arith, inside, length-map c.self.inside.blocks.items (λ (block : Vec ℕ Global). block.items), c.self.inside.blocks.ok.0)

pub copy_from_slice-requires : goal.copy_from_slice-requires
copy_from_slice-requires c =
    let has = subst (λ (device : InMemory). HasBlock device.plan c.args.slot (length c.args.out.now)) (sym c.self.view_is) c.requires in
    let block = c.index.result.now in
    sym (ap length c.deref-2.ensures.value
    ∙ ap (λ (block : Vec ℕ Global). length block.items) c.index.ensures
    ∙ ap length (sym (get_or-map (λ (block : Vec ℕ Global). block.items) c.self.inside.blocks.items c.args.slot block))
    ∙ fits c.self.inside.plan (contents c.self.inside.blocks.items) c.args.slot (length c.args.out.now) block.items c.self.invariant has)

pub returns-clause-flipped : goal.returns-clause-flipped
returns-clause-flipped c =
    let has = subst (λ (device : InMemory). HasBlock device.plan c.args.slot (length c.args.out.now)) (sym c.self.view_is) c.requires in
    let blocks = contents c.self.inside.blocks.items in
    let block = c.index.result.now in
    let copied = c.copy_from_slice.new.self in
    let inside = within c.self.inside.plan blocks c.args.slot (length c.args.out.now) c.self.invariant has in
    let read : copied ≡ get_or blocks c.args.slot block.items =
    c.copy_from_slice.ensures.after ∙ c.deref-2.ensures.value
    ∙ ap (λ (block : Vec ℕ Global). block.items) c.index.ensures
    ∙ sym (get_or-map (λ (block : Vec ℕ Global). block.items) c.self.inside.blocks.items c.args.slot block) in
    let there : slice_get c.args.self.now.blocks c.args.slot ≡ Some copied =
    sym (ap (λ (device : InMemory). slice_get device.blocks c.args.slot) c.self.view_is)
    ∙ slice_get-get_or blocks c.args.slot block.items inside ∙ ap Some (sym read) in
    let flips = c.deref-3.ensures.value ∙ ap (λ (device : InMemory). device.flips) c.self.view_is in
    let calls = ap (λ (counts : Counts). counts.calls) c.call.ensures ∙ ap (λ (device : InMemory). up device.counts.calls) c.self.view_is in
    ap Some (c.flip_all.ensures ∙ ap (λ flips. flipped flips c.call.new.self.calls copied) flips ∙ ap (λ access. flipped c.args.self.now.flips access copied) calls)
    ∙ sym (ap (option_map (flipped c.args.self.now.flips (up c.args.self.now.counts.calls))) there)

pub returns-clause-bytes : goal.returns-clause-bytes
returns-clause-bytes c = λ blocks told.
    told_read c.args.self.now.flips c.args.self.now.blocks blocks (up c.args.self.now.counts.calls) c.args.slot c.flip_all.new.out (returns-clause-flipped c) told
