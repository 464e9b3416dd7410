-- The block of the slot is replaced.
use Rattle.std.proofs.Common.{◌<◌, ℕ, List, [], Vec, Global, Some, length, get_or, set, sym, ap, ◌∙◌, subst, arith}
use Rattle.std.proofs.lemmas.List.{length-map, map-set, set-get_or}
use Rattle.std.proofs.Math.ListN.{get_or-map}
use Rattle.esa_params.specs.declared.slot.Op.TheVariants.{Write}
use Rattle.esa_device.specs.Blocks.{HasBlock}
use Rattle.esa_device.specs.Counting.{called}
use Rattle.esa_device.specs.Memory.{InMemory, IsLaidOut, contents, told_by}
use Rattle.esa_device.proofs.BlockLaws.{within, fits, replaced, told_is}
use Rattle.esa_device.proofs.memory.MemDeviceDevice.write.Goals as goal

pub returns-then-contains-clause-there : goal.returns-then-contains-clause-there
returns-then-contains-clause-there c = λ blocks told.
    let out = subst (λ (device : InMemory). IsLaidOut device.plan device.blocks) c.self.view_is c.self.invariant in
    subst (λ (told : List (List ℕ)). c.args.slot < length told) (sym (told_is c.args.self.now.flips c.args.self.now.blocks blocks told))
    (within c.args.self.now.plan c.args.self.now.blocks c.args.slot (length c.args.bytes.now) out c.requires)

pub returns-then-contains-clause-failed : goal.returns-then-contains-clause-failed
returns-then-contains-clause-failed c = λ blocks told.
    (get_or blocks c.args.slot [], ap (λ (device : InMemory). told_by device.flips device.blocks) c.self.view_is ∙ told ∙ ap Some (sym (set-get_or blocks c.args.slot [])))

pub index_mut-requires : goal.index_mut-requires
index_mut-requires c =
    let has = subst (λ (device : InMemory). HasBlock device.plan c.args.slot (length c.args.bytes.now)) (sym c.self.view_is) c.requires in
    let inside = within c.self.inside.plan (contents c.self.inside.blocks.items) c.args.slot (length c.args.bytes.now) c.self.invariant has in
    omega (arith, inside, length-map c.self.inside.blocks.items (λ (block : Vec ℕ Global). block.items), c.self.inside.blocks.ok.0)

pub replace-requires : goal.replace-requires
replace-requires c =
    let has = subst (λ (device : InMemory). HasBlock device.plan c.args.slot (length c.args.bytes.now)) (sym c.self.view_is) c.requires in
    let block = c.index_mut.result.now in
    ap (λ (block : Vec ℕ Global). length block.items) c.index_mut.ensures.value
    ∙ ap length (sym (get_or-map (λ (block : Vec ℕ Global). block.items) c.self.inside.blocks.items c.args.slot block))
    ∙ fits c.self.inside.plan (contents c.self.inside.blocks.items) c.args.slot (length c.args.bytes.now) block.items c.self.invariant has

pub invariant_of-self-2 : goal.invariant_of-self-2
invariant_of-self-2 c =
    let has = subst (λ (device : InMemory). HasBlock device.plan c.args.slot (length c.args.bytes.now)) (sym c.self.view_is) c.requires in
    let blocks = contents c.self.inside.blocks.items in
    subst (λ (blocks : List (List ℕ)). IsLaidOut c.self.inside.plan blocks)
    (sym (map-set (λ (block : Vec ℕ Global). block.items) c.self.inside.blocks.items c.args.slot c.replace.new.block ∙ ap (set blocks c.args.slot) c.replace.ensures))
    (replaced c.self.inside.plan blocks c.args.slot c.args.bytes.now c.self.invariant has)

pub returns-clause-ok : goal.returns-clause-ok
returns-clause-ok c =
    let inside = c.self.inside in
    let device : List (List ℕ) → InMemory = λ blocks. record {
      blocks = blocks;
      plan = inside.plan;
      fails = inside.fails.items;
      flips = inside.flips.items;
      counts = c.call.new.self;
    } in
    ap device (map-set (λ (block : Vec ℕ Global). block.items) inside.blocks.items c.args.slot c.replace.new.block ∙ ap (set (contents inside.blocks.items) c.args.slot) c.replace.ensures)
    ∙ ap (λ counts. record (device (set (contents inside.blocks.items) c.args.slot c.args.bytes.now)) { counts = counts }) c.call.ensures
    ∙ ap (λ (device : InMemory). record device { blocks = set device.blocks c.args.slot c.args.bytes.now; counts = called device.counts Write c.args.slot }) c.self.view_is

pub returns-clause-there : goal.returns-clause-there
returns-clause-there c = λ blocks told.
    let out = subst (λ (device : InMemory). IsLaidOut device.plan device.blocks) c.self.view_is c.self.invariant in
    subst (λ (told : List (List ℕ)). c.args.slot < length told) (sym (told_is c.args.self.now.flips c.args.self.now.blocks blocks told))
    (within c.args.self.now.plan c.args.self.now.blocks c.args.slot (length c.args.bytes.now) out c.requires)
