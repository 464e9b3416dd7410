use Rattle.std.proofs.Common.{◌≡◌, ◌++◌, drop}
use Rattle.esa_compress.specs.Held.{held_in}
use Rattle.esa_compress.proofs.window.Window.enter_all.Given as goal

-- what has entered, and what is to come
abbrev pub invariant-loop-index : goal.invariant-loop-index
invariant-loop-index l =
    (l.self.items ++ held_in l.items (drop l.index-index l.order) ≡ l.fn.self.items ++ held_in l.items l.order) × (l.self.capacity ≡ l.fn.self.capacity)
