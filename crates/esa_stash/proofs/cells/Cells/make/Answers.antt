use Rattle.std.proofs.Common.{ap₂, ◌∙◌, ℕ, List}
use Rattle.esa_stash.specs.Arena.{Arena}
use Rattle.esa_stash.specs.Inside.{arena_of}
use Rattle.esa_stash.proofs.Arenas.{arena_of-empty}
use Rattle.esa_stash.proofs.cells.Cells.make.Goals as goal

pub returns : goal.returns
returns c =
    let seen : ℕ → List (List ℕ) → Arena = λ room lists. arena_of (record { room = room; lists = lists }) c.in_ok-items.items.items in
    ap₂ seen c.in_ok-links.ensures.room c.in_ok-links.ensures.lists ∙ arena_of-empty c.args.chains c.args.room c.in_ok-items.items.items
