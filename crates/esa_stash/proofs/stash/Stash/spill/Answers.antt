use Rattle.std.proofs.Common.{◌≡◌, ℕ, ◌<◌, List, length, drop, ap, sym, refl, ◌∙◌, arith}
use Rattle.std.proofs.lemmas.Bool.{false≢true}
use Rattle.std.proofs.lemmas.List.{length-map}
use Rattle.esa_report.specs.declared.item.Item.{Item}
use Rattle.esa_stash.specs.Arena.{items_in, chain_at}
use Rattle.esa_stash.specs.Stash.{Stashed, Handed, contents, queue_at}
use Rattle.esa_stash.specs.Since.{HasTail, tail, tail_length}
use Rattle.esa_stash.specs.Dealing.{queue_of}
use Rattle.esa_stash.proofs.Drawing.{queue_of_chain}
use Rattle.esa_stash.proofs.Dealt.{queue_other}
use Rattle.esa_stash.proofs.Exchanging.{length-tail}
use Rattle.esa_stash.proofs.stash.Stash.spill.Goals as goal
use Rattle.esa_stash.proofs.stash.Stash.spill.Goals.{After-length-held}

-- how many items are queued
queued : (c : After-length-held) → c.length-held.result ≡ length (queue_at (contents c.args.self.now) c.args.target)
queued c =
    let cells = c.self.inside.cells in
    let targets = ap (λ (stash : Stashed). length (contents stash).queues) c.self.view_is in
    let chains = length-map cells.chains items_in in
    let inside : c.args.target < length cells.chains = omega (arith, c.requires) in
    c.length-held.ensures.length
    ∙ sym (length-map (chain_at cells c.args.target) (λ (held : ℕ × Item). held.1))
    ∙ sym (ap length (queue_of_chain cells c.args.target inside))
    ∙ ap (λ (stash : Stashed). length (queue_at (contents stash) c.args.target)) c.self.view_is

waits : (c : After-length-held) → (all : List Handed) → HasTail all (contents c.args.self.now) c.args.target → c.length-held.result ≡ tail_length c.args.self.now.c all c.args.target
waits c all has = queued c ∙ length-tail (contents c.args.self.now) all c.args.target has

pub returns-then-held-out-clause-fits_since : goal.returns-then-held-out-clause-fits_since
returns-then-held-out-clause-fits_since c all has =
    let is = waits (goal.at.returns-then-held-out-clause-fits_since c).After-length-held all has in
    (λ never. absurd (false≢true never), λ fits. absurd (omega arith))

pub returns-then-held-out-clause-left_since : goal.returns-then-held-out-clause-left_since
returns-then-held-out-clause-left_since c all has =
    let is = waits (goal.at.returns-then-held-out-clause-left_since c).After-length-held all has in
    omega arith

pub returns-clause-fits_since : goal.returns-clause-fits_since
returns-clause-fits_since c all has =
    let is = waits (goal.at.returns-clause-fits_since c).After-length-held all has in
    (λ _. omega arith, λ _. refl)

pub returns-clause-count_since : goal.returns-clause-count_since
returns-clause-count_since c = waits (goal.at.returns-clause-count_since c).After-length-held

pub returns-clause-others_since : goal.returns-clause-others_since
returns-clause-others_since c all i other has =
    let cells = c.self.inside.cells in
    let rest = drop (length c.args.out.now) (queue_of cells c.args.target) in
    queue_other cells c.draw.new.cells c.args.target i rest other c.draw.ensures.queue
    ∙ ap (λ (stash : Stashed). queue_at (contents stash) i) c.self.view_is
    ∙ has
    ∙ ap (λ (stash : Stashed). tail stash.c all i) (sym c.self.view_is)
