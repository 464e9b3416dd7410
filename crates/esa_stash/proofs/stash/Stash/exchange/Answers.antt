use Rattle.std.proofs.Common.{◌≡◌, ℕ, ◌*◌, ◌≤◌, ◌<◌, length, get_or, map, sum_by, List, [], ◌∷◌, ◌++◌, ap, ap₂, sym, subst, refl, ◌∙◌, arith}
use Rattle.std.proofs.lemmas.Bool.{false≢true}
use Rattle.std.proofs.lemmas.List.{length-map}
use Rattle.std.proofs.lemmas.List.FromFn.{get_or-map-range_with_len, length-map-range_with_len}
use Rattle.esa_stash.specs.Sizes.{below}
use Rattle.esa_report.specs.declared.item.Item.{Item}
use Rattle.esa_stash.specs.Arena.{items_in}
use Rattle.esa_stash.specs.Stash.{Stashed, Held, Handed, contents, total, exchanged, chunks, counts, padded_chunk}
use Rattle.esa_stash.specs.Since.{IsSince, total_backlog}
use Rattle.esa_stash.specs.Dealing.{left_of, left_after, line_after, arrivals, AreDealt, chunk_at}
use Rattle.esa_stash.proofs.TotalLemmas.{arrivals-le}
use Rattle.esa_stash.proofs.Exchanging.{seen, IsSince-more, chunks_are, counts_are, total_is, total_of_lines, total_of_lengths, total_bounded, queues_left, chunks_left, counts_left}
use Rattle.esa_stash.proofs.stash.Stash.exchange.Goals as goal
use Rattle.esa_stash.proofs.stash.Stash.exchange.Goals.{After-count_targets, After-total_after-total, After-deal}

-- what is counted for each target
counted : (c : After-count_targets) → c.count_targets.new.counts ≡ map (arrivals c.args.targets.now) (below c.self.inside.targets)
counted c =
    let many = ap length c.as_mut_slice-arriving.ensures.value ∙ c.self.invariant.1 in
    c.count_targets.ensures ∙ ap (λ (n : ℕ). map (arrivals c.args.targets.now) (below n)) many

pub total_after-total-requires-clause-small : goal.total_after-total-requires-clause-small
total_after-total-requires-clause-small c k d inside =
    let ts = c.args.targets.now in
    let b = c.self.inside.targets in
    let is = counted (goal.at.total_after-total-requires-clause-small c).After-count_targets in
    let long = ap length is ∙ length-map-range_with_len (arrivals ts) 0 b in
    let read = ap (λ (l : List ℕ). get_or l k d) is ∙ get_or-map-range_with_len (arrivals ts) 0 b k k d (omega arith) (omega arith) in
    let least = arrivals-le ts k in
    omega arith

pub total_after-total-requires-clause-fits : goal.total_after-total-requires-clause-fits
total_after-total-requires-clause-fits c =
    let ts = c.args.targets.now in
    let xs = c.args.items.now in
    let arena = c.self.inside.cells in
    let chunk = c.self.inside.chunk in
    let b = c.self.inside.targets in
    let is = counted (goal.at.total_after-total-requires-clause-fits c).After-count_targets in
    let same = ap (λ (l : List ℕ). sum_by (left_after arena chunk l) (below b)) is ∙ total_of_lengths arena chunk b ts xs c.self.invariant.0 c.requires.target_each in
    let bound = total_bounded arena chunk b ts xs c.self.invariant.0 c.requires.target_each c.room-room.ensures.shared in
    let room = c.room-room.ensures.room in
    omega arith

-- how many would stay
module _ (c : After-total_after-total) (is : c.count_targets.new.counts ≡ map (arrivals c.args.targets.now) (below c.self.inside.targets)) where
  abbrev handed : Handed
  handed = (c.args.targets.now, c.args.items.now)

  lines_left : c.total_after-total.result ≡ sum_by (left_of c.self.inside.chunk (line_after c.self.inside.cells c.args.targets.now c.args.items.now)) (below c.self.inside.targets)
  lines_left =
      c.total_after-total.ensures
      ∙ ap (λ (l : List ℕ). sum_by (left_after c.self.inside.cells c.self.inside.chunk l) (below c.self.inside.targets)) is
      ∙ total_of_lengths c.self.inside.cells c.self.inside.chunk c.self.inside.targets c.args.targets.now c.args.items.now c.self.invariant.0 c.requires.target_each

  total_left : c.total_after-total.result ≡ total (exchanged (contents c.args.self.now) (c.args.targets.now, c.args.items.now))
  total_left =
      lines_left
      ∙ sym (total_of_lines c.self.inside.cells c.self.inside.chunk c.self.inside.targets c.args.targets.now c.args.items.now c.self.invariant.0 c.requires.target_each)
      ∙ ap (λ (stash : Stashed). total (exchanged (contents stash) (c.args.targets.now, c.args.items.now))) c.self.view_is

  backlog_left : (all : List Handed) → IsSince all (contents c.args.self.now) → c.total_after-total.result ≡ total_backlog (contents c.args.self.now) all (c.args.targets.now, c.args.items.now)
  backlog_left all since = total_left ∙ total_is (contents c.args.self.now) all (c.args.targets.now, c.args.items.now) since

  room_is : c.room-room.result ≡ c.args.self.now.cells.room
  room_is = c.room-room.ensures.room ∙ ap (λ (stash : Stashed). stash.cells.room) c.self.view_is

pub returns-then-total-from-clause-overflow : goal.returns-then-total-from-clause-overflow
returns-then-total-from-clause-overflow c =
    let at = goal.at.returns-then-total-from-clause-overflow c in
    total_left at.After-total_after-total (counted at.After-count_targets)

pub returns-then-total-from-clause-overflow_since : goal.returns-then-total-from-clause-overflow_since
returns-then-total-from-clause-overflow_since c =
    let at = goal.at.returns-then-total-from-clause-overflow_since c in
    backlog_left at.After-total_after-total (counted at.After-count_targets)

pub returns-then-total-from-clause-fits : goal.returns-then-total-from-clause-fits
returns-then-total-from-clause-fits c =
    let at = goal.at.returns-then-total-from-clause-fits c in
    let is = total_left at.After-total_after-total (counted at.After-count_targets) in
    let room = room_is at.After-total_after-total (counted at.After-count_targets) in
    (λ never. absurd (false≢true never), λ fits. absurd (omega arith))

pub returns-then-total-from-clause-fits_since : goal.returns-then-total-from-clause-fits_since
returns-then-total-from-clause-fits_since c all since =
    let at = goal.at.returns-then-total-from-clause-fits_since c in
    let is = backlog_left at.After-total_after-total (counted at.After-count_targets) all since in
    let room = room_is at.After-total_after-total (counted at.After-count_targets) in
    (λ never. absurd (false≢true never), λ fits. absurd (omega arith))

-- as many counts as targets
targets_are : (c : After-total_after-total) → length c.args.counts.now ≡ c.self.inside.targets
targets_are c =
    c.requires.count_each
    ∙ sym (ap (λ (stash : Stashed). length (contents stash).queues) c.self.view_is)
    ∙ length-map c.self.inside.cells.chains items_in
    ∙ c.self.invariant.0

pub deal-requires-clause-room : goal.deal-requires-clause-room
deal-requires-clause-room c =
    let at = goal.at.deal-requires-clause-room c in
    let many = targets_are at.After-total_after-total in
    let is = lines_left at.After-total_after-total (counted at.After-count_targets) in
    let room = c.room-room.ensures.room in
    let fits : sum_by (left_of c.self.inside.chunk (line_after c.self.inside.cells c.args.targets.now c.args.items.now)) (below c.self.inside.targets) ≤ c.self.inside.cells.room = omega arith in
    subst (λ (n : ℕ). sum_by (left_of c.self.inside.chunk (line_after c.self.inside.cells c.args.targets.now c.args.items.now)) (below n) ≤ c.self.inside.cells.room) (sym many) fits

pub returns-clause-fits : goal.returns-clause-fits
returns-clause-fits c =
    let at = goal.at.returns-clause-fits c in
    let is = total_left at.After-total_after-total (counted at.After-count_targets) in
    let room = room_is at.After-total_after-total (counted at.After-count_targets) in
    (λ _. omega arith, λ _. refl)

pub returns-clause-fits_since : goal.returns-clause-fits_since
returns-clause-fits_since c all since =
    let at = goal.at.returns-clause-fits_since c in
    let is = backlog_left at.After-total_after-total (counted at.After-count_targets) all since in
    let room = room_is at.After-total_after-total (counted at.After-count_targets) in
    (λ _. omega arith, λ _. refl)

-- what is dealt out
module _ (c : After-deal) (targets : length c.args.counts.now ≡ c.self.inside.targets) where
  dealt : AreDealt c.self.inside.targets c.self.inside.chunk (line_after c.self.inside.cells c.args.targets.now c.args.items.now) c.deal.new.cells c.deal.new.chunks c.deal.new.counts
  dealt = subst (λ (n : ℕ). AreDealt n c.self.inside.chunk (line_after c.self.inside.cells c.args.targets.now c.args.items.now) c.deal.new.cells c.deal.new.chunks c.deal.new.counts) targets c.deal.ensures.dealt

  long : length c.deal.new.chunks ≡ c.self.inside.targets * c.self.inside.chunk
  long =
      c.deal.auto.chunks ∙ c.requires.places
      ∙ ap₂ (λ (n m : ℕ). n * m) (sym c.requires.count_each ∙ targets) (sym (ap (λ (stash : Stashed). stash.c) c.self.view_is))

  count_each : length c.deal.new.counts ≡ c.self.inside.targets
  count_each = c.deal.auto.counts ∙ targets

  chains : length c.deal.new.cells.chains ≡ c.self.inside.targets
  chains = c.deal.ensures.chains ∙ c.self.invariant.0

  seen_after : seen c.deal.new.cells c.self.inside.chunk ≡ exchanged (contents c.args.self.now) (c.args.targets.now, c.args.items.now)
  seen_after =
      let held : ℕ → List (List Item) → Held = λ s queues. record { c = c.self.inside.chunk; s = s; queues = queues } in
      ap₂ held c.deal.ensures.cells (queues_left c.self.inside.cells c.self.inside.chunk c.self.inside.targets c.args.targets.now c.args.items.now c.self.invariant.0 c.requires.target_each c.deal.new.cells c.deal.new.chunks c.deal.new.counts long count_each chains dealt)
      ∙ ap (λ (stash : Stashed). exchanged (contents stash) (c.args.targets.now, c.args.items.now)) c.self.view_is

  chunks_after : c.deal.new.chunks ≡ chunks (contents c.args.self.now) (c.args.targets.now, c.args.items.now)
  chunks_after =
      chunks_left c.self.inside.cells c.self.inside.chunk c.self.inside.targets c.args.targets.now c.args.items.now c.self.invariant.0 c.requires.target_each c.deal.new.cells c.deal.new.chunks c.deal.new.counts long count_each chains dealt
      ∙ ap (λ (stash : Stashed). chunks (contents stash) (c.args.targets.now, c.args.items.now)) c.self.view_is

  chunk_each : (i : ℕ) → i < length (contents c.args.self.now).queues
      → chunk_at c.args.self.now.c c.deal.new.chunks i ≡ padded_chunk (contents c.args.self.now) (c.args.targets.now, c.args.items.now) i
  chunk_each =
      subst (λ (stash : Stashed). (i : ℕ) → i < length (contents stash).queues → chunk_at stash.c c.deal.new.chunks i ≡ padded_chunk (contents stash) (c.args.targets.now, c.args.items.now) i) c.self.view_is
      (λ i inside. let many = length-map c.self.inside.cells.chains items_in ∙ c.self.invariant.0 in (dealt i (omega (arith, many, inside))).chunk)

  counts_after : c.deal.new.counts ≡ counts (contents c.args.self.now) (c.args.targets.now, c.args.items.now)
  counts_after =
      counts_left c.self.inside.cells c.self.inside.chunk c.self.inside.targets c.args.targets.now c.args.items.now c.self.invariant.0 c.requires.target_each c.deal.new.cells c.deal.new.chunks c.deal.new.counts long count_each chains dealt
      ∙ ap (λ (stash : Stashed). counts (contents stash) (c.args.targets.now, c.args.items.now)) c.self.view_is

pub returns-clause-queues : goal.returns-clause-queues
returns-clause-queues c =
    let at = goal.at.returns-clause-queues c in
    seen_after at.After-deal (targets_are at.After-total_after-total)

pub returns-clause-chunks : goal.returns-clause-chunks
returns-clause-chunks c =
    let at = goal.at.returns-clause-chunks c in
    chunks_after at.After-deal (targets_are at.After-total_after-total)

pub returns-clause-each : goal.returns-clause-each
returns-clause-each c =
    let at = goal.at.returns-clause-each c in
    chunk_each at.After-deal (targets_are at.After-total_after-total)

pub returns-clause-counts : goal.returns-clause-counts
returns-clause-counts c =
    let at = goal.at.returns-clause-counts c in
    counts_after at.After-deal (targets_are at.After-total_after-total)

pub returns-clause-since : goal.returns-clause-since
returns-clause-since c all since =
    let at = goal.at.returns-clause-since c in
    let handed : Handed = (c.args.targets.now, c.args.items.now) in
    subst (IsSince (all ++ handed ∷ [])) (sym (seen_after at.After-deal (targets_are at.After-total_after-total))) (IsSince-more (contents c.args.self.now) all handed since)

pub returns-clause-chunks_since : goal.returns-clause-chunks_since
returns-clause-chunks_since c all since =
    let at = goal.at.returns-clause-chunks_since c in
    chunks_after at.After-deal (targets_are at.After-total_after-total) ∙ chunks_are (contents c.args.self.now) all (c.args.targets.now, c.args.items.now) since

pub returns-clause-counts_since : goal.returns-clause-counts_since
returns-clause-counts_since c all since =
    let at = goal.at.returns-clause-counts_since c in
    counts_after at.After-deal (targets_are at.After-total_after-total) ∙ counts_are (contents c.args.self.now) all (c.args.targets.now, c.args.items.now) since
