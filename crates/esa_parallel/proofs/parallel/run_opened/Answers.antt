-- The last pass is the owner's, and each worker has the one of its number.
use Rattle.std.proofs.Common.{◌≡◌, ℕ, ◌<◌, [], ◌∷◌, length, get_or, sym, ap, ◌∙◌, subst, arith}
use Rattle.std.proofs.lemmas.List.{get_or_append_left, get_or_push, length-append}
use Rattle.esa_floor.specs.Marks.{mark_of}
use Rattle.esa_turnstile.specs.Passes.{IsNewPass, added_of, number_of, opened_of, tickets_of}
use Rattle.esa_workers.specs.Distributions.{Rests}
use Rattle.esa_parallel.proofs.Posting.{enough, rests_new}
use Rattle.esa_parallel.proofs.parallel.run_opened.Given.{Over}
use Rattle.esa_parallel.proofs.parallel.run_opened.Goals.{After-as_mut_slice}
use Rattle.esa_parallel.proofs.parallel.run_opened.Goals as goal

-- the posts are manned
module _ (g : Over) (c : After-as_mut_slice g) where
  long : length c.pop.new.self.items ≡ g.G.Told.plan.workers
  long =
      let all = c.requires.dealt_each in
      let more = ap length c.in-Some.ensures.items ∙ length-append c.pop.new.self.items (c.in-Some.owner ∷ []) in
      omega (arith, all, more)

  at_end : get_or c.args.opened.passes.items g.G.Told.plan.workers c.in-Some.owner ≡ c.in-Some.owner
  at_end =
      ap (λ l. get_or l g.G.Told.plan.workers c.in-Some.owner) c.in-Some.ensures.items ∙ get_or_push c.pop.new.self.items c.in-Some.owner c.in-Some.owner g.G.Told.plan.workers long

  few : (k : ℕ) → k < length c.as_mut_slice.result.now → k < g.G.Told.plan.workers
  few k inside =
      let each = ap length c.as_mut_slice.ensures.value ∙ c.man.ensures.each ∙ c.requires.each in
      omega (arith, inside, each)

  in_all : (k : ℕ) → k < g.G.Told.plan.workers → k < length c.args.opened.passes.items
  in_all k less = let all = c.requires.dealt_each in omega (arith, all, less)

  -- the pass of a worker is the one that was dealt at its place
  there : (k : ℕ) (d : _) → k < g.G.Told.plan.workers → get_or c.pop.new.self.items k d ≡ get_or c.args.opened.passes.items k d
  there k d less =
      let all = long in
      sym (get_or_append_left c.pop.new.self.items (c.in-Some.owner ∷ []) d k (omega (arith, all, less))) ∙ ap (λ l. get_or l k d) (sym c.in-Some.ensures.items)

  manned : (k : ℕ) (d : _) → k < g.G.Told.plan.workers
      → get_or c.as_mut_slice.result.now k d ≡ record { worker = get_or c.args.tools.workers.items k d.worker; pass = get_or c.args.opened.passes.items k d.pass }
  manned k d less =
      ap (λ l. get_or l k d) c.as_mut_slice.ensures.value ∙ c.man.ensures.manned k d (let workers = c.requires.each in omega (arith, less, workers))
      ∙ ap (λ x. record { worker = get_or c.args.tools.workers.items k d.worker; pass = x }) (there k d.pass less)

pub run_on-requires-clause-owner_new : goal.run_on-requires-clause-owner_new
run_on-requires-clause-owner_new g c =
    let at = (goal.at.run_on-requires-clause-owner_new g c).After-as_mut_slice in
    let t = c.args.opened.turnstile in
    let within : g.G.Told.plan.workers < length c.args.opened.passes.items = let all = c.requires.dealt_each in omega (arith, all) in
    λ lives outlive. (
      mark_of (opened_of t),
      subst (IsNewPass (tickets_of t) (mark_of (opened_of t))) (at_end g at) (c.requires.dealt g.G.Told.plan.workers c.in-Some.owner within).1,
    )

pub run_on-requires-clause-number : goal.run_on-requires-clause-number
run_on-requires-clause-number g c =
    let at = (goal.at.run_on-requires-clause-number g c).After-as_mut_slice in
    λ lives outlive. ap number_of (sym (at_end g at)) ∙ c.requires.numbers g.G.Told.plan.workers c.in-Some.owner (omega arith)

pub run_on-requires-clause-tickets : goal.run_on-requires-clause-tickets
run_on-requires-clause-tickets g c =
    let p = g.G.Told.plan in
    let planned = c.requires.new.planned.parameters in
    let most = enough p.attempts p.b planned.attempts_least planned.b_least in
    let tickets = c.requires.tickets in
    λ lives outlive. omega (arith, most, tickets)

pub run_on-requires-clause-posts : goal.run_on-requires-clause-posts
run_on-requires-clause-posts g c = λ lives outlive k d inside.
    let at = (goal.at.run_on-requires-clause-posts g c).After-as_mut_slice in
    let p = g.G.Told.plan in
    let t = c.args.opened.turnstile in
    let less = few g at k inside in
    let dealt = c.requires.dealt k d.pass (in_all g at k less) in
    subst (Rests g.V.Device.faults g.G.Told.draws g.C.Coins.target_list p t (opened_of t) k) (sym (manned g at k d less))
    (rests_new g.V.Device.faults g.G.Told.draws g.C.Coins.target_list g.C.Coins.order_list p t c.args.coins.now k (mark_of (opened_of t))
    (get_or c.args.tools.workers.items k d.worker) (get_or c.args.opened.passes.items k d.pass) c.requires.new.stands.of.plan c.requires.draws less c.requires.tickets
    (c.requires.made k d.worker less) dealt.0 dealt.1 (c.requires.numbers k d.pass (omega (arith, less))))

pub run_on-requires-clause-unused : goal.run_on-requires-clause-unused
run_on-requires-clause-unused g c = λ lives outlive k d inside.
    let at = (goal.at.run_on-requires-clause-unused g c).After-as_mut_slice in
    let less = few g at k inside in
    ap (λ m. added_of m.pass) (manned g at k d less) ∙ (c.requires.dealt k d.pass (in_all g at k less)).1.nothing_added
