-- The owner begins an attempt, the crew works, and the owner finds what they made of it.
use Rattle.std.proofs.Common.{◌≡◌, ◌≢◌, ℕ, ◌+◌, ◌-◌, ◌*◌, ◌<◌, ◌≤◌, List, [], ◌∷◌, ◌++◌, length, map, get_or, All, Option, Some, None, refl, sym, ap, ◌∙◌, subst, arith, inl, inr, append_assoc}
use mathlib.Core.List.{IsPrefix}
use Rattle.std.proofs.Math.Nat.{mul-le-mul_right}
use Rattle.esa_laws.proofs.FinishLaws.{turns_of-append}
use Rattle.esa_laws.proofs.HistoryLaws.{begun-owner, latest-owner}
use Rattle.esa_device.specs.Logs.{Carried, IsFaithful, NoneFailed}
use Rattle.esa_floor.specs.Keeping.{HasInput, KeepsDone}
use Rattle.esa_report.specs.declared.item.Item.{Item}
use Rattle.esa_params.specs.Sizes.{Sizes}
use Rattle.esa_params.specs.Slots.{item_length}
use Rattle.esa_spec.specs.Draws.{Draw}
use Rattle.esa_spec.specs.Histories.{begun, latest}
use Rattle.esa_floor.specs.Marks.{mark_of}
use Rattle.esa_floor.specs.Parts.{Parts, begun_as}
use Rattle.esa_floor.specs.Standing.{Stands, attempt_begun, turns_made}
use Rattle.esa_floor.specs.Trails.{IsKept, trail_of}
use Rattle.esa_floor.specs.Workers.{IsOfFloor}
use Rattle.esa_floor.specs.Working.{IsReady, Working}
use Rattle.esa_floor.specs.Written.{AreItems, EachGaveItsBlock, EachTookItsBlock, FailedAtItsEnd, GaveUpToItsEnd}
use Rattle.esa_floor.proofs.Doing.{done_begun}
use Rattle.esa_floor.proofs.Faulting.{each_gave, goes_on_in, none_failed}
use Rattle.esa_floor.proofs.Resting.{working}
use Rattle.esa_floor.proofs.Trailing.{log_begins}
use Rattle.esa_floor.proofs.Giving.{gave-begun}
use Rattle.esa_floor.proofs.Writing.{took-begun}
use Rattle.esa_spec.specs.Fronts.{Begins}
use Rattle.esa_floor.specs.declared.floor.Roots.{Roots}
use Rattle.esa_floor.specs.declared.turn.Stop.{Stop}
use Rattle.esa_turnstile.specs.Entries.{times}
use Rattle.esa_turnstile.specs.Passes.{added_of, left_of, mark_of as mark_seen, number_of, opened_of, seen_of, trail_of as trail_seen}
use Rattle.esa_turnstile.specs.declared.pass.Pass.{Pass}
use Rattle.esa_turnstile.specs.declared.turnstile.Turnstile.{Turnstile}
use Rattle.esa_workers.specs.Distributions.{AreDone, AreTurnsOfAll, Rests}
use Rattle.esa_workers.specs.Meetings.{HasMet, Knows, WasTold}
use Rattle.esa_workers.specs.Owners.{HasDone, IsBack}
use Rattle.esa_workers.specs.Posts.{CanWork, HasTickets, HasWorked, IsManned, IsPlaced, StandsIn}
use Rattle.esa_workers.specs.Works.{FoundNone, most_turns}
use Rattle.esa_workers.specs.declared.posts.Manned.{Manned}
use Rattle.esa_workers.proofs.Later.{input_on}
use Rattle.esa_workers.proofs.Listing.{begun_append, latest_on}
use Rattle.esa_workers.proofs.Meeting.{front_trans}
use Rattle.esa_workers.proofs.Owning.{all_written, back_has_done, last_found, workers_turns}
use Rattle.esa_workers.proofs.Turning.{begun_is, few_begun, idle, mark_on}

-- how often a number stands in a beginning of a list
front_few : (n : ℕ) (xs ys : List ℕ) → IsPrefix xs ys → times n xs ≤ times n ys
front_few n xs ys front = let all = ap (times n) (sym front.1) ∙ turns_of-append n xs front.0 in omega (arith, all)

-- a pass that has met another has its place still
module _ {V C O : Type 0} (faults : V → ℕ) (ds : ℕ → Draw) (p : Sizes) (t : Turnstile (Parts V) O) (from old new : Pass (Parts V)) (met : HasMet t from old new) (w : Working C)
    (named : number_of old ≡ w.number) where
  abbrev since : List ℕ
  since = met.seen.0

  since_is : seen_of new ≡ seen_of old ++ since
  since_is = sym met.seen.1

  none_own : times w.number since ≡ 0
  none_own =
      let all : times w.number (seen_of new) ≡ times w.number (seen_of old) + times w.number since =
      ap (times w.number) since_is ∙ turns_of-append w.number (seen_of old) since in
      let was : times w.number (seen_of old) ≡ added_of old = subst (λ (n : ℕ). times n (seen_of old) ≡ added_of old) named old.counted in
      let is : times w.number (seen_of new) ≡ added_of new = subst (λ (n : ℕ). times n (seen_of new) ≡ added_of new) (met.number ∙ named) new.counted in
      let same = met.added in
      omega (arith, all, was, is, same)

  still_in : (a : ℕ) → StandsIn faults ds p old w a → StandsIn faults ds p new w a
  still_in a s = record {
    before = s.before;
    after = s.after ++ since;
    parts = since_is ∙ ap (λ (l : List ℕ). l ++ since) s.parts ∙ append_assoc s.before s.after since;
    others = let both = turns_of-append w.number s.after since in let first = s.others in let second = none_own in omega (arith, both, first, second);
    attempt = s.attempt;
    round = elim s.round [
      | inl both ↦
          let took = both.1 in
          inl (
            both.0,
            record {
              floor = took.floor;
              kept = took.kept;
              attempt = took.attempt;
              runs = took.runs;
              history = took.history;
              told = front_trans (trail_of took.floor) (trail_seen old) (trail_seen new) took.told met.trail;
              outer = took.outer;
              run = took.run;
              keeps = took.keeps;
            },
          )
      | inr late ↦ inr (let most = met.mark in omega (arith, late, most))
    ];
  }

  pub still : (o : Option ℕ) → IsPlaced faults ds p old w o → IsPlaced faults ds p new w o
  still None none = met.added ∙ none
  still (Some a) s = still_in a s

-- tickets for the attempts to come
tickets_on : (attempts was now a m left : ℕ) → a < attempts → was ≤ a → a + 1 ≤ now → 1 ≤ m → (attempts - was) * m ≤ left → (1 ≤ left) × ((attempts - (now - 1)) * m ≤ left)
tickets_on attempts was now a m left planned before later some all =
    let fewer : attempts - (now - 1) ≤ attempts - was = omega (arith, before, later) in
    let less = mul-le-mul_right m fewer in
    let one : 1 ≤ attempts - was = omega (arith, planned, before) in
    let least = mul-le-mul_right m one in
    (omega (arith, least, some, all), omega (arith, less, all))

-- the owner has begun attempt a of floor f, and its pass has seen the floor as it was then
pub record HasBegun {V : Type 0} (faults : V → ℕ) (ds : ℕ → Draw) (p : Sizes) (f begun_f : Parts V) (a : ℕ) (owner : Pass (Parts V)) : Type 0 where
  pub is : begun_f ≡ begun_as f a
  pub kept : IsKept faults p ds begun_f
  pub own : number_of owner ≡ p.workers
  pub seen : seen_of owner ≡ begun_f.history
  pub mark : mark_seen owner ≡ mark_of begun_f
  pub trail : trail_seen owner ≡ trail_of begun_f

-- it has heard what all posts have seen, and finds a floor
pub record HasFound {V : Type 0} (faults : V → ℕ) (ds : ℕ → Draw) (p : Sizes) (owner heard : Pass (Parts V)) (found : Parts V) : Type 0 where
  pub kept : IsKept faults p ds found
  pub knows : Knows heard owner
  pub same : added_of heard ≡ added_of owner
  pub begins : IsPrefix (seen_of heard) found.history
  pub marks : mark_seen heard ≤ mark_of found
  pub trails : IsPrefix (trail_seen heard) (trail_of found)
  pub counts : times p.workers found.history ≡ added_of heard

-- the floor of an attempt that was begun holds nothing of records yet. What was written before took its blocks
pub kept_begun : {V : Type 0} (faults : V → ℕ) (p : Sizes) (ds : ℕ → Draw) (f begun_f : Parts V) (a : ℕ) → begun_f ≡ begun_as f a → Stands faults p ds begun_f
    → map (λ (entry : Carried). entry.access) begun_f.recorder.log ≡ begun_f.recorder.trace
    → ((record_of : ℕ → Item) → AreItems (item_length p.form) record_of → EachTookItsBlock ds record_of f) → NoneFailed f.recorder.log
    → EachGaveItsBlock ds f → IsKept faults p ds begun_f
kept_begun faults p ds f begun_f a is stands logged took none gave = let goes_on = goes_on_in faults p ds (begun_as f a) (subst (Stands faults p ds) is stands) (λ never. absurd (cc never)) in record {
  stands = stands;
  logged = logged;
  done = subst (KeepsDone faults ds) (sym is) (done_begun faults ds f p a (subst (Stands faults p ds) is stands));
  took = λ record_of items. subst (λ (x : Parts _). EachTookItsBlock ds record_of x) (sym is) (took-begun ds record_of f a (took record_of items));
  failed = subst FailedAtItsEnd (sym is) (none_failed ds (begun_as f a) goes_on refl none);
  reads = subst (GaveUpToItsEnd ds) (sym is) (each_gave ds (begun_as f a) goes_on refl (gave-begun ds f a gave));
}

-- the posts rested, were told, have worked, and were heard
pub record HasCrewed {V C : Type 0} (faults : V → ℕ) (ds : ℕ → Draw) (target_lists : C → ℕ → ℕ → List ℕ) (p : Sizes) (t : Turnstile (Parts V) Roots) (f : Parts V) (owner heard : Pass (Parts V))
    (posts told_posts new_posts : List (Manned (Working C) (Parts V))) : Type 0 where
  pub long : length posts ≡ p.workers
  pub told_long : length told_posts ≡ length posts
  pub new_long : length new_posts ≡ length posts
  pub rests : (k : ℕ) (d : Manned (Working C) (Parts V)) → k < length posts → Rests faults ds target_lists p t f k (get_or posts k d)
  pub told : (k : ℕ) (d : Manned (Working C) (Parts V)) → k < length posts → WasTold t owner (get_or posts k d) (get_or told_posts k d)
  pub worked : (k : ℕ) (d : Manned (Working C) (Parts V)) → k < length told_posts → HasWorked faults ds target_lists p t (get_or told_posts k d) (get_or new_posts k d)
  pub knows : (k : ℕ) (d : Manned (Working C) (Parts V)) → k < length new_posts → Knows heard (get_or new_posts k d).pass

pub first_of : {X : Type 0} (xs : List X) → 0 < length xs → X
first_of [] some = absurd (omega (arith, some))
first_of (x ∷ xs) some = x

module _ {V C : Type 0} (faults : V → ℕ) (ds : ℕ → Draw) (target_lists : C → ℕ → ℕ → List ℕ) (p : Sizes) (t : Turnstile (Parts V) Roots) (f begun_f : Parts V) (a : ℕ)
    (owner : Pass (Parts V)) (b : HasBegun faults ds p f begun_f a owner) where
  in_it : begun_f.attempt ≡ Some a
  in_it = ap (λ (x : Parts V). x.attempt) b.is

  plan_is : f.plan ≡ p
  plan_is = sym (ap (λ (x : Parts V). x.plan) b.is) ∙ b.kept.stands.of.plan

  history_is : begun_f.history ≡ f.history ++ p.workers ∷ []
  history_is = ap (λ (x : Parts V). x.history) b.is ∙ ap (λ (q : Sizes). f.history ++ q.workers ∷ []) plan_is

  begun_now : begun p.workers begun_f.history ≡ a + 1
  begun_now = begun_is faults p ds begun_f b.kept.stands a in_it

  begun_before : begun p.workers f.history ≡ a
  begun_before =
      let one = ap (begun p.workers) history_is ∙ begun-owner p.workers f.history in
      let now = begun_now in
      omega (arith, one, now)

  few : a < p.attempts
  few = let most = few_of in omega (arith, most)
    where
      few_of : a + 1 ≤ p.attempts
      few_of = subst (λ (n : ℕ). n ≤ p.attempts) begun_now (few_begun faults p ds begun_f b.kept.stands a in_it)

  mark_now : mark_seen owner ≡ 8 * (a + 1) + 5
  mark_now =
      let at = mark_on faults p ds begun_f b.kept.stands a in_it None (ap (λ (x : Parts V). x.stop) b.is) in
      let now = begun_now in
      let mark = b.mark in
      omega (arith, mark, at, now)

  -- a post that was told of the attempt
  module _ (k : ℕ) (old new : Manned (Working C) (Parts V)) (rests : Rests faults ds target_lists p t f k old) (told : WasTold t owner old new) where
    met : HasMet t owner old.pass new.pass
    met = told.met

    pub told_history : IsPrefix begun_f.history (seen_of new.pass)
    told_history = subst (λ (l : List ℕ). IsPrefix l (seen_of new.pass)) b.seen met.seen_from

    pub told_mark : mark_seen owner ≤ mark_seen new.pass
    told_mark = let most = met.mark in omega (arith, most)

    pub told_number : number_of new.pass ≡ k
    told_number = met.number ∙ rests.manned.number ∙ rests.number_is

    manned : IsManned ds target_lists t new
    manned = record {
      pass = met.pass;
      outside = met.outside;
      number = met.number ∙ rests.manned.number ∙ sym (ap (λ (w : Working C). w.number) told.worker);
      of = subst (λ (w : Working C). IsOfFloor ds (target_lists w.coins) (opened_of t) w) (sym told.worker) rests.manned.of;
      ready = subst (λ (w : Working C). IsReady w.stage) (sym told.worker) rests.manned.ready;
    }

    tickets : HasTickets p new.pass
    tickets =
        let seen_before = front_few p.workers (seen_of old.pass) f.history rests.seen in
        let seen_now = front_few p.workers begun_f.history (seen_of new.pass) told_history in
        let was = begun_before in
        let is = begun_now in
        let both = tickets_on p.attempts (begun p.workers (seen_of old.pass)) (begun p.workers (seen_of new.pass)) a (most_turns p) (left_of new.pass) few
        (omega (arith, seen_before, was)) (omega (arith, seen_now, is)) (omega arith) (subst (λ (n : ℕ). (p.attempts - begun p.workers (seen_of old.pass)) * most_turns p ≤ n) (sym met.left) rests.tickets) in
        record { one = both.0; all = both.1 }

    pub can_work : CanWork faults ds target_lists p t new
    can_work = record {
      manned = manned;
      placed = subst (λ (w : Working C). IsPlaced faults ds p new.pass w w.attempt) (sym told.worker)
          (still faults ds p t owner old.pass new.pass met old.worker rests.manned.number old.worker.attempt rests.placed);
      tickets = tickets;
    }

    -- what its pass has added
    pub fresh : added_of old.pass ≡ 0 → times k f.history ≡ 0
    fresh none =
        let counted : times k (seen_of new.pass) ≡ added_of new.pass = subst (λ (n : ℕ). times n (seen_of new.pass) ≡ added_of new.pass) told_number new.pass.counted in
        let same = met.added in
        let some = front_few k begun_f.history (seen_of new.pass) told_history in
        let parts : times k begun_f.history ≡ times k f.history + times k (p.workers ∷ []) = ap (times k) history_is ∙ turns_of-append k f.history (p.workers ∷ []) in
        omega (arith, counted, same, none, some, parts)

  -- the floor that the owner finds
  module _ (heard : Pass (Parts V)) (found : Parts V) (r : HasFound faults ds p owner heard found) where
    abbrev front : IsPrefix begun_f.history found.history
    front = front_trans begun_f.history (seen_of heard) found.history (subst (λ (l : List ℕ). IsPrefix l (seen_of heard)) b.seen r.knows.seen) r.begins

    abbrev more : List ℕ
    more = front.0

    begun_found : begun p.workers found.history ≡ a + 1
    begun_found =
        let first : times p.workers (seen_of owner) ≡ added_of owner = subst (λ (n : ℕ). times n (seen_of owner) ≡ added_of owner) b.own owner.counted in
        let there : times p.workers begun_f.history ≡ added_of owner = subst (λ (l : List ℕ). times p.workers l ≡ added_of owner) b.seen first in
        let now = begun_now in
        let counts = r.counts in
        let same = r.same in
        omega (arith, counts, same, there, now)

    none_more : begun p.workers more ≡ 0
    none_more =
        let all : begun p.workers found.history ≡ begun p.workers begun_f.history + begun p.workers more =
        ap (begun p.workers) (sym front.1) ∙ begun_append p.workers begun_f.history more in
        let now = begun_now in
        let is = begun_found in
        omega (arith, all, now, is)

    mark_found : 8 * (a + 1) + 5 ≤ mark_of found
    mark_found = let first = mark_now in let second = r.knows.mark in let third = r.marks in omega (arith, first, second, third)

    some_found : found.attempt ≢ None
    some_found none = let most = idle faults p ds found r.kept.stands none in let is = begun_found in let least = mark_found in absurd (omega (arith, most, is, least))

    pub attempt_found : found.attempt ≡ Some a
    attempt_found =
        let at = working faults ds found found.outcome found.attempt r.kept.stands.state some_found in
        let same : attempt_begun found ≡ begun p.workers found.history - 1 = ap (λ (q : Sizes). begun q.workers found.history - 1) r.kept.stands.of.plan in
        let is = begun_found in
        at.2 ∙ ap Some (omega (arith, same, is))

    turns_found : latest p.workers found.history ≡ more
    turns_found =
        ap (latest p.workers) (sym front.1) ∙ latest_on p.workers begun_f.history more none_more
        ∙ ap (λ (l : List ℕ). l ++ more) (ap (latest p.workers) history_is ∙ latest-owner p.workers f.history)

    made_found : turns_made found ≡ more
    made_found = ap (λ (q : Sizes). latest q.workers found.history) r.kept.stands.of.plan ∙ turns_found

    pub history_found : found.history ≡ (f.history ++ p.workers ∷ []) ++ turns_made found
    history_found = sym front.1 ∙ ap (λ (l : List ℕ). l ++ more) history_is ∙ ap (λ (l : List ℕ). (f.history ++ p.workers ∷ []) ++ l) (sym made_found)

    -- the input stays
    pub input_found : found.outer ≡ f.outer → found.run ≡ f.run → (record_of : ℕ → Item) → IsFaithful p found.recorder.log → HasInput f record_of → HasInput found record_of
    input_found outer run record_of faithful input =
        let trails : IsPrefix (trail_of begun_f) (trail_of found) =
        front_trans (trail_of begun_f) (trail_seen heard) (trail_of found) (subst (λ (l : List (List ℕ)). IsPrefix l (trail_seen heard)) b.trail r.knows.trail) r.trails in
        input_on faults p ds a begun_f found b.kept r.kept in_it attempt_found (outer ∙ sym (ap (λ (x : Parts V). x.outer) b.is)) (run ∙ sym (ap (λ (x : Parts V). x.run) b.is))
        more (sym front.1) none_more trails record_of faithful (subst (λ (x : Parts V). HasInput x record_of) (sym b.is) input)

    pub log_found : Begins f.recorder.log found.recorder.log
    log_found =
        log_begins f.recorder.log found.recorder.log
        (front_trans (trail_of f) (trail_seen heard) (trail_of found)
        (subst (λ (l : List (List ℕ)). IsPrefix l (trail_seen heard)) (b.trail ∙ ap (λ (x : Parts V). trail_of x) b.is) r.knows.trail) r.trails)

    -- a post that has worked
    module _ (k : ℕ) (inside : k < p.workers) (old told_m new : Manned (Working C) (Parts V)) (rests : Rests faults ds target_lists p t f k old) (told : WasTold t owner old told_m)
        (worked : HasWorked faults ds target_lists p t told_m new) (heard_k : Knows heard new.pass) where
      here : IsPrefix (seen_of new.pass) found.history
      here = front_trans (seen_of new.pass) (seen_of heard) found.history heard_k.seen r.begins

      number_new : number_of new.pass ≡ k
      number_new = worked.number ∙ told_number k old told_m rests told

      pub back : IsBack faults ds target_lists p t begun_f.history (mark_seen owner) found k
      back = record {
        old = told_m;
        new = new;
        own = number_new;
        told = told_history k old told_m rests told;
        mark_told = told_mark k old told_m rests told;
        worked = worked;
        found = here;
        mark_found = let first = heard_k.mark in let second = r.marks in omega (arith, first, second);
      }

      -- behind what it was told it has seen its own number
      pub stands_there : 1 ≤ times k (turns_made found)
      stands_there =
          let first = told_history k old told_m rests told in
          let rest = first.0 ++ (worked.between ++ number_of new.pass ∷ []) in
          let long : seen_of new.pass ≡ begun_f.history ++ rest =
          worked.seen ∙ append_assoc (seen_of told_m.pass) worked.between (number_of new.pass ∷ [])
          ∙ ap (λ (l : List ℕ). l ++ (worked.between ++ number_of new.pass ∷ [])) (sym first.1) ∙ append_assoc begun_f.history first.0 (worked.between ++ number_of new.pass ∷ []) in
          let some = front_few k (seen_of new.pass) found.history here in
          let left : times k (seen_of new.pass) ≡ times k begun_f.history + times k rest = ap (times k) long ∙ turns_of-append k begun_f.history rest in
          let right : times k found.history ≡ times k begun_f.history + times k more = ap (times k) (sym front.1) ∙ turns_of-append k begun_f.history more in
          let tail : times k rest ≡ times k first.0 + times k (worked.between ++ number_of new.pass ∷ []) = turns_of-append k first.0 (worked.between ++ number_of new.pass ∷ []) in
          let last : times k (worked.between ++ number_of new.pass ∷ []) ≡ times k worked.between + 1 =
          ap (λ (n : ℕ). times k (worked.between ++ n ∷ [])) number_new ∙ times_push k worked.between in
          subst (λ (l : List ℕ). 1 ≤ times k l) (sym made_found) (omega (arith, some, left, right, tail, last))
        where
          times_push : (n : ℕ) (xs : List ℕ) → times n (xs ++ n ∷ []) ≡ times n xs + 1
          times_push n xs = begun-owner n xs

      begun_seen : begun p.workers (seen_of new.pass) ≡ a + 1
      begun_seen =
          let most = front_few p.workers (seen_of new.pass) found.history here in
          let least = front_few p.workers begun_f.history (seen_of told_m.pass) (told_history k old told_m rests told) in
          let on : begun p.workers (seen_of new.pass) ≡ begun p.workers (seen_of told_m.pass) + begun p.workers (worked.between ++ number_of new.pass ∷ []) =
          ap (begun p.workers) (worked.seen ∙ append_assoc (seen_of told_m.pass) worked.between (number_of new.pass ∷ []))
          ∙ begun_append p.workers (seen_of told_m.pass) (worked.between ++ number_of new.pass ∷ []) in
          let is = begun_found in
          let now = begun_now in
          omega (arith, most, least, on, is, now)

      placed_new : IsPlaced faults ds p new.pass new.worker new.worker.attempt
      placed_new = elim worked.placed [
        | inl placed ↦ placed
        | inr idles ↦
            let first = mark_now in
            let second = told_mark k old told_m rests told in
            let third = worked.mark in
            let is = begun_seen in
            absurd (omega (arith, idles, first, second, third, is))
      ]

      pub rests_again : Rests faults ds target_lists p t found k new
      rests_again = record {
        manned = worked.manned;
        number_is = sym worked.manned.number ∙ number_new;
        placed = placed_new;
        tickets =
            let is = begun_seen in
            let same : (p.attempts - (begun p.workers (seen_of new.pass) - 1)) - 1 ≡ p.attempts - begun p.workers (seen_of new.pass) = omega (arith, is) in
            subst (λ (n : ℕ). n * most_turns p ≤ left_of new.pass) same worked.left;
        seen = here;
      }

    -- all posts together
    module _ (posts told_posts new_posts : List (Manned (Working C) (Parts V))) (crewed : HasCrewed faults ds target_lists p t f owner heard posts told_posts new_posts)
        (some : 1 ≤ p.workers) (named : All (λ entry. entry < p.workers + 1) found.history) where
      one_of : p.workers ≡ length posts → Manned (Working C) (Parts V)
      one_of long = first_of posts (omega (arith, some, long))

      module _ (k : ℕ) (inside : k < p.workers) (d : Manned (Working C) (Parts V)) where
        in_posts : k < length posts
        in_posts = let long = crewed.long in omega (arith, long, inside)

        abbrev old : Manned (Working C) (Parts V)
        old = get_or posts k d

        abbrev told_m : Manned (Working C) (Parts V)
        told_m = get_or told_posts k d

        abbrev new : Manned (Working C) (Parts V)
        new = get_or new_posts k d

        worked_here : HasWorked faults ds target_lists p t told_m new
        worked_here = crewed.worked k d (let long = crewed.told_long in let here = in_posts in omega (arith, long, here))

        knows_here : Knows heard new.pass
        knows_here = crewed.knows k d (let long = crewed.new_long in let here = in_posts in omega (arith, long, here))

        back_at : IsBack faults ds target_lists p t begun_f.history (mark_seen owner) found k
        back_at = back k inside old told_m new (crewed.rests k d in_posts) (crewed.told k d in_posts) worked_here knows_here

        stood_at : 1 ≤ times k (turns_made found)
        stood_at = stands_there k inside old told_m new (crewed.rests k d in_posts) (crewed.told k d in_posts) worked_here knows_here

        pub rests_at : Rests faults ds target_lists p t found k new
        rests_at = rests_again k inside old told_m new (crewed.rests k d in_posts) (crewed.told k d in_posts) worked_here knows_here

      each : (k : ℕ) → k < p.workers → IsBack faults ds target_lists p t begun_f.history (mark_seen owner) found k
      each k inside = back_at k inside (one_of (sym crewed.long))

      stood : (k : ℕ) → k < p.workers → 1 ≤ times k (turns_made found)
      stood k inside = stood_at k inside (one_of (sym crewed.long))

      same_begun : begun p.workers begun_f.history ≡ begun p.workers found.history
      same_begun = begun_now ∙ sym begun_found

      at_work : 8 * begun p.workers begun_f.history + 5 ≤ mark_seen owner
      at_work = let now = begun_now in let is = mark_now in omega (arith, now, is)

      has_done : (v : ℕ) → v < p.workers → HasDone p found v
      has_done v inside = back_has_done faults ds target_lists p t begun_f.history (mark_seen owner) found v same_begun at_work (each v inside)

      pub written : found.stop ≡ None → found.counted.writes ≡ found.plan.b * found.plan.b
      written runs = all_written faults p ds found r.kept.stands some_found runs some named has_done

      done : (s : Option Stop) → found.stop ≡ s → AreDone p s (turns_made found)
      done None runs = λ v inside.
          subst (λ (q : Sizes). FoundNone p.b (latest q.workers found.history) v) (sym r.kept.stands.of.plan)
          (last_found faults p ds found r.kept.stands some_found runs v (has_done v inside))
      done (Some s) stopped = tt

      pub turns_of_all : AreTurnsOfAll p found.stop (turns_made found)
      turns_of_all = record {
        workers = subst (λ (q : Sizes). All (λ v. v < p.workers) (latest q.workers found.history)) (sym r.kept.stands.of.plan) (workers_turns p.workers found.history named);
        each = stood;
        done = done found.stop refl;
      }
