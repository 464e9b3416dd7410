-- Where a worker stands in what its pass has seen, on the floor that it finds and after its turn.
use Rattle.std.proofs.Common.{◌≡◌, ◌≢◌, ℕ, ◌+◌, ◌*◌, ◌<◌, ◌≤◌, min, List, [], ◌++◌, Option, Some, None, refl, sym, ap, ◌∙◌, subst, arith, inl, inr, ◌⊎◌, append-nil, append_assoc}
use mathlib.Core.List.{IsPrefix}
use Rattle.std.proofs.lemmas.Bool.{cases_lt}
use Rattle.esa_laws.proofs.FinishLaws.{turns_of-append}
use Rattle.esa_laws.proofs.GrownLaws.{held-kept, phase-kept}
use Rattle.esa_params.specs.Sizes.{Sizes}
use Rattle.esa_spec.specs.Draws.{Draw}
use Rattle.esa_spec.specs.Histories.{begun, latest}
use Rattle.esa_spec.specs.Turns.{turns_of}
use Rattle.esa_floor.specs.Marks.{mark_of, roots_of}
use Rattle.esa_device.specs.Logs.{Carried}
use Rattle.esa_spec.specs.Fronts.{Begins}
use Rattle.esa_floor.specs.Parts.{Parts, with_entry}
use Rattle.esa_floor.specs.Standing.{Stands, turns_made}
use Rattle.esa_floor.specs.Trails.{IsKept, trail_of}
use Rattle.esa_floor.specs.Workers.{IsInRound, IsOfFloor, WorkerStands}
use Rattle.esa_floor.specs.Working.{Working}
use Rattle.esa_floor.specs.declared.floor.Roots.{Roots}
use Rattle.esa_floor.specs.declared.turn.Stop.{Stop}
use Rattle.esa_floor.proofs.Resting.{none_or_some}
use Rattle.esa_floor.proofs.Trailing.{texts_begin}
use Rattle.esa_crew.specs.Posts.{KeepsRecords}
use Rattle.esa_turnstile.specs.Entries.{times}
use Rattle.esa_turnstile.specs.Passes.{added_of, mark_of as mark_seen, seen_of, trail_of as trail_seen}
use Rattle.esa_turnstile.specs.declared.pass.Pass.{Pass}
use Rattle.esa_workers.specs.Posts.{Finds, IsPlaced, IsSameWorker, StandsIn, TookAlong}
use Rattle.esa_workers.specs.Works.{IsIdle}
use Rattle.esa_workers.proofs.Later.{keeps_on}
use Rattle.esa_workers.proofs.Listing.{begun_append, latest_few, latest_on, latest_sub}
use Rattle.esa_workers.proofs.Meeting.{front_refl, front_trans}
use Rattle.esa_workers.proofs.Turning.{begun_is, mark_on, there}

-- a worker that had no turn since is in its round
round_on : {C : Type 0} (b : ℕ) (h more : List ℕ) (w : Working C) → turns_of w.number more ≡ 0 → IsInRound b h w → IsInRound b (h ++ more) w
round_on b h more w none round = record {
  phase = round.phase ∙ sym (phase-kept b h more w.number none);
  bucket = λ later.
      round.bucket later
      ∙ ap (λ (k : ℕ). min k b) (sym (held-kept b h more w.number none (λ zero. later (round.phase ∙ zero))));
  read = round.read;
  exchanged = round.exchanged;
}

-- what a worker finds
module _ {V C : Type 0} (faults : V → ℕ) (p : Sizes) (ds : ℕ → Draw) (f : Parts V) (kept : IsKept faults p ds f) (pass : Pass (Parts V)) (w : Working C)
    (begins : IsPrefix (seen_of pass) f.history) (own : times w.number f.history ≡ added_of pass) (counted : times w.number (seen_of pass) ≡ added_of pass)
    (mark : mark_seen pass ≤ mark_of f) (trail : IsPrefix (trail_seen pass) (trail_of f)) (outer : w.outer ≡ f.outer) (run : w.run ≡ f.run) where
  abbrev stands : Stands faults p ds f
  stands = kept.stands

  since : turns_of w.number begins.0 ≡ 0
  since =
      let all : turns_of w.number f.history ≡ turns_of w.number (seen_of pass) + turns_of w.number begins.0 =
      ap (turns_of w.number) (sym begins.1) ∙ turns_of-append w.number (seen_of pass) begins.0 in
      omega (arith, all, own, counted)

  module _ (c : ℕ) (s : StandsIn faults ds p pass w c) where
    abbrev more : List ℕ
    more = s.after ++ begins.0

    none_own : turns_of w.number more ≡ 0
    none_own = let both = turns_of-append w.number s.after begins.0 in let first = s.others in let second = since in omega (arith, both, first, second)

    history_is : f.history ≡ s.before ++ more
    history_is = sym begins.1 ∙ ap (λ (l : List ℕ). l ++ begins.0) s.parts ∙ append_assoc s.before s.after begins.0

    begun_in : begun p.workers f.history ≡ (c + 1) + begun p.workers more
    begun_in = ap (begun p.workers) history_is ∙ begun_append p.workers s.before more ∙ ap (λ (k : ℕ). k + begun p.workers more) s.attempt

    -- in the floor's attempt
    module _ (in_it : f.attempt ≡ Some c) where
      none : begun p.workers more ≡ 0
      none = let is = begun_is faults p ds f stands c in_it in let parts = begun_in in omega (arith, is, parts)

      stopped : 8 * (c + 1) + 6 ≤ mark_seen pass → f.stop ≢ None
      stopped late runs =
          let here = mark_on faults p ds f stands c in_it None runs in
          let is = begun_is faults p ds f stands c in_it in
          absurd (omega (arith, late, mark, here, is))

      same_round : f.stop ≡ None → IsInRound f.plan.b (turns_made f) w
      same_round runs =
          let turns : latest p.workers f.history ≡ latest p.workers s.before ++ more = ap (latest p.workers) history_is ∙ latest_on p.workers s.before more none in
          subst (λ (q : Sizes). IsInRound q.b (latest q.workers f.history) w) (sym stands.of.plan)
          (subst (λ (l : List ℕ). IsInRound p.b l w) (sym turns)
          (elim s.round [
            | inl both ↦ round_on p.b (latest p.workers s.before) more w none_own both.0
            | inr late ↦ absurd (stopped late runs)
          ]))

      held : f.stop ≡ None → KeepsRecords ds f w
      held runs = elim s.round [
        | inl both ↦
            let took = both.1 in
            keeps_on faults p ds c took.floor f took.kept kept took.attempt in_it (sym outer ∙ took.outer) (sym run ∙ took.run) more
            (history_is ∙ ap (λ (l : List ℕ). l ++ more) (sym took.history)) none (front_trans (trail_of took.floor) (trail_seen pass) (trail_of f) took.told trail) w took.runs took.keeps
        | inr late ↦ absurd (stopped late runs)
      ]

      same_keeps : KeepsRecords ds f w
      same_keeps = record {
        records = λ record_of input some runs. (held runs).records record_of input some runs;
        chunks = λ record_of input some runs. (held runs).chunks record_of input some runs;
      }

    -- in an earlier one
    no_turn : (a : ℕ) → f.attempt ≡ Some a → c ≢ a → turns_of w.number (turns_made f) ≡ 0
    no_turn a in_it other =
        let some : 1 ≤ begun p.workers more = elim (cases_lt 0 (begun p.workers more)) [
          | inl some ↦ some
          | inr none ↦ absurd (other (let is = begun_is faults p ds f stands a in_it in let parts = begun_in in omega (arith, is, parts, none)))
        ] in
        let few = latest_few p.workers w.number s.before more some in
        let zero : turns_of w.number (latest p.workers f.history) ≡ 0 =
        let is = ap (λ (l : List ℕ). turns_of w.number (latest p.workers l)) history_is in let none = none_own in omega (arith, few, is, none) in
        ap (λ (q : Sizes). turns_of w.number (latest q.workers f.history)) stands.of.plan ∙ zero

  found_by : (a : ℕ) → f.attempt ≡ Some a → (o : Option ℕ) → w.attempt ≡ o → IsPlaced faults ds p pass w o → Finds ds f w a
  found_by a in_it None is placed = record {
    same = λ now. absurd (cc);
    other = λ now.
        let few = latest_sub p.workers w.number f.history in
        ap (λ (q : Sizes). turns_of w.number (latest q.workers f.history)) stands.of.plan ∙ omega (arith, few, own, placed);
  }
  found_by a in_it (Some c) is placed = record {
    same = λ now.
        let in_c : f.attempt ≡ Some c = in_it ∙ sym now ∙ is in
        (record { attempt = is ∙ sym in_c; round = same_round c placed in_c }, same_keeps c placed in_c);
    other = λ now. no_turn c placed a in_it (λ same. now (is ∙ ap Some same));
  }

  pub found : IsPlaced faults ds p pass w w.attempt → (a : ℕ) → f.attempt ≡ Some a → Finds ds f w a
  found placed a in_it = found_by a in_it w.attempt refl placed

-- where a worker that stands is after its turn
module _ {V C : Type 0} (faults : V → ℕ) (p : Sizes) (ds : ℕ → Draw) (f : Parts V) (kept : IsKept faults p ds f) (pass : Pass (Parts V)) (w : Working C)
    (seen : seen_of pass ≡ f.history) (mark : mark_seen pass ≡ mark_of f) (trail : trail_seen pass ≡ trail_of f) (outer : w.outer ≡ f.outer) (run : w.run ≡ f.run)
    (keeps : KeepsRecords ds f w) where
  stood_in : (a : ℕ) → f.attempt ≡ Some a → (s : Option Stop) → f.stop ≡ s → WorkerStands f w → StandsIn faults ds p pass w a
  stood_in a in_it s is worker = record {
    before = f.history;
    after = [];
    parts = seen ∙ sym (append-nil f.history);
    others = refl;
    attempt = begun_is faults p ds f kept.stands a in_it;
    round = by s is;
  }
    where
      by : (s : Option Stop) → f.stop ≡ s → (IsInRound p.b (latest p.workers f.history) w × TookAlong faults ds p f.history (trail_seen pass) w a) ⊎ (8 * (a + 1) + 6 ≤ mark_seen pass)
      by None runs = inl (
        subst (λ (q : Sizes). IsInRound q.b (latest q.workers f.history) w) kept.stands.of.plan (worker.round runs),
        record {
          floor = f;
          kept = kept;
          attempt = in_it;
          runs = runs;
          history = refl;
          told = subst (IsPrefix (trail_of f)) (sym trail) (front_refl (trail_of f));
          outer = outer;
          run = run;
          keeps = keeps;
        },
      )
      by (Some s) stopped =
          let here = mark_on faults p ds f kept.stands a in_it (Some s) stopped in
          let is = begun_is faults p ds f kept.stands a in_it in
          inr (omega (arith, here, is, mark))

  pub stood : (a : ℕ) → f.attempt ≡ Some a → WorkerStands f w → IsPlaced faults ds p pass w w.attempt
  stood a in_it worker = subst (IsPlaced faults ds p pass w) (sym (worker.attempt ∙ in_it)) (stood_in a in_it f.stop refl worker)

-- a worker of a floor is of another with the same roots, and so is one that is the same
pub of_on : {V C : Type 0} (f g : Parts V) → roots_of g ≡ roots_of f → (ds : ℕ → Draw) (target_list : ℕ → ℕ → List ℕ) (w : Working C)
    → IsOfFloor ds target_list f w → IsOfFloor ds target_list g w
of_on f g origin ds target_list w of = record {
  number = subst (λ (r : Roots). w.number < r.plan.workers) (sym origin) of.number;
  plan = subst (λ (r : Roots). w.buffers.plan ≡ r.plan) (sym origin) of.plan;
  outer = subst (λ (r : Roots). w.outer ≡ r.outer) (sym origin) of.outer;
  run = subst (λ (r : Roots). w.run ≡ r.run) (sym origin) of.run;
  draws = subst (λ (r : Roots). (a j : ℕ) → a < r.plan.attempts → j < r.plan.b → target_list a j ≡ (ds a).targets j) (sym origin) of.draws;
}

pub of_same : {V C : Type 0} (f : Parts V) (ds : ℕ → Draw) (target_lists : C → ℕ → ℕ → List ℕ) (w new : Working C)
    → IsSameWorker w new → IsOfFloor ds (target_lists w.coins) f w → IsOfFloor ds (target_lists new.coins) f new
of_same {C = C} f ds target_lists w new same of = record {
  number = subst (λ (n : ℕ). n < f.plan.workers) (sym same.number) of.number;
  plan = same.plan ∙ of.plan;
  outer = same.outer ∙ of.outer;
  run = same.run ∙ of.run;
  draws = subst (λ (co : C). (a j : ℕ) → a < f.plan.attempts → j < f.plan.b → target_lists co a j ≡ (ds a).targets j) (sym same.coins) of.draws;
}

-- private work leaves a worker the same, and in its round
pub same_on : {C : Type 0} (w v new : Working C) → IsSameWorker w v
    → new ≡ record v { stage = new.stage; buffers = record v.buffers { items = new.buffers.items; targets = new.buffers.targets; blocks = new.buffers.blocks } }
    → IsSameWorker w new
same_on w v new same kept = record {
  number = ap (λ (x : Working _). x.number) kept ∙ same.number;
  coins = ap (λ (x : Working _). x.coins) kept ∙ same.coins;
  plan = ap (λ (x : Working _). x.buffers.plan) kept ∙ same.plan;
  outer = ap (λ (x : Working _). x.outer) kept ∙ same.outer;
  run = ap (λ (x : Working _). x.run) kept ∙ same.run;
}

-- private work leaves what a worker holds
keeps_prepared : {V C : Type 0} (ds : ℕ → Draw) (f : Parts V) (v new : Working C)
    → new ≡ record v { stage = new.stage; buffers = record v.buffers { items = new.buffers.items; targets = new.buffers.targets; blocks = new.buffers.blocks } }
    → KeepsRecords ds f v → KeepsRecords ds f new
keeps_prepared ds f v new kept keeps = subst (λ (w : Working _). KeepsRecords ds f w) (sym kept) (record { records = keeps.records; chunks = keeps.chunks })

pub placed_after : {V C : Type 0} (faults : V → ℕ) (p : Sizes) (ds : ℕ → Draw) (f : Parts V) → IsKept faults p ds f → (pass : Pass (Parts V)) (v new : Working C)
    → seen_of pass ≡ f.history → mark_seen pass ≡ mark_of f → trail_seen pass ≡ trail_of f → new.outer ≡ f.outer → new.run ≡ f.run
    → new ≡ record v { stage = new.stage; buffers = record v.buffers { items = new.buffers.items; targets = new.buffers.targets; blocks = new.buffers.blocks } }
    → ((b : ℕ) (h : List ℕ) → IsInRound b h v → IsInRound b h new) → KeepsRecords ds f v
    → (f.attempt ≢ None → WorkerStands f v) → (f.attempt ≡ None → IsIdle p f.history (mark_of f))
    → IsPlaced faults ds p pass new new.attempt ⊎ IsIdle p (seen_of pass) (mark_seen pass)
placed_after faults p ds f whole pass v new seen mark trail outer run kept rounds keeps worker idle = by f.attempt refl
  where
    by : (o : Option ℕ) → f.attempt ≡ o → IsPlaced faults ds p pass new new.attempt ⊎ IsIdle p (seen_of pass) (mark_seen pass)
    by None none = inr (subst (λ (m : ℕ). m ≤ 8 * begun p.workers (seen_of pass) + 4) (sym mark)
        (subst (λ (l : List ℕ). mark_of f ≤ 8 * begun p.workers l + 4) (sym seen) (idle none)))
    by (Some a) in_it =
        let was = worker (λ none. there a (sym in_it ∙ none)) in
        inl (stood faults p ds f whole pass new seen mark trail outer run (keeps_prepared ds f v new kept keeps) a in_it (record {
          attempt = ap (λ (x : Working _). x.attempt) kept ∙ was.attempt;
          round = λ runs. rounds f.plan.b (turns_made f) (was.round runs);
        }))

-- a turn only adds to the log
pub log_turned : {V : Type 0} (f new : Parts V) (n : ℕ) (more : List Carried) → (f.attempt ≢ None → f.stop ≡ None → new.recorder.log ≡ f.recorder.log ++ more)
    → (f.stop ≢ None → new ≡ with_entry f n) → (f.attempt ≡ None → new ≡ with_entry f n) → IsPrefix (trail_of f) (trail_of new)
log_turned f new n more noted later idle = texts_begin f.recorder.log new.recorder.log (by f.attempt f.stop refl refl)
  where
    stays : new ≡ with_entry f n → Begins f.recorder.log new.recorder.log
    stays same = ([], ap (λ (x : Parts _). x.recorder.log) same ∙ sym (append-nil f.recorder.log))

    by : (o : Option ℕ) (s : Option Stop) → f.attempt ≡ o → f.stop ≡ s → Begins f.recorder.log new.recorder.log
    by None s none is = stays (idle none)
    by (Some a) (Some s) some is = stays (later (λ goes. none_or_some s (sym is ∙ goes)))
    by (Some a) None some goes = (more, noted (λ none. there a (sym some ∙ none)) goes)
