-- Where each worker found that no bucket is left, all chunks are written.
use Rattle.std.proofs.Common.{◌≡◌, ◌≢◌, ℕ, ◌+◌, ◌*◌, ◌<◌, ◌≤◌, List, [], ◌∷◌, ◌++◌, length, All, None, Some, refl, sym, ap, ◌∙◌, subst, arith, inl, inr, append_assoc, length-append}
use Rattle.std.specs.Prelude.{slice_index}
use Rattle.std.proofs.lemmas.Bool.{cases_eq}
use Rattle.std.proofs.lemmas.List.Elements.{All-append, All-pop}
use Rattle.esa_laws.proofs.DoneLaws.{done-written}
use Rattle.esa_laws.proofs.FinishLaws.{All-nil, All-one, AllBelow}
use Rattle.esa_laws.proofs.HistoryLaws.{latest-owner, latest-worker}
use Rattle.esa_laws.proofs.RoundLaws.{by_pushes}
use Rattle.esa_laws.proofs.TurnLaws.{event_at-append, worker-append}
use Rattle.esa_params.specs.Sizes.{Sizes}
use Rattle.esa_spec.specs.Draws.{Draw}
use Rattle.esa_spec.specs.Histories.{begun, latest}
use Rattle.esa_spec.specs.Turns.{event_at, writes}
use Rattle.esa_spec.specs.declared.event.Event.TheVariants.{Done}
use Rattle.esa_floor.specs.Parts.{Parts}
use Rattle.esa_floor.specs.Standing.{IsAtWork, IsSpread, Stands, attempt_begun, turns_made}
use Rattle.esa_floor.specs.declared.turn.Turn.{Turn}
use Rattle.esa_floor.specs.declared.turn.Turn.TheVariants as turn
use Rattle.esa_floor.proofs.Resting.{working}
use Rattle.esa_floor.proofs.Turning.{spread_is}
use Rattle.esa_turnstile.specs.Passes.{mark_of as mark_seen, number_of, seen_of}
use Rattle.esa_turnstile.specs.declared.turnstile.Turnstile.{Turnstile}
use Rattle.esa_workers.specs.Owners.{HasDone, IsBack}
use Rattle.esa_workers.specs.Works.{FoundNone, Leaves}
use Rattle.esa_workers.proofs.Listing.{begun_append, latest_on}
use Rattle.esa_workers.proofs.Turning.{mark_on}

-- the latest turns are those of workers
pub workers_turns : (w : ℕ) (l : List ℕ) → All (λ n. n < w + 1) l → AllBelow w (latest w l)
workers_turns w = by_pushes (λ (l : List ℕ). All (λ n. n < w + 1) l → AllBelow w (latest w l))
    (λ all. All-nil w)
    (λ l y before all.
    let parts = All-pop (λ (n : ℕ). n < w + 1) (l ++ y ∷ []) l (Some y) refl all in
    elim (cases_eq y w) [
      | inl same ↦
          let none : latest w (l ++ y ∷ []) ≡ [] = ap (λ (z : ℕ). latest w (l ++ z ∷ [])) same ∙ latest-owner w l in
          subst (AllBelow w) (sym none) (All-nil w)
      | inr other ↦
          let less : y < w = let few = parts.1 in omega (arith, few, other) in
          subst (AllBelow w) (sym (latest-worker w l y other)) (All-append (λ (v : ℕ). v < w) (latest w l) (y ∷ []) (before parts.0) (All-one w y less))
    ])

module _ {V : Type 0} (faults : V → ℕ) (p : Sizes) (ds : ℕ → Draw) (f : Parts V) (stands : Stands faults p ds f) (some : f.attempt ≢ None) (runs : f.stop ≡ None) where
  at : (f.outcome ≡ None) × IsAtWork faults ds f (attempt_begun f) × (f.attempt ≡ Some (attempt_begun f))
  at = working faults ds f f.outcome f.attempt stands.state some

  abbrev h : List ℕ
  h = latest p.workers f.history

  -- the turn of a worker that found no bucket left
  module _ (v : ℕ) (done : HasDone p f v) where
    abbrev more : List ℕ
    more = done.begins.0

    abbrev then : List ℕ
    then = latest p.workers done.seen

    turns : h ≡ then ++ more
    turns =
        let all : begun p.workers f.history ≡ begun p.workers done.seen + begun p.workers more =
        ap (begun p.workers) (sym done.begins.1) ∙ begun_append p.workers done.seen more in
        let none : begun p.workers more ≡ 0 = let same = done.attempt in omega (arith, all, same) in
        ap (latest p.workers) (sym done.begins.1) ∙ latest_on p.workers done.seen more none

    found_in : FoundNone p.b then v → FoundNone p.b h v
    found_in found = subst (λ (l : List ℕ). FoundNone p.b l v) (sym turns) (record {
      place = found.place;
      inside = let long = length-append then more in let inside = found.inside in omega (arith, long, inside);
      own = worker-append p.b then more found.place found.inside ∙ found.own;
      done = event_at-append p.b then more found.place found.inside ∙ found.done;
    })

    stopped : 8 * begun p.workers done.seen + 6 ≤ done.mark → ⊥
    stopped late =
        let here = mark_on faults p ds f stands (attempt_begun f) at.2 None runs in
        let same = done.attempt in
        let below = done.below in
        absurd (omega (arith, late, here, same, below))

    found_by : (t : Turn) → Leaves p done.seen done.mark v t → FoundNone p.b h v
    found_by turn.Done (inl found) = found_in found
    found_by turn.Done (inr idle) = let working = done.at_work in absurd (omega (arith, idle, working))
    found_by (turn.Stopped s) late = absurd (stopped late)
    found_by (turn.Claimed j) never = absurd never
    found_by (turn.Read j) never = absurd never
    found_by (turn.Exchanged j) never = absurd never
    found_by (turn.Wrote j i) never = absurd never
    found_by turn.Idle never = absurd never

    pub last_found : FoundNone p.b h v
    last_found = found_by done.answer done.leaves

    found : (x : ℕ) × (x < length h) × (slice_index h x ≡ v) × (event_at p.b h x ≡ Done)
    found = (last_found.place, last_found.inside, last_found.own, last_found.done)

  spread : IsSpread f.plan (ds (attempt_begun f)) (turns_made f) f.stash f.counts f.counted
  spread = spread_is faults ds f (attempt_begun f) (f.plan.workers + 1) at.1 (λ same. absurd (omega (arith, same))) runs

  pub all_written : 1 ≤ p.workers → All (λ n. n < p.workers + 1) f.history → ((v : ℕ) → v < p.workers → HasDone p f v) → f.counted.writes ≡ f.plan.b * f.plan.b
  all_written workers named each =
      let written = done-written p.b p.workers h workers (workers_turns p.workers f.history named) (λ v v_in. found v (each v v_in)) in
      spread.writes ∙ ap (λ (q : Sizes). writes q.b (latest q.workers f.history)) stands.of.plan
      ∙ written ∙ sym (ap (λ (q : Sizes). q.b * q.b) stands.of.plan)

-- a worker that is back has worked in the attempt that was begun
pub back_has_done : {V C O : Type 0} (faults : V → ℕ) (ds : ℕ → Draw) (target_lists : C → ℕ → ℕ → List ℕ) (p : Sizes) (t : Turnstile (Parts V) O) (entries : List ℕ) (mark : ℕ) (f : Parts V) (v : ℕ)
    → begun p.workers entries ≡ begun p.workers f.history → 8 * begun p.workers entries + 5 ≤ mark
    → IsBack faults ds target_lists p t entries mark f v → HasDone p f v
back_has_done faults ds target_lists p t entries mark f v same at_work back =
    let worked = back.worked in
    let seen = seen_of back.new.pass in
    let later = worked.between ++ number_of back.new.pass ∷ [] in
    let first : begun p.workers (seen_of back.old.pass) ≡ begun p.workers entries + begun p.workers back.told.0 =
    ap (begun p.workers) (sym back.told.1) ∙ begun_append p.workers entries back.told.0 in
    let second : begun p.workers seen ≡ begun p.workers (seen_of back.old.pass) + begun p.workers later =
    ap (begun p.workers) (worked.seen ∙ append_assoc (seen_of back.old.pass) worked.between (number_of back.new.pass ∷ []))
    ∙ begun_append p.workers (seen_of back.old.pass) later in
    let third : begun p.workers f.history ≡ begun p.workers seen + begun p.workers back.found.0 =
    ap (begun p.workers) (sym back.found.1) ∙ begun_append p.workers seen back.found.0 in
    let is : begun p.workers seen ≡ begun p.workers f.history = omega (arith, first, second, third, same) in
    let told = back.mark_told in
    let kept = worked.mark in
    record {
      seen = seen;
      mark = mark_seen back.new.pass;
      begins = back.found;
      attempt = is;
      at_work = omega (arith, is, same, at_work, told, kept);
      below = back.mark_found;
      answer = worked.answer;
      leaves = subst (λ (n : ℕ). Leaves p seen (mark_seen back.new.pass) n worked.answer) back.own worked.leaves;
    }
