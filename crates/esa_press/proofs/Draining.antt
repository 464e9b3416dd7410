-- The targets so far are drained.
use Rattle.std.proofs.Common.{◌≡◌, ℕ, zero, suc, ◌+◌, ◌-◌, ◌*◌, ◌<◌, ◌≤◌, Bool, true, false, cond, List, [], ◌∷◌, ◌++◌, length, get_or, set, map, All, Option, Some, None, Ok, Err, refl, sym, ap, ◌∙◌, subst, arith, append-nil, append_assoc, inl, inr, get_or-set_other, get_or-set_same}
use Rattle.std.specs.Prelude.{find}
use Rattle.std.specs.Option.{option_or}
use Rattle.std.proofs.lemmas.Bool.{cases_lt, lt-ltb, le-ltb}
use Rattle.std.proofs.lemmas.List.Elements.{All-nil}
use Rattle.std.proofs.lemmas.List.Folds.{find-append}
use Rattle.std.proofs.lemmas.List.FromFn.{map-range_with_len_more}
use Rattle.std.specs.List.{range_with_len}
use Rattle.esa_device.specs.Logs.{Took}
use Rattle.esa_device.specs.Recording.{Recorded}
use Rattle.esa_device.proofs.LogLaws.{took-elsewhere, took-written}
use Rattle.esa_floor.specs.Parts.{Counted, Parts}
use Rattle.esa_floor.specs.Standing.{IsSpread}
use Rattle.esa_laws.proofs.TotalLaws.{all-exchanged, once}
use Rattle.esa_outside.specs.Cause.{Rose}
use Rattle.esa_spec.specs.Draws.{Draw, IsDrawn}
use Rattle.esa_spec.specs.Lines.{backlog}
use Rattle.esa_spec.specs.Turns.{order, writes}
use Rattle.esa_spec.specs.Verdicts.{is_left, left}
use Rattle.esa_vault.specs.declared.fault.VaultFault.TheVariants.{Device, Tampered}
use Rattle.esa_laws.proofs.Ranges.{below-add, find-below-suc}
use Rattle.esa_params.specs.Sizes.{Sizes, below}
use Rattle.esa_params.specs.Slots.{at, number_of}
use Rattle.esa_params.specs.declared.slot.Access.{Access}
use Rattle.esa_params.specs.declared.slot.Op.{Op}
use Rattle.esa_params.specs.declared.slot.Region.TheVariants.{Tail}
use Rattle.esa_device.specs.Logs.{Carried}
use Rattle.esa_report.specs.declared.item.Item.{Item}
use Rattle.esa_spec.specs.Traces.{written_tail}
use Rattle.esa_stash.specs.Stash.{Held, queue_at, without}
use Rattle.esa_vault.specs.Traffic.{IsWritten}
use Rattle.esa_press.specs.Drained.{AreDrained, DrainAnswer, DrainEnd, FailsAt, failed_tail, stored_tail, tail_block}
use Rattle.esa_press.specs.declared.halt.Halt.{Halt}
use Rattle.esa_press.specs.declared.halt.Halt.TheVariants.{Verdict, Fault}
use Rattle.esa_press.specs.Stepped.{AreCounted}
use Rattle.esa_press.specs.Records.{sealed_records}

-- none passes, and the first that does
pub none_passes : (f : ℕ → Bool) (n : ℕ) → ((x : ℕ) → x < n → f x ≡ false) → find f (below n) ≡ None
none_passes f zero fails = refl
none_passes f (suc n) fails =
    find-below-suc f n
    ∙ ap (λ (o : Option ℕ). option_or o (cond (f n) (Some n) None)) (none_passes f n (λ x x_in. fails x (omega arith)))
    ∙ ap (λ (c : Bool). cond {A = Option ℕ} c (Some n) None) (fails n (omega arith))

pub first_passes : (f : ℕ → Bool) (n m : ℕ) → n < m → ((x : ℕ) → x < n → f x ≡ false) → f n ≡ true → find f (below m) ≡ Some n
first_passes f n m inside fails passes =
    let rest : m ≡ n + suc (m - suc n) = omega arith in
    ap (λ (k : ℕ). find f (below k)) rest
    ∙ ap (find f) (below-add n (suc (m - suc n)))
    ∙ find-append f (below n) (range_with_len n (suc (m - suc n)))
    ∙ ap (λ (o : Option ℕ). option_or o (find f (range_with_len n (suc (m - suc n))))) (none_passes f n fails)
    ∙ ap (λ (c : Bool). cond c (Some n) (find f (range_with_len (n + 1) (m - suc n)))) passes

-- a fact of all items of all queues is one of those of each
pub all_queued : (P : Item → Type 0) (queues : List (List Item)) (i : ℕ) → All (All P) queues → All P (get_or queues i [])
all_queued P [] i all = All-nil P
all_queued P (queue ∷ queues) zero all = all 0 queue (omega arith)
all_queued P (queue ∷ queues) (suc i) all = all_queued P queues i (λ k d inside. all (suc k) d (omega arith))

-- nothing is drained yet
pub drained_none : {V : Type 0} (faults : V → ℕ) (a : ℕ) (f : Parts V) → AreDrained faults a 0 f f
drained_none faults a f = record {
  few = λ i i_in. absurd (omega arith);
  others = refl;
  empty = λ i i_in. absurd (omega arith);
  waits = λ i behind. refl;
  trace = sym (append-nil f.recorder.trace);
  log = sym (append-nil f.recorder.log);
  room = omega arith;
  ready = refl;
  calm = refl;
  stored = λ i i_in. absurd (omega arith);
}

-- a queue that was emptied is empty, be it there or not
emptied_at : (queues : List (List Item)) (t : ℕ) → get_or (set queues t []) t [] ≡ []
emptied_at [] t = refl
emptied_at (queue ∷ queues) zero = refl
emptied_at (queue ∷ queues) (suc t) = emptied_at queues t

-- where no queue is longer than a tail, none is left too long
pub none_left : {V : Type 0} (old : Parts V) (d : Draw) (o : List ℕ) → ((i : ℕ) → i < old.plan.b → length (queue_at old.stash i) ≡ backlog old.plan d o old.plan.b i)
    → (n i : ℕ) → n ≤ old.plan.b → i < n → ((j : ℕ) → j < n → length (queue_at old.stash j) ≤ old.plan.k) → is_left old.plan d o i ≡ false
none_left old d o lengths n i within i_in few =
    le-ltb old.plan.k (backlog old.plan d o old.plan.b i) (subst (λ (m : ℕ). m ≤ old.plan.k) (lengths i (omega arith)) (few i i_in))

module _ {V : Type 0} (told : V → Option (List (List ℕ))) (faults : V → ℕ) (last_call : V → Option (Op × ℕ)) (a t : ℕ) (old : Parts V) where
  -- when the write of a tail more is noted, also one that failed, and its queue is emptied
  module _ (r : Recorded V) (s : Held) (before : AreDrained faults a t old (record old { recorder = r; stash = s })) where
    still_stored : (log : List Carried) (bytes : Option (List ℕ)) → log ≡ r.log ++ record { access = written_tail old.plan a t; bytes = bytes } ∷ []
        → (i : ℕ) → i < t → Took old.plan (number_of old.plan (at Tail i)) (tail_block old a i) log
    still_stored log bytes longer i i_in =
        subst (λ (l : List Carried). Took old.plan (number_of old.plan (at Tail i)) (tail_block old a i) l) (sym longer)
        (took-elsewhere old.plan (number_of old.plan (at Tail i)) (tail_block old a i) r.log
        (record { access = written_tail old.plan a t; bytes = bytes }) (λ same. omega arith) (before.stored i i_in))

    all_empty : (i : ℕ) → i ≤ t → queue_at (without s t) i ≡ []
    all_empty i i_in = elim (cases_lt i t) [
      | inl inside ↦ get_or-set_other s.queues t i [] [] (λ same. omega arith) ∙ before.empty i inside
      | inr behind ↦
          let is : i ≡ t = omega arith in
          subst (λ (n : ℕ). queue_at (without s t) n ≡ []) (sym is) (emptied_at s.queues t)
    ]

    still_waits : (i : ℕ) → t < i → queue_at (without s t) i ≡ queue_at old.stash i
    still_waits i behind = get_or-set_other s.queues t i [] [] (λ same. omega arith) ∙ before.waits i (omega arith)

  -- one target more, where the floor has this recorder and this stash
  module _ (r s' : Recorded V) (s : Held) (done : Unit {0}) (before : AreDrained faults a t old (record old { recorder = r; stash = s }))
      (fits : length (queue_at s t) ≤ old.plan.k)
      (written : IsWritten told faults last_call old.plan (at Tail t) a (sealed_records old.plan old.run (at Tail t) a old.plan.k (queue_at s t)) r s' (Ok done))
    where
      same_queue : queue_at s t ≡ queue_at old.stash t
      same_queue = before.waits t (omega arith)

      here : Took old.plan (number_of old.plan (at Tail t)) (tail_block old a t) s'.log
      here =
          subst (λ (q : List Item). Took old.plan (number_of old.plan (at Tail t)) (sealed_records old.plan old.run (at Tail t) a old.plan.k q) s'.log) same_queue
          (subst (λ (l : List Carried). Took old.plan (number_of old.plan (at Tail t)) (sealed_records old.plan old.run (at Tail t) a old.plan.k (queue_at s t)) l) (sym written.recorded.log)
          (took-written old.plan (sealed_records old.plan old.run (at Tail t) a old.plan.k (queue_at s t)) r.log
          (record { access = written_tail old.plan a t; bytes = Some (sealed_records old.plan old.run (at Tail t) a old.plan.k (queue_at s t)) }) refl refl))

      pub drained_step : AreDrained faults a (t + 1) old (record old { recorder = s'; stash = without s t })
      drained_step = record {
        few = λ i i_in. elim (cases_lt i t) [
          | inl inside ↦ before.few i inside
          | inr behind ↦
              let is : i ≡ t = omega arith in
              subst (λ (n : ℕ). length (queue_at old.stash n) ≤ old.plan.k) (sym is) (subst (λ (q : List Item). length q ≤ old.plan.k) same_queue fits)
        ];
        others = refl;
        empty = λ i i_in. all_empty r s before i (omega arith);
        waits = λ i behind. still_waits r s before i (omega arith);
        trace =
            written.recorded.trace
            ∙ ap (λ (l : List Access). l ++ written_tail old.plan a t ∷ []) before.trace
            ∙ append_assoc old.recorder.trace (map (written_tail old.plan a) (below t)) (written_tail old.plan a t ∷ [])
            ∙ ap (λ (l : List Access). old.recorder.trace ++ l) (sym (map-range_with_len_more (written_tail old.plan a) 0 t t (omega arith)));
        log =
            written.recorded.log
            ∙ ap (λ (q : List Item). r.log ++ record { access = written_tail old.plan a t; bytes = Some (sealed_records old.plan old.run (at Tail t) a old.plan.k q) } ∷ []) same_queue
            ∙ ap (λ (l : List Carried). l ++ stored_tail old a t ∷ []) before.log
            ∙ append_assoc old.recorder.log (map (stored_tail old a) (below t)) (stored_tail old a t ∷ [])
            ∙ ap (λ (l : List Carried). old.recorder.log ++ l) (sym (map-range_with_len_more (stored_tail old a) 0 t t (omega arith)));
        room = let one = before.room in let other = written.recorded.room in omega (arith, one, other);
        ready = written.recorded.plan ∙ before.ready;
        calm = written.answer ∙ before.calm;
        stored = λ i i_in. elim (cases_lt i t) [
          | inl inside ↦ still_stored r s before s'.log (Some (sealed_records old.plan old.run (at Tail t) a old.plan.k (queue_at s t))) written.recorded.log i inside
          | inr behind ↦
              let is : i ≡ t = omega arith in
              subst (λ (n : ℕ). Took old.plan (number_of old.plan (at Tail n)) (tail_block old a n) s'.log) (sym is) here
        ];
      }

  -- the same, where the floor is as the drain of the target left it
  drained_from : (r : Recorded V) (s : Held) (new : Parts V) (tails noted : List ℕ) (done : Unit {0}) → AreDrained faults a t old (record old { recorder = r; stash = s })
      → DrainAnswer told faults last_call a t (record old { recorder = r; stash = s }) new tails noted (Ok done) → AreDrained faults a (t + 1) old new
  drained_from r s new tails noted done before answer =
      subst (λ (f : Parts V). AreDrained faults a (t + 1) old f) (sym answer.1) (drained_step r new.recorder s done before answer.0 answer.3)

  pub drained_more : (mid new : Parts V) (tails noted : List ℕ) (done : Unit {0}) → AreDrained faults a t old mid
      → DrainAnswer told faults last_call a t mid new tails noted (Ok done) → AreDrained faults a (t + 1) old new
  drained_more mid new tails noted done before answer =
      drained_from mid.recorder mid.stash new tails noted done (subst (λ (f : Parts V). AreDrained faults a t old f) before.others before)
      (subst (λ (f : Parts V). DrainAnswer told faults last_call a t f new tails noted (Ok done)) before.others answer)

  -- a write that fails
  fails_from : (r : Recorded V) (s : Held) (new : Parts V) (tails noted : List ℕ) (number : ℕ) → AreDrained faults a t old (record old { recorder = r; stash = s })
      → DrainAnswer {T = Unit {0}} told faults last_call a t (record old { recorder = r; stash = s }) new tails noted (Err (Fault (Device number))) → FailsAt faults a t number old new
  fails_from r s new tails noted number before answer =
      let stash : new.stash ≡ without s t = ap (λ (f : Parts V). f.stash) answer.1 in
      record {
        slot = answer.3.answer.0;
        trace =
            answer.3.recorded.trace
            ∙ ap (λ (l : List Access). l ++ written_tail old.plan a t ∷ []) before.trace
            ∙ append_assoc old.recorder.trace (map (written_tail old.plan a) (below t)) (written_tail old.plan a t ∷ [])
            ∙ ap (λ (l : List Access). old.recorder.trace ++ l) (sym (map-range_with_len_more (written_tail old.plan a) 0 t t (omega arith)));
        log =
            answer.3.recorded.log
            ∙ ap (λ (l : List Carried). l ++ failed_tail old a t ∷ []) before.log
            ∙ append_assoc old.recorder.log (map (stored_tail old a) (below t)) (failed_tail old a t ∷ []);
        room = let one = before.room in let other = answer.3.recorded.room in omega (arith, one, other);
        ready = answer.3.recorded.plan ∙ before.ready;
        others = answer.1 ∙ ap (λ (h : Held). record old { recorder = new.recorder; stash = h }) (sym stash);
        stored = still_stored r s before new.recorder.log None answer.3.recorded.log;
        empty = λ x x_in. ap (λ (h : Held). queue_at h x) stash ∙ all_empty r s before x x_in;
        waits = λ x behind. ap (λ (h : Held). queue_at h x) stash ∙ still_waits r s before x behind;
        cause = subst (λ (n : ℕ). Rose n (faults new.recorder.device)) before.calm answer.3.answer.1;
      }

  -- how the drain ends at this target
  module _ (d : Draw) (o : List ℕ) (inside : t < old.plan.b) (lengths : (i : ℕ) → i < old.plan.b → length (queue_at old.stash i) ≡ backlog old.plan d o old.plan.b i) where
    few_more : (s : Held) → ((i : ℕ) → i < t → length (queue_at old.stash i) ≤ old.plan.k) → queue_at s t ≡ queue_at old.stash t → length (queue_at s t) ≤ old.plan.k
        → (i : ℕ) → i < t + 1 → length (queue_at old.stash i) ≤ old.plan.k
    few_more s few same fits i i_in = elim (cases_lt i t) [
      | inl sooner ↦ few i sooner
      | inr behind ↦
          let is : i ≡ t = omega arith in
          subst (λ (n : ℕ). length (queue_at old.stash n) ≤ old.plan.k) (sym is) (subst (λ (q : List Item). length q ≤ old.plan.k) same fits)
    ]

    ends_from : (r : Recorded V) (s : Held) (new : Parts V) (tails noted : List ℕ) (halt : Halt) → AreDrained faults a t old (record old { recorder = r; stash = s })
        → DrainAnswer {T = Unit {0}} told faults last_call a t (record old { recorder = r; stash = s }) new tails noted (Err halt)
        → DrainEnd {T = Unit {0}} faults d o a old new (Err halt)
    ends_from r s new tails noted (Verdict v) before answer =
        let over : old.plan.k < backlog old.plan d o old.plan.b t =
        subst (λ (m : ℕ). old.plan.k < m) (ap length (before.waits t (omega arith)) ∙ lengths t inside) answer.0 in (
          t,
          first_passes (is_left old.plan d o) t old.plan.b inside (λ x x_in. none_left old d o lengths t x (omega arith) x_in before.few) (lt-ltb old.plan.k (backlog old.plan d o old.plan.b t) over),
          answer.1,
          subst (λ (f : Parts V). AreDrained faults a t old f) (sym answer.2) before,
        )
    ends_from r s new tails noted (Fault (Device number)) before answer = (
      t,
      inside,
      none_passes (is_left old.plan d o) (t + 1) (λ x x_in. none_left old d o lengths (t + 1) x (omega arith) x_in (few_more s before.few (before.waits t (omega arith)) answer.0)),
      fails_from r s new tails noted number before answer,
    )
    ends_from r s new tails noted (Fault (Tampered number)) before answer = absurd answer.3.answer

    pub drain_ends : (mid new : Parts V) (tails noted : List ℕ) (halt : Halt) → AreDrained faults a t old mid
        → DrainAnswer {T = Unit {0}} told faults last_call a t mid new tails noted (Err halt) → DrainEnd {T = Unit {0}} faults d o a old new (Err halt)
    drain_ends mid new tails noted halt before answer =
        ends_from mid.recorder mid.stash new tails noted halt (subst (λ (f : Parts V). AreDrained faults a t old f) before.others before)
        (subst (λ (f : Parts V). DrainAnswer {T = Unit {0}} told faults last_call a t f new tails noted (Err halt)) before.others answer)

-- what is queued when all chunks were written is the backlog
pub all_waits : (p : Sizes) (d : Draw) (h : List ℕ) (stash : Held) (counts : List ℕ) (counted : Counted) → IsSpread p d h stash counts counted → counted.writes ≡ p.b * p.b
    → (i : ℕ) → i < p.b → length (queue_at stash i) ≡ backlog p d (order p.b h) p.b i
all_waits p d h stash counts counted spread all i i_in =
    spread.waits i i_in
    ∙ ap (λ (k : ℕ). backlog p d (order p.b h) k i) (all-exchanged p.b h (sym spread.writes ∙ all))

-- one tail more is noted
pub noted_more : (tails : List ℕ) (t : ℕ) (f : ℕ → ℕ) (count : ℕ) → t < length tails → count ≡ f t → ((i : ℕ) → i < t → get_or tails i 0 ≡ f i)
    → (i : ℕ) → i < t + 1 → get_or (set tails t count) i 0 ≡ f i
noted_more tails t f count inside is before i i_in = elim (cases_lt i t) [
  | inl earlier ↦ get_or-set_other tails t i count 0 (λ same. omega arith) ∙ before i earlier
  | inr behind ↦
      let same : i ≡ t = omega arith in
      subst (λ (n : ℕ). get_or (set tails t count) n 0 ≡ f n) (sym same) (get_or-set_same tails t count 0 inside ∙ is)
]

-- where nothing is left, the compression has its counts
pub counted_then : (p : Sizes) (d : Draw) (h : List ℕ) (stash : Held) (counts : List ℕ) (counted : Counted) (tails : List ℕ) → IsDrawn p d → IsSpread p d h stash counts counted
    → counted.writes ≡ p.b * p.b → left p d (order p.b h) ≡ None → ((i : ℕ) → i < p.b → get_or tails i 0 ≡ length (queue_at stash i)) → AreCounted p d h counts tails
counted_then p d h stash counts counted tails drawn spread all fits noted =
    let wrote : writes p.b h ≡ p.b * p.b = sym spread.writes ∙ all in
    record {
      drawn = drawn;
      all = wrote;
      fits = fits;
      chunks = λ j i j_in i_in. spread.chunks j i i_in (omega (arith, once p.b h j wrote j_in));
      waits = λ i i_in. noted i i_in ∙ all_waits p d h stash counts counted spread all i i_in;
    }
