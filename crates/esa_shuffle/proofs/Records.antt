-- What becomes of the records that a batch gave.
use Rattle.std.proofs.Common.{◌≡◌, ℕ, ◌+◌, ◌*◌, ◌<◌, ◌≤◌, List, [], ◌∷◌, ◌++◌, All, Ok, length, map, sym, ap, ◌∙◌, subst, arith, inl, inr, mul_comm}
use Rattle.std.proofs.Math.Nat.{mul-le-mul_right}
use Rattle.std.proofs.lemmas.Bool.{cases_lt}
use Rattle.std.proofs.lemmas.List.{length-take, length-drop, nil_from_length}
use Rattle.std.proofs.lemmas.List.Elements.{All-weaker}
use Rattle.esa_device.specs.Logs.{Carried, IsFaithful}
use Rattle.esa_ending.specs.Seen.{turns_in}
use Rattle.esa_envelope.specs.declared.keys.Keys.{Keys}
use Rattle.esa_params.specs.Form.{envelope_length}
use Rattle.esa_params.specs.Sizes.{Sizes, first}
use Rattle.esa_params.specs.Slots.{item_length}
use Rattle.esa_params.specs.declared.form.Form.{Form}
use Rattle.esa_press.specs.Contents.{AreOutputsStored}
use Rattle.esa_report.specs.declared.item.Item.{Item}
use Rattle.esa_spec.specs.Draws.{Draw}
use Rattle.esa_spec.specs.Fronts.{Begins}
use Rattle.esa_spec.specs.Histories.{lists}
use Rattle.esa_spec.specs.Traces.{trace}
use Rattle.esa_envelope.specs.Envelope.{opened}
use Rattle.esa_vault.specs.Items.{item_of}
use Rattle.esa_vault.specs.Placed.{IsSpelled}
use Rattle.esa_vault.proofs.NewItems.{held-item_of, spelled-item_of}
use Rattle.esa_vault.proofs.TextLaws.{dummy_spelled}
use Rattle.esa_floor.specs.Keeping.{HasInput}
use Rattle.esa_floor.specs.Marks.{roots_of}
use Rattle.esa_floor.specs.Parts.{Parts}
use Rattle.esa_floor.specs.Private.{envelope_at}
use Rattle.esa_floor.specs.Written.{AreItems, EachGaveItsBlock, EachTookItsBlock, GaveItsBlock, GaveItsOwn, WritesInput}
use Rattle.esa_floor.specs.declared.floor.Roots.{Roots}
use Rattle.esa_floor.specs.declared.turn.Outcome.{Outcome}
use Rattle.esa_floor.specs.declared.turn.Outcome.TheVariants as outcome
use Rattle.esa_floor.proofs.Giving.{gave-input, gave-write, input_written}
use Rattle.esa_floor.proofs.Writing.{took-input}
use Rattle.esa_shuffle.specs.Loading.{IsOfLoad, TakesBatch, TakesInput}
use Rattle.esa_shuffle.specs.Records.{FailedByOutcome, IsShuffledFrom, IsWrittenFrom, ReadsOf, record_at}
use Rattle.esa_shuffle.proofs.Contents.{faithful_before}
use Rattle.esa_shuffle.proofs.Giving.{all_gave, any_read}
use Rattle.esa_shuffle.proofs.Inputs.{written_by, written_on}
use Rattle.esa_shuffle.proofs.Taken.{all_took, took_none}

-- a load that ended the run put no records out, and what it wrote is the input
pub not_shuffled : (p : Sizes) (ds : ℕ → Draw) (hs : List (List ℕ)) (outer run : Keys) (history : List ℕ) (log : List Carried) (o : Outcome) (given : List ℕ) → IsOfLoad o
    → All (WritesInput p) log → FailedByOutcome o log → IsWrittenFrom p run given log → IsShuffledFrom p ds hs outer run history log o given
not_shuffled p ds hs outer run history log o given of_load all failed written = record {
  output = λ a same faithful. absurd (subst IsOfLoad same of_load);
  took = λ faithful. took_none p run ds (record_at p outer given) (turns_in (lists p.workers history)) log (input_written p log all);
  failed = failed;
  written = written;
  gave =
      let turns = turns_in (lists p.workers history) in
      any_read (GaveItsBlock p run ds turns) o log
      (All-weaker (WritesInput p) (GaveItsBlock p run ds turns) (λ entry writes. gave-write p run ds turns entry writes.writes) log all);
}

-- the envelope of a place, where bytes were given for it
envelope_there : (e n x : ℕ) (given : List ℕ) → length given ≡ e * n → x < n → length (envelope_at e given x) ≡ e
envelope_there e n x given long inside =
    let room : (x + 1) * e ≤ n * e = mul-le-mul_right e (omega (arith, inside)) in
    let row : (x + 1) * e ≡ x * e + e = omega arith in
    let turn : e * n ≡ n * e = mul_comm e n in
    omega (arith, long, room, row, turn, length-take {A = ℕ}, length-drop {A = ℕ})

-- there is none behind them
envelope_past : (e n x : ℕ) (given : List ℕ) → length given ≡ e * n → n ≤ x → envelope_at e given x ≡ []
envelope_past e n x given long past =
    let room : n * e ≤ x * e = mul-le-mul_right e past in
    let turn : e * n ≡ n * e = mul_comm e n in
    nil_from_length (envelope_at e given x) (omega (arith, long, room, turn, length-take {A = ℕ}, length-drop {A = ℕ}))

-- no envelope is malformed
spelled-none : (size : ℕ) (outer : Keys) → IsSpelled size (item_of outer [])
unfolding opened
spelled-none size outer =
    let dummy = dummy_spelled size in
    record {
      body = dummy.body;
      well_formed = dummy.well_formed;
      zero = dummy.zero;
    }

spelled-at : (outer : Keys) (form : Form) (n x : ℕ) (given : List ℕ) → length given ≡ envelope_length form * n
    → IsSpelled (item_length form) (item_of outer (envelope_at (envelope_length form) given x))
spelled-at outer form n x given long = elim (cases_lt x n) [
  | inl inside ↦ spelled-item_of outer form (envelope_at (envelope_length form) given x) (envelope_there (envelope_length form) n x given long inside)
  | inr past ↦
      subst (λ (envelope : List ℕ). IsSpelled (item_length form) (item_of outer envelope)) (sym (envelope_past (envelope_length form) n x given long past)) (spelled-none (item_length form) outer)
]

-- each place has the item of a record
pub are_items : (p : Sizes) (outer : Keys) (n : ℕ) (given : List ℕ) → length given ≡ envelope_length p.form * n → AreItems (item_length p.form) (record_at p outer given)
are_items p outer n given long = record {
  held = λ x. held-item_of outer (envelope_at (envelope_length p.form) given x);
  spelled = λ x. spelled-at outer p.form n x given long;
}

-- the floor x was loaded, and the attempts that were made of it left the floor f, and put the records of its input out
module _ {V : Type 0} (p : Sizes) (ds : ℕ → Draw) (hs : List (List ℕ)) (outer run : Keys) (x f : Parts V) (o : Outcome) (given : List ℕ)
    (plan : x.plan ≡ p) (outer_is : x.outer ≡ outer) (run_is : x.run ≡ run) (origin : roots_of f ≡ roots_of x) (long : length given ≡ envelope_length p.form * first p p.b)
    (on : Begins x.recorder.log f.recorder.log) (input : TakesInput x given)
  where
    items : AreItems (item_length p.form) (record_at p outer given)
    items = are_items p outer (first p p.b) given long

    has_input : IsFaithful p f.recorder.log → HasInput x (record_at p outer given)
    has_input faithful =
        let before : IsFaithful x.plan x.recorder.log = subst (λ (q : Sizes). IsFaithful q x.recorder.log) (sym plan) (faithful_before p x.recorder.log f.recorder.log on faithful) in
        subst (λ (k : Keys). HasInput x (record_at p k given)) outer_is (subst (λ (q : Sizes). HasInput x (record_at q x.outer given)) plan (input before))

    pub shuffled_from : ((record_of : ℕ → Item) (a : ℕ) → AreItems (item_length p.form) record_of → IsFaithful p f.recorder.log → HasInput x record_of → o ≡ outcome.Shuffled a
        → AreOutputsStored p x.run (ds a) (turns_in hs a) a record_of p.b f.recorder.log)
        → ((record_of : ℕ → Item) → IsFaithful p f.recorder.log → HasInput x record_of → HasInput f record_of)
        → ((record_of : ℕ → Item) → AreItems (item_length p.form) record_of → EachTookItsBlock ds record_of x → EachTookItsBlock ds record_of f)
        → All (WritesInput x.plan) x.recorder.log → FailedByOutcome o f.recorder.log
        → (EachGaveItsBlock ds x → ReadsOf (GaveItsOwn ds f) o f.recorder.log) → IsWrittenFrom p run given f.recorder.log
        → IsShuffledFrom p ds hs outer run (f.history ++ p.workers ∷ []) f.recorder.log o given
    shuffled_from outputs stays takes all failed gives written = record {
      output = λ a same faithful.
          subst (λ (k : Keys). AreOutputsStored p k (ds a) (turns_in hs a) a (record_at p outer given) p.b f.recorder.log) run_is
          (outputs (record_at p outer given) a items faithful (has_input faithful) same);
      took = λ faithful.
          all_took ds (record_at p outer given) f o p run (ap (λ (r : Roots). r.plan) origin ∙ plan) (ap (λ (r : Roots). r.run) origin ∙ run_is)
          (takes (record_at p outer given) items (took-input ds (record_at p outer given) x (input_written x.plan x.recorder.log all))) (stays (record_at p outer given) faithful (has_input faithful));
      failed = failed;
      written = written;
      gave = all_gave ds f o p run (ap (λ (r : Roots). r.plan) origin ∙ plan) (ap (λ (r : Roots). r.run) origin ∙ run_is) (gives (gave-input ds x all));
    }

    -- the input was written in the load
    pub written_from : (old : Parts V) (done : Unit {0}) → TakesBatch old x (Ok done) given → old.recorder.log ≡ [] → map (λ (entry : Carried). entry.access) f.recorder.log ≡ f.recorder.trace
        → Begins f.recorder.trace (trace p ds hs) → IsWrittenFrom p run given f.recorder.log
    written_from old done takes none are front =
        written_on p run given ds hs x.recorder.log f.recorder.log f.recorder.trace on (takes.whole none ∙ ap (λ (q : Sizes). q.b) plan) are front
        (written_by x.plan p x.run run given x.recorder.log plan run_is (takes.written none))
