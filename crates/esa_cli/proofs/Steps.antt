-- What the steps of each command come to.
use Rattle.std.proofs.Common.{◌≡◌, inl, inr, ℕ, Bool, true, false, cond, List, Option, Some, refl, sym, ap, ◌∙◌, arith}
use Rattle.esa_lists.specs.Files.{Files}
use Rattle.esa_job.specs.declared.command.Command.{Command}
use Rattle.esa_job.specs.declared.command.Command.TheVariants as command
use Rattle.esa_refusal.specs.declared.refusal.Refusal.{Refusal}
use Rattle.esa_refusal.specs.declared.refusal.Refusal.TheVariants.{NotBuilt, SharesSum}
use Rattle.esa_refusal.specs.declared.status.End.{End}
use Rattle.esa_refusal.specs.declared.status.End.TheVariants.{Stopped}
use Rattle.esa_refusal.specs.declared.status.Status.TheVariants as status
use Rattle.esa_refusal.specs.declared.stop.Stop.TheVariants as stop
use Rattle.esa_command.specs.Ends.{EndsBy, Ends}
use Rattle.esa_command.specs.Stand.{Stand}
use Rattle.esa_command.specs.Step.{Step, ◌>>=◌, accepted, refused, missing, Reads}
use Rattle.esa_command.specs.Taking.{job_file, keys_file}
use Rattle.esa_command.specs.Work.{Work}
use Rattle.esa_command.proofs.Agreeing.{reads_by, agree_by}
use Rattle.esa_command.proofs.Composition.{judged_at_once}
use Rattle.esa_command.proofs.Ending.{ends_stop}
use Rattle.esa_encoding.specs.Encode.{has_shares, reports_file, encode_steps, encode_asked, encode_keyed, encode_sealed}
use Rattle.esa_encoding.specs.Generate.{generate_asked}
use Rattle.esa_gathering.specs.Intake.{intake_input}
use Rattle.esa_shuffling.specs.Batch.{batch_input, batch_work}
use Rattle.esa_shuffling.specs.Plan.{plan_steps, plan_asked, plan_turned, plan_drawn}
use Rattle.esa_shuffling.specs.Shuffle.{sizes_asked, turns_file, coins_file}
use Rattle.esa_analysing.specs.Analyse.{forward_file, analyse_steps, analyse_asked, analyse_keyed, analyse_work}
use Rattle.esa_analysing.specs.Histogram.{histogram_work}
use Rattle.esa_analysing.specs.Database.{database_input}
use Rattle.esa_analysing.specs.Recover.{recover_asked, recover_work}
use Rattle.esa_analysing.specs.Upgrade.{upgrade_work}
use Rattle.esa_cli.specs.Meaning.{Used, IsUntouched, OwesAlone, IsDeviceless, is_built, steps_of, meaning_of}
use Rattle.esa_cli.specs.Answers.{EndsAs}

-- ---- the work of each command is to end well

well_made : (made work : Work) → made.ended ≡ status.Ok → accepted made ≡ accepted work → work.ended ≡ status.Ok
well_made made work well is = let same : made ≡ work = cc in ap (λ w. w.ended) (sym same) ∙ well

well_then : {A : Type 0} (step : Step A) (next : A → Step Work) (work : Work) → ((value : A) → next value ≡ accepted work → work.ended ≡ status.Ok) → (step >>= next) ≡ accepted work → work.ended ≡ status.Ok
well_then (accepted value) next work each is = each value is
well_then (refused refusal) next work each is = cc
well_then (missing source) next work each is = cc

-- where it isn't refused
well_unless : (past : Bool) (refusal : Refusal) (made work : Work) → made.ended ≡ status.Ok → cond past (refused refusal) (accepted made) ≡ accepted work → work.ended ≡ status.Ok
well_unless true refusal made work well is = cc
well_unless false refusal made work well is = well_made made work well is

encode_well : (name : List ℕ) (read : Reads) (work : Work) → encode_steps false name read ≡ accepted work → work.ended ≡ status.Ok
unfolding encode_steps
encode_well name read work is =
    well_then (job_file command.Encode false name read) (encode_asked read) work
    (λ job. well_then (keys_file command.Encode (has_shares job) job read) (encode_keyed job read) work
    (λ ring. well_then (reports_file job ring read) (encode_sealed job) work (λ made. well_made _ work refl))) is

analyse_well : (name : List ℕ) (read : Reads) (work : Work) → analyse_steps false name read ≡ accepted work → work.ended ≡ status.Ok
unfolding analyse_steps
analyse_well name read work is =
    well_then (job_file command.Analyse false name read) (analyse_asked read) work
    (λ job. well_then (keys_file command.Analyse false job read) (analyse_keyed job read) work
    (λ ring. well_then (forward_file command.Analyse job read) (λ forwarded. accepted (analyse_work job ring forwarded)) work (λ made. well_made _ work refl))) is

plan_well : (name : List ℕ) (read : Reads) (work : Work) → plan_steps false name read ≡ accepted work → work.ended ≡ status.Ok
unfolding plan_steps
plan_well name read work is =
    well_then (job_file command.Plan false name read) (plan_asked read) work
    (λ job. well_then (turns_file command.Plan job read) (plan_turned job read) work
    (λ turns. well_then (coins_file command.Plan (sizes_asked job) job read) (plan_drawn job turns) work (λ draws. well_made _ work refl))) is

pub steps_well : (crew : Bool) (call : Command × List ℕ) (read : Reads) (work : Work) → steps_of crew call read ≡ accepted work → work.ended ≡ status.Ok
steps_well crew (command.Gen, name) read work is = well_then (job_file command.Gen false name read) (λ job. accepted (generate_asked job)) work (λ job. well_made _ work refl) is
steps_well crew (command.Encode, name) read work is = encode_well name read work is
steps_well crew (command.Batch, name) read work is = well_then (batch_input false name read) (λ all. accepted (batch_work all)) work (λ all. well_made _ work refl) is
steps_well crew (command.Intake, name) read work is = well_then (intake_input crew name read) (λ all. accepted (batch_work all)) work (λ all. well_made _ work refl) is
steps_well crew (command.Shuffle, name) read work is = cc
steps_well crew (command.Run, name) read work is = cc
steps_well crew (command.Relay, name) read work is = cc
steps_well crew (command.Analyse, name) read work is = analyse_well name read work is
steps_well crew (command.Histogram, name) read work is = well_then (database_input command.Histogram false name read) (λ all. accepted (histogram_work all)) work (λ all. well_made _ work refl) is
steps_well crew (command.Upgrade, name) read work is = well_then (database_input command.Upgrade false name read) (λ all. accepted (upgrade_work all)) work (λ all. well_made _ work refl) is
steps_well crew (command.Recover, name) read work is = well_then (database_input command.Recover false name read) recover_asked work (λ all. well_unless _ SharesSum (recover_work all) work refl) is
steps_well crew (command.Plan, name) read work is = plan_well name read work is
steps_well crew (command.Audit, name) read work is = cc

-- ---- a command without a device

-- it ends as its meaning says
pub ends_as_meant : {V : Type 0} (used : Used V) (crews : Bool) (call : Command × List ℕ) (cabinet cabinet_now : Stand Files) (printer printer_now : Stand (List ℕ)) (end : End) → IsUntouched used
    → Ends (steps_of crews call) cabinet cabinet_now printer printer_now end → EndsBy (IsUntouched used) (OwesAlone used) (steps_of crews call) cabinet cabinet_now printer printer_now end
ends_as_meant used crews call cabinet cabinet_now printer printer_now end untouched (inl stopped) = inl (record {
  stop = stopped.stop;
  ended = stopped.ended;
  judged = stopped.judged;
  printer_stands = stopped.printer_stands;
  idles = untouched;
})
ends_as_meant used crews call cabinet cabinet_now printer printer_now end untouched (inr works) =
    let read = reads_by works.judged.given in
    let is = (works.judged.answers read (agree_by 0 22 works.judged.given works.judged.once)).0 in
    inr (record {
      asked = works.asked;
      taken = works.taken;
      judged = works.judged;
      work = works.work;
      acted = works.acted;
      owes = record { as_asked = works.owes; well = ap (λ w. w.ended) works.owes.same ∙ steps_well crews call read works.asked is; untouched = untouched };
      settles = works.settles;
    })

-- the same in the words of what each command means
pub ends_other : {V : Type 0} (told : V → Option (List (List ℕ))) (faults : V → ℕ) (used : Used V) (crews : Bool) (call : Command × List ℕ) (cabinet cabinet_now : Stand Files) (printer printer_now : Stand (List ℕ)) (end : End) → IsUntouched used
    → IsDeviceless (Some call) → Ends (steps_of crews call) cabinet cabinet_now printer printer_now end → EndsAs (meaning_of told faults crews used call) cabinet cabinet_now printer printer_now end
ends_other told faults used crews (command.Shuffle, name) cabinet cabinet_now printer printer_now end untouched plain ends = absurd plain
ends_other told faults used crews (command.Run, name) cabinet cabinet_now printer printer_now end untouched plain ends = absurd plain
ends_other told faults used crews call cabinet cabinet_now printer printer_now end untouched plain ends = ends_as_meant used crews call cabinet cabinet_now printer printer_now end untouched ends

pub deviceless : (c : Command) (name : List ℕ) → (c ≡ command.Shuffle → ⊥) → (c ≡ command.Run → ⊥) → IsDeviceless (Some (c, name))
deviceless command.Shuffle name not_shuffle not_run = not_shuffle refl
deviceless command.Run name not_shuffle not_run = not_run refl
deviceless other name not_shuffle not_run = tt

-- ---- a command that isn't built

pub not_built : (crew : Bool) (call : Command × List ℕ) → is_built call.0 ≡ false → (read : Reads) → steps_of crew call read ≡ refused (NotBuilt call.0)
not_built crew (command.Gen, name) is read = cc
not_built crew (command.Encode, name) is read = cc
not_built crew (command.Batch, name) is read = cc
not_built crew (command.Intake, name) is read = cc
not_built crew (command.Shuffle, name) is read = cc
not_built crew (command.Run, name) is read = cc
not_built crew (command.Relay, name) is read = refl
not_built crew (command.Analyse, name) is read = cc
not_built crew (command.Histogram, name) is read = cc
not_built crew (command.Upgrade, name) is read = cc
not_built crew (command.Recover, name) is read = cc
not_built crew (command.Plan, name) is read = cc
not_built crew (command.Audit, name) is read = refl

pub ends_unbuilt : (crew : Bool) (call : Command × List ℕ) (cabinet : Stand Files) (printer : Stand (List ℕ)) → is_built call.0 ≡ false → Ends (steps_of crew call) cabinet cabinet printer printer (Stopped (status.Refused (NotBuilt call.0)))
ends_unbuilt crew call cabinet printer is =
    ends_stop (λ (work : Work). work) (steps_of crew call) cabinet cabinet printer (stop.Refused (NotBuilt call.0)) (status.Refused (NotBuilt call.0)) refl
    (judged_at_once 0 6 (λ (work : Work). work) (steps_of crew call) cabinet (NotBuilt call.0) (omega arith) (not_built crew call is) tt)

pub others_unbuilt : (c : Command) (name : List ℕ) → IsDeviceless (Some (c, name)) → (c ≡ command.Gen → ⊥) → (c ≡ command.Encode → ⊥) → (c ≡ command.Batch → ⊥) → (c ≡ command.Intake → ⊥) → (c ≡ command.Analyse → ⊥) → (c ≡ command.Histogram → ⊥) → (c ≡ command.Upgrade → ⊥)
    → (c ≡ command.Recover → ⊥) → (c ≡ command.Plan → ⊥) → is_built c ≡ false
others_unbuilt command.Gen name plain g e b i a h u r p = absurd (g refl)
others_unbuilt command.Encode name plain g e b i a h u r p = absurd (e refl)
others_unbuilt command.Batch name plain g e b i a h u r p = absurd (b refl)
others_unbuilt command.Intake name plain g e b i a h u r p = absurd (i refl)
others_unbuilt command.Shuffle name plain g e b i a h u r p = absurd plain
others_unbuilt command.Run name plain g e b i a h u r p = absurd plain
others_unbuilt command.Relay name plain g e b i a h u r p = refl
others_unbuilt command.Analyse name plain g e b i a h u r p = absurd (a refl)
others_unbuilt command.Histogram name plain g e b i a h u r p = absurd (h refl)
others_unbuilt command.Upgrade name plain g e b i a h u r p = absurd (u refl)
others_unbuilt command.Recover name plain g e b i a h u r p = absurd (r refl)
others_unbuilt command.Plan name plain g e b i a h u r p = absurd (p refl)
others_unbuilt command.Audit name plain g e b i a h u r p = refl
