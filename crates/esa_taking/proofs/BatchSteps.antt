-- A scan of a batch answers as the step that reads it whole.
use Rattle.std.proofs.Common.{◌≡◌, ◌⊎◌, inl, inr, ℕ, ◌≤◌, cond, true, false, List, ◌++◌, length, replicate, Option, Some, None, Result, Ok, Err, refl, sym, ap, subst, ◌∙◌, append-nil, arith}
use Rattle.std.specs.Prelude.{nat_lt}
use Rattle.std.specs.List.{concat}
use Rattle.std.specs.FinMap as map
use Rattle.std.proofs.lemmas.List.{length-replicate}
use Rattle.esa_lists.specs.Files.{Files}
use Rattle.esa_header.specs.declared.header.Header.{Header}
use Rattle.esa_header.specs.declared.header.HeaderRefused.{HeaderRefused}
use Rattle.esa_header.specs.declared.header.FileKind.TheVariants as kind
use Rattle.esa_header.specs.Header.{header_in}
use Rattle.esa_header.proofs.HeaderLaws.{first_passed, not_below}
use Rattle.esa_outside.specs.declared.Role.TheVariants as role
use Rattle.esa_outside.specs.Cause.{Rose}
use Rattle.esa_outside.specs.Heard.{Event}
use Rattle.esa_outside.specs.Told.{Lacks, EndsBefore}
use Rattle.esa_job.specs.declared.command.Command.{Command}
use Rattle.esa_batcher.specs.declared.refused.BatchRefused.{BatchRefused}
use Rattle.esa_batcher.specs.declared.refused.BatchRefused.TheVariants as batch
use Rattle.esa_batcher.specs.declared.scan.Scanned.{Scanned}
use Rattle.esa_batcher.specs.declared.scan.ScanRefused.{ScanRefused}
use Rattle.esa_batcher.specs.declared.scan.ScanRefused.TheVariants as scan
use Rattle.esa_batcher.specs.Batched.{Batched}
use Rattle.esa_batcher.specs.Reading.{number_in, unless_fallen, order_in, batch_behind, accepted_as, behind_header, batch_in}
use Rattle.esa_batcher.specs.Rising.{fall_at}
use Rattle.esa_batcher.specs.Scanning.{scanned_as, scan_in, IsScanned, HasBegun}
use Rattle.esa_refusal.specs.declared.refusal.Refusal.TheVariants as refusal
use Rattle.esa_refusal.specs.declared.source.Source.TheVariants.{Input}
use Rattle.esa_refusal.specs.declared.stop.Stop.TheVariants.{Refused, Unread}
use Rattle.esa_refusal.specs.Refusal.{IsOfInput}
use Rattle.esa_refusal.specs.Source.{limit_of}
use Rattle.esa_command.specs.Given.{front, begun, nothing}
use Rattle.esa_command.specs.Judged.{Judged, IsMissing}
use Rattle.esa_command.specs.Stand.{Stand}
use Rattle.esa_command.specs.Step.{Step, ◌>>=◌, accepted, refused, missing, within}
use Rattle.esa_command.specs.Taking.{read_step}
use Rattle.esa_command.proofs.OneFile.{judged_one, judged_gone}
use Rattle.esa_taking.specs.Run.{Shuffles, header_of, batch_step}

-- ---- what a scan answers, as a step

abbrev pub scanned_step : Result Scanned ScanRefused → Step Scanned
scanned_step (Ok batch) = accepted batch
scanned_step (Err scan.Failed) = missing Input
scanned_step (Err (scan.TooLarge n)) = refused (refusal.Large role.Input)
scanned_step (Err (scan.Grammar why)) = refused (refusal.Batch why)

as_read : (read : Result Batched BatchRefused) → (read_step refusal.Batch read >>= λ made. accepted (header_of made)) ≡ scanned_step (scanned_as read)
as_read (Ok made) = refl
as_read (Err why) = refl

as_scanned : (m : ℕ) (bytes : List ℕ) → (within 134217728 Input (Some bytes) >>= batch_step m) ≡ scanned_step (scan_in m bytes)
as_scanned m bytes =
    elim (nat_lt 134217728 (length bytes)) as (λ large. (cond large (refused (refusal.Large role.Input)) (accepted bytes) >>= batch_step m)
    ≡ scanned_step (cond large (Err (scan.TooLarge (length bytes))) (scanned_as (batch_in m bytes)))) [
      | true ↦ refl
      | false ↦ as_read (batch_in m bytes)
    ]

-- a batch has one limit, whichever command shuffles it
limit : (command : Command) → Shuffles command → limit_of command Input ≡ 134217728
limit command shuffles = elim shuffles [
  | inl is ↦ ap (λ c. limit_of c Input) is
  | inr is ↦ ap (λ c. limit_of c Input) is
]

-- no refusal says that memory is wanted
of_input : (why : BatchRefused) → (why ≡ batch.OutOfMemory → ⊥) → IsOfInput (refusal.Batch why)
of_input batch.OutOfMemory other = absurd (other refl)
of_input batch.BadMagic other = tt
of_input batch.BadVersion other = tt
of_input batch.BadSize other = tt
of_input (batch.Cut cut) other = tt
of_input batch.Trailing other = tt
of_input (batch.Unsorted place) other = tt
of_input (batch.TooFew n m) other = tt
of_input (batch.TooMany n) other = tt

module _ (command : Command) (shuffles : Shuffles command) (m : ℕ) (name : List ℕ) (before now : Stand Files) (still : now.told ≡ before.told) where
  abbrev step : Option (List ℕ) → Step Scanned
  step held = within (limit_of command Input) Input held >>= batch_step m

  step-bytes : (bytes : List ℕ) → step (Some bytes) ≡ scanned_step (scan_in m bytes)
  step-bytes bytes = ap (λ n. within n Input (Some bytes) >>= batch_step m) (limit command shuffles) ∙ as_scanned m bytes

  pub judged_scanned : (made : Scanned) → IsScanned m name before.told before.heard now.heard (Ok made) → now.faults ≡ before.faults
      → Judged 4 5 (λ (made : Scanned). made) (λ read. step (read Input name)) before now (Ok made)
  judged_scanned made is kept =
      judged_one (λ (made : Scanned). made) Input name step before now still (front is.pieces is.behind) (Ok made) is.heard is.tells
      (λ read agree. (ap step agree.1 ∙ step-bytes (concat is.pieces ++ agree.0) ∙ ap scanned_step (is.answers agree.0 agree.2), kept))

  pub judged_large : (n : ℕ) → IsScanned m name before.told before.heard now.heard (Err (scan.TooLarge n)) → now.faults ≡ before.faults
      → Judged 4 5 (λ (made : Scanned). made) (λ read. step (read Input name)) before now (Err (Refused (refusal.Large role.Input)))
  judged_large n is kept =
      judged_one (λ (made : Scanned). made) Input name step before now still (front is.pieces is.behind) (Err (Refused (refusal.Large role.Input))) is.heard is.tells
      (λ read agree. (ap step agree.1 ∙ step-bytes (concat is.pieces ++ agree.0) ∙ ap scanned_step (is.answers agree.0 agree.2), kept, tt))

  pub judged_unfit : (why : BatchRefused) → IsScanned m name before.told before.heard now.heard (Err (scan.Grammar why)) → now.faults ≡ before.faults → (why ≡ batch.OutOfMemory → ⊥)
      → Judged 4 5 (λ (made : Scanned). made) (λ read. step (read Input name)) before now (Err (Refused (refusal.Batch why)))
  judged_unfit why is kept other =
      judged_one (λ (made : Scanned). made) Input name step before now still (front is.pieces is.behind) (Err (Refused (refusal.Batch why))) is.heard is.tells
      (λ read agree. (ap step agree.1 ∙ step-bytes (concat is.pieces ++ agree.0) ∙ ap scanned_step (is.answers agree.0 agree.2), kept, of_input why other))

  lacking : (told : Option Files) → Lacks told name 0 → IsMissing told (λ read. step (read Input name)) Input
  lacking None lacks = absurd lacks
  lacking (Some files) lacks =
      elim (map.get files name) as (λ held. map.get files name ≡ held → EndsBefore held 0 → IsMissing (Some files) (λ read. step (read Input name)) Input) [
        | None ↦ λ is ends. (files, refl, ap step is)
        | Some bytes ↦ λ is ends. absurd (omega (arith, ends))
      ] refl lacks

  pub judged_failed : HasBegun name before.heard now.heard → Rose before.faults now.faults ⊎ Lacks before.told name 0
      → Judged 4 5 (λ (made : Scanned). made) (λ read. step (read Input name)) before now (Err (Unread Input))
  judged_failed heard cause =
      let because : Rose before.faults now.faults ⊎ IsMissing before.told (λ read. step (read Input name)) Input = elim cause [ inl rose ↦ inl rose | inr lacks ↦ inr (lacking before.told lacks) ] in
      elim heard [
        | inl same ↦ judged_gone (λ (made : Scanned). made) Input name step before now still refl nothing (same ∙ sym (append-nil before.heard)) (λ files told. tt) because
        | inr begins ↦ judged_gone (λ (made : Scanned). made) Input name step before now still refl (begun begins.0 begins.1) begins.2 (λ files told. tt) because
      ]

-- ---- how many records an accepted batch has

pub record HasNumber (m : ℕ) (made : Scanned) : Type 0 where
  pub many : m ≤ made.count
  pub few : made.count ≤ 262144

not_fallen : (fall : Option ℕ) (later : Result (Unit {0}) BatchRefused) (done : Unit {0}) → unless_fallen fall later ≡ Ok done → later ≡ Ok done
not_fallen (Some place) later done passed = cc
not_fallen None later done passed = passed

in_order : (m : ℕ) (made : Batched) (done : Unit {0}) → order_in m made.list ≡ Ok done → HasNumber m (header_of made)
in_order m made done passed =
    let later = not_fallen (fall_at 0 made.list) (number_in m (length made.list)) done passed in
    let many = first_passed (nat_lt (length made.list) m) _ _ done later in
    let few = first_passed (nat_lt 262144 (length made.list)) _ _ done many.1 in
    record { many = not_below _ _ many.0; few = not_below _ _ few.0 }

by_tests : (m : ℕ) (made kept : Batched) (tests : Result (Unit {0}) BatchRefused) → order_in m made.list ≡ tests → accepted_as made tests ≡ Ok kept → HasNumber m (header_of kept)
by_tests m made kept (Ok done) is accepts =
    let same : made ≡ kept = cc in
    subst (λ b. HasNumber m (header_of b)) same (in_order m made done is)
by_tests m made kept (Err why) is accepts = cc

by_header : (m : ℕ) (bytes : List ℕ) (read : Result Header HeaderRefused) (made : Batched) → behind_header m bytes read ≡ Ok made → HasNumber m (header_of made)
by_header m bytes (Err why) made accepts = cc
by_header m bytes (Ok header) made accepts = by_tests m (batch_behind bytes header) made (order_in m (batch_behind bytes header).list) refl accepts

by_read : (m : ℕ) (bytes : List ℕ) (read : Result Batched BatchRefused) (made : Scanned) → batch_in m bytes ≡ read → scanned_as read ≡ Ok made → HasNumber m made
by_read m bytes (Ok whole) made is accepts =
    let same : header_of whole ≡ made = cc in
    subst (HasNumber m) same (by_header m bytes (header_in kind.Batch bytes (length bytes)) whole is)
by_read m bytes (Err why) made is accepts = cc

pub scanned_number : (m : ℕ) (bytes : List ℕ) (made : Scanned) → scan_in m bytes ≡ Ok made → HasNumber m made
scanned_number m bytes made accepts = by_read m bytes (batch_in m bytes) made refl ((first_passed (nat_lt 134217728 (length bytes)) _ _ made accepts).1)

-- an accepted batch has that many, whatever is behind the pieces that were read of it
pub heard_number : (m : ℕ) (name : List ℕ) (told : Option Files) (before now : List Event) (made : Scanned) → IsScanned m name told before now (Ok made) → HasNumber m made
heard_number m name told before now made is = scanned_number m (concat is.pieces ++ replicate is.behind 0) made (is.answers (replicate is.behind 0) (length-replicate is.behind 0))
