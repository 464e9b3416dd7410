-- What reading a file whole says of the step that reads it.
use Rattle.std.proofs.Common.{◌≡◌, ◌⊎◌, inl, inr, ℕ, ◌+◌, ◌≤◌, ◌<◌, true, false, cond, List, [], ◌∷◌, ◌++◌, length, Option, Some, None, Ok, Err, refl, sym, ap, ◌∙◌, append-nil, arith}
use Rattle.std.specs.Prelude.{nat_lt}
use Rattle.std.specs.Option.{option_map}
use Rattle.std.specs.FinMap as map
use Rattle.esa_lists.specs.Files.{Files}
use Rattle.esa_job.specs.declared.command.Command.{Command}
use Rattle.esa_outside.specs.Cause.{Rose}
use Rattle.esa_outside.specs.Heard.{length_of, part_of}
use Rattle.esa_outside.specs.Told.{Lacks, EndsBefore}
use Rattle.esa_outside.specs.Whole.{HasHeard}
use Rattle.esa_outside.specs.declared.whole.ReadRefused.TheVariants as read_refused
use Rattle.esa_refusal.specs.declared.refusal.Refusal.TheVariants.{Large}
use Rattle.esa_refusal.specs.declared.source.Source.{Source}
use Rattle.esa_refusal.specs.declared.stop.Stop.TheVariants.{Refused, Unread, OutOfMemory}
use Rattle.esa_refusal.specs.Source.{role_of, limit_of, place_of}
use Rattle.esa_command.specs.Given.{whole, front, begun, nothing, Agrees}
use Rattle.esa_command.specs.Judged.{IsMissing, Judged}
use Rattle.esa_command.specs.Stand.{Stand}
use Rattle.esa_command.specs.Step.{Step, accepted, refused, within, file}
use Rattle.esa_command.proofs.OneFile.{judged_one, judged_gone}

within-short : (limit : ℕ) (s : Source) (held : Option (List ℕ)) (bytes : List ℕ) → held ≡ Some bytes → length bytes ≤ limit → within limit s held ≡ accepted bytes
within-short limit s held bytes is short =
    let small : nat_lt limit (length bytes) ≡ false = grind (arith, short) in
    ap (within limit s) is ∙ ap (λ large. cond large (refused (Large (role_of s))) (accepted bytes)) small

within-long : (limit n : ℕ) (s : Source) (held : Option (List ℕ)) → Agrees held (front [] n) → limit < n → within limit s held ≡ refused (Large (role_of s))
within-long limit n s held agree past =
    let large : nat_lt limit (length agree.0) ≡ true = grind (arith, past, agree.2) in
    ap (within limit s) agree.1 ∙ ap (λ large. cond large (refused (Large (role_of s))) (accepted agree.0)) large

length-agrees : (held : Option (List ℕ)) (n : ℕ) → option_map length held ≡ Some n → Agrees held (front [] n)
length-agrees None n is = cc
length-agrees (Some bytes) n is = (bytes, refl, cc)

module _ {X : Type 0} (items : X → List ℕ) (command : Command) (s : Source) (name : List ℕ) (before now : Stand Files) (still : now.told ≡ before.told) where
  abbrev step : Option (List ℕ) → Step (List ℕ)
  step = within (limit_of command s) s

  pub read_ok : (value : X) → ((files : Files) → before.told ≡ Some files → map.get files name ≡ Some (items value)) → length (items value) ≤ limit_of command s
      → now.heard ≡ before.heard ++ length_of name (length (items value)) ∷ part_of name 0 (items value) ∷ [] → now.faults ≡ before.faults
      → Judged (place_of s) (place_of s + 1) items (file command s name) before now (Ok value)
  read_ok value tells short heard kept =
      judged_one items s name step before now still (whole (items value)) (Ok value) heard tells (λ read agree. (within-short (limit_of command s) s (read s name) (items value) agree short, kept))

  pub read_long : (n : ℕ) → ((files : Files) → before.told ≡ Some files → option_map length (map.get files name) ≡ Some n) → limit_of command s < n
      → now.heard ≡ before.heard ++ length_of name n ∷ [] → now.faults ≡ before.faults
      → Judged (place_of s) (place_of s + 1) items (file command s name) before now (Err (Refused (Large (role_of s))))
  read_long n tells past heard kept =
      let long : n ≡ 0 + n = omega arith in
      judged_one items s name step before now still (front [] n) (Err (Refused (Large (role_of s)))) (heard ∙ ap (λ m. before.heard ++ length_of name m ∷ []) long) (λ files told. length-agrees (map.get files name) n (tells files told))
      (λ read agree. (within-long (limit_of command s) n s (read s name) agree past, kept, tt))

  lacking : (told : Option Files) → Lacks told name 0 → IsMissing told (file command s name) s
  lacking None lacks = absurd lacks
  lacking (Some files) lacks =
      elim (map.get files name) as (λ held. map.get files name ≡ held → EndsBefore held 0 → IsMissing (Some files) (file command s name) s) [
        | None ↦ λ is ends. (files, refl, ap (within (limit_of command s) s) is)
        | Some bytes ↦ λ is ends. absurd (omega (arith, ends))
      ] refl lacks

  pub read_failed : (limit : ℕ) → HasHeard before.heard name limit now.heard read_refused.Failed → Rose before.faults now.faults ⊎ Lacks before.told name 0
      → Judged (place_of s) (place_of s + 1) items (file command s name) before now (Err (Unread s))
  read_failed limit heard cause =
      let because : Rose before.faults now.faults ⊎ IsMissing before.told (file command s name) s = elim cause [ inl rose ↦ inl rose | inr lacks ↦ inr (lacking before.told lacks) ] in
      elim heard [
        | inl same ↦ judged_gone items s name step before now still refl nothing (same ∙ sym (append-nil before.heard)) (λ files told. tt) because
        | inr begins ↦ judged_gone items s name step before now still refl (begun begins.0 []) begins.2 (λ files told. tt) because
      ]

  pub read_starved : (limit : ℕ) → HasHeard before.heard name limit now.heard read_refused.OutOfMemory → now.faults ≡ before.faults
      → Judged (place_of s) (place_of s + 1) items (file command s name) before now (Err OutOfMemory)
  read_starved limit heard kept = judged_one items s name step before now still (begun heard.0 []) (Err OutOfMemory) heard.2 (λ files told. tt) (λ read agree. kept)
