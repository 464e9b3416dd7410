-- A file that is written part by part.
use Rattle.std.proofs.Common.{◌≡◌, ℕ, List, [], ◌∷◌, ◌++◌, Option, Some, None, Result, Ok, Err, refl}
use Rattle.std.specs.Prelude.{OnOk, OnErr}
use Rattle.std.specs.FinMap as map
use Rattle.esa_lists.specs.Files.{Files}
use Rattle.esa_outside.specs.Told.{HoldsFront}
use Rattle.esa_page.specs.Underway.{IsUnderway, IsWhole, IsLeft}
use Rattle.esa_outside.specs.Heard.{Event, after}
use Rattle.esa_outside.specs.Heard as heard
use Rattle.esa_page.specs.Writing.{IsWriting, HasWritten, HasBroken}
use Rattle.esa_page.proofs.HeardLaws.{IsWriting-added, HasWritten-writing, HasBroken-kept, HasBroken-longer}
use Rattle.esa_page.proofs.UnderwayLaws.{IsUnderway-more, IsUnderway-sent, IsLeft-sent, IsWhole-underway}

-- what the clauses of an append say
abbrev pub Added : {E : Type 0} → Option Files → List ℕ → List ℕ → Option Files → Result (Unit {0}) E → Type 0
Added old name bytes new result = (files : Files) (held : List ℕ) → old ≡ Some files → map.get files name ≡ Some held → OnOk result (new ≡ Some (map.insert files name (held ++ bytes)))

abbrev pub Broken : {E : Type 0} → Option Files → List ℕ → List ℕ → Option Files → Result (Unit {0}) E → Type 0
Broken old name bytes new result = (files : Files) (held : List ℕ) → old ≡ Some files → map.get files name ≡ Some held → OnErr result (HoldsFront files name (held ++ bytes) new)

module _ {E : Type 0} (before : Option Files) (name text bytes : List ℕ) (old new : Option Files) where
  pub part-added : (result : Result (Unit {0}) E) → IsUnderway before name text [] old → Added old name bytes new result → (old ≡ None → new ≡ None) → OnOk result (IsUnderway before name (text ++ bytes) [] new)
  part-added (Ok done) under added silent = IsUnderway-sent before name (text ++ bytes) bytes bytes old new refl (IsUnderway-more before name text [] bytes old under) added silent
  part-added (Err failed) under added silent = tt

  pub part-left : (result : Result (Unit {0}) E) → IsUnderway before name text [] old → Broken old name bytes new result → (old ≡ None → new ≡ None) → OnErr result (IsLeft before name (text ++ bytes) new)
  part-left (Ok done) under broken silent = tt
  part-left (Err failed) under broken silent = IsLeft-sent before name (text ++ bytes) bytes bytes old new refl (IsUnderway-more before name text [] bytes old under) broken silent

-- where nothing waits, the file is whole
pub whole_ok : {E : Type 0} (before : Option Files) (name text : List ℕ) (now : Option Files) (result : Result (Unit {0}) E) → OnOk result (IsUnderway before name text [] now) → OnOk result (IsWhole before name text now)
whole_ok before name text now (Ok done) under = IsWhole-underway before name text [] now refl under
whole_ok before name text now (Err failed) under = tt

-- by what was heard: the last part was added, or not
module _ {E : Type 0} (before : List Event) (name text bytes : List ℕ) (old new : List Event) where
  pub written_ok : (result : Result (Unit {0}) E) → IsWriting before name text [] old → new ≡ after old (λ _. heard.added name bytes ∷ []) result → OnOk result (HasWritten before name (text ++ bytes) new)
  written_ok (Ok done) writing is = HasWritten-writing before name (text ++ bytes) [] new refl (IsWriting-added before name text bytes old new is writing)
  written_ok (Err failed) writing is = tt

  pub broken_err : (result : Result (Unit {0}) E) → IsWriting before name text [] old → new ≡ after old (λ _. heard.added name bytes ∷ []) result → OnErr result (HasBroken before name (text ++ bytes) new)
  broken_err (Ok done) writing is = tt
  broken_err (Err failed) writing is = HasBroken-longer before name text bytes new (HasBroken-kept before name text [] old new is writing)
