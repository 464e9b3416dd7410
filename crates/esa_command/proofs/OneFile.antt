-- What reading one file says of the step that reads it, be it read whole, in pieces or not to its end.
use Rattle.std.proofs.Common.{◌≡◌, ◌⊎◌, ℕ, ◌+◌, true, cond, List, [], ◌∷◌, ◌++◌, Option, Some, None, Result, Err, refl, sym, ap, ◌∙◌, append-nil, arith}
use Rattle.std.proofs.lemmas.Bool.{eq-eqb}
use Rattle.std.specs.FinMap as map
use Rattle.esa_lists.specs.Files.{Files}
use Rattle.esa_outside.specs.Cause.{Rose}
use Rattle.esa_refusal.specs.declared.source.Source.{Source}
use Rattle.esa_refusal.specs.declared.source.Source.TheVariants as source
use Rattle.esa_refusal.specs.declared.stop.Stop.{Stop}
use Rattle.esa_refusal.specs.declared.stop.Stop.TheVariants.{Unread}
use Rattle.esa_refusal.specs.Source.{place_of, is_same_source}
use Rattle.esa_command.specs.Given.{Gave, Given, heard_of, Agrees}
use Rattle.esa_command.specs.Judged.{IsMissing, AnswersBy, Judged}
use Rattle.esa_command.specs.Stand.{Stand}
use Rattle.esa_command.specs.Step.{Step, missing, Reads, without}

pub is_same : (s : Source) → is_same_source s s ≡ true
is_same source.Job = refl
is_same source.Keys = refl
is_same source.Drops = refl
is_same source.Turns = refl
is_same source.Input = refl
is_same source.Coins = refl
is_same (source.Inputs place) = eq-eqb (6 + place) (6 + place) refl

-- `step` says what is made of what is read of it
module _ {X A : Type 0} (view : X → A) (s : Source) (name : List ℕ) (step : Option (List ℕ) → Step A) (before now : Stand Files) (still : now.told ≡ before.told) where
  abbrev steps : Reads → Step A
  steps read = step (read s name)

  abbrev one : Gave → List Given
  one gave = record { source = s; name = name; gave = gave } ∷ []

  pub judged_one : (gave : Gave) (result : Result X Stop) → now.heard ≡ before.heard ++ heard_of name gave → ((files : Files) → before.told ≡ Some files → Agrees (map.get files name) gave)
      → ((read : Reads) → Agrees (read s name) gave → AnswersBy view steps (place_of s) (place_of s + 1) before now result read)
      → Judged (place_of s) (place_of s + 1) view steps before now result
  judged_one gave result heard tells answers = record {
    given = one gave;
    heard = heard ∙ ap (λ ys. before.heard ++ ys) (sym (append-nil (heard_of name gave)));
    once = (omega arith, omega arith);
    tells = λ files told. (tells files told, tt);
    answers = λ read agree. answers read agree.0;
    told = still;
  }

  gone : step None ≡ missing s → (read : Reads) → steps (without s read) ≡ missing s
  gone lacks read = ap (λ same. step (cond same None (read s name))) (is_same s) ∙ lacks

  -- it isn't there, or a call failed
  pub judged_gone : step None ≡ missing s → (gave : Gave) → now.heard ≡ before.heard ++ heard_of name gave → ((files : Files) → before.told ≡ Some files → Agrees (map.get files name) gave)
      → Rose before.faults now.faults ⊎ IsMissing before.told steps s → Judged (place_of s) (place_of s + 1) view steps before now (Err (Unread s))
  judged_gone lacks gave heard tells because = judged_one gave (Err (Unread s)) heard tells (λ read agree. (omega arith, omega arith, gone lacks read, because))
