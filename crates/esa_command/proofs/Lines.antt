-- A line that a status is owed.
use Rattle.std.proofs.Common.{◌≡◌, inl, inr, ℕ, List, [], ◌∷◌, ◌++◌, length, Some, None, sym, ap, ◌∙◌, arith}
use Rattle.std.proofs.lemmas.List.{take_all}
use Rattle.esa_outside.specs.Cause.{Rose}
use Rattle.esa_outside.specs.Heard.{printed}
use Rattle.esa_outside.specs.Told.{AddsFront, line_of}
use Rattle.esa_command.specs.Stand.{Stand}
use Rattle.esa_command.specs.Telling.{TellsLine}

module _ (line : List ℕ) (before now : Stand (List ℕ)) (silent : before.told ≡ None → now.told ≡ None) where
  pub line_told : ((text : List ℕ) → before.told ≡ Some text → now.told ≡ Some (text ++ line_of line)) → now.heard ≡ before.heard ++ printed line ∷ [] → TellsLine line before now
  line_told shown heard = record {
    front = λ text tells. (length (line_of line), omega arith, shown text tells ∙ ap (λ ys. Some (text ++ ys)) (sym (take_all (length (line_of line)) (line_of line) (omega arith))));
    heard = inl heard;
    whole = λ text tells still. shown text tells;
    silent = silent;
  }

  pub line_failed : ((text : List ℕ) → before.told ≡ Some text → AddsFront text (line_of line) now.told) → now.heard ≡ before.heard → Rose before.faults now.faults → TellsLine line before now
  line_failed shown heard rose = record {
    front = shown;
    heard = inr (heard, rose);
    whole = λ text tells still. absurd (still rose);
    silent = silent;
  }
