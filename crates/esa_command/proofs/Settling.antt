-- Files are written and lines are printed.
use Rattle.std.proofs.Common.{◌≡◌, ◌⊎◌, inl, inr, ℕ, List, [], ◌∷◌, ◌++◌, Some, None, Result, Ok, Err, refl, sym, ap, subst, ◌∙◌, append-nil, arith}
use Rattle.std.specs.Prelude.{OnOk, OnErr}
use Rattle.std.specs.FinMap as map
use Rattle.esa_lists.specs.Files.{Files}
use Rattle.esa_outside.specs.Cause.{HasCause}
use Rattle.esa_outside.specs.Heard.{printed, after}
use Rattle.esa_outside.specs.Told.{HoldsFront, AddsFront, line_of}
use Rattle.esa_page.specs.Underway.{IsWhole, IsLeft}
use Rattle.esa_page.specs.Writing.{HasWritten, HasBroken}
use Rattle.esa_page.proofs.WritingLaws.{OnOk-whole, OnErr-left, silent-still}
use Rattle.esa_refusal.specs.declared.source.Sink.{Sink}
use Rattle.esa_command.specs.Doing.{AreWritten, AreBroken, ArePrinted, AreCut, WritesIt, PrintsAll}
use Rattle.esa_command.specs.Settled.{Settles, whole, unwritten, unprinted, ending}
use Rattle.esa_command.specs.Stand.{Stand}
use Rattle.esa_command.specs.Work.{Write, Work}

surely : {R : Type 0} → R ⊎ ⊥ → R
surely (inl rose) = rose
surely (inr never) = absurd never

-- ---- how work ends, by its status and how far it went

module _ (work : Work) (cabinet cabinet_now : Stand Files) (printer printer_now : Stand (List ℕ)) where
  pub settled_whole : AreWritten work.writes cabinet cabinet_now → ArePrinted work.prints printer printer_now → Settles work cabinet cabinet_now printer printer_now (ending work.ended whole)
  settled_whole files lines = record {
    went = whole;
    ended = refl;
    counts = (files.kept, lines.kept);
    files = files.told;
    prints = lines.told;
    files_heard = files.heard;
    lines_heard = lines.heard;
    silent = files.silent;
    printer_silent = lines.silent;
  }

  pub settled_unprinted : AreWritten work.writes cabinet cabinet_now → AreCut work.prints printer printer_now → Settles work cabinet cabinet_now printer printer_now (ending work.ended unprinted)
  settled_unprinted files lines = record {
    went = unprinted;
    ended = refl;
    counts = (files.kept, lines.rose);
    files = files.told;
    prints = lines.told;
    files_heard = files.heard;
    lines_heard = lines.heard;
    silent = files.silent;
    printer_silent = lines.silent;
  }

  pub settled_unwritten : (sink : Sink) → AreBroken sink work.writes cabinet cabinet_now → printer_now ≡ printer → Settles work cabinet cabinet_now printer printer_now (ending work.ended (unwritten sink))
  settled_unwritten sink files same = record {
    went = unwritten sink;
    ended = refl;
    counts = (files.rose, ap (λ p. p.faults) same);
    files = files.told;
    prints = λ text told. ap (λ p. p.told) same ∙ told;
    files_heard = files.heard;
    lines_heard = ap (λ p. p.heard) same;
    silent = files.silent;
    printer_silent = λ none. ap (λ p. p.told) same ∙ none;
  }

-- ---- what a call says that writes a file, or prints a line

-- no file is to be written
pub none_written : (before : Stand Files) → AreWritten [] before before
none_written before = record { kept = refl; told = λ files told. told; heard = refl; silent = λ none. none }

pub writes_it : {T E : Type 0} (result : Result T E) (write : Write) (before now : Stand Files) → HasCause before.faults now.faults ⊥ result
    → ((files : Files) → before.told ≡ Some files → OnOk result (now.told ≡ Some (map.insert files write.name write.bytes)))
    → ((files : Files) → before.told ≡ Some files → OnErr result ((now.told ≡ Some files) ⊎ HoldsFront files write.name write.bytes now.told))
    → (before.told ≡ None → now.told ≡ None) → OnOk result (HasWritten before.heard write.name write.bytes now.heard) → OnErr result (HasBroken before.heard write.name write.bytes now.heard)
    → WritesIt write before now result
writes_it (Ok done) write before now cause written failed silent heard broken = record { kept = cause.kept; told = written; heard = (now.heard, heard, refl); silent = silent }
writes_it (Err why) write before now cause written failed silent heard broken = record { rose = surely cause.failed; told = λ files told. inl (refl, failed files told); heard = inl (refl, broken); silent = silent }

-- the same in the words of a file that is written by parts
pub writes_whole : {T E : Type 0} (result : Result T E) (write : Write) (before now : Stand Files) → HasCause before.faults now.faults ⊥ result
    → OnOk result (IsWhole before.told write.name write.bytes now.told) → OnErr result (IsLeft before.told write.name write.bytes now.told)
    → OnOk result (HasWritten before.heard write.name write.bytes now.heard) → OnErr result (HasBroken before.heard write.name write.bytes now.heard)
    → WritesIt write before now result
writes_whole result write before now cause all left heard broken =
    writes_it result write before now cause (OnOk-whole result before.told write.name write.bytes now.told all) (OnErr-left result before.told write.name write.bytes now.told left)
    (silent-still result before.told write.name write.bytes now.told all left) heard broken

pub prints_line : {T E : Type 0} (result : Result T E) (line : List ℕ) (before now : Stand (List ℕ)) → HasCause before.faults now.faults ⊥ result
    → ((text : List ℕ) → before.told ≡ Some text → OnOk result (now.told ≡ Some (text ++ line_of line)))
    → ((text : List ℕ) → before.told ≡ Some text → OnErr result (AddsFront text (line_of line) now.told))
    → (before.told ≡ None → now.told ≡ None) → now.heard ≡ after before.heard (λ _. printed line ∷ []) result
    → PrintsAll (line ∷ []) before now result
prints_line (Ok done) line before now cause shown failed silent heard = record {
  kept = cause.kept;
  told = λ text told. shown text told ∙ ap (λ ys. Some (text ++ ys)) (sym (append-nil (line_of line)));
  heard = heard;
  silent = silent;
}
prints_line (Err why) line before now cause shown failed silent heard = record {
  rose = surely cause.failed;
  told = λ text told. subst (λ ys. AddsFront text ys now.told) (sym (append-nil (line_of line))) (failed text told);
  heard = (0, omega arith, heard ∙ sym (append-nil before.heard));
  silent = silent;
}
