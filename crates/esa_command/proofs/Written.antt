-- Files that are written one after another.
use Rattle.std.proofs.Common.{◌≡◌, inl, inr, List, [], ◌∷◌, ◌++◌, Option, Some, Result, Ok, Err, refl, sym, ap, subst, ◌∙◌}
use Rattle.std.specs.FinMap as map
use Rattle.esa_lists.specs.Files.{Files}
use Rattle.esa_outside.specs.Cause.{Rose}
use Rattle.esa_outside.specs.Heard.{Event}
use Rattle.esa_refusal.specs.declared.source.Sink.{Sink}
use Rattle.esa_command.specs.Doing.{AreWritten, AreBroken, WritesIt, WritesAll}
use Rattle.esa_command.specs.Settled.{written, BreaksAt, WritesHeard, BreakHeard}
use Rattle.esa_command.specs.Stand.{Stand}
use Rattle.esa_command.specs.Work.{Write}

written-append : (some more : List Write) (files : Files) → written files (some ++ more) ≡ written (written files some) more
written-append [] more files = refl
written-append (write ∷ some) more files = written-append some more (map.insert files write.name write.bytes)

heard-append : (some more : List Write) (before middle now : List Event) → WritesHeard some before middle → WritesHeard more middle now → WritesHeard (some ++ more) before now
heard-append [] more before middle now first then = subst (λ heard. WritesHeard more heard now) first then
heard-append (write ∷ some) more before middle now first then = (first.0, first.1, heard-append some more first.0 middle now first.2 then)

breaks-behind : (sink : Sink) (some more : List Write) (files : Files) (left : Option Files) → BreaksAt sink (written files some) more left → BreaksAt sink files (some ++ more) left
breaks-behind sink [] more files left breaks = breaks
breaks-behind sink (write ∷ some) more files left breaks = inr (breaks-behind sink some more (map.insert files write.name write.bytes) left breaks)

breaks-before : (sink : Sink) (some more : List Write) (files : Files) (left : Option Files) → BreaksAt sink files some left → BreaksAt sink files (some ++ more) left
breaks-before sink [] more files left breaks = absurd breaks
breaks-before sink (write ∷ some) more files left (inl here) = inl here
breaks-before sink (write ∷ some) more files left (inr later) = inr (breaks-before sink some more (map.insert files write.name write.bytes) left later)

break-heard-behind : (sink : Sink) (some more : List Write) (before middle now : List Event) → WritesHeard some before middle → BreakHeard sink more middle now → BreakHeard sink (some ++ more) before now
break-heard-behind sink [] more before middle now first then = subst (λ heard. BreakHeard sink more heard now) first then
break-heard-behind sink (write ∷ some) more before middle now first then = inr (first.0, first.1, break-heard-behind sink some more first.0 middle now first.2 then)

break-heard-before : (sink : Sink) (some more : List Write) (before now : List Event) → BreakHeard sink some before now → BreakHeard sink (some ++ more) before now
break-heard-before sink [] more before now broken = absurd broken
break-heard-before sink (write ∷ some) more before now (inl here) = inl here
break-heard-before sink (write ∷ some) more before now (inr later) = inr (later.0, later.1, break-heard-before sink some more later.0 now later.2)

-- a call that writes a file, by whose answer its sink is given
abbrev pub by_sink : {T E : Type 0} → Sink → Result T E → Result T Sink
by_sink sink (Ok done) = Ok done
by_sink sink (Err why) = Err sink

pub writes_one : {T E : Type 0} (write : Write) (before now : Stand Files) (result : Result T E) → WritesIt write before now result → WritesAll (write ∷ []) before now (by_sink write.sink result)
writes_one write before now (Ok done) it = it
writes_one write before now (Err why) it = it

-- the others weren't begun
pub broken_before : (sink : Sink) (some more : List Write) (before now : Stand Files) → AreBroken sink some before now → AreBroken sink (some ++ more) before now
broken_before sink some more before now broken = record {
  rose = broken.rose;
  told = λ files told. breaks-before sink some more files now.told (broken.told files told);
  heard = break-heard-before sink some more before.heard now.heard broken.heard;
  silent = broken.silent;
}

module _ (some more : List Write) (before middle now : Stand Files) (first : AreWritten some before middle) where
  pub writes_then : {T : Type 0} (result : Result T Sink) → WritesAll more middle now result → WritesAll (some ++ more) before now result
  writes_then (Ok done) then = record {
    kept = then.kept ∙ first.kept;
    told = λ files told. then.told (written files some) (first.told files told) ∙ ap Some (sym (written-append some more files));
    heard = heard-append some more before.heard middle.heard now.heard first.heard then.heard;
    silent = λ none. then.silent (first.silent none);
  }
  writes_then (Err sink) then = record {
    rose = subst (λ n. Rose n now.faults) first.kept then.rose;
    told = λ files told. breaks-behind sink some more files now.told (then.told (written files some) (first.told files told));
    heard = break-heard-behind sink some more before.heard middle.heard now.heard first.heard then.heard;
    silent = λ none. then.silent (first.silent none);
  }
