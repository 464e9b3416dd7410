-- Lines that are printed one after another.
use Rattle.std.proofs.Common.{◌≡◌, ℕ, ◌+◌, ◌<◌, ◌≤◌, List, [], ◌∷◌, ◌++◌, length, take, drop, get_or, map, flat_map, Some, Result, Ok, Err, refl, sym, ap, subst, ◌∙◌, append-nil, append_assoc, arith}
use Rattle.std.proofs.Math.Seq.{take-append-add}
use Rattle.std.proofs.lemmas.Grind.{flat_map-append}
use Rattle.std.proofs.lemmas.List.{map-append, take-append-le, take_more, take_all, take-append-drop, length-append}
use Rattle.esa_outside.specs.Cause.{Rose}
use Rattle.esa_outside.specs.Heard.{printed}
use Rattle.esa_outside.specs.Told.{AddsFront, line_of}
use Rattle.esa_command.specs.Doing.{ArePrinted, AreCut, PrintsAll}
use Rattle.esa_command.specs.Stand.{Stand}

-- a front of a part that stands between others
take_behind : {A : Type 0} (done part more : List A) (n : ℕ) → n ≤ length part → take (length done + n) ((done ++ part) ++ more) ≡ done ++ take n part
take_behind done part more n few =
    take-append-le (length done + n) (done ++ part) more (omega (arith, few, length-append done part)) ∙ take-append-add done part n

pub none_printed : (before : Stand (List ℕ)) → ArePrinted [] before before
none_printed before = record {
  kept = refl;
  told = λ text told. told ∙ ap Some (sym (append-nil text));
  heard = sym (append-nil before.heard);
  silent = λ none. none;
}

module _ (before middle now : Stand (List ℕ)) (done part : List (List ℕ)) (first : ArePrinted done before middle) where
  pub printed_then : ArePrinted part middle now → ArePrinted (done ++ part) before now
  printed_then then = record {
    kept = then.kept ∙ first.kept;
    told = λ text told.
        then.told (text ++ flat_map line_of done) (first.told text told) ∙ ap Some (append_assoc text (flat_map line_of done) (flat_map line_of part))
        ∙ ap (λ ys. Some (text ++ ys)) (sym (flat_map-append line_of done part));
    heard = then.heard ∙ ap (λ ys. ys ++ map printed part) first.heard ∙ append_assoc before.heard (map printed done) (map printed part)
        ∙ ap (λ ys. before.heard ++ ys) (sym (map-append printed done part));
    silent = λ none. then.silent (first.silent none);
  }

  cut_front : (more : List (List ℕ)) (text : List ℕ) → AddsFront (text ++ flat_map line_of done) (flat_map line_of part) now.told → AddsFront text (flat_map line_of ((done ++ part) ++ more)) now.told
  cut_front more text front =
      let all : flat_map line_of ((done ++ part) ++ more) ≡ (flat_map line_of done ++ flat_map line_of part) ++ flat_map line_of more =
      flat_map-append line_of (done ++ part) more ∙ ap (λ ys. ys ++ flat_map line_of more) (flat_map-append line_of done part) in
      let n = front.0 in
      subst (λ whole. AddsFront text whole now.told) (sym all) (
        length (flat_map line_of done) + n,
        omega (arith, front.1, length-append (flat_map line_of done ++ flat_map line_of part) (flat_map line_of more), length-append (flat_map line_of done) (flat_map line_of part)),
        front.2 ∙ ap Some (append_assoc text (flat_map line_of done) (take n (flat_map line_of part)))
            ∙ ap (λ ys. Some (text ++ ys)) (sym (take_behind (flat_map line_of done) (flat_map line_of part) (flat_map line_of more) n front.1)),
      )

  pub cut_then : (more : List (List ℕ)) → AreCut part middle now → AreCut ((done ++ part) ++ more) before now
  cut_then more then = record {
    rose = subst (λ n. Rose n now.faults) first.kept then.rose;
    told = λ text told. cut_front more text (then.told (text ++ flat_map line_of done) (first.told text told));
    heard =
        let n = then.heard.0 in (
          length done + n,
          omega (arith, then.heard.1, length-append (done ++ part) more, length-append done part),
          then.heard.2 ∙ ap (λ ys. ys ++ map printed (take n part)) first.heard ∙ append_assoc before.heard (map printed done) (map printed (take n part))
              ∙ ap (λ ys. before.heard ++ ys) (sym (map-append printed done (take n part)))
              ∙ ap (λ ys. before.heard ++ map printed ys) (sym (take_behind done part more n (omega (arith, then.heard.1)))),
        );
    silent = λ none. then.silent (first.silent none);
  }

-- ---- the lines of a list, one by one

module _ (lines : List (List ℕ)) (i : ℕ) (line : List ℕ) (below : i < length lines) (is : line ≡ get_or lines i []) (before middle now : Stand (List ℕ)) (so_far : ArePrinted (take i lines) before middle) where
  further : take (i + 1) lines ≡ take i lines ++ line ∷ []
  further = take_more lines i [] below ∙ ap (λ l. take i lines ++ l ∷ []) (sym is)

  -- one line further
  pub printed_next : ArePrinted (line ∷ []) middle now → ArePrinted (take (i + 1) lines) before now
  printed_next next = subst (λ ls. ArePrinted ls before now) (sym further) (printed_then before middle now (take i lines) (line ∷ []) so_far next)

  -- a line that isn't printed is the end
  pub cut_next : AreCut (line ∷ []) middle now → AreCut lines before now
  cut_next next =
      subst (λ ls. AreCut ls before now) (ap (λ ls. ls ++ drop (i + 1) lines) (sym further) ∙ take-append-drop (i + 1) lines)
      (cut_then before middle now (take i lines) (line ∷ []) so_far (drop (i + 1) lines) next)

-- all are printed
pub printed_end : (lines : List (List ℕ)) (i : ℕ) (before now : Stand (List ℕ)) → length lines ≤ i → ArePrinted (take i lines) before now → ArePrinted lines before now
printed_end lines i before now past so_far = subst (λ ls. ArePrinted ls before now) (take_all i lines past) so_far

-- ---- lines and others behind them

module _ {T E : Type 0} (before middle now : Stand (List ℕ)) (lines more : List (List ℕ)) where
  pub prints_then : (result : Result T E) → ArePrinted lines before middle → PrintsAll more middle now result → PrintsAll (lines ++ more) before now result
  prints_then (Ok done) so_far next = printed_then before middle now lines more so_far next
  prints_then (Err why) so_far next = subst (λ ls. AreCut ls before now) (append-nil (lines ++ more)) (cut_then before middle now lines more so_far [] next)

-- lines that aren't all printed, before others
pub cut_before : (before now : Stand (List ℕ)) (lines more : List (List ℕ)) → AreCut lines before now → AreCut (lines ++ more) before now
cut_before before now lines more cut = cut_then before before now [] lines (none_printed before) more cut
