-- A file that is read piece by piece.
use Rattle.std.proofs.Common.{◌≡◌, ℕ, zero, suc, ◌+◌, ◌-◌, ◌*◌, ◌<◌, ◌≤◌, List, [], ◌∷◌, ◌++◌, length, take, drop, Option, Some, None, refl, sym, ap, subst, ◌∙◌, arith}
use Rattle.std.specs.Prelude.{slice_range}
use Rattle.std.specs.List.{concat}
use Rattle.std.specs.FinMap as map
use Rattle.std.proofs.Math.Nat.{mul-le-mul_right}
use Rattle.std.proofs.lemmas.List.{append-nil, append_assoc, length-append, length-drop, length-take-le, drop-drop, drop-append-le, take_at}
use Rattle.std.proofs.lemmas.Slice.{between_is}
use Rattle.esa_lists.specs.Files.{Files}
use Rattle.esa_outside.specs.Heard.{Event, part_of}
use Rattle.esa_outside.specs.Told.{IsPart}
use Rattle.esa_page.specs.Piecewise.{pieces_heard}
use Rattle.esa_header.specs.Pieces.{pieces, HaveLength}
use Rattle.esa_header.proofs.HeaderLaws.{take_split}
use Rattle.esa_header.proofs.PieceLaws.{length-pieces}
use Rattle.esa_batcher.specs.Paging.{IsHeard, PartScanned, RecordsScanned, HasPassed}
use Rattle.esa_batcher.specs.Rising.{fall_at}
use Rattle.esa_batcher.proofs.OrderLaws.{part_order, order_further, order_found, order_last}
use Rattle.esa_batcher.proofs.Parts.{part-pieces, HaveLength-front}

-- pieces one behind another, and then more of them
pub pieces_heard-append : (name : List ℕ) (at : ℕ) (one two : List (List ℕ)) → pieces_heard name at (one ++ two) ≡ pieces_heard name at one ++ pieces_heard name (at + length (concat one)) two
pieces_heard-append name at [] two = let same : at ≡ at + 0 = omega arith in ap (λ place. pieces_heard name place two) same
pieces_heard-append name at (piece ∷ one) two =
    let place : at + length piece + length (concat one) ≡ at + length (piece ++ concat one) = omega (arith, length-append piece (concat one)) in
    ap (λ events. part_of name at piece ∷ events) (pieces_heard-append name (at + length piece) one two ∙ ap (λ p. pieces_heard name (at + length piece) one ++ pieces_heard name p two) place)

concat-append : (one two : List (List ℕ)) → concat (one ++ two) ≡ concat one ++ concat two
concat-append [] two = refl
concat-append (piece ∷ one) two = ap (λ bytes. piece ++ bytes) (concat-append one two) ∙ sym (append_assoc piece (concat one) (concat two))

part-is : (held : Option (List ℕ)) (at : ℕ) (piece file : List ℕ) → IsPart held at piece → held ≡ Some file → piece ≡ take (length piece) (drop at file)
part-is None at piece file is there = absurd is
part-is (Some bytes) at piece file is there = let same : bytes ≡ file = cc in is.1 ∙ ap (λ b. take (length piece) (drop at b)) same

module _ (name : List ℕ) (told : Option Files) (at : ℕ) where
  pub heard-none : (before now : List Event) → now ≡ before → IsHeard name told at before now []
  heard-none before now same = record { pieces = []; are = refl; heard = same ∙ sym (append-nil before); tells = λ files file tells there. refl }

  pub heard-one : (before now : List Event) (piece : List ℕ) → now ≡ before ++ part_of name at piece ∷ [] → ((files : Files) → told ≡ Some files → IsPart (map.get files name) at piece) → IsHeard name told at before now piece
  heard-one before now piece heard part = record {
    pieces = piece ∷ [];
    are = append-nil piece;
    heard = heard;
    tells = λ files file tells there. part-is (map.get files name) at piece file (part files tells) there;
  }

  pub heard-then : (before middle now : List Event) (one two : List ℕ) → IsHeard name told at before middle one → IsHeard name told (at + length one) middle now two → IsHeard name told at before now (one ++ two)
  heard-then before middle now one two first second =
      let place : at + length one ≡ at + length (concat first.pieces) = ap (λ bytes. at + length bytes) (sym first.are) in
      record {
        pieces = first.pieces ++ second.pieces;
        are = concat-append first.pieces second.pieces ∙ (λ i. first.are i ++ second.are i);
        heard = second.heard
            ∙ (λ i. first.heard i ++ pieces_heard name (place i) second.pieces)
            ∙ append_assoc before (pieces_heard name at first.pieces) (pieces_heard name (at + length (concat first.pieces)) second.pieces)
            ∙ ap (λ events. before ++ events) (sym (pieces_heard-append name at first.pieces second.pieces));
        tells = λ files file tells there.
            (λ i. first.tells files file tells there i ++ second.tells files file tells there i)
            ∙ ap (λ bytes. take (length one) (drop at file) ++ take (length two) bytes) (sym (drop-drop (length one) at file))
            ∙ sym (take_split (length one) (length two) (drop at file))
            ∙ ap (λ n. take n (drop at file)) (sym (length-append one two));
      }

pub one_place_on : (first number size : ℕ) → 2 ≤ number → (first + (number - 1)) * size + size ≡ first * size + number * size
one_place_on first (suc n) size two =
    let less : suc n - 1 ≡ n = omega arith in
    let next : (first + n) * size + size ≡ first * size + suc n * size = omega arith in
    ap (λ k. (first + k) * size + size) less ∙ next
one_place_on first zero size two = absurd (omega arith)

all_but_one : (first number size : ℕ) → 2 ≤ number → first * size + (number - 1) * size ≡ (first + (number - 1)) * size
all_but_one first number size two = omega arith

module _ (name : List ℕ) (told : Option Files) (start : ℕ) (before : List Event) (size count : ℕ) (front : List ℕ) where
  pub passed-none : (buffer : List ℕ) (now : List Event) (at kept : ℕ) → now ≡ before → at ≡ start → front ≡ take kept buffer → length front ≡ kept → kept ≤ count * size → HasPassed name told start before now size count front 0 at kept buffer
  passed-none buffer now at kept same place is long fits = record {
    bytes = [];
    read = heard-none name told start before now same;
    place = omega (arith, place);
    reached = omega (arith, long);
    within = omega (arith, long, fits);
    keeps = let none : 0 ≡ 0 * size = omega arith in sym is ∙ sym (append-nil front) ∙ ap (λ n. drop n (front ++ [])) none;
    order = λ rest whole. refl;
  }

  -- one part further
  module _ (first at kept : ℕ) (buffer : List ℕ) (now after : List Event) (passed : HasPassed name told start before now size count front first at kept buffer)
      (number : ℕ) (later : List ℕ) (fall : Option ℕ) (part : PartScanned name told at now after size first number (take kept buffer) later fall) (two : 2 ≤ number) (fits : first + number ≤ count) where
    abbrev whole : List ℕ → List ℕ
    whole rest = (front ++ passed.bytes) ++ (part.bytes ++ rest)

    abbrev all : List ℕ
    all = passed.bytes ++ part.bytes

    same_whole : (rest : List ℕ) → whole rest ≡ (front ++ all) ++ rest
    same_whole rest =
        sym (append_assoc (front ++ passed.bytes) part.bytes rest) ∙ ap (λ bytes. bytes ++ rest) (append_assoc front passed.bytes part.bytes)

    before_first : first * size ≤ length (front ++ passed.bytes)
    before_first = omega (arith, passed.reached, length-append front passed.bytes)

    long : (kept + length part.bytes ≡ number * size)
    long = omega (arith, part.long, ap length passed.keeps, length-drop (first * size) (front ++ passed.bytes), length-append front passed.bytes, passed.reached)

    content : (rest : List ℕ) → drop (first * size) (whole rest) ≡ (take kept buffer ++ part.bytes) ++ rest
    content rest =
        drop-append-le (first * size) (front ++ passed.bytes) (part.bytes ++ rest) before_first
        ∙ ap (λ bytes. bytes ++ (part.bytes ++ rest)) (sym passed.keeps)
        ∙ sym (append_assoc (take kept buffer) part.bytes rest)

    abbrev records : List ℕ → List (List ℕ)
    records rest = pieces size count (whole rest)

    found : (rest : List ℕ) → length (whole rest) ≡ count * size → fall ≡ fall_at first (take number (drop first (records rest)))
    found rest full =
        let have : HaveLength size (records rest) = HaveLength-front size count (whole rest) (omega (arith, full)) in
        let inside : first + number ≤ length (records rest) = omega (arith, fits, length-pieces size count (whole rest)) in
        let filled : length (take kept buffer ++ part.bytes) ≡ number * size = length-append (take kept buffer) part.bytes ∙ part.long in
        let is : take kept buffer ++ part.bytes ≡ concat (take number (drop first (records rest))) =
        sym (take_at (take kept buffer ++ part.bytes) rest (number * size) filled)
        ∙ ap (take (number * size)) (sym (content rest))
        ∙ part-pieces size count first number (number * size) (whole rest) refl fits in
        part_order size first number (records rest) (take kept buffer ++ part.bytes) fall have inside is part.order

    full_whole : (rest : List ℕ) → length ((front ++ all) ++ rest) ≡ count * size → length (whole rest) ≡ count * size
    full_whole rest full = ap length (same_whole rest) ∙ full

    read_on : IsHeard name told start before after all
    read_on = heard-then name told start before now after passed.bytes part.bytes passed.read (subst (λ place. IsHeard name told place now after part.bytes) passed.place part.read)

    reached_on : (first + (number - 1)) * size + size ≡ length front + length all
    reached_on = one_place_on first number size two ∙ omega (arith, long, passed.reached, length-append passed.bytes part.bytes)

    keeps_on : take size later ≡ drop ((first + (number - 1)) * size) (front ++ all)
    keeps_on =
        part.keeps
        ∙ ap (drop ((number - 1) * size)) (sym (content [] ∙ append-nil (take kept buffer ++ part.bytes)))
        ∙ drop-drop ((number - 1) * size) (first * size) (whole [])
        ∙ (λ i. drop (all_but_one first number size two i) ((same_whole [] ∙ append-nil (front ++ all)) i))

    within_found : length front + length all ≤ count * size
    within_found =
        let more : (first + number) * size ≤ count * size = mul-le-mul_right size fits in
        let same : (first + number) * size ≡ first * size + number * size = omega arith in
        omega (arith, reached_on, one_place_on first number size two, more, same)

    pub passed-more : (next : ℕ) → fall ≡ None → next ≡ at + (number * size - kept) → HasPassed name told start before after size count front (first + (number - 1)) next size later
    passed-more next none place = record {
      bytes = all;
      read = read_on;
      place = omega (arith, place, passed.place, long, length-append passed.bytes part.bytes);
      reached = reached_on;
      within = within_found;
      keeps = keeps_on;
      order = λ rest full.
          subst (λ bytes. fall_at 0 (pieces size count bytes) ≡ fall_at (first + (number - 1)) (drop (first + (number - 1)) (pieces size count bytes))) (same_whole rest)
          (order_further first number (records rest) two (passed.order (part.bytes ++ rest) (full_whole rest full)) fall (found rest (full_whole rest full)) none);
    }

    pub passed-found : (place : ℕ) → fall ≡ Some place → RecordsScanned name told start before after size count front (Some place)
    passed-found place is = record {
      bytes = all;
      read = read_on;
      within = within_found;
      order = λ rest full.
          order_found first number (records rest) two (passed.order (part.bytes ++ rest) (full_whole rest full)) fall (found rest (full_whole rest full)) place is
          ∙ ap (λ bytes. fall_at 0 (pieces size count bytes)) (same_whole rest);
    }

  pub passed-last : (first at kept : ℕ) (buffer : List ℕ) (now : List Event) → HasPassed name told start before now size count front first at kept buffer → count ≤ first + 1 → RecordsScanned name told start before now size count front None
  passed-last first at kept buffer now passed last = record {
    bytes = passed.bytes;
    read = passed.read;
    within = passed.within;
    order = λ rest full.
        let all = (front ++ passed.bytes) ++ rest in
        order_last first count (pieces size count all) (length-pieces size count all) last (passed.order rest full);
  }

pub at_least_one : (number size : ℕ) → 0 < number → size ≤ number * size
at_least_one (suc n) size some = omega arith
at_least_one zero size some = absurd (omega arith)

but_the_last : (number size : ℕ) → number * size - size ≡ (number - 1) * size
but_the_last zero size =
    let none : zero - 1 ≡ zero = omega arith in
    let nothing : zero * size - size ≡ zero * size = omega arith in
    nothing ∙ ap (λ k. k * size) (sym none)
but_the_last (suc n) size =
    let less : suc n - 1 ≡ n = omega arith in
    let next : suc n * size - size ≡ n * size = omega arith in
    next ∙ ap (λ k. k * size) (sym less)

-- a part whose first bytes were kept, and whose others were read behind them
module _ (name : List ℕ) (told : Option Files) (at : ℕ) (before now : List Event) (size first number kept end : ℕ) (old read later : List ℕ) (some : 0 < number) (below : kept ≤ size) (ends : end ≡ number * size) (room : number * size ≤ length read) where
  pub part_below : size ≤ end
  part_below = omega (arith, at_least_one number size some, ends)

  whole_part : take kept read ≡ take kept old → take kept old ++ slice_range read kept end ≡ take end read
  whole_part same =
      let all : kept + (end - kept) ≡ end = omega (arith, part_below, below) in
      ap (λ front. front ++ slice_range read kept end) (sym same) ∙ sym (take_split kept (end - kept) read) ∙ ap (λ n. take n read) all

  pub part_scanned : IsHeard name told at before now (slice_range read kept end) → take kept read ≡ take kept old → (fall : Option ℕ) → fall ≡ fall_at first (pieces size number (take end read))
      → take (end - (end - size)) later ≡ slice_range read (end - size) end → PartScanned name told at before now size first number (take kept old) later fall
  part_scanned heard same fall falls keeps =
      let last : end - (end - size) ≡ size = omega (arith, part_below) in
      let front : end - size ≡ (number - 1) * size = ap (λ n. n - size) ends ∙ but_the_last number size in
      record {
        bytes = slice_range read kept end;
        read = heard;
        long = sym (length-append (take kept old) (slice_range read kept end)) ∙ ap length (whole_part same) ∙ length-take-le end read (omega (arith, ends, room)) ∙ ends;
        order = falls ∙ ap (λ bytes. fall_at first (pieces size number bytes)) (sym (whole_part same));
        keeps = ap (λ n. take n later) (sym last) ∙ keeps ∙ between_is read (end - size) end ∙ (λ i. drop (front i) (sym (whole_part same) i));
      }

-- and of all records it lies inside the file
pub part_in_file : (first number count size kept start at all : ℕ) → 0 < number → first + number ≤ count → kept ≤ size → at + all ≡ start + first * size + kept → all ≤ size
    → at + (number * size - kept) ≤ start + (count * size - all)
part_in_file first number count size kept start at all some fits below place few =
    let more : (first + number) * size ≤ count * size = mul-le-mul_right size fits in
    let split : (first + number) * size ≡ first * size + number * size = omega arith in
    omega (arith, more, split, place, at_least_one number size some, below, few)
