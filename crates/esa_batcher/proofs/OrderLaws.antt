-- Records whose order is looked at part by part.
use Rattle.std.proofs.Common.{◌≡◌, ℕ, suc, zero, ◌+◌, ◌-◌, ◌*◌, ◌/◌, ◌<◌, ◌≤◌, Bool, true, false, cond, List, [], ◌∷◌, length, take, drop, Option, Some, None, sym, refl, ap, ◌∙◌, arith}
use Rattle.std.specs.Ordering.{is_lt}
use Rattle.std.proofs.Math.Nat.{le-div_iff_mul-le}
use Rattle.std.specs.List.{concat}
use Rattle.std.proofs.lemmas.List.{length-take-le, length-drop, drop-drop}
use Rattle.std.proofs.lemmas.List.Elements.{All-take, All-drop}
use Rattle.esa_header.specs.Pieces.{pieces, HaveLength}
use Rattle.esa_header.proofs.PieceLaws.{pieces-concat}
use Rattle.esa_batcher.specs.Rising.{by_bytes, fall_behind, fall_at}

-- the pieces of some records that lie one behind another are these records
part_records : (size first number : ℕ) (records : List (List ℕ)) (part : List ℕ) → HaveLength size records → first + number ≤ length records → part ≡ concat (take number (drop first records))
    → pieces size number part ≡ take number (drop first records)
part_records size first number records part have within is =
    let some = take number (drop first records) in
    let long : length some ≡ number = length-take-le number (drop first records) (omega (arith, length-drop first records)) in
    ap (λ bytes. pieces size number bytes) is
    ∙ ap (λ n. pieces size n (concat some)) (sym long)
    ∙ pieces-concat size some (All-take (λ piece. length piece ≡ size) number (drop first records) (All-drop (λ piece. length piece ≡ size) first records have))

-- so the first fall among the bytes is that among the records
pub part_order : (size first number : ℕ) (records : List (List ℕ)) (part : List ℕ) (fall : Option ℕ) → HaveLength size records → first + number ≤ length records → part ≡ concat (take number (drop first records))
    → fall ≡ fall_at first (pieces size number part) → fall ≡ fall_at first (take number (drop first records))
part_order size first number records part fall have within is found = found ∙ ap (fall_at first) (part_records size first number records part have within is)

drop_none : (n : ℕ) → ◌≡◌ {A = List (List ℕ)} (drop n []) []
drop_none zero = refl
drop_none (suc n) = refl

further_by : (b : Bool) (n place : ℕ) (found : List ℕ) (rest : List (List ℕ))
    → (fall_at (place + 1) (take (suc n) (found ∷ rest)) ≡ None → fall_at (place + 1) (found ∷ rest) ≡ fall_at (place + 1 + n) (drop n (found ∷ rest)))
    → cond b (Some (place + 1)) (fall_behind (place + 1 + 1) found (take n rest)) ≡ None
    → cond b (Some (place + 1)) (fall_behind (place + 1 + 1) found rest) ≡ fall_at (place + suc n) (drop n (found ∷ rest))
further_by true n place found rest later none = cc
further_by false n place found rest later none =
    let at : place + 1 + n ≡ place + suc n = omega arith in
    later none ∙ ap (λ p. fall_at p (drop n (found ∷ rest))) at

-- where none of the first records falls, the last of them and what is behind decide
pub fall_at-further : (n place : ℕ) (records : List (List ℕ)) → fall_at place (take (suc n) records) ≡ None → fall_at place records ≡ fall_at (place + n) (drop n records)
fall_at-further zero place records none = let same : place ≡ place + 0 = omega arith in ap (λ p. fall_at p records) same
fall_at-further (suc n) place [] none = sym (ap (fall_at (place + suc n)) (drop_none (suc n)))
fall_at-further (suc n) place (first ∷ []) none = sym (ap (fall_at (place + suc n)) (drop_none n))
fall_at-further (suc n) place (first ∷ found ∷ rest) none =
    further_by (is_lt (by_bytes found first)) n place found rest (fall_at-further n (place + 1) (found ∷ rest)) none

found_by : (b : Bool) (n place fall : ℕ) (found : List ℕ) (rest : List (List ℕ))
    → (fall_at (place + 1) (take (suc n) (found ∷ rest)) ≡ Some fall → fall_at (place + 1) (found ∷ rest) ≡ Some fall)
    → cond b (Some (place + 1)) (fall_behind (place + 1 + 1) found (take n rest)) ≡ Some fall
    → cond b (Some (place + 1)) (fall_behind (place + 1 + 1) found rest) ≡ Some fall
found_by true n place fall found rest later some = some
found_by false n place fall found rest later some = later some

-- where one of the first records falls, it is the first of all
pub fall_at-found : (n place fall : ℕ) (records : List (List ℕ)) → fall_at place (take (suc n) records) ≡ Some fall → fall_at place records ≡ Some fall
fall_at-found n place fall [] some = some
fall_at-found zero place fall (first ∷ rest) some = cc
fall_at-found (suc n) place fall (first ∷ []) some = some
fall_at-found (suc n) place fall (first ∷ found ∷ rest) some =
    found_by (is_lt (by_bytes found first)) n place fall found rest (fall_at-found n (place + 1) fall (found ∷ rest)) some

-- a single record doesn't fall
pub fall_at-single : (place : ℕ) (records : List (List ℕ)) → length records ≤ 1 → fall_at place records ≡ None
fall_at-single place [] few = refl
fall_at-single place (first ∷ []) few = refl
fall_at-single place (first ∷ found ∷ rest) few = absurd (omega arith)

one_up : (number : ℕ) → 2 ≤ number → suc (number - 1) ≡ number
one_up number two = omega arith

-- one part further
module _ (first number : ℕ) (records : List (List ℕ)) (two : 2 ≤ number) (so_far : fall_at 0 records ≡ fall_at first (drop first records)) (fall : Option ℕ) (found : fall ≡ fall_at first (take number (drop first records))) where
  pub order_further : fall ≡ None → fall_at 0 records ≡ fall_at (first + (number - 1)) (drop (first + (number - 1)) records)
  order_further none =
      so_far
      ∙ fall_at-further (number - 1) first (drop first records) (ap (λ n. fall_at first (take n (drop first records))) (one_up number two) ∙ sym found ∙ none)
      ∙ ap (fall_at (first + (number - 1))) (drop-drop (number - 1) first records)

  pub order_found : (place : ℕ) → fall ≡ Some place → Some place ≡ fall_at 0 records
  order_found place some =
      sym (so_far ∙ fall_at-found (number - 1) first place (drop first records) (ap (λ n. fall_at first (take n (drop first records))) (one_up number two) ∙ sym found ∙ some))

pub order_last : (first count : ℕ) (records : List (List ℕ)) → length records ≡ count → count ≤ first + 1 → fall_at 0 records ≡ fall_at first (drop first records) → None ≡ fall_at 0 records
order_last first count records long last so_far =
    sym (so_far ∙ fall_at-single first (drop first records) (omega (arith, length-drop first records)))

-- two records at least lie in the buffer
pub room_two : (size given have : ℕ) → size ≡ given → 0 < given → 2 * given ≤ have → 2 ≤ have / size
room_two size given have is some two =
    let many : 0 < size = omega arith in
    let both : 2 * size ≤ have = omega arith in
    (le-div_iff_mul-le many).1 both
