-- Reading a table of drops line by line.
use Rattle.std.proofs.Common.{◌≡◌, ℕ, suc, ◌+◌, ◌-◌, ◌<◌, ◌≤◌, List, [], ◌∷◌, ◌++◌, map, take, drop, length, set, slice_get, Some, None, option_and_then, Ok, Err, refl, ap, ◌∙◌, sym, arith, add-one}
use Rattle.std.specs.Option.{some_prefix}
use Rattle.std.proofs.lemmas.Bool.{lt-ltb, le-ltb}
use Rattle.std.proofs.lemmas.List.{append-nil, length-take-le, take_all}
use Rattle.std.proofs.Math.Seq.{take-suc-set, append_snoc}
use Rattle.esa_job.specs.declared.drops.DropsRefused.TheVariants.{Line}
use Rattle.esa_job.specs.Drops.{drop_in, drops_in, as_table, table_of}

-- the first `place` entries are the drops of the lines so far, and these lines are left
pub record SoFar (lines : List (List ℕ)) (entries : List ℕ) (place : ℕ) (left : List (List ℕ)) : Type 0 where
  pub drops : drops_in (take 256 lines) ≡ take place entries ++ drops_in (take (256 - place) left)
  pub count : length lines ≡ place + length left

pub begun : (lines : List (List ℕ)) (entries : List ℕ) → SoFar lines entries 0 lines
begun lines entries = record { drops = refl; count = omega arith }

first_good : (n : ℕ) (left : List (List ℕ)) (number : ℕ) → option_and_then drop_in (slice_get left 0) ≡ Some number → drops_in (take (suc n) left) ≡ number ∷ drops_in (take n (drop 1 left))
first_good n [] number good = cc
first_good n (line ∷ left) number good = ap (λ found. some_prefix (found ∷ map drop_in (take n left))) good

first_bad : (n : ℕ) (left : List (List ℕ)) → option_and_then drop_in (slice_get left 0) ≡ None → drops_in (take (suc n) left) ≡ []
first_bad n [] bad = refl
first_bad n (line ∷ left) bad = ap (λ found. some_prefix (found ∷ map drop_in (take n left))) bad

one_less : (left : List (List ℕ)) (number : ℕ) → option_and_then drop_in (slice_get left 0) ≡ Some number → length left ≡ 1 + length (drop 1 left)
one_less [] number good = cc
one_less (line ∷ left) number good = omega arith

pub one_more : (lines : List (List ℕ)) (entries : List ℕ) (place : ℕ) (left rest : List (List ℕ)) (number : ℕ) → place < 256 → length entries ≡ 256 → SoFar lines entries place left → Some number ≡ option_and_then drop_in (slice_get left 0) → drop 1 left ≡ rest → SoFar lines (set entries place number) (place + 1) rest
one_more lines entries place left rest number below full so_far good goes_on =
    let wanted : 256 - place ≡ suc (256 - (place + 1)) = omega arith in
    let inside : place < length entries = omega arith in
    let next : drops_in (take (256 - place) left) ≡ number ∷ drops_in (take (256 - (place + 1)) rest) =
    ap (λ n. drops_in (take n left)) wanted
    ∙ first_good (256 - (place + 1)) left number (sym good)
    ∙ ap (λ lines. number ∷ drops_in (take (256 - (place + 1)) lines)) goes_on in
    let front : take (place + 1) (set entries place number) ≡ take place entries ++ (number ∷ []) =
    ap (λ n. take n (set entries place number)) (add-one place) ∙ take-suc-set entries place number inside in
    let count : length left ≡ 1 + length rest = one_less left number (sym good) ∙ ap (λ lines. 1 + length lines) goes_on in
    record {
      drops = so_far.drops ∙ ap (λ more. take place entries ++ more) next ∙ sym (append_snoc (take place entries) number _) ∙ ap (λ done. done ++ drops_in (take (256 - (place + 1)) rest)) (sym front);
      count = omega (arith, so_far.count);
    }

-- which case of the table it is
refused_at : (drops : List ℕ) (count place : ℕ) → length drops ≡ place → place < 256 → as_table drops count ≡ Err (Line (place + 1))
refused_at drops count place are below = rw are (rw (lt-ltb place 256 below) refl)

refused_behind : (drops : List ℕ) (count : ℕ) → length drops ≡ 256 → 256 < count → as_table drops count ≡ Err (Line 257)
refused_behind drops count are more = rw are (rw (lt-ltb 256 count more) refl)

accepted : (drops : List ℕ) (count : ℕ) → length drops ≡ 256 → count ≤ 256 → as_table drops count ≡ Ok drops
accepted drops count are whole = rw are (rw (le-ltb 256 count whole) refl)

pub bad_line : (lines : List (List ℕ)) (entries : List ℕ) (place : ℕ) (left : List (List ℕ)) → place < 256 → length entries ≡ 256 → SoFar lines entries place left → None ≡ option_and_then drop_in (slice_get left 0) → table_of lines ≡ Err (Line (place + 1))
bad_line lines entries place left below full so_far bad =
    let wanted : 256 - place ≡ suc (256 - (place + 1)) = omega arith in
    let inside : place ≤ length entries = omega arith in
    let next : drops_in (take (256 - place) left) ≡ [] = ap (λ n. drops_in (take n left)) wanted ∙ first_bad (256 - (place + 1)) left (sym bad) in
    let drops = so_far.drops ∙ ap (λ more. take place entries ++ more) next ∙ append-nil (take place entries) in
    refused_at (drops_in (take 256 lines)) (length lines) place (ap length drops ∙ length-take-le place entries inside) below

-- behind the last entry
all_entries : (lines : List (List ℕ)) (entries : List ℕ) (place : ℕ) (left : List (List ℕ)) → place ≡ 256 → length entries ≡ 256 → SoFar lines entries place left → drops_in (take 256 lines) ≡ entries
all_entries lines entries place left last full so_far =
    let none : 256 - place ≡ 0 = omega arith in
    let fits : length entries ≤ place = omega arith in
    so_far.drops ∙ ap (λ n. take place entries ++ drops_in (take n left)) none ∙ append-nil (take place entries) ∙ take_all place entries fits

pub another_line : (lines : List (List ℕ)) (entries : List ℕ) (place : ℕ) (left : List (List ℕ)) (line : List ℕ) (rest : List (List ℕ)) → place ≡ 256 → length entries ≡ 256 → SoFar lines entries place left → left ≡ line ∷ rest → table_of lines ≡ Err (Line 257)
another_line lines entries place left line rest last full so_far more =
    let count : 256 < length lines = omega (arith, so_far.count, ap length more) in
    refused_behind (drops_in (take 256 lines)) (length lines) (ap length (all_entries lines entries place left last full so_far) ∙ full) count

pub whole_table : (lines : List (List ℕ)) (entries : List ℕ) (place : ℕ) (left : List (List ℕ)) → place ≡ 256 → length entries ≡ 256 → SoFar lines entries place left → left ≡ [] → table_of lines ≡ Ok entries
whole_table lines entries place left last full so_far none =
    let count : length lines ≤ 256 = omega (arith, so_far.count, ap length none) in
    let drops = all_entries lines entries place left last full so_far in
    accepted (drops_in (take 256 lines)) (length lines) (ap length drops ∙ full) count ∙ ap (λ found. Ok found) drops
