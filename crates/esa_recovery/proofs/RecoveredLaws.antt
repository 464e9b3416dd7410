-- The database of what rows mean can stand in a file: its counts are no greater than the sum of all counts.
use Rattle.std.proofs.Common.{◌≡◌, ℕ, ◌+◌, ◌-◌, ◌^◌, ◌<◌, ◌≤◌, Bool, true, false, cond, List, [], ◌∷◌, length, map, take, drop, Option, Some, None, Result, Ok, Err, Less, Equal, Greater, nat_cmp, refl, sym, ap, ◌∙◌, subst, arith}
use Rattle.std.specs.Prelude.{All, IfOk, MatchResult, bytes_eq, flat_map, if◌then◌else◌, nat_lt, slice_index, unwrap_or, sum_by}
use Rattle.std.specs.Option.{IfSome}
use Rattle.std.specs.declared.cmp.Ordering.{Ordering}
use Rattle.std.specs.Ordering.{is_eq, is_lt, eq_by_cmp}
use Rattle.std.specs.Cmp.Lexicographic.{slice_cmp, nat_list_cmp_total}
use Rattle.std.specs.FinMap as finite
use Rattle.std.specs.FinMap.Entries.{put, by_order}
use Rattle.std.proofs.lemmas.Bool.{and_parts}
use Rattle.std.proofs.lemmas.List.{length-map}
use Rattle.std.proofs.lemmas.List.FromFn.{length-range_with_len}
use Rattle.std.proofs.lemmas.List.Elements.{All-cons, All-head, All-nil, All-tail}
use Rattle.std.proofs.lemmas.List.Sums.{sum_by-cons, sum_by-le-sum_by}
use Rattle.esa_analyser.proofs.KeptLaws.{holds, rising}
use Rattle.esa_params.specs.declared.form.Form.{Form}
use Rattle.esa_params.specs.Sizes.{below}
use Rattle.esa_shares.specs.Polynomial.{column, combined, recovered}
use Rattle.esa_shares.specs.Share.{is_share, mark_of}
use Rattle.esa_analyser.specs.Database.{Database, longest}
use Rattle.esa_analyser.specs.Stored.{Stored}
use Rattle.esa_analyser.specs.Rows.{IsDatabase, IsRow}
use Rattle.esa_recovery.specs.Meaning.{group_of, least_shares, marked, meaning, members, needed, opened, opening}
use Rattle.esa_recovery.specs.Recovered.{Sums, added, lost, recovered_database, summed, total}
use Rattle.esa_recovery.proofs.EntryLaws.{entries-none, less-than}

abbrev by_bytes : List ℕ → List ℕ → Ordering
by_bytes = slice_cmp nat_cmp

abbrev counts : List (List ℕ × ℕ) → ℕ
counts rows = sum_by (λ row. row.1) rows

chosen-le : (b : Bool) (x n : ℕ) (other : Option ℕ) → x ≤ n → unwrap_or other 0 ≤ n → unwrap_or (cond b (Some x) other) 0 ≤ n
chosen-le true x n other one two = one
chosen-le false x n other one two = two

added-le : (meant : Option (List ℕ)) (count n : ℕ) (sums : Sums) → ((q : List ℕ) → unwrap_or (finite.get sums q) 0 ≤ n) → (q : List ℕ) → unwrap_or (finite.get (added meant count sums) q) 0 ≤ count + n
added-le None count n sums less q = omega (arith, less q)
added-le (Some value) count n sums less q =
    subst (λ o. unwrap_or o 0 ≤ count + n) (sym (finite.get-insert nat_list_cmp_total sums value (unwrap_or (finite.get sums value) 0 + count) q))
    (chosen-le (eq_by_cmp by_bytes q value) (unwrap_or (finite.get sums value) 0 + count) (count + n) (finite.get sums q) (omega (arith, less value)) (omega (arith, less q)))

-- the sum of a value is no greater than that of all counts
pub sum-le : (means : List ℕ → Option (List ℕ)) (rows : List (List ℕ × ℕ)) (q : List ℕ) → unwrap_or (finite.get (summed means rows) q) 0 ≤ counts rows
sum-le means [] q = omega (arith, ap (λ o. unwrap_or o 0) (finite.get-empty {X = ℕ} by_bytes q))
sum-le means (row ∷ rows) q =
    subst (λ n. unwrap_or (finite.get (summed means (row ∷ rows)) q) 0 ≤ n) (sym (sum_by-cons (λ (row : List ℕ × ℕ). row.1) row rows))
    (added-le (means row.0) row.1 (counts rows) (summed means rows) (sum-le means rows) q)

lost-one : (meant : Option (List ℕ)) (count : ℕ) → lost meant count ≤ count
lost-one None count = omega arith
lost-one (Some value) count = omega arith

-- nor is the sum of the rows that mean nothing
pub lost-le : (means : List ℕ → Option (List ℕ)) (rows : List (List ℕ × ℕ)) → sum_by (λ (row : List ℕ × ℕ). lost (means row.0) row.1) rows ≤ counts rows
lost-le means rows = sum_by-le-sum_by (λ (row : List ℕ × ℕ). lost (means row.0) row.1) (λ (row : List ℕ × ℕ). row.1) rows (λ row. lost-one (means row.0) row.1)

-- rows with one row put among them
all-put : (most : ℕ) (value : List ℕ) (count : ℕ) (rows : List (List ℕ × ℕ)) → All (IsRow most) rows → IsRow most (value, count) → All (IsRow most) (put by_bytes value count rows)
all-put most value count [] are is = All-cons (IsRow most) (value, count) [] is are
all-put most value count (row ∷ rows) are is =
    let head = All-head (IsRow most) row rows are in
    let tail = All-tail (IsRow most) row rows are in
    elim (by_bytes value row.0) as (λ r. All (IsRow most) (by_order r ((value, count) ∷ row ∷ rows) ((row.0, count) ∷ rows) (row ∷ put by_bytes value count rows))) [
      | Less ↦ All-cons (IsRow most) (value, count) (row ∷ rows) is are
      | Equal ↦ All-cons (IsRow most) (row.0, count) rows (record { short = head.short; counted = is.counted; fits = is.fits }) tail
      | Greater ↦ All-cons (IsRow most) row (put by_bytes value count rows) head (all-put most value count rows tail is)
    ]

rows-added : (most count n : ℕ) (meant : Option (List ℕ)) (sums : Sums) → IfSome meant (λ value. length value ≤ most) → 0 < count → ((q : List ℕ) → unwrap_or (finite.get sums q) 0 ≤ n)
    → count + n < 2 ^ 32 → All (IsRow most) (finite.entries sums) → All (IsRow most) (finite.entries (added meant count sums))
rows-added most count n None sums short some less small are = are
rows-added most count n (Some value) sums short some less small are =
    subst (All (IsRow most)) (sym (finite.entries-insert nat_list_cmp_total sums value (unwrap_or (finite.get sums value) 0 + count)))
    (all-put most value (unwrap_or (finite.get sums value) 0 + count) (finite.entries sums) are
    (record { short = short; counted = omega arith; fits = omega (arith, less value) }))

-- what the values of rows mean is no longer than they may be
abbrev pub AreMeant : ℕ → (List ℕ → Option (List ℕ)) → List (List ℕ × ℕ) → Type 0
AreMeant most means [] = Unit {0}
AreMeant most means (row ∷ rows) = IfSome (means row.0) (λ value. length value ≤ most) × AreMeant most means rows

rows-summed : (most : ℕ) (means : List ℕ → Option (List ℕ)) (rows : List (List ℕ × ℕ)) → All (IsRow most) rows → AreMeant most means rows → counts rows < 2 ^ 32
    → All (IsRow most) (finite.entries (summed means rows))
rows-summed most means [] are meant small = subst (All (IsRow most)) (sym (entries-none by_bytes)) (All-nil (IsRow most))
rows-summed most means (row ∷ rows) are meant small =
    let whole = sum_by-cons (λ (row : List ℕ × ℕ). row.1) row rows in
    let head = All-head (IsRow most) row rows are in
    rows-added most row.1 (counts rows) (means row.0) (summed means rows) meant.0 head.counted (sum-le means rows) (omega (arith, whole, small))
    (rows-summed most means rows (All-tail (IsRow most) row rows are) meant.1 (omega (arith, whole, small)))

few-one : (b : Bool) (m n : ℕ) → m ≤ n → cond b m (m + 1) ≤ n + 1
few-one true m n less = omega (arith, less)
few-one false m n less = omega (arith, less)

few-added : (meant : Option (List ℕ)) (count n : ℕ) (sums : Sums) → finite.len sums ≤ n → finite.len (added meant count sums) ≤ n + 1
few-added None count n sums less = omega (arith, less)
few-added (Some value) count n sums less =
    subst (λ k. k ≤ n + 1) (sym (finite.len-insert nat_list_cmp_total sums value (unwrap_or (finite.get sums value) 0 + count)))
    (few-one (finite.contains_key sums value) (finite.len sums) n less)

few-summed : (means : List ℕ → Option (List ℕ)) (rows : List (List ℕ × ℕ)) → finite.len (summed means rows) ≤ length rows
few-summed means [] = omega (arith, finite.len-empty by_bytes ℕ)
few-summed means (row ∷ rows) = omega (arith, few-added (means row.0) row.1 (length rows) (summed means rows) (few-summed means rows))

-- a key below all others isn't among them
find-below : (k x : List ℕ) (rows : List (List ℕ × ℕ)) → by_bytes k x ≡ Less → finite.Entries.below_all by_bytes x rows ≡ true → finite.find by_bytes k rows ≡ None
find-below k x [] less below = refl
find-below k x (row ∷ rows) less below =
    let parts = and_parts (is_lt (by_bytes x row.0)) (finite.Entries.below_all by_bytes x rows) below in
    let here : by_bytes k row.0 ≡ Less = nat_list_cmp_total.trans k x row.0 less (less-than (by_bytes x row.0) parts.0) in
    ap (λ r. cond (is_eq r) (Some row.1) (finite.find by_bytes k rows)) here ∙ find-below k x rows less parts.1

-- a count that is added to that of its key
sum-put : (k : List ℕ) (count n : ℕ) (rows : List (List ℕ × ℕ)) → finite.is_sorted by_bytes rows ≡ true → n ≡ unwrap_or (finite.find by_bytes k rows) 0 + count
    → counts (put by_bytes k n rows) ≡ counts rows + count
sum-put k count n [] sorted is = omega (arith, sum_by-cons (λ (row : List ℕ × ℕ). row.1) (k, n) [], is)
sum-put k count n (row ∷ rows) sorted is =
    let parts = and_parts (finite.Entries.below_all by_bytes row.0 rows) (finite.is_sorted by_bytes rows) sorted in
    let whole = sum_by-cons (λ (row : List ℕ × ℕ). row.1) row rows in
    let found : (r : Ordering) → by_bytes k row.0 ≡ r → n ≡ unwrap_or (cond (is_eq r) (Some row.1) (finite.find by_bytes k rows)) 0 + count =
    λ r e. is ∙ ap (λ r. unwrap_or (cond (is_eq r) (Some row.1) (finite.find by_bytes k rows)) 0 + count) e in
    elim (by_bytes k row.0) as (λ r. by_bytes k row.0 ≡ r → counts (by_order r ((k, n) ∷ row ∷ rows) ((row.0, n) ∷ rows) (row ∷ put by_bytes k n rows)) ≡ counts (row ∷ rows) + count) [
      | Less ↦ λ e.
          let none : unwrap_or (finite.find by_bytes k rows) 0 ≡ 0 = ap (λ o. unwrap_or o 0) (find-below k row.0 rows e parts.0) in
          omega (arith, sum_by-cons (λ (row : List ℕ × ℕ). row.1) (k, n) (row ∷ rows), found Less e, none)
      | Equal ↦ λ e. omega (arith, sum_by-cons (λ (row : List ℕ × ℕ). row.1) (row.0, n) rows, found Equal e, whole)
      | Greater ↦ λ e.
          omega (arith, sum_by-cons (λ (row : List ℕ × ℕ). row.1) row (put by_bytes k n rows), whole, sum-put k count n rows parts.1 (found Greater e))
    ] refl

sum-added : (meant : Option (List ℕ)) (count : ℕ) (sums : Sums) → counts (finite.entries (added meant count sums)) + lost meant count ≡ counts (finite.entries sums) + count
sum-added None count sums = refl
sum-added (Some value) count sums =
    let now = ap counts (finite.entries-insert nat_list_cmp_total sums value (unwrap_or (finite.get sums value) 0 + count)) in
    let put_is = sum-put value count (unwrap_or (finite.get sums value) 0 + count) (finite.entries sums) (holds _ (finite.entries_sorted sums))
    (ap (λ o. unwrap_or o 0 + count) (finite.get-entries sums value)) in
    omega (arith, now, put_is)

sum-summed : (means : List ℕ → Option (List ℕ)) (rows : List (List ℕ × ℕ)) → counts (finite.entries (summed means rows)) + sum_by (λ (row : List ℕ × ℕ). lost (means row.0) row.1) rows ≡ counts rows
sum-summed means [] = omega (arith, ap counts (entries-none by_bytes))
sum-summed means (row ∷ rows) =
    omega (
      arith,
      sum-added (means row.0) row.1 (summed means rows),
      sum-summed means rows,
      sum_by-cons (λ (row : List ℕ × ℕ). row.1) row rows,
      sum_by-cons (λ (row : List ℕ × ℕ). lost (means row.0) row.1) row rows,
    )

-- no count is lost
total-recovered : (database : Database) → total (recovered_database database) ≡ total database
total-recovered database = omega (arith, sum-summed (meaning database.rows) database.rows)

pub total-kept : {E : Type 0} (stored : Stored) (result : Result Stored E) (why : E → Type 0)
    → MatchResult result (λ (recovered : Stored). recovered ≡ record { form = stored.form; database = recovered_database stored.database }) why
    → IfOk result (λ (recovered : Stored). total recovered.database ≡ total stored.database)
total-kept stored (Ok recovered) why is = ap (λ (recovered : Stored). total recovered.database) is ∙ total-recovered stored.database
total-kept stored (Err refused) why is = tt

if-some : {X : Type 0} (b : Bool) (one other : Option X) (P : X → Type 0) → IfSome one P → IfSome other P → IfSome (if b then one else other) P
if-some true one other P first second = first
if-some false one other P first second = second

marked-short : (mark value : List ℕ) (most : ℕ) → length value ≤ most → IfSome (marked mark value) (λ value. length value ≤ most)
marked-short mark value most short = if-some (bytes_eq (mark_of value) mark) (Some value) None (λ value. length value ≤ most) short tt

opening-short : (group : List ℕ) (shares : List (ℕ × List ℕ)) (most : ℕ) → slice_index group 1 - 19 ≤ most → IfSome (opening group shares) (λ value. length value ≤ most)
opening-short group shares most short =
    let size = slice_index group 1 - 19 in
    let points = map (λ (share : ℕ × List ℕ). share.0) shares in
    let bytes = flat_map (λ (share : ℕ × List ℕ). share.1) shares in
    let secret = recovered size points bytes in
    let long : length secret ≡ size =
    length-map (below size) (λ y. combined points points (column size y (length points) bytes)) ∙ length-range_with_len 0 size in
    if-some (nat_lt (length shares) (needed group)) None (marked (drop 2 group) secret) (λ value. length value ≤ most) tt (marked-short (drop 2 group) secret most (omega (arith, long, short)))

meaning-short : (rows : List (List ℕ × ℕ)) (value : List ℕ) (most : ℕ) → length value ≤ most → IfSome (meaning rows value) (λ value. length value ≤ most)
meaning-short rows value most short =
    let group = group_of value in
    if-some (is_share value) (opened group rows) (Some value) (λ value. length value ≤ most)
    (opening-short group (take (needed group) (finite.entries (least_shares (members group rows)))) most (omega (arith, short))) short

are-meant : (most : ℕ) (all rows : List (List ℕ × ℕ)) → All (IsRow most) rows → AreMeant most (meaning all) rows
are-meant most all [] are = tt
are-meant most all (row ∷ rows) are =
    (meaning-short all row.0 most (All-head (IsRow most) row rows are).short, are-meant most all rows (All-tail (IsRow most) row rows are))

-- a file can hold it
pub IsDatabase-recovered : (form : Form) (database : Database) → IsDatabase form database → total database < 2 ^ 32 → IsDatabase form (recovered_database database)
IsDatabase-recovered form database is small =
    let means = meaning database.rows in
    record {
      rising = rising (finite.entries (summed means database.rows)) (holds _ (finite.entries_sorted (summed means database.rows)));
      rows = rows-summed (longest form) means database.rows is.rows (are-meant (longest form) database.rows database.rows is.rows) (omega (arith, small));
      number = omega (arith, few-summed means database.rows, finite.len-entries (summed means database.rows), is.number);
      unopened = omega (arith, lost-le means database.rows, small);
    }
