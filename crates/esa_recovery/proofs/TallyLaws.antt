-- What a row adds to a tally.
use Rattle.std.proofs.Common.{Global, Vec, ◌≡◌, ℕ, ◌+◌, ◌<◌, ◌^◌, Bool, true, false, List, [], length, drop, get_or, set, Option, Some, refl, sym, ap, ◌∙◌, arith}
use Rattle.std.specs.Prelude.{sum_by, if◌then◌else◌}
use Rattle.std.specs.List.{slice_get}
use Rattle.std.specs.Option.{option_map}
use Rattle.std.proofs.lemmas.List.{get_or_default, length-map}
use Rattle.std.proofs.lemmas.List.Sums.{sum_by-drop_more, sum_by-take-drop}
use Rattle.std.proofs.lemmas.Option.{slice_get-map, slice_get_read, slice_get_within}
use Rattle.esa_shares.specs.Share.{is_share}
use Rattle.esa_recovery.specs.declared.groups.Groups.{Groups}
use Rattle.esa_recovery.specs.Meaning.{group_of, meaning, opened}
use Rattle.esa_recovery.specs.Members.{value_at}
use Rattle.esa_recovery.specs.Groups.{given, Opens}
use Rattle.esa_recovery.specs.Sums.{counted, tested, tested_groups}
use Rattle.esa_recovery.proofs.SumsLaws.{group-le, groups-more}

module _ (rows : List (List ℕ × ℕ)) (groups : Groups) (opens : Opens rows groups) (left row : ℕ) (inside : row < length rows) (next : left ≡ row + 1)
    (value : List ℕ) (count : ℕ) (is : value ≡ value_at rows row) (counts_is : count ≡ (get_or rows row ([], 0)).1) where
  -- a share record's number is that of a group with its meaning
  pub share-number : (number : ℕ) → is_share value ≡ true → number ≡ get_or groups.numbers.items row number → slice_get (given groups) number ≡ Some (meaning rows (value_at rows row))
  share-number number share at =
      let own : is_share (value_at rows row) ≡ true = ap is_share (sym is) ∙ share in
      let number_is : number ≡ get_or groups.numbers.items row 0 = at ∙ get_or_default groups.numbers.items row number 0 (omega (arith, inside, opens.numbered)) in
      ap (slice_get (given groups)) number_is ∙ opens.opens row inside own
      ∙ sym (ap (λ b. Some (if b then opened (group_of (value_at rows row)) rows else Some (value_at rows row))) own)

  -- one row more
  row-more : (test : Option (List ℕ) → Bool) → tested test (meaning rows) (drop row rows) ≡ counted test (meaning rows (value_at rows row)) count + tested test (meaning rows) (drop left rows)
  row-more test =
      sum_by-drop_more (λ (r : List ℕ × ℕ). counted test (meaning rows r.0) r.1) rows row ([], 0) inside
      ∙ (λ i. counted test (meaning rows (value_at rows row)) (sym counts_is i) + tested test (meaning rows) (drop (sym next i) rows))

  module _ (number : ℕ) (share : is_share value ≡ true) (at : number ≡ get_or groups.numbers.items row number) (counts : List ℕ) (each : length counts ≡ length (given groups)) where
    pub number-inside : number < length counts
    number-inside = omega (arith, slice_get_within (given groups) number (meaning rows (value_at rows row)) (share-number number share at), each)

    module _ (sums : List (List ℕ × ℕ)) (before : (test : Option (List ℕ) → Bool) → tested test Some sums + tested_groups test (given groups) counts ≡ tested test (meaning rows) (drop left rows)) where
      pub number-fits : sum_by (λ (r : List ℕ × ℕ). r.1) rows < 2 ^ 32 → get_or counts number 0 + count < 2 ^ 32
      number-fits small =
          omega (arith, small, before (λ _. true), row-more (λ _. true), group-le (given groups) counts number (omega (arith, each)), sum_by-take-drop (λ (r : List ℕ × ℕ). r.1) rows row)

      pub number-counted : (test : Option (List ℕ) → Bool)
          → tested test Some sums + tested_groups test (given groups) (set counts number (get_or counts number 0 + count)) ≡ tested test (meaning rows) (drop row rows)
      number-counted test =
          omega (arith, before test, row-more test, groups-more test (given groups) counts number (meaning rows (value_at rows row)) count (share-number number share at) number-inside)

  -- any other row
  pub other-counted : is_share value ≡ false → (sums sums' : List (List ℕ × ℕ)) (counts : List ℕ)
      → ((test : Option (List ℕ) → Bool) → tested test Some sums + tested_groups test (given groups) counts ≡ tested test (meaning rows) (drop left rows))
      → ((test : Option (List ℕ) → Bool) → tested test Some sums' ≡ tested test Some sums + counted test (Some value) count)
      → (test : Option (List ℕ) → Bool) → tested test Some sums' + tested_groups test (given groups) counts ≡ tested test (meaning rows) (drop row rows)
  other-counted other sums sums' counts before put test =
      let own : is_share (value_at rows row) ≡ false = ap is_share (sym is) ∙ other in
      let meant : Some value ≡ meaning rows (value_at rows row) =
      ap Some is ∙ sym (ap (λ b. if b then opened (group_of (value_at rows row)) rows else Some (value_at rows row)) own) in
      omega (arith, before test, row-more test, put test, ap (λ m. counted test m count) meant)

-- what a group gave back, by its number
pub given-at : (groups : Groups) (k : ℕ) (value : Option (Vec ℕ Global)) → k < length (given groups) → value ≡ get_or groups.values.items k value → slice_get (given groups) k ≡ Some (option_map (λ v. v.items) value)
given-at groups k value inside at =
    slice_get-map (option_map (λ v. v.items)) groups.values.items k
    ∙ ap (option_map (option_map (λ v. v.items))) (slice_get_read groups.values.items (length groups.values.items) k value refl (omega (arith, inside, length-map groups.values.items (option_map (λ v. v.items)))) at)
