-- A list that was sorted through its slice.
use Rattle.std.proofs.Common.{◌≡◌, ℕ, List, ◌++◌, length, take, drop, ap, ◌∙◌, arith}
use Rattle.std.specs.Cmp.Lexicographic.{nat_list_cmp_total}
use Rattle.std.specs.List.Sorted.{IsPermutation, IsSorted}
use Rattle.std.proofs.lemmas.List.{take-append-le, take_all}
use Rattle.std.proofs.lemmas.List.Sorted.{length_permutation}
use Rattle.esa_lists.specs.Ordered.{ordered}
use Rattle.esa_lists.proofs.FilesLaws.{names_apart}
use Rattle.esa_lists.proofs.OrderedLaws.{sorted_permutation}
use Rattle.esa_batcher.specs.Rising.{by_bytes}

-- what is written back is the one rising list of what was there
pub sorted_back : (number : ℕ) (items now after : List (List ℕ)) → now ≡ items → length now ≡ number → IsPermutation now after → IsSorted by_bytes after
    → take number (after ++ drop (length after) items) ≡ ordered by_bytes items
sorted_back number items now after is long same sorted =
    let whole : length after ≡ number = length_permutation now after same ∙ long in
    take-append-le number after (drop (length after) items) (omega arith)
    ∙ take_all number after (omega arith)
    ∙ sorted_permutation nat_list_cmp_total names_apart now after same sorted
    ∙ ap (ordered by_bytes) is
