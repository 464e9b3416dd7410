-- What a list of named files holds, as its files change.
use Rattle.std.proofs.Common.{◌≡◌, ◌≢◌, ℕ, suc, zero, List, [], ◌∷◌, ◌++◌, get_or, Some, None, sym, ap, ◌∙◌, arith}
use Rattle.std.proofs.Math.ListN.{set}
use Rattle.std.specs.List.{All}
use Rattle.std.specs.String.{string_bytes}
use Rattle.std.specs.declared.string.String.{String}
use Rattle.std.specs.declared.vec.Vec.{Vec}
use Rattle.std.specs.Ordering.{nat_cmp}
use Rattle.std.specs.Cmp.Lexicographic.{slice_cmp}
use Rattle.std.specs.FinMap as map
use Rattle.esa_lists.proofs.FilesLaws.{get-insert-same, get-insert-other, insert-insert, insert-comm, insert-there}
use Rattle.esa_outside.specs.Memory.{files_of, IsFirstOf}

module _ {Y Z : Type 0} where
  after_head : (name : List ℕ) (file : String Y × Vec ℕ Z) (files : List (String Y × Vec ℕ Z)) (place : ℕ) → IsFirstOf name (file ∷ files) (suc place) → IsFirstOf name files place
  after_head name file files place is = record { within = omega arith; named = is.named; first = λ k d low below. is.first (suc k) d (omega arith) (omega arith) }

  other_head : (name : List ℕ) (file : String Y × Vec ℕ Z) (files : List (String Y × Vec ℕ Z)) (place : ℕ) → IsFirstOf name (file ∷ files) (suc place) → name ≢ string_bytes file.0
  other_head name file files place is e = is.first 0 file (omega arith) (omega arith) (sym e)

  pub get-files_of-first : (name : List ℕ) (files : List (String Y × Vec ℕ Z)) (place : ℕ) (d : String Y × Vec ℕ Z) → IsFirstOf name files place → map.get (files_of files) name ≡ Some (get_or files place d).1.items
  unfolding files_of
  get-files_of-first name [] place d is = absurd (omega (arith, is.within))
  get-files_of-first name (file ∷ files) zero d is = ap (map.get (map.insert (files_of files) (string_bytes file.0) file.1.items)) (sym (is.named d)) ∙ get-insert-same (files_of files) (string_bytes file.0) file.1.items
  get-files_of-first name (file ∷ files) (suc place) d is =
      get-insert-other (files_of files) (string_bytes file.0) name file.1.items (other_head name file files place is) ∙ get-files_of-first name files place d (after_head name file files place is)

  pub get-files_of-none : (name : List ℕ) (files : List (String Y × Vec ℕ Z)) → All (λ file. string_bytes file.0 ≢ name) files → map.get (files_of files) name ≡ None
  unfolding files_of
  get-files_of-none name [] none = map.get-empty (slice_cmp nat_cmp) name
  get-files_of-none name (file ∷ files) none =
      get-insert-other (files_of files) (string_bytes file.0) name file.1.items (λ e. none 0 file (omega arith) (sym e)) ∙ get-files_of-none name files (λ k d below. none (suc k) d (omega arith))

  pub files_of-set : (name : List ℕ) (files : List (String Y × Vec ℕ Z)) (place : ℕ) (file : String Y × Vec ℕ Z) → IsFirstOf name files place → string_bytes file.0 ≡ name → files_of (set files place file) ≡ map.insert (files_of files) name file.1.items
  unfolding files_of
  files_of-set name [] place file is named = absurd (omega (arith, is.within))
  files_of-set name (old ∷ files) zero file is named =
      ap (λ n. map.insert (files_of files) n file.1.items) named ∙ sym (ap (λ n. map.insert (map.insert (files_of files) n old.1.items) name file.1.items) (is.named old) ∙ insert-insert (files_of files) name old.1.items file.1.items)
  files_of-set name (old ∷ files) (suc place) file is named =
      ap (λ m. map.insert m (string_bytes old.0) old.1.items) (files_of-set name files place file (after_head name old files place is) named)
      ∙ insert-comm (files_of files) name (string_bytes old.0) file.1.items old.1.items (other_head name old files place is)

  pub files_of-push : (name : List ℕ) (files : List (String Y × Vec ℕ Z)) (file : String Y × Vec ℕ Z) → All (λ file. string_bytes file.0 ≢ name) files → string_bytes file.0 ≡ name → files_of (files ++ file ∷ []) ≡ map.insert (files_of files) name file.1.items
  unfolding files_of
  files_of-push name [] file none named = ap (λ n. map.insert map.empty n file.1.items) named
  files_of-push name (old ∷ files) file none named =
      ap (λ m. map.insert m (string_bytes old.0) old.1.items) (files_of-push name files file (λ k d below. none (suc k) d (omega arith)) named)
      ∙ insert-comm (files_of files) name (string_bytes old.0) file.1.items old.1.items (λ e. none 0 old (omega arith) (sym e))

  -- a file that is kept as it was
  pub files_of-kept : (name : List ℕ) (files : List (String Y × Vec ℕ Z)) (place : ℕ) (d file : String Y × Vec ℕ Z) → IsFirstOf name files place → string_bytes file.0 ≡ name → file.1.items ≡ (get_or files place d).1.items → files_of (set files place file) ≡ files_of files
  files_of-kept name files place d file is named kept =
      files_of-set name files place file is named ∙ insert-there (files_of files) name file.1.items (get-files_of-first name files place d is ∙ ap Some (sym kept))
