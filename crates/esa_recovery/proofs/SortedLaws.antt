-- Lists that are sorted by a key of bytes.
use Rattle.std.proofs.Common.{◌≡◌, ◌≢◌, ℕ, ◌+◌, ◌<◌, ◌≤◌, Bool, true, false, List, length, get_or, nat_cmp, Less, Equal, Greater, refl, sym, ap, subst, ◌∙◌, arith}
use Rattle.std.specs.Prelude.{bytes_eq}
use Rattle.std.specs.declared.cmp.Ordering.{Ordering}
use Rattle.std.specs.Ordering.{is_lt, ordering_reverse}
use Rattle.std.specs.Cmp.Lexicographic.{slice_cmp, nat_list_cmp_total, bytes_decides}
use Rattle.std.specs.FinMap.{slice_cmp-IsAntisymmetric, nat_cmp-IsAntisymmetric}
use Rattle.std.specs.List.Sorted.{IsSortedByKey}
use Rattle.std.proofs.lemmas.Bool.{true≢false}
use Rattle.std.proofs.lemmas.List.MinMax.{ranks_by}
use Rattle.std.proofs.lemmas.List.Sorted.{sorted_far}

abbrev pub by_bytes : List ℕ → List ℕ → Ordering
by_bytes = slice_cmp nat_cmp

-- neither is less than the other
neither : (x y : List ℕ) → is_lt (by_bytes x y) ≡ false → is_lt (by_bytes y x) ≡ false → x ≡ y
neither x y one other =
    elim (by_bytes x y) as (λ r. by_bytes x y ≡ r → is_lt r ≡ false → x ≡ y) [
      | Less ↦ λ e h. cc
      | Equal ↦ λ e h. slice_cmp-IsAntisymmetric nat_cmp-IsAntisymmetric x y e
      | Greater ↦ λ e h.
          let back : by_bytes y x ≡ Less = nat_list_cmp_total.antisymm y x ∙ ap ordering_reverse e in
          let less : is_lt (by_bytes y x) ≡ true = ap is_lt back in
          absurd (true≢false (sym less ∙ other))
    ] refl one

pub apart_bytes : (x y : List ℕ) → x ≢ y → bytes_eq x y ≡ false
apart_bytes x y apart =
    elim (bytes_eq x y) as (λ b. bytes_eq x y ≡ b → b ≡ false) [
      | true ↦ λ is. absurd (apart ((bytes_decides x y).0 is))
      | false ↦ λ is. refl
    ] refl

pub same_bytes : (x y : List ℕ) → x ≡ y → bytes_eq x y ≡ true
same_bytes x y is = (bytes_decides x y).1 is

-- what is less is another
pub less-apart : (x y : List ℕ) → is_lt (by_bytes x y) ≡ true → y ≢ x
less-apart x y less is =
    let back : is_lt (by_bytes y x) ≡ true = subst (λ z. is_lt (by_bytes z x) ≡ true) (sym is) (subst (λ z. is_lt (by_bytes x z) ≡ true) is less) in
    itself (by_bytes x y) (nat_list_cmp_total.antisymm y x) less back
  where
    itself : (r : Ordering) → by_bytes y x ≡ ordering_reverse r → is_lt r ≡ true → is_lt (by_bytes y x) ≡ true → ⊥
    itself Less e h back = true≢false (sym back ∙ ap is_lt e)
    itself Equal e h back = true≢false (sym h)
    itself Greater e h back = true≢false (sym h)

-- what stands behind a run of one key is greater
pub past-run : {X : Type 0} (key : X → List ℕ) (xs : List X) (start n : ℕ) (d : X) → IsSortedByKey key by_bytes xs → start + n < length xs
    → key (get_or xs (start + n) d) ≢ key (get_or xs start d)
    → (k : ℕ) → start + n ≤ k → k < length xs → is_lt (by_bytes (key (get_or xs start d)) (key (get_or xs k d))) ≡ true
past-run {X} key xs start n d sorted inside apart k behind below =
    let lt : X → X → Bool = λ x y. is_lt (by_bytes (key x) (key y)) in
    let far = sorted_far lt (ranks_by nat_list_cmp_total key) xs sorted in
    let first = key (get_or xs start d) in
    let next = key (get_or xs (start + n) d) in
    let last = key (get_or xs k d) in
    let one : is_lt (by_bytes next first) ≡ false = far start (start + n) d (omega arith) inside in
    elim (is_lt (by_bytes first last)) as (λ b. is_lt (by_bytes first last) ≡ b → b ≡ true) [
      | true ↦ λ _. refl
      | false ↦ λ no.
          let is : first ≡ last = neither first last no (far start k d (omega (arith, behind)) below) in
          let other : is_lt (by_bytes first next) ≡ false = subst (λ z. is_lt (by_bytes z next) ≡ false) (sym is) (far (start + n) k d behind below) in
          absurd (apart (neither next first one other))
    ] refl
