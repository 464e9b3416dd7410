-- What a finite map answers after entries were inserted one after another, for a total order of its keys
-- in which only equal keys tie.
use Rattle.std.proofs.Common.{◌≡◌, ◌≢◌, Option, Some, Bool, true, false, cond, sym, refl, ap, ◌∙◌}
use Rattle.std.specs.declared.cmp.Ordering.{Ordering}
use Rattle.std.specs.declared.cmp.Ordering.TheVariants.{Less, Equal, Greater}
use Rattle.std.specs.Ordering.{eq_by_cmp, is_eq}
use Rattle.std.specs.Cmp.{IsTotalOrder, tied_itself}
use Rattle.std.specs.FinMap as map

module _ {K : Type 0} {R : K → K → Ordering} (o : IsTotalOrder R) (same : map.IsAntisymmetric R) where
  eq_by_cmp-self : (k : K) → eq_by_cmp R k k ≡ true
  eq_by_cmp-self k = ap is_eq (tied_itself o k)

  -- a key that ties with k is k
  same_key : (q k : K) → eq_by_cmp R q k ≡ true → q ≡ k
  same_key q k ties = elim (R q k) as (λ r. R q k ≡ r → is_eq r ≡ true → q ≡ k) [ Less ↦ λ e t. cc | Equal ↦ λ e t. same q k e | Greater ↦ λ e t. cc ] refl ties

module _ {K X : Type 0} {R : K → K → Ordering} (o : IsTotalOrder R) (same : map.IsAntisymmetric R) where
  pub get-insert-same : (m : map.FinMap R X) (k : K) (v : X) → map.get (map.insert m k v) k ≡ Some v
  get-insert-same m k v = map.get-insert o m k v k ∙ ap (λ b. cond b (Some v) (map.get m k)) (eq_by_cmp-self o same k)

  pub get-insert-other : (m : map.FinMap R X) (k q : K) (v : X) → q ≢ k → map.get (map.insert m k v) q ≡ map.get m q
  get-insert-other m k q v differs =
      map.get-insert o m k v q ∙ elim (eq_by_cmp R q k) as (λ b. eq_by_cmp R q k ≡ b → cond b (Some v) (map.get m q) ≡ map.get m q) [
        | true ↦ λ e. absurd (differs (same_key o same q k e))
        | false ↦ λ e. refl
      ] refl

  covered : (b : Bool) (x y : X) (z : Option X) → cond b (Some y) (cond b (Some x) z) ≡ cond b (Some y) z
  covered true x y z = refl
  covered false x y z = refl

  -- the later of two entries at one key is the one that counts
  pub insert-insert : (m : map.FinMap R X) (k : K) (v w : X) → map.insert (map.insert m k v) k w ≡ map.insert m k w
  insert-insert m k v w = map.same_map o same _ _ (λ q.
      map.get-insert o _ k w q ∙ ap (cond (eq_by_cmp R q k) (Some w)) (map.get-insert o m k v q)
      ∙ covered (eq_by_cmp R q k) v w (map.get m q) ∙ sym (map.get-insert o m k w q))

  -- to insert what is there changes nothing
  pub insert-there : (m : map.FinMap R X) (k : K) (v : X) → map.get m k ≡ Some v → map.insert m k v ≡ m
  insert-there m k v there = map.same_map o same _ _ (λ q.
      map.get-insert o m k v q ∙ elim (eq_by_cmp R q k) as (λ b. eq_by_cmp R q k ≡ b → cond b (Some v) (map.get m q) ≡ map.get m q) [
        | true ↦ λ e. sym there ∙ ap (map.get m) (sym (same_key o same q k e))
        | false ↦ λ e. refl
      ] refl)

  -- entries at two keys may be inserted in either order
  pub insert-comm : (m : map.FinMap R X) (j k : K) (v w : X) → j ≢ k → map.insert (map.insert m j v) k w ≡ map.insert (map.insert m k w) j v
  insert-comm m j k v w differs = map.same_map o same _ _ (λ q.
      map.get-insert o _ k w q ∙ ap (cond (eq_by_cmp R q k) (Some w)) (map.get-insert o m j v q)
      ∙ elim (eq_by_cmp R q k) as (λ b. eq_by_cmp R q k ≡ b → cond b (Some w) (cond (eq_by_cmp R q j) (Some v) (map.get m q)) ≡ cond (eq_by_cmp R q j) (Some v) (cond b (Some w) (map.get m q))) [
        | true ↦ λ e. elim (eq_by_cmp R q j) as (λ c. eq_by_cmp R q j ≡ c → Some w ≡ cond c (Some v) (Some w)) [
          | true ↦ λ f. absurd (differs (sym (same_key o same q j f) ∙ same_key o same q k e))
          | false ↦ λ f. refl
        ] refl
        | false ↦ λ e. refl
      ] refl
      ∙ sym (map.get-insert o _ j v q ∙ ap (cond (eq_by_cmp R q j) (Some v)) (map.get-insert o m k w q)))
