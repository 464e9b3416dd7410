-- A turnstile as it is made, and its passes as they are given out.
use Rattle.std.proofs.Common.{◌≡◌, ℕ, zero, suc, ◌+◌, ◌-◌, ◌*◌, ◌^◌, ◌<◌, ◌≤◌, Bool, true, false, true≢false, cond, eqb, List, [], ◌∷◌, length, take, drop, sum_by, count_by, All, Option, Some, refl, sym, ap, ◌∙◌, subst, inl, mul_comm, mul-suc, mul-one, zero-add, eq-eqb, ne_eqb, zero-le, arith}
use Rattle.std.proofs.lemmas.List.Sums.{sum_by-cons}
use Rattle.std.proofs.lemmas.List.Elements.{All-nil, All-cons, All-head, All-tail}
use mathlib.Core.Option.{some, some-injective, some-ne-none}
use native.Mathlib.Decide.{ℕ_discrete}
use lib.ListN.{get_elem?}
use Rattle.atomic_table.specs.Table.{State, opening, Splits}
use Rattle.esa_turnstile.specs.declared.view.About.{About}
use Rattle.esa_turnstile.specs.declared.view.Mark.{Mark}
use Rattle.esa_turnstile.specs.declared.view.Member.{Member}
use Rattle.esa_turnstile.specs.declared.view.View.{View}
use Rattle.esa_turnstile.specs.Views.{held_in, is_inside, added, bears, bearers, one, fresh_from, dealing, dealt, rest_of, one_of}
use Rattle.esa_turnstile.specs.Lock.{IsCounted, IsEarlier, Fits, Kept}
use Rattle.esa_turnstile.proofs.Rising.{below-refl}
use Rattle.esa_turnstile.proofs.Reseated.{splits}

fresh-length : (k n : ℕ) → length (fresh_from k n) ≡ n
fresh-length k zero = refl
fresh-length k (suc n) = ap suc (fresh-length (k + 1) n)

fresh-added : (k n : ℕ) → sum_by added (fresh_from k n) ≡ 0
fresh-added k zero = refl
fresh-added k (suc n) = omega (arith, fresh-added (k + 1) n, sum_by-cons added (record { number = k; added = 0 }) (fresh_from (k + 1) n))

bears-cons : (x k n : ℕ) → count_by (bears x) (fresh_from k (suc n)) ≡ cond (eqb k x) 1 0 + count_by (bears x) (fresh_from (k + 1) n)
bears-cons x k n = sum_by-cons (λ (m : Member). cond (bears x m) 1 0) (record { number = k; added = 0 }) (fresh_from (k + 1) n)

fails : (b : Bool) (n : ℕ) → b ≡ false → cond b 1 0 + n ≡ n
fails true n e = absurd (true≢false e)
fails false n e = zero-add n

passes : (b : Bool) (n : ℕ) → b ≡ true → cond b 1 0 + n ≡ n + 1
passes true n e = omega arith
passes false n e = absurd (true≢false (sym e))

fresh-below : (x k n : ℕ) → x < k → count_by (bears x) (fresh_from k n) ≡ 0
fresh-below x k zero lt = refl
fresh-below x k (suc n) lt = bears-cons x k n ∙ (fails (eqb k x) (count_by (bears x) (fresh_from (k + 1) n)) (ne_eqb k x (λ (h : k ≡ x). omega arith)) ∙ fresh-below x (k + 1) n (omega arith))

one-bearer : (n x k : ℕ) → count_by (bears x) (fresh_from (k + 1) n) ≤ 1 → Dec (k ≡ x) → cond (eqb k x) 1 0 + count_by (bears x) (fresh_from (k + 1) n) ≤ 1
one-bearer n x k le (yes e) = omega (arith, fresh-below x (k + 1) n (omega arith), passes (eqb k x) (count_by (bears x) (fresh_from (k + 1) n)) (eq-eqb k x e))
one-bearer n x k le (no ne) = omega (arith, fails (eqb k x) (count_by (bears x) (fresh_from (k + 1) n)) (ne_eqb k x ne))

fresh-once : (x k n : ℕ) → count_by (bears x) (fresh_from k n) ≤ 1
fresh-once x k zero = zero-le
fresh-once x k (suc n) = subst (λ (z : ℕ). z ≤ 1) (sym (bears-cons x k n)) (one-bearer n x k (fresh-once x (k + 1) n) (ℕ_discrete k x))

fresh-counted : (passes k n : ℕ) → k + n ≤ passes → All (IsCounted passes [] []) (fresh_from k n)
fresh-counted passes k zero le = All-nil (IsCounted passes [] [])
fresh-counted passes k (suc n) le = All-cons (IsCounted passes [] []) (record { number = k; added = 0 }) (fresh_from (k + 1) n)
    (record { below = omega arith; in_log = refl; in_seen = refl }) (fresh-counted passes (k + 1) n (omega arith))

-- the first of those that are left
pub fresh-step : (p k : ℕ) → k < p → fresh_from k (p - k) ≡ record { number = k; added = 0 } ∷ fresh_from (k + 1) (p - (k + 1))
fresh-step p k lt = let e : p - k ≡ suc (p - (k + 1)) = omega arith in ap (fresh_from k) e

only-one : {A : Type 0} (a b : A) (i : ℕ) → get_elem? (a ∷ []) i ≡ some b → a ≡ b
only-one a b zero e = some-injective a b e
only-one a b (suc i) e = absurd (some-ne-none b (sym e))

module _ {T O : Type 0} (log_of : T → List ℕ) (origin : T → O) (IsSound : T → Type 0) (mark : T → Mark) (about : About T) where
  abbrev V : Type 0
  V = View T

  abbrev K : State (Option T) V → Type 0
  K s = Kept log_of origin IsSound mark about s

  all-fit : Fits about [] (λ _. mark about.opened.value) 0 (dealing mark about 0)
  all-fit = record {
    told = (refl, refl);
    begins = ([], refl);
    heard = All-nil (IsEarlier (λ _. mark about.opened.value) []);
    share = let n : ℕ = about.passes - 0 in let a = fresh-added 0 n in let l : about.tickets * length (fresh_from 0 n) ≡ about.tickets * n = ap (λ (z : ℕ). about.tickets * z) (fresh-length 0 n) in omega arith;
    counts = fresh-counted about.passes 0 (about.passes - 0) (omega arith);
    single = λ h. absurd (omega arith);
    stage = tt;
  }

  pub starts : log_of about.opened.value ≡ [] → IsSound about.opened.value → about.passes * about.tickets < 2 ^ 64 → K (opening (0 ∷ 0 ∷ []) (Some about.opened.value ∷ []) (dealing mark about 0))
  starts empty sound small = let v : V = dealing mark about 0 in let p : ℕ = about.passes in record {
    log = [];
    marks = λ _. mark about.opened.value;
    drawn = 0;
    words = refl;
    queue = refl;
    alone = λ i j a b e g h l same. absurd (let z : 0 ≡ 1 = ap held_in (only-one v a i e) ∙ h in omega arith);
    supply = let c : about.tickets * p ≡ p * about.tickets = mul_comm about.tickets p in let d : about.tickets * (p - 0) ≡ about.tickets * p = ap (λ (z : ℕ). about.tickets * z) (let e : p - 0 ≡ p = omega arith in e) in omega arith;
    small = small;
    named = All-nil (λ x. x < about.passes);
    bounded = λ x. zero-le;
    whole = let l = fresh-length 0 (p - 0) in omega arith;
    once = λ x. let l = fresh-once x 0 (p - 0) in omega arith;
    rises = λ i j le. below-refl (mark about.opened.value);
    fits = λ i u e. subst (Fits about [] (λ _. mark about.opened.value) 0) (only-one v u i e) all-fit;
    slot = inl record {
      value = about.opened.value;
      there = refl;
      log_is = empty;
      origin_is = refl;
      sound = sound;
      mark_is = refl;
      nobody = λ i u e. ap (λ (z : V). is_inside z.stage) (sym (only-one v u i e));
    };
  }

  pub rest-is : (k : ℕ) → k < about.passes → rest_of (dealing mark about k) ≡ dealing mark about (k + 1)
  rest-is k lt =
      let p : ℕ = about.passes in let t : ℕ = about.tickets in
      let m : drop 1 (fresh_from k (p - k)) ≡ fresh_from (k + 1) (p - (k + 1)) = ap (drop 1) (fresh-step p k lt) in
      let q : ℕ = p - (k + 1) in let s : p - k ≡ suc q = omega arith in
      let l : t * (p - k) - t ≡ t * q = let e : t * (p - k) ≡ t * q + t = ap (λ (z : ℕ). t * z) s ∙ mul-suc t q in omega arith in
      λ i. record (dealing mark about k) { members = m i; left = l i }

  pub one-is : (k : ℕ) → k < about.passes → one_of (dealing mark about k) ≡ dealt mark about k
  one-is k lt = let m : take 1 (fresh_from k (about.passes - k)) ≡ one k 0 = ap (take 1) (fresh-step about.passes k lt) in λ i. record (dealing mark about k) { members = m i; left = about.tickets }

  dealt-fits : (k : ℕ) → k < about.passes → (log : List ℕ) (marks : ℕ → Mark) (drawn : ℕ) → Fits about log marks drawn (dealing mark about k) → Fits about log marks drawn (dealing mark about (k + 1)) × Fits about log marks drawn (dealt mark about k)
  dealt-fits k lt log marks drawn f =
      let q : ℕ = about.passes - (k + 1) in let P : Member → Type 0 = IsCounted about.passes log [] in
      let all : All P (record { number = k; added = 0 } ∷ fresh_from (k + 1) q) = subst (All P) (fresh-step about.passes k lt) f.counts in (
        record {
          told = f.told;
          begins = f.begins;
          heard = f.heard;
          share = let a = fresh-added (k + 1) q in let l : about.tickets * length (fresh_from (k + 1) q) ≡ about.tickets * q = ap (λ (z : ℕ). about.tickets * z) (fresh-length (k + 1) q) in omega arith;
          counts = All-tail P (record { number = k; added = 0 }) (fresh_from (k + 1) q) all;
          single = λ h. absurd (omega arith);
          stage = tt;
        },
        record {
          told = f.told;
          begins = f.begins;
          heard = f.heard;
          share = let e : about.tickets * 1 ≡ about.tickets = mul-one about.tickets in omega arith;
          counts = All-cons P (record { number = k; added = 0 }) [] (All-head P (record { number = k; added = 0 }) (fresh_from (k + 1) q) all) (All-nil P);
          single = λ h. absurd (omega arith);
          stage = tt;
        },
      )

  pub deals : (id k : ℕ) (v : V) → k < about.passes → v ≡ dealing mark about k → Splits K id v (rest_of v) (one_of v)
  deals id k v lt is =
      let p : ℕ = about.passes in let t : ℕ = about.tickets in let q : ℕ = p - (k + 1) in let s : p - k ≡ suc q = omega arith in
      subst (λ (z : V). Splits K id z (rest_of z) (one_of z)) (sym is)
      (subst (λ (z : V). Splits K id (dealing mark about k) z (one_of (dealing mark about k))) (sym (rest-is k lt))
      (subst (λ (z : V). Splits K id (dealing mark about k) (dealing mark about (k + 1)) z) (sym (one-is k lt))
      (splits log_of origin IsSound mark about id (dealing mark about k) (dealing mark about (k + 1)) (dealt mark about k) refl refl refl
      (let e : t * (p - k) ≡ t * q + t = ap (λ (z : ℕ). t * z) s ∙ mul-suc t q in omega arith)
      (let a = fresh-length k (p - k) in let b = fresh-length (k + 1) q in omega arith)
      (λ x. let e : bearers x (dealing mark about k) ≡ cond (eqb k x) 1 0 + count_by (bears x) (fresh_from (k + 1) q) = ap (λ (z : ℕ). count_by (bears x) (fresh_from k z)) s ∙ bears-cons x k q in omega arith)
      (dealt-fits k lt))))

  pub starts-with : (value : T) (xs : List (Option T)) → about.opened.value ≡ value → xs ≡ Some value ∷ [] → log_of value ≡ [] → IsSound value → about.passes * about.tickets < 2 ^ 64
      → K (opening (0 ∷ 0 ∷ []) xs (dealing mark about 0))
  starts-with value xs is there empty sound small = subst (λ (z : List (Option T)). K (opening (0 ∷ 0 ∷ []) z (dealing mark about 0))) (ap (λ (z : T). Some z ∷ []) is ∙ sym there)
      (starts (ap log_of is ∙ empty) (subst IsSound (sym is) sound) small)
