-- Beginnings of a list.
use Rattle.std.proofs.Common.{◌≡◌, ℕ, ◌+◌, ◌≤◌, List, [], ◌∷◌, ◌++◌, length, map, refl, sym, ap, ◌∙◌, append_assoc, append-nil, length-append, arith}
use Rattle.std.proofs.lemmas.List.{map-append}
use Rattle.std.proofs.lemmas.List.Sums.{sum_by-append}
use mathlib.Core.List.{IsPrefix}
use Rattle.std.proofs.Common.{cond, eqb}
use Rattle.esa_turnstile.specs.Entries.{times}

pub prefix-length : (a b : List ℕ) → IsPrefix a b → length a ≤ length b
prefix-length a b p = omega (arith, length-append a p.0, ap length p.1)

pub prefix-refl : (a : List ℕ) → IsPrefix a a
prefix-refl a = ([], append-nil a)

pub prefix-trans : (a b c : List ℕ) → IsPrefix a b → IsPrefix b c → IsPrefix a c
prefix-trans a b c h k = (h.0 ++ k.0, sym (append_assoc a h.0 k.0) ∙ (ap (λ (z : List ℕ). z ++ k.0) h.1 ∙ k.1))

pub prefix-push : (a b c : List ℕ) → IsPrefix a b → IsPrefix a (b ++ c)
prefix-push a b c h = prefix-trans a b (b ++ c) h (c, refl)

no-rest : (a r : List ℕ) → length r ≡ 0 → a ≡ a ++ r
no-rest a [] e = sym (append-nil a)
no-rest a (x ∷ r) e = absurd (omega arith)

-- a beginning that is as long is the whole
pub prefix-whole : (a b : List ℕ) → IsPrefix a b → length b ≤ length a → a ≡ b
prefix-whole a b p le = no-rest a p.0 (omega (arith, length-append a p.0, ap length p.1)) ∙ p.1

head : ℕ → List ℕ → ℕ
head d [] = d
head d (x ∷ xs) = x

tail : List ℕ → List ℕ
tail [] = []
tail (x ∷ xs) = xs

-- of two beginnings of one list the shorter begins the longer
pub prefix-shorter : (a b c : List ℕ) → IsPrefix a c → IsPrefix b c → length a ≤ length b → IsPrefix a b
unfolding head tail
prefix-shorter [] b c h k le = (b, refl)
prefix-shorter (x ∷ a) [] c h k le = absurd (omega arith)
prefix-shorter (x ∷ a) (y ∷ b) c h k le =
    let e : x ∷ (a ++ h.0) ≡ y ∷ (b ++ k.0) = h.1 ∙ sym k.1 in
    let same : x ≡ y = ap (head 0) e in
    let r = prefix-shorter a b (b ++ k.0) (h.0, ap tail e) (k.0, refl) (omega arith) in
    (r.0, λ i. same i ∷ r.1 i)

pub times-prefix : (x : ℕ) (a b : List ℕ) → IsPrefix a b → times x a ≤ times x b
times-prefix x a b p = let e : times x (a ++ p.0) ≡ times x a + times x p.0 = sum_by-append (λ (y : ℕ). cond (eqb y x) 1 0) a p.0 in omega (arith, ap (times x) p.1)

-- each entry more is a text more
pub texts-push : (old new : List ℕ) (n : ℕ) (seen : List (List ℕ)) → seen ≡ map (λ (m : ℕ). m ∷ []) old → new ≡ old ++ n ∷ [] → IsPrefix seen (map (λ (m : ℕ). m ∷ []) new)
texts-push old new n seen is longer =
    let text : ℕ → List ℕ = λ m. m ∷ [] in
    (text n ∷ [], ap (λ (l : List (List ℕ)). l ++ text n ∷ []) is ∙ sym (map-append text old (n ∷ [])) ∙ ap (map text) (sym longer))
