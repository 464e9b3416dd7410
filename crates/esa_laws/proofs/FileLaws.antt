-- The bytes of trace files and turns files, part by part.
use Rattle.std.proofs.Common.{◌≡◌, ℕ, ◌+◌, ◌-◌, ◌*◌, ◌^◌, ◌≤◌, ◌<◌, List, [], ◌∷◌, ◌++◌, length, take, drop, refl, sym, ◌∙◌, ap, arith, append_assoc, length-append, length-drop}
use Rattle.std.specs.List.{flat_map}
use Rattle.std.specs.Prelude.{slice_range, decimal}
use Rattle.std.proofs.lemmas.Fmt.{length-decimal-le}
use Rattle.std.proofs.lemmas.List.{drop_at, take_at, take-append-drop, drop-drop, length-take-le}
use Rattle.std.proofs.lemmas.List.Concat.{flat_map-append}
use Rattle.esa_params.specs.declared.slot.Access.{Access}
use Rattle.esa_spec.specs.Files.{access_bytes, trace_header, trace_bytes, turn_line, next_line, turns_bytes}

pub length-access : (x : Access) → length (access_bytes x) ≡ 19
length-access x = refl

pub length-header : (count : ℕ) → length (trace_header count) ≡ 9
length-header count = refl

length-accesses : (xs : List Access) → length (flat_map access_bytes xs) ≡ 19 * length xs
length-accesses [] = refl
length-accesses (x ∷ xs) = omega (arith, length-append (access_bytes x) (flat_map access_bytes xs), length-access x, length-accesses xs)

pub length-trace : (xs : List Access) → length (trace_bytes xs) ≡ 9 + 19 * length xs
length-trace xs = omega (arith, length-append (trace_header (length xs)) (flat_map access_bytes xs), length-header (length xs), length-accesses xs)

-- an access stands at its index
drop-accesses : (k : ℕ) (xs : List Access) → k ≤ length xs → drop (19 * k) (flat_map access_bytes xs) ≡ flat_map access_bytes (drop k xs)
drop-accesses k xs k_in =
    let front : length (flat_map access_bytes (take k xs)) ≡ 19 * k = length-accesses (take k xs) ∙ ap (λ y. 19 * y) (length-take-le k xs k_in) in
    ap (λ y. drop (19 * k) (flat_map access_bytes y)) (sym (take-append-drop k xs))
    ∙ ap (drop (19 * k)) (flat_map-append access_bytes (take k xs) (drop k xs))
    ∙ drop_at (flat_map access_bytes (take k xs)) (flat_map access_bytes (drop k xs)) (19 * k) front

pub trace-from : (k : ℕ) (xs : List Access) → k ≤ length xs → drop (9 + 19 * k) (trace_bytes xs) ≡ flat_map access_bytes (drop k xs)
trace-from k xs k_in =
    sym (drop-drop (19 * k) 9 (trace_bytes xs))
    ∙ ap (drop (19 * k)) (drop_at (trace_header (length xs)) (flat_map access_bytes xs) 9 (length-header (length xs)))
    ∙ drop-accesses k xs k_in

-- a part of the accesses, as a buffer holds it
pub trace-part : (k m : ℕ) (xs : List Access) → k + m ≤ length xs
    → slice_range (trace_bytes xs) (9 + 19 * k) (9 + 19 * (k + m)) ≡ flat_map access_bytes (slice_range xs k (k + m))
trace-part k m xs in_range =
    let count : 9 + 19 * (k + m) - (9 + 19 * k) ≡ 19 * m = omega arith in
    let few : k + m - k ≡ m = omega arith in
    let front : length (flat_map access_bytes (take m (drop k xs))) ≡ 19 * m =
    length-accesses (take m (drop k xs)) ∙ ap (λ y. 19 * y) (length-take-le m (drop k xs) (omega (arith, length-drop k xs))) in
    ap (λ y. take y (drop (9 + 19 * k) (trace_bytes xs))) count
    ∙ ap (take (19 * m)) (trace-from k xs (omega arith))
    ∙ ap (λ y. take (19 * m) (flat_map access_bytes y)) (sym (take-append-drop m (drop k xs)))
    ∙ ap (take (19 * m)) (flat_map-append access_bytes (take m (drop k xs)) (drop m (drop k xs)))
    ∙ take_at (flat_map access_bytes (take m (drop k xs))) (flat_map access_bytes (drop m (drop k xs))) (19 * m) front
    ∙ ap (λ y. flat_map access_bytes (take y (drop k xs))) (sym few)

-- a turns file, list by list
pub turns-push : (h : List ℕ) (hs : List (List ℕ)) (last : List ℕ)
    → turns_bytes ((h ∷ hs) ++ last ∷ []) ≡ turns_bytes (h ∷ hs) ++ (next_line ++ flat_map turn_line last)
turns-push h [] last = append_assoc (flat_map turn_line h) next_line (flat_map turn_line last)
turns-push h (g ∷ hs) last =
    ap (λ y. flat_map turn_line h ++ next_line ++ y) (turns-push g hs last)
    ∙ sym (append_assoc (flat_map turn_line h ++ next_line) (turns_bytes (g ∷ hs)) (next_line ++ flat_map turn_line last))

-- a line of a turns file is short
pub length-turn : (worker : ℕ) → worker < 16 → length (turn_line worker) ≤ 3
length-turn worker small =
    let wide : worker < 2 ^ 64 = omega arith in
    let digits : length (decimal worker) ≤ 2 = length-decimal-le 2 worker (omega arith) (omega arith) wide in
    omega (arith, length-append (decimal worker) (10 ∷ []), digits)
