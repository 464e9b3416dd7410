-- A forward file has one spelling: what is read is what would be written, and what is written is read.
use Rattle.std.proofs.Common.{◌≡◌, ◌⊎◌, ℕ, ◌+◌, ◌*◌, ◌<◌, ◌≤◌, ◌^◌, true, false, cond, List, ◌++◌, length, drop, Result, Ok, Err, refl, sym, ap, subst, ◌∙◌, inl, inr, arith}
use Rattle.std.specs.Prelude.{nat_lt, IfOk, MatchResult}
use Rattle.std.specs.List.{concat}
use Rattle.std.proofs.lemmas.List.{take_at, drop_at, length-append, length-drop, take-append-drop}
use Rattle.esa_params.specs.declared.form.Form.{Form}
use Rattle.esa_params.specs.Form.{inner_length}
use Rattle.esa_header.specs.Pieces.{pieces}
use Rattle.esa_header.specs.declared.header.FileKind.TheVariants.{Forward}
use Rattle.esa_header.specs.declared.header.Header.{Header}
use Rattle.esa_header.specs.declared.header.HeaderRefused.{HeaderRefused}
use Rattle.esa_header.specs.Header.{header_length, header_bytes, header_in, file_length, IsFileOf}
use Rattle.esa_header.proofs.HeaderLaws.{AreBytes, header_in-spelled, header_in-accepts, no_test, not_below, length-header_bytes}
use Rattle.esa_header.proofs.PieceLaws.{concat-pieces, length-pieces, HaveLength-pieces, length-concat}
use Rattle.esa_threshold.specs.declared.envelopes.Forwarded.{Forwarded}
use Rattle.esa_threshold.specs.declared.refused.ForwardRefused.{ForwardRefused}
use Rattle.esa_threshold.specs.declared.refused.ForwardRefused.TheVariants.{TooMany, OutOfMemory}
use Rattle.esa_threshold.specs.Forward.{forward_front, forward_bytes, CanForward, forwarded_as, IsForwardFile, tested_number, behind_header, forward_in}

behind-size : (bytes : List ℕ) (header : Header) → length bytes ≡ file_length Forward header → length (drop (header_length header.form) bytes) ≡ inner_length header.form * header.count
behind-size bytes header size = omega (arith, length-drop (header_length header.form) bytes)

of_file : (bytes : List ℕ) (header : Header) → IsFileOf Forward header bytes → header.count ≤ 262144 → IsForwardFile (record { form = header.form; epoch = header.epoch; envelopes = drop (header_length header.form) bytes }) bytes
of_file bytes header is few =
    let rest = drop (header_length header.form) bytes in
    let size = inner_length header.form in
    let whole : length rest ≡ size * header.count = behind-size bytes header is.size in
    let envelopes = pieces size header.count rest in
    let number : length envelopes ≡ header.count = length-pieces size header.count rest in
    let joined : concat envelopes ≡ rest = concat-pieces size header.count rest whole in (
      envelopes,
      record { lengths = HaveLength-pieces size header.count rest whole; number = omega arith; epoch_fits = is.epoch },
      ap (λ ys. record { form = header.form; epoch = header.epoch; envelopes = ys }) (sym joined),
      sym (take-append-drop (header_length header.form) bytes)
          ∙ ap (λ ys. ys ++ rest) is.front
          ∙ sym (λ i. forward_front header.form header.epoch (number i) ++ joined i),
    )

pub forward_in-spelled : (bytes : List ℕ) → AreBytes bytes → (forwarded : Forwarded) → forward_in bytes ≡ Ok forwarded → IsForwardFile forwarded bytes
forward_in-spelled bytes are forwarded read = by_header (header_in Forward bytes (length bytes)) refl read
  where
    by_header : (r : Result Header HeaderRefused) → header_in Forward bytes (length bytes) ≡ r → behind_header bytes (tested_number r) ≡ Ok forwarded → IsForwardFile forwarded bytes
    by_header (Err refused) first rest = cc
    by_header (Ok header) first rest =
        elim (nat_lt 262144 header.count) as (λ b. nat_lt 262144 header.count ≡ b → behind_header bytes (cond b (Err (TooMany header.count)) (Ok header)) ≡ Ok forwarded → IsForwardFile forwarded bytes) [
          | true ↦ λ _ h. cc
          | false ↦ λ e h.
              let same : record { form = header.form; epoch = header.epoch; envelopes = drop (header_length header.form) bytes } ≡ forwarded = cc in
              subst (λ f. IsForwardFile f bytes) same (of_file bytes header (header_in-spelled Forward bytes are header first) (not_below _ _ e))
        ] refl rest

fits : (n : ℕ) → n ≤ 262144 → n < 2 ^ 32
fits n few = omega arith

pub forward_in-accepts : (form : Form) (epoch : ℕ) (envelopes : List (List ℕ)) → CanForward form epoch envelopes → forward_in (forward_bytes form epoch envelopes) ≡ Ok (forwarded_as form epoch envelopes)
forward_in-accepts form epoch envelopes can =
    let header : Header = record { form = form; epoch = epoch; count = length envelopes } in
    let joined = concat envelopes in
    let front_size : length (header_bytes Forward header) ≡ header_length form = length-header_bytes Forward header in
    let is : IsFileOf Forward header (header_bytes Forward header ++ joined) = record {
      count = fits (length envelopes) can.number;
      epoch = can.epoch_fits;
      front = take_at (header_bytes Forward header) joined (header_length form) front_size;
      size = length-append (header_bytes Forward header) joined ∙ (λ i. front_size i + length-concat (inner_length form) envelopes can.lengths i);
    } in
    ap (λ r. behind_header (forward_bytes form epoch envelopes) (tested_number r)) (header_in-accepts Forward (forward_bytes form epoch envelopes) header is)
    ∙ ap (λ b. behind_header (forward_bytes form epoch envelopes) (cond b (Err (TooMany (length envelopes))) (Ok header))) (no_test 262144 (length envelopes) can.number)
    ∙ ap (λ ys. Ok (record { form = form; epoch = epoch; envelopes = ys })) (drop_at (header_bytes Forward header) joined (header_length form) front_size)

-- what an answer of the reader says
abbrev pub IsAnswer : List ℕ → Result Forwarded ForwardRefused → Type 0
IsAnswer bytes result = MatchResult result (λ forwarded. forward_in bytes ≡ Ok forwarded) (λ refused. (refused ≡ OutOfMemory) ⊎ (forward_in bytes ≡ Err refused))

pub answer-spelled : (bytes : List ℕ) → AreBytes bytes → (result : Result Forwarded ForwardRefused) → IsAnswer bytes result → IfOk result (λ forwarded. IsForwardFile forwarded bytes)
answer-spelled bytes are (Ok forwarded) answer = forward_in-spelled bytes are forwarded answer
answer-spelled bytes are (Err refused) answer = tt

pub answer-accepts : (bytes : List ℕ) (form : Form) (epoch : ℕ) (envelopes : List (List ℕ)) → CanForward form epoch envelopes → bytes ≡ forward_bytes form epoch envelopes → (result : Result Forwarded ForwardRefused) → IsAnswer bytes result
    → MatchResult result (λ forwarded. forwarded ≡ forwarded_as form epoch envelopes) (λ refused. refused ≡ OutOfMemory)
answer-accepts bytes form epoch envelopes can is (Ok forwarded) answer =
    let accepted : forward_in bytes ≡ Ok (forwarded_as form epoch envelopes) = ap forward_in is ∙ forward_in-accepts form epoch envelopes can in
    cc
answer-accepts bytes form epoch envelopes can is (Err refused) answer =
    let accepted : forward_in bytes ≡ Ok (forwarded_as form epoch envelopes) = ap forward_in is ∙ forward_in-accepts form epoch envelopes can in
    elim answer [ inl want ↦ want | inr other ↦ cc ]

-- the same where the answer is for certain
abbrev pub IsSure : List ℕ → Result Forwarded ForwardRefused → Type 0
IsSure bytes result = MatchResult result (λ forwarded. forward_in bytes ≡ Ok forwarded) (λ refused. forward_in bytes ≡ Err refused)

pub sure-spelled : (bytes : List ℕ) → ((forwarded : Forwarded) → forward_in bytes ≡ Ok forwarded → IsForwardFile forwarded bytes) → (result : Result Forwarded ForwardRefused) → IsSure bytes result → IfOk result (λ forwarded. IsForwardFile forwarded bytes)
sure-spelled bytes spelled (Ok forwarded) answer = spelled forwarded answer
sure-spelled bytes spelled (Err refused) answer = tt

pub sure-accepts : (bytes : List ℕ) (form : Form) (epoch : ℕ) (envelopes : List (List ℕ)) → CanForward form epoch envelopes → bytes ≡ forward_bytes form epoch envelopes → (result : Result Forwarded ForwardRefused) → IsSure bytes result
    → result ≡ Ok (forwarded_as form epoch envelopes)
sure-accepts bytes form epoch envelopes can is (Ok forwarded) answer = sym answer ∙ ap forward_in is ∙ forward_in-accepts form epoch envelopes can
sure-accepts bytes form epoch envelopes can is (Err refused) answer = sym answer ∙ ap forward_in is ∙ forward_in-accepts form epoch envelopes can
