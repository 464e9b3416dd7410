-- Envelopes: how they are put together, their length, and that they open to what was sealed.
use Rattle.std.proofs.Common.{◌≡◌, ℕ, ◌+◌, ◌-◌, ◌^◌, ◌<◌, ◌≤◌, Bool, true, false, List, [], ◌++◌, length, take, drop, Some, None, refl, sym, ap, ◌∙◌, arith, append_assoc, length-append, leb}
use Rattle.std.specs.Prelude.{slice_range, bytes_eq, if◌then◌else◌, unwrap_or}
use Rattle.std.specs.Int.{w64, to_be_bytes}
use Rattle.std.proofs.lemmas.Bool.{and_from, cond-true, le-leb}
use Rattle.std.proofs.lemmas.List.{drop_at, take_at}
use Rattle.std.proofs.lemmas.Slice.{take-put_mid}
use Rattle.std.proofs.lemmas.Slice.Eq.{bytes_eq-Decides}
use borrow.Rule.Slice.PartMut.{put_mid}
use Rattle.esa_bytes.specs.Field.{u64_in}
use Rattle.esa_bytes.proofs.FieldLemmas.{slice_range-middle, u64_in-written}
use Rattle.esa_hmac.proofs.HmacLemmas.{length-hmac}
use Rattle.esa_envelope.specs.declared.keys.Keys.{Keys}
use Rattle.esa_envelope.specs.declared.label.Label.{Label}
use Rattle.esa_envelope.specs.Envelope.{body_of, has_tag, nonce_in, opened, sealed_as, tag_of}
use Rattle.esa_envelope.specs.Keystream.{ciphered}
use Rattle.esa_envelope.specs.Label.{label_text}
use Rattle.esa_envelope.proofs.KeystreamLemmas.{ciphered-ciphered, length-ciphered, put_mid-last}

-- the nonce was written first, then the cipher text behind it, and then the tag of both
pub sealed_as-written : (keys : Keys) (label : Label) (nonce : ℕ) (plain first cipher tag : List ℕ) (head at : ℕ)
    → at ≡ head + length plain → head ≤ length first → take head first ≡ to_be_bytes w64 nonce
    → cipher ≡ ciphered keys.enc nonce 0 plain
    → tag ≡ tag_of keys label (take at (put_mid head (at - head) first cipher))
    → put_mid at (length (put_mid head (at - head) first cipher) - at) (put_mid head (at - head) first cipher) tag
    ≡ sealed_as keys label nonce plain
unfolding sealed_as
sealed_as-written keys label nonce plain first cipher tag head at ends room nonce_first text tagged =
    let size : length cipher ≡ length plain = ap length text ∙ length-ciphered keys.enc nonce 0 plain in
    let body : take at (put_mid head (at - head) first cipher) ≡ body_of keys nonce plain =
    take-put_mid head (at - head) first cipher at (omega arith) room
    ∙ ap (λ front. front ++ cipher) nonce_first ∙ ap (λ rest. to_be_bytes w64 nonce ++ rest) text in
    put_mid-last at (put_mid head (at - head) first cipher) tag
    ∙ ap (λ front. front ++ tag) body
    ∙ ap (λ rest. body_of keys nonce plain ++ rest) (tagged ∙ ap (λ whole. tag_of keys label whole) body)

pub length-body_of : (keys : Keys) (nonce : ℕ) (plain : List ℕ) → length (body_of keys nonce plain) ≡ 8 + length plain
length-body_of keys nonce plain =
    let size = length-ciphered keys.enc nonce 0 plain in
    length-append (to_be_bytes w64 nonce) (ciphered keys.enc nonce 0 plain) ∙ ap (λ n. 8 + n) size

pub length-sealed_as : (keys : Keys) (label : Label) (nonce : ℕ) (plain : List ℕ)
    → length (sealed_as keys label nonce plain) ≡ length plain + 40
unfolding sealed_as
length-sealed_as keys label nonce plain =
    let body = length-body_of keys nonce plain in
    let tag = length-hmac keys.mac (label_text label ++ body_of keys nonce plain) in
    length-append (body_of keys nonce plain) (tag_of keys label (body_of keys nonce plain)) ∙ omega (arith, body, tag)

-- an envelope's nonce is the one that it was sealed with
pub nonce_in-sealed_as : (keys : Keys) (label : Label) (nonce : ℕ) (plain : List ℕ) → nonce < 2 ^ 64
    → nonce_in (sealed_as keys label nonce plain) ≡ nonce
unfolding sealed_as
nonce_in-sealed_as keys label nonce plain fits =
    ap (λ e. u64_in e 0) (append_assoc (to_be_bytes w64 nonce) (ciphered keys.enc nonce 0 plain) (tag_of keys label (body_of keys nonce plain)))
    ∙ u64_in-written [] (ciphered keys.enc nonce 0 plain ++ tag_of keys label (body_of keys nonce plain)) 0 nonce refl fits

-- a body that its tag follows has that tag
has_tag-appended : (keys : Keys) (label : Label) (body tag : List ℕ) → 8 ≤ length body → length tag ≡ 32
    → tag ≡ tag_of keys label body → has_tag keys label (body ++ tag) ≡ true
has_tag-appended keys label body tag room size tagged =
    let whole = length-append body tag in
    let cut : length body ≡ length (body ++ tag) - 32 = omega (arith, whole) in
    and_from (leb 40 (length (body ++ tag)))
    (bytes_eq (tag_of keys label (take (length (body ++ tag) - 32) (body ++ tag))) (drop (length (body ++ tag) - 32) (body ++ tag)))
    (le-leb 40 (length (body ++ tag)) (omega (arith, whole)))
    ((bytes_eq-Decides (tag_of keys label (take (length (body ++ tag) - 32) (body ++ tag))) (drop (length (body ++ tag) - 32) (body ++ tag))).1
    (ap (λ front. tag_of keys label front) (take_at body tag (length (body ++ tag) - 32) cut) ∙ sym tagged
    ∙ sym (drop_at body tag (length (body ++ tag) - 32) cut)))

-- what opens, where a nonce and a cipher text stand before their tag
opened-appended : (keys : Keys) (label : Label) (nonce : ℕ) (first text tag : List ℕ) → length first ≡ 8 → length tag ≡ 32
    → nonce_in (first ++ (text ++ tag)) ≡ nonce → tag ≡ tag_of keys label (first ++ text)
    → opened keys label ((first ++ text) ++ tag) ≡ Some (ciphered keys.enc nonce 0 text)
unfolding opened
opened-appended keys label nonce first text tag eight size read tagged =
    let body = length-append first text in
    let whole = length-append (first ++ text) tag in
    let ends : length ((first ++ text) ++ tag) - 32 ≡ 8 + length text = omega (arith, body, whole) in
    let middle : slice_range ((first ++ text) ++ tag) 8 (8 + length text) ≡ text =
    ap (λ e. slice_range e 8 (8 + length text)) (append_assoc first text tag)
    ∙ slice_range-middle first text tag 8 (length text) eight refl in
    let own : nonce_in ((first ++ text) ++ tag) ≡ nonce = ap nonce_in (append_assoc first text tag) ∙ read in
    cond-true (has_tag keys label ((first ++ text) ++ tag)) _ None
    (has_tag-appended keys label (first ++ text) tag (omega (arith, body)) size tagged)
    ∙ rw (ends, middle, own)

-- what was sealed opens, to the text that was sealed
pub opened-sealed_as : (keys : Keys) (label : Label) (nonce : ℕ) (plain : List ℕ) → nonce < 2 ^ 64
    → opened keys label (sealed_as keys label nonce plain) ≡ Some plain
unfolding sealed_as
opened-sealed_as keys label nonce plain fits =
    opened-appended keys label nonce (to_be_bytes w64 nonce) (ciphered keys.enc nonce 0 plain) (tag_of keys label (body_of keys nonce plain))
    refl (length-hmac keys.mac (label_text label ++ body_of keys nonce plain))
    (u64_in-written [] (ciphered keys.enc nonce 0 plain ++ tag_of keys label (body_of keys nonce plain)) 0 nonce refl fits) refl
    ∙ ap (λ text. Some text) (ciphered-ciphered keys.enc nonce 0 plain)

-- what a choice shows that gave a value
chosen : (b : Bool) (x y : List ℕ) → (if b then Some x else None) ≡ Some y → (b ≡ true) × (x ≡ y)
chosen true x y h = (refl, ap (λ o. unwrap_or o x) h)
chosen false x y h = cc h

-- an envelope that was opened to `out`, or not, after it was sealed
pub came_back : (keys : Keys) (label : Label) (nonce : ℕ) (plain sealed out : List ℕ) (b : Bool) → nonce < 2 ^ 64
    → sealed ≡ sealed_as keys label nonce plain → opened keys label sealed ≡ (if b then Some out else None)
    → (b ≡ true) × (out ≡ plain)
came_back keys label nonce plain sealed out b fits made read =
    chosen b out plain (sym read ∙ ap (λ envelope. opened keys label envelope) made ∙ opened-sealed_as keys label nonce plain fits)
