-- Fields that are written one behind another.
use Rattle.std.proofs.Common.{◌≡◌, ℕ, ◌+◌, ◌<◌, List, [], ◌∷◌, ◌++◌, length, take, drop, set, refl, sym, ap, ◌∙◌, append_assoc, append-nil, arith}
use Rattle.std.specs.Int.{w16, w32, to_be_bytes}
use Rattle.std.proofs.lemmas.List.{take_at, take_more_set, length-append}
use Rattle.esa_bytes.specs.Field.{overwrite}
use Rattle.esa_params.specs.declared.form.Form.TheVariants.{One, Two}
use Rattle.esa_header.specs.Version.{version_byte}
use Rattle.esa_header.specs.declared.header.FileKind.{FileKind}
use Rattle.esa_header.specs.declared.header.FileKind.TheVariants.{Batch, Forward}
use Rattle.esa_header.specs.declared.header.Header.{Header}
use Rattle.esa_header.specs.Header.{magic, record_length, front_bytes, epoch_bytes, header_bytes}
use Rattle.esa_header.proofs.HeaderLaws.{length-magic}

pub take-overwrite : (bytes front part : List ℕ) (at n : ℕ) → take at bytes ≡ front → length front ≡ at → length part ≡ n → take (at + n) (overwrite bytes at part) ≡ front ++ part
take-overwrite bytes front part at n before here size =
    let rest = drop (at + length part) bytes in
    let whole : length (front ++ part) ≡ at + n = omega (arith, length-append front part) in
    ap (λ ys. take (at + n) (ys ++ (part ++ rest))) before
    ∙ ap (λ ys. take (at + n) ys) (sym (append_assoc front part rest))
    ∙ take_at (front ++ part) rest (at + n) whole

grouped : (m : List ℕ) (v : ℕ) (c s : List ℕ) → ((m ++ v ∷ []) ++ c) ++ s ≡ m ++ (v ∷ (c ++ s))
grouped m v c s = simp append_assoc

front-length : (kind : FileKind) (header : Header) → length (front_bytes kind header) ≡ 11
front-length Batch header = refl
front-length Forward header = refl

-- the fields of a header, written one behind another
pub take-front : (kind : FileKind) (header : Header) (m rest x y : List ℕ) (v r : ℕ) → m ≡ magic kind → 0 < length rest → v ≡ version_byte header.form → r ≡ record_length kind header.form
    → x ≡ overwrite (set (m ++ rest) 4 v) 5 (to_be_bytes w32 header.count)
    → y ≡ overwrite x 9 (to_be_bytes w16 r)
    → take 11 y ≡ front_bytes kind header
take-front kind header m rest x y v r magic_is more version size first second =
    let four : length m ≡ 4 = ap length magic_is ∙ length-magic kind in
    let start : take 5 (set (m ++ rest) 4 v) ≡ m ++ v ∷ [] =
    take_more_set (m ++ rest) 4 v (omega (arith, length-append m rest)) ∙ ap (λ ys. ys ++ v ∷ []) (take_at m rest 4 four) in
    let five : length (m ++ v ∷ []) ≡ 5 = omega (arith, length-append m (v ∷ [])) in
    let c = to_be_bytes w32 header.count in
    let nine : length ((m ++ v ∷ []) ++ c) ≡ 9 = omega (arith, length-append (m ++ v ∷ []) c) in
    ap (take 11) second
    ∙ take-overwrite x ((m ++ v ∷ []) ++ c) (to_be_bytes w16 r) 9 2
    (ap (take 9) first ∙ take-overwrite (set (m ++ rest) 4 v) (m ++ v ∷ []) c 5 4 start five refl) nine refl
    ∙ (λ i. ((magic_is i ++ version i ∷ []) ++ c) ++ to_be_bytes w16 (size i))
    ∙ grouped (magic kind) (version_byte header.form) c (to_be_bytes w16 (record_length kind header.form))

pub take-header : (kind : FileKind) (header : Header) (front out : List ℕ) → take 11 front ≡ front_bytes kind header → header.form ≡ Two → out ≡ overwrite front 11 (to_be_bytes w32 header.epoch) → take 15 out ≡ header_bytes kind header
take-header kind header front out written two is =
    ap (take 15) is
    ∙ take-overwrite front (front_bytes kind header) (to_be_bytes w32 header.epoch) 11 4 written (front-length kind header) refl
    ∙ ap (λ form. front_bytes kind header ++ epoch_bytes form header.epoch) (sym two)

pub take-short_header : (kind : FileKind) (header : Header) (front : List ℕ) → take 11 front ≡ front_bytes kind header → header.form ≡ One → take 11 front ≡ header_bytes kind header
take-short_header kind header front written one =
    written ∙ sym (append-nil _) ∙ ap (λ form. front_bytes kind header ++ epoch_bytes form header.epoch) (sym one)
