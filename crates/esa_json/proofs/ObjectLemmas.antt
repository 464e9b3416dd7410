-- The object that bytes are, from what their text reads as.
use Rattle.std.proofs.Common.{◌≡◌, ℕ, List, true, false, Option, None, option_and_then, refl, ap, ◌∙◌, sym, cond, IsUtf8}
use Rattle.std.specs.Str.{is_utf8}
use Rattle.std.proofs.lemmas.Str.{IsUtf8-from_is_utf8, is_utf8-from_IsUtf8}
use Rattle.serde_json.specs.Data.{Data}
use Rattle.serde_json.specs.Read.{read}
use Rattle.esa_json.specs.Object.{json_of, if_object, object_of}

json_of-text : (bytes text : List ℕ) → text ≡ bytes → IsUtf8 bytes → json_of bytes ≡ read text
unfolding json_of
json_of-text bytes text same utf8 = rw (is_utf8-from_IsUtf8 bytes utf8) (ap read (sym same))

json_of-other : (bytes : List ℕ) → ¬ IsUtf8 bytes → json_of bytes ≡ None
unfolding json_of
json_of-other bytes other =
    elim (is_utf8 bytes) as (λ b. is_utf8 bytes ≡ b → cond b (read bytes) None ≡ None)
    [ true ↦ λ text. absurd (other (IsUtf8-from_is_utf8 bytes text)) | false ↦ λ _. refl ] refl

-- what a text reads as decides
pub object_of-text : (bytes text : List ℕ) (value : Option Data) → text ≡ bytes → IsUtf8 bytes → read text ≡ value → object_of bytes ≡ option_and_then if_object value
object_of-text bytes text value same utf8 reads = ap (option_and_then if_object) (json_of-text bytes text same utf8 ∙ reads)

pub object_of-other : (bytes : List ℕ) → ¬ IsUtf8 bytes → object_of bytes ≡ None
object_of-other bytes other = ap (option_and_then if_object) (json_of-other bytes other)
