-- The records that a told file holds.
use Rattle.std.proofs.Common.{◌≡◌, inl, inr, ℕ, ◌≤◌, ◌+◌, ◌*◌, List, [], ◌∷◌, length, take, drop, Option, Some, None, Result, Ok, Err, sym, refl, ap, ◌∙◌, subst, arith, length-drop}
use Rattle.std.proofs.lemmas.Bool.{cases_lt}
use Rattle.std.specs.Option.{option_map}
use Rattle.std.specs.Result.{OnOk}
use Rattle.std.specs.List.{All, concat}
use Rattle.std.proofs.lemmas.List.{drop-drop}
use Rattle.std.specs.FinMap as map
use Rattle.esa_lists.specs.Files.{Files}
use Rattle.esa_outside.specs.Cause.{HasCause}
use Rattle.esa_outside.specs.Told.{Lacks, EndsBefore, IsPart}
use Rattle.esa_header.specs.Pieces.{pieces}
use Rattle.esa_batcher.specs.InFile.{records_of}
use Rattle.esa_header.proofs.PieceLaws.{length-pieces}
use Rattle.esa_batcher.proofs.Parts.{part-pieces, HaveLength-front}

-- where the records are told, the file is there
pub record Found (told : Option Files) (name : List ℕ) (start size count : ℕ) (records : List (List ℕ)) : Type 0 where
  pub files : Files
  pub bytes : List ℕ
  pub tells : told ≡ Some files
  pub there : map.get files name ≡ Some bytes
  pub are : records ≡ pieces size count (drop start bytes)

pub found : (told : Option Files) (name : List ℕ) (start size count : ℕ) (records : List (List ℕ)) → records_of told name start size count ≡ Some records → Found told name start size count records
found None name start size count records is = cc
found (Some files) name start size count records is =
    elim (map.get files name) as (λ file. map.get files name ≡ file → option_map (λ bytes. pieces size count (drop start bytes)) file ≡ Some records → Found (Some files) name start size count records) [
      | None ↦ λ e none. cc
      | Some bytes ↦ λ e some. record { files = files; bytes = bytes; tells = refl; there = e; are = cc }
    ] refl is

pub length-found : (told : Option Files) (name : List ℕ) (start size count : ℕ) (records : List (List ℕ)) → records_of told name start size count ≡ Some records → length records ≡ count
length-found told name start size count records is = let f = found told name start size count records is in ap length f.are ∙ length-pieces size count (drop start f.bytes)

pub lengths-found : (told : Option Files) (name : List ℕ) (start size count : ℕ) (records : List (List ℕ)) → (Lacks told name (start + count * size) → ⊥) → records_of told name start size count ≡ Some records → All (λ bytes. length bytes ≡ size) records
lengths-found told name start size count records whole is =
    let f = found told name start size count records is in
    let long : count * size ≤ length (drop start f.bytes) =
    elim (cases_lt (length f.bytes) (start + count * size)) [
      | inl short ↦ absurd (whole (subst (λ t. Lacks t name (start + count * size)) (sym f.tells) (subst (λ file. EndsBefore file (start + count * size)) (sym f.there) short)))
      | inr enough ↦ omega (arith, length-drop start f.bytes)
    ] in
    subst (λ rs. All (λ bytes. length bytes ≡ size) rs) (sym f.are) (HaveLength-front size count (drop start f.bytes) long)

-- what lies inside is not missing
pub not_missing : (told : Option Files) (name : List ℕ) (part whole : ℕ) → part ≤ whole → (Lacks told name whole → ⊥) → Lacks told name part → ⊥
not_missing None name part whole below fits missing = missing
not_missing (Some files) name part whole below fits missing =
    elim (map.get files name) as (λ file. (EndsBefore file whole → ⊥) → EndsBefore file part → ⊥) [
      | None ↦ λ f m. f tt
      | Some bytes ↦ λ f m. f (omega arith)
    ] fits missing

pub HasCause-own : {T E : Type 0} (before now : ℕ) (missing : Type 0) (result : Result T E) → (missing → ⊥) → HasCause before now missing result → HasCause before now ⊥ result
HasCause-own before now missing (Ok v) not cause = record { later = cause.later; kept = cause.kept; failed = cause.failed }
HasCause-own before now missing (Err e) not cause = record { later = cause.later; kept = cause.kept; failed = elim cause.failed [ inl rose ↦ inl rose | inr m ↦ absurd (not m) ] }

-- a part of the file from a record on is the records from there on
pub part-found : (told : Option Files) (name : List ℕ) (start size count first n out : ℕ) (records : List (List ℕ)) (f : Found told name start size count records) → out ≡ n * size → first + n ≤ count
    → take out (drop (start + first * size) f.bytes) ≡ concat (take n (drop first records))
part-found told name start size count first n out records f part within =
    ap (take out) (sym (drop-drop (first * size) start f.bytes))
    ∙ part-pieces size count first n out (drop start f.bytes) part within
    ∙ sym (ap (λ list. concat (take n (drop first list))) f.are)

pub read-found : {E : Type 0} (told : Option Files) (name : List ℕ) (start size count first n : ℕ) (records : List (List ℕ)) (out : List ℕ) (result : Result (Unit {0}) E)
    → records_of told name start size count ≡ Some records → length out ≡ n * size → first + n ≤ count
    → ((files : Files) → told ≡ Some files → OnOk result (IsPart (map.get files name) (start + first * size) out)) → OnOk result (out ≡ concat (take n (drop first records)))
read-found told name start size count first n records out (Ok v) is part within read =
    let f = found told name start size count records is in
    let at = subst (λ file. IsPart file (start + first * size) out) f.there (read f.files f.tells) in
    at.1 ∙ part-found told name start size count first n (length out) records f part within
read-found told name start size count first n records out (Err e) is part within read = tt

pub none-found : (told : Option Files) (name : List ℕ) (start size count first n : ℕ) (records : List (List ℕ)) (out : List ℕ) → length out ≡ 0
    → records_of told name start size count ≡ Some records → length out ≡ n * size → first + n ≤ count → out ≡ concat (take n (drop first records))
none-found told name start size count first n records [] empty is part within = part-found told name start size count first n 0 records (found told name start size count records is) part within
none-found told name start size count first n records (b ∷ out) empty is part within = absurd (omega arith)
