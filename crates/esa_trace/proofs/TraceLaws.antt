-- Accesses that are put one after another.
use Rattle.std.proofs.Common.{◌≡◌, ℕ, ◌+◌, ◌<◌, List, ◌++◌, length, drop, get_or, sym, ap, ◌∙◌, append_assoc}
use Rattle.std.specs.Prelude.{flat_map}
use Rattle.std.proofs.lemmas.List.{drop_more}
use Rattle.esa_params.specs.declared.slot.Access.{Access}
use Rattle.esa_spec.specs.Files.{access_bytes, trace_header, trace_bytes}

-- one access further
pub access_step : (whole : List ℕ) (accesses : List Access) (i : ℕ) (d : Access) (access : Access) (done : List ℕ) → whole ≡ done ++ flat_map access_bytes (drop i accesses) → i < length accesses → access ≡ get_or accesses i d
    → whole ≡ (done ++ access_bytes access) ++ flat_map access_bytes (drop (i + 1) accesses)
access_step whole accesses i d access done so_far below access_is =
    so_far
    ∙ ap (λ rest. done ++ flat_map access_bytes rest) (drop_more accesses i d below)
    ∙ ap (λ x. done ++ (access_bytes x ++ flat_map access_bytes (drop (i + 1) accesses))) (sym access_is)
    ∙ sym (append_assoc done (access_bytes access) (flat_map access_bytes (drop (i + 1) accesses)))

-- the header and the accesses are the file
pub file_parts : (accesses : List Access) (header : List ℕ) (count : ℕ) → header ≡ trace_header count → count ≡ length accesses → header ++ flat_map access_bytes accesses ≡ trace_bytes accesses
file_parts accesses header count header_is count_is = ap (λ h. h ++ flat_map access_bytes accesses) (header_is ∙ ap trace_header count_is)
