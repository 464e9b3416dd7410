-- A file that is being written, by what the cabinet was heard to take.
use Rattle.std.proofs.Common.{◌≡◌, inl, inr, ℕ, List, [], ◌∷◌, ◌++◌, map, refl, sym, ap, subst, ◌∙◌, append-nil, append_assoc}
use Rattle.std.specs.List.{concat}
use Rattle.esa_outside.specs.Heard.{Event, started, added}
use Rattle.esa_page.specs.Writing.{written, IsWriting, HasWritten, HasBroken}

concat-push : (pieces : List (List ℕ)) (piece : List ℕ) → concat (pieces ++ piece ∷ []) ≡ concat pieces ++ piece
concat-push [] piece = append-nil piece
concat-push (first ∷ pieces) piece = ap (λ ys. first ++ ys) (concat-push pieces piece) ∙ sym (append_assoc first (concat pieces) piece)

map-push : (name : List ℕ) (pieces : List (List ℕ)) (piece : List ℕ) → map (added name) (pieces ++ piece ∷ []) ≡ map (added name) pieces ++ added name piece ∷ []
map-push name [] piece = refl
map-push name (first ∷ pieces) piece = ap (λ ys. added name first ∷ ys) (map-push name pieces piece)

written-push : (before now : List Event) (name : List ℕ) (pieces : List (List ℕ)) (piece : List ℕ) → now ≡ before ++ written name pieces → now ++ added name piece ∷ [] ≡ before ++ written name (pieces ++ piece ∷ [])
written-push before now name pieces piece is =
    ap (λ ys. ys ++ added name piece ∷ []) is ∙ append_assoc before (written name pieces) (added name piece ∷ []) ∙ ap (λ ys. before ++ started name ∷ ys) (sym (map-push name pieces piece))

-- what waited was added
pub IsWriting-sent : (before : List Event) (name text waiting bytes : List ℕ) (old new : List Event) → bytes ≡ waiting → IsWriting before name text waiting old → new ≡ old ++ added name bytes ∷ [] → IsWriting before name text [] new
IsWriting-sent before name text waiting bytes old new is writing heard = (
  writing.0 ++ bytes ∷ [],
  heard ∙ written-push before old name writing.0 bytes writing.1,
  append-nil (concat (writing.0 ++ bytes ∷ [])) ∙ concat-push writing.0 bytes ∙ ap (λ ys. concat writing.0 ++ ys) is ∙ writing.2,
)

-- the file was started
pub IsWriting-started : (before : List Event) (name : List ℕ) (now : List Event) → now ≡ before ++ started name ∷ [] → IsWriting before name [] [] now
IsWriting-started before name now heard = ([], heard, refl)

-- more bytes wait
pub IsWriting-more : (before : List Event) (name text waiting more : List ℕ) (now : List Event) → IsWriting before name text waiting now → IsWriting before name (text ++ more) (waiting ++ more) now
IsWriting-more before name text waiting more now writing =
    (writing.0, writing.1, sym (append_assoc (concat writing.0) waiting more) ∙ ap (λ ys. ys ++ more) writing.2)

-- bytes were added, where none waited
pub IsWriting-added : (before : List Event) (name text bytes : List ℕ) (old new : List Event) → new ≡ old ++ added name bytes ∷ [] → IsWriting before name text [] old → IsWriting before name (text ++ bytes) [] new
IsWriting-added before name text bytes old new heard writing = IsWriting-sent before name (text ++ bytes) bytes bytes old new refl (IsWriting-more before name text [] bytes old writing) heard

-- where nothing waits, the file was written whole
pub HasWritten-writing : (before : List Event) (name text waiting : List ℕ) (now : List Event) → waiting ≡ [] → IsWriting before name text waiting now → HasWritten before name text now
HasWritten-writing before name text waiting now none writing =
    (writing.0, writing.1, sym (append-nil (concat writing.0)) ∙ ap (λ ys. concat writing.0 ++ ys) (sym none) ∙ writing.2)

-- a call that failed adds nothing, so that a front was added
pub HasBroken-writing : (before : List Event) (name text waiting : List ℕ) (now : List Event) → IsWriting before name text waiting now → HasBroken before name text now
HasBroken-writing before name text waiting now writing = inr (writing.0, waiting, writing.1, writing.2)

pub HasBroken-kept : (before : List Event) (name text waiting : List ℕ) (old now : List Event) → now ≡ old → IsWriting before name text waiting old → HasBroken before name text now
HasBroken-kept before name text waiting old now same writing = inr (writing.0, waiting, same ∙ writing.1, writing.2)

-- what is a front of a text is a front of a longer one
pub HasBroken-longer : (before : List Event) (name text more : List ℕ) (now : List Event) → HasBroken before name text now → HasBroken before name (text ++ more) now
HasBroken-longer before name text more now (inl same) = inl same
HasBroken-longer before name text more now (inr (pieces, rest, heard, whole)) =
    inr (pieces, rest ++ more, heard, sym (append_assoc (concat pieces) rest more) ∙ ap (λ ys. ys ++ more) whole)

-- what is put behind what was done
pub writing_none : (before : List Event) (name text page : List ℕ) (now : List Event) → IsWriting before name text page now → IsWriting before name (text ++ []) page now
writing_none before name text page now writing = subst (λ ys. IsWriting before name ys page now) (sym (append-nil text)) writing

pub writing_more : (before : List Event) (name text done more page : List ℕ) (now : List Event) → IsWriting before name ((text ++ done) ++ more) page now → IsWriting before name (text ++ (done ++ more)) page now
writing_more before name text done more page now writing = subst (λ ys. IsWriting before name ys page now) (append_assoc text done more) writing

-- all is done
pub writing_all : (before : List Event) (name text done rest whole page : List ℕ) (now : List Event) → whole ≡ done ++ rest → rest ≡ [] → IsWriting before name (text ++ done) page now → IsWriting before name (text ++ whole) page now
writing_all before name text done rest whole page now parts none writing =
    let all : done ≡ whole = sym (append-nil done) ∙ ap (λ ys. done ++ ys) (sym none) ∙ sym parts in
    subst (λ ys. IsWriting before name (text ++ ys) page now) all writing

-- a front of what was done is a front of the whole
pub broken_whole : (before : List Event) (name text done rest whole : List ℕ) (now : List Event) → whole ≡ done ++ rest → HasBroken before name (text ++ done) now → HasBroken before name (text ++ whole) now
broken_whole before name text done rest whole now parts broken =
    subst (λ ys. HasBroken before name ys now) (append_assoc text done rest ∙ ap (λ ys. text ++ ys) (sym parts)) (HasBroken-longer before name (text ++ done) rest now broken)
