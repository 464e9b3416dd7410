-- Inputs that are read one after another.
use Rattle.std.proofs.Common.{◌≡◌, ℕ, zero, suc, ◌+◌, ◌<◌, ◌≤◌, true, false, Bool, cond, List, [], ◌∷◌, ◌++◌, length, drop, slice_get, Option, Some, None, Result, Ok, Err, IfOk, refl, sym, ap, subst, ◌∙◌, append_assoc, append-nil, le_refl, arith}
use Rattle.std.specs.Prelude.{nat_lt}
use Rattle.std.specs.declared.vec.Vec.{Vec}
use Rattle.std.proofs.Math.Path.{fun_ext}
use Rattle.std.proofs.lemmas.Bool.Decides.{nat_tests}
use Rattle.std.proofs.lemmas.List.{drop_more}
use Rattle.std.proofs.lemmas.Option.{slice_get_within, get_or_from_slice_get}
use Rattle.esa_lists.specs.Files.{Files}
use Rattle.esa_job.specs.declared.command.Command.{Command}
use Rattle.esa_job.specs.declared.command.Command.TheVariants.{Intake}
use Rattle.esa_refusal.specs.declared.refusal.Refusal.TheVariants.{Large}
use Rattle.esa_refusal.specs.declared.source.Source.{Source}
use Rattle.esa_refusal.specs.declared.source.Source.TheVariants.{Inputs}
use Rattle.esa_refusal.specs.declared.stop.Stop.{Stop}
use Rattle.esa_refusal.specs.declared.stop.Stop.TheVariants.{OutOfMemory}
use Rattle.esa_refusal.specs.Source.{role_of, limit_of}
use Rattle.esa_command.specs.Judged.{Judged}
use Rattle.esa_command.specs.Stand.{Stand}
use Rattle.esa_command.specs.Step.{Step, ◌>>=◌, accepted, refused, within, file, Reads}
use Rattle.esa_command.proofs.Agreeing.{reads_by, agree_by}
use Rattle.esa_command.proofs.Composition.{judged_stop, judged_then, judged_made, judged_steps, judged_already}
use Rattle.esa_gathering.specs.Intake.{input_files}

-- ---- a file that is accepted has no more bytes than its limit

within_short : (limit : ℕ) (source : Source) (held : Option (List ℕ)) (bytes : List ℕ) → within limit source held ≡ accepted bytes → length bytes ≤ limit
within_short limit source None bytes is = cc
within_short limit source (Some held) bytes is = by_test (nat_lt limit (length held)) refl is
  where
    by_test : (past : Bool) → nat_lt limit (length held) ≡ past → cond past (refused (Large (role_of source))) (accepted held) ≡ accepted bytes → length bytes ≤ limit
    by_test true tested is = cc
    by_test false tested is =
        let same : held ≡ bytes = cc in
        let short : length held ≤ limit = grind (arith, nat_tests, tested) in
        subst (λ bytes. length bytes ≤ limit) same short

pub file_short : {Z : Type 0} (first last : ℕ) (command : Command) (source : Source) (name : List ℕ) (before now : Stand Files) (result : Result (Vec ℕ Z) Stop)
    → Judged first last (λ bytes. bytes.items) (file command source name) before now result → IfOk result (λ bytes. length bytes.items ≤ limit_of command source)
file_short first last command source name before now (Ok bytes) j =
    let read = reads_by j.given in
    within_short (limit_of command source) source (read source name) bytes.items (j.answers read (agree_by first last j.given j.once)).0
file_short first last command source name before now (Err stop) j = tt

-- ---- names at a place

pub name_here : (names : List (List ℕ)) (place : ℕ) (name : List ℕ) → Some name ≡ slice_get names place → (place < length names) × (drop place names ≡ name ∷ drop (place + 1) names)
name_here names place name is =
    let below = slice_get_within names place name (sym is) in
    (below, drop_more names place [] below ∙ ap (λ first. first ∷ drop (place + 1) names) (get_or_from_slice_get names place name [] (sym is)))

pub names_end : (names : List (List ℕ)) (place : ℕ) → None ≡ slice_get names place → drop place names ≡ []
names_end [] zero is = refl
names_end [] (suc place) is = refl
names_end (first ∷ names) zero is = cc
names_end (first ∷ names) (suc place) is = names_end names place is

-- ---- what is read of them

-- texts, and those that are read later
abbrev pub onto : List (List ℕ) → Result (List (List ℕ)) Stop → Result (List (List ℕ)) Stop
onto texts (Ok later) = Ok (texts ++ later)
onto texts (Err stop) = Err stop

onto_none : (result : Result (List (List ℕ)) Stop) → onto [] result ≡ result
onto_none (Ok later) = refl
onto_none (Err stop) = refl

onto_both : (texts : List (List ℕ)) (text : List ℕ) (result : Result (List (List ℕ)) Stop) → onto texts (onto (text ∷ []) result) ≡ onto (texts ++ text ∷ []) result
onto_both texts text (Ok later) = ap Ok (sym (append_assoc texts (text ∷ []) later))
onto_both texts text (Err stop) = refl

files_more : (place : ℕ) (name : List ℕ) (names : List (List ℕ)) (read : Reads)
    → (file Intake (Inputs place) name read >>= λ text. input_files (place + 1) names read >>= λ texts. accepted (text ∷ texts)) ≡ input_files place (name ∷ names) read
unfolding input_files
files_more place name names read = refl

files_end : (place : ℕ) (read : Reads) → input_files place [] read ≡ accepted []
unfolding input_files
files_end place read = refl

-- The texts of the first files were read so, and whatever the later files come to, all come to these texts and that.
abbrev pub Goes : (names : List (List ℕ)) (before : Stand Files) (place : ℕ) (texts : List (List ℕ)) (now : Stand Files) → Type 0
Goes names before place texts now =
    (end : Stand Files) (result : Result (List (List ℕ)) Stop) → Judged (6 + place) 22 (λ (all : List (List ℕ)). all) (input_files place (drop place names)) now end result
    → Judged 6 22 (λ (all : List (List ℕ)). all) (input_files 0 names) before end (onto texts result)

module _ (names : List (List ℕ)) (before : Stand Files) where
  pub goes_first : Goes names before 0 [] before
  goes_first end result j = subst (λ result. Judged 6 22 (λ (all : List (List ℕ)). all) (input_files 0 names) before end result) (sym (onto_none result)) j

  module _ (place : ℕ) (texts : List (List ℕ)) (now : Stand Files) (goes : Goes names before place texts now) where
    module _ (name : List ℕ) (rest : List (List ℕ)) (first : drop place names ≡ name ∷ rest) where
      -- what the files from this place on come to
      from_here : (end : Stand Files) (result : Result (List (List ℕ)) Stop)
          → Judged (6 + place) 22 (λ (all : List (List ℕ)). all) (λ read. file Intake (Inputs place) name read >>= λ text. input_files (place + 1) rest read >>= λ texts. accepted (text ∷ texts)) now end result
          → Judged 6 22 (λ (all : List (List ℕ)). all) (input_files 0 names) before end (onto texts result)
      from_here end result j =
          goes end result
          (judged_steps (6 + place) 22 (λ (all : List (List ℕ)). all) _ (input_files place (drop place names)) now end result
          (fun_ext (λ read. files_more place name rest read ∙ ap (λ names. input_files place names read) (sym first))) j)

      module _ {Z : Type 0} (next : Stand Files) where
        -- this one isn't read
        pub goes_stop : (stop : Stop) → place < 16 → Judged (6 + place) (6 + place + 1) (λ (text : Vec ℕ Z). text.items) (file Intake (Inputs place) name) now next (Err stop)
            → Judged 6 22 (λ (all : List (List ℕ)). all) (input_files 0 names) before next (Err stop)
        goes_stop stop below j =
            from_here next (Err stop)
            (judged_stop (6 + place) (6 + place + 1) (6 + place + 1) 22 (λ (text : Vec ℕ Z). text.items) (λ (all : List (List ℕ)). all) (file Intake (Inputs place) name)
            (λ read text. input_files (place + 1) rest read >>= λ texts. accepted (text ∷ texts)) now next stop (omega (arith, below)) j)

        module _ (text : Vec ℕ Z) (j : Judged (6 + place) (6 + place + 1) (λ (text : Vec ℕ Z). text.items) (file Intake (Inputs place) name) now next (Ok text)) where
          later : (end : Stand Files) (result : Result (List (List ℕ)) Stop) → Judged (6 + place + 1) 22 (λ (all : List (List ℕ)). all) (input_files (place + 1) rest) next end result
              → Judged (6 + place + 1) 22 (λ (all : List (List ℕ)). all) (λ read. input_files (place + 1) rest read >>= λ texts. accepted (text.items ∷ texts)) next end (onto (text.items ∷ []) result)
          later end (Ok others) k =
              judged_made (6 + place + 1) 22 (λ (all : List (List ℕ)). all) (λ (all : List (List ℕ)). all) (input_files (place + 1) rest) (λ texts. accepted (text.items ∷ texts)) others next end k (text.items ∷ others) refl
          later end (Err stop) k =
              judged_stop (6 + place + 1) (6 + place + 1) 22 22 (λ (all : List (List ℕ)). all) (λ (all : List (List ℕ)). all) (input_files (place + 1) rest) (λ _ texts. accepted (text.items ∷ texts)) next end stop (le_refl 22) k

          pub goes_on : rest ≡ drop (place + 1) names → Goes names before (place + 1) (texts ++ text.items ∷ []) next
          goes_on is end result k =
              let behind : 6 + (place + 1) ≡ 6 + place + 1 = omega arith in
              let others : Judged (6 + place + 1) 22 (λ (all : List (List ℕ)). all) (input_files (place + 1) rest) next end result =
              subst (λ first. Judged first 22 (λ (all : List (List ℕ)). all) (input_files (place + 1) rest) next end result) behind
              (subst (λ names. Judged (6 + (place + 1)) 22 (λ (all : List (List ℕ)). all) (input_files (place + 1) names) next end result) (sym is) k) in
              subst (λ result. Judged 6 22 (λ (all : List (List ℕ)). all) (input_files 0 names) before end result) (onto_both texts text.items result)
              (from_here end (onto (text.items ∷ []) result)
              (judged_then (6 + place) (6 + place + 1) (6 + place + 1) 22 (λ (text : Vec ℕ Z). text.items) (λ (all : List (List ℕ)). all) (file Intake (Inputs place) name)
              (λ read text. input_files (place + 1) rest read >>= λ texts. accepted (text ∷ texts)) text now next end (le_refl (6 + place + 1)) j (onto (text.items ∷ []) result) (later end result others)))

    -- no file is left
    pub goes_end : place ≤ 16 → drop place names ≡ [] → Judged 6 22 (λ (all : List (List ℕ)). all) (input_files 0 names) before now (Ok texts)
    goes_end few none =
        subst (λ all. Judged 6 22 (λ (all : List (List ℕ)). all) (input_files 0 names) before now (Ok all)) (append-nil texts)
        (goes now (Ok [])
        (judged_already (6 + place) 22 (λ (all : List (List ℕ)). all) (input_files place (drop place names)) now [] (omega (arith, few))
        (λ read. ap (λ names. input_files place names read) none ∙ files_end place read)))

-- memory is wanted before a file is read
pub judged_starved_at_once : {X A : Type 0} (first last : ℕ) (view : X → A) (steps : Reads → Step A) (before : Stand Files) → first ≤ last → Judged first last view steps before before (Err OutOfMemory)
judged_starved_at_once first last view steps before order = record {
  given = [];
  heard = sym (append-nil before.heard);
  once = order;
  tells = λ files told. tt;
  answers = λ read agree. refl;
  told = refl;
}
