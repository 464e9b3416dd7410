-- Steps that are taken one after another.
use Rattle.std.proofs.Common.{◌≡◌, ◌⊎◌, inl, inr, ℕ, ◌+◌, ◌≤◌, List, [], ◌∷◌, ◌++◌, Result, Ok, Err, refl, sym, ap, subst, ◌∙◌, append_assoc, append-nil, arith, true, false}
use Rattle.esa_lists.specs.Files.{Files}
use Rattle.esa_outside.specs.Cause.{Rose}
use Rattle.esa_refusal.specs.declared.source.Source.{Source}
use Rattle.esa_refusal.specs.declared.refusal.Refusal.{Refusal}
use Rattle.esa_refusal.specs.declared.stop.Stop.{Stop}
use Rattle.esa_refusal.specs.declared.stop.Stop.TheVariants.{Refused, Unread, OutOfMemory}
use Rattle.esa_refusal.specs.Refusal.{IsOfInput}
use Rattle.esa_refusal.specs.Source.{place_of, is_same_source}
use Rattle.esa_command.specs.Given.{Given, heard_of, all_heard, Agrees, AllAgree, AreInOrder}
use Rattle.esa_command.specs.Judged.{IsMissing, StopsBy, AnswersBy, Judged}
use Rattle.esa_command.specs.Stand.{Stand}
use Rattle.esa_command.specs.Step.{Step, ◌>>=◌, accepted, refused, Reads, reads_of, without}

heard-append : (some more : List Given) → all_heard (some ++ more) ≡ all_heard some ++ all_heard more
heard-append [] more = refl
heard-append (given ∷ some) more = ap (λ ys. heard_of given.name given.gave ++ ys) (heard-append some more) ∙ sym (append_assoc (heard_of given.name given.gave) (all_heard some) (all_heard more))

agree-append : (read : Reads) (some more : List Given) → AllAgree read some → AllAgree read more → AllAgree read (some ++ more)
agree-append read [] more first second = second
agree-append read (given ∷ some) more first second = (first.0, agree-append read some more first.1 second)

agree-front : (read : Reads) (some more : List Given) → AllAgree read (some ++ more) → AllAgree read some
agree-front read [] more all = tt
agree-front read (given ∷ some) more all = (all.0, agree-front read some more all.1)

agree-rest : (read : Reads) (some more : List Given) → AllAgree read (some ++ more) → AllAgree read more
agree-rest read [] more all = all
agree-rest read (given ∷ some) more all = agree-rest read some more all.1

order-earlier : (first second last : ℕ) (all : List Given) → first ≤ second → AreInOrder second last all → AreInOrder first last all
order-earlier first second last [] before order = omega (arith, order)
order-earlier first second last (given ∷ rest) before order = (omega (arith, order.0), order.1)

order-later : (first last end : ℕ) (all : List Given) → last ≤ end → AreInOrder first last all → AreInOrder first end all
order-later first last end [] before order = omega (arith, order)
order-later first last end (given ∷ rest) before order = (order.0, order-later (place_of given.source + 1) last end rest before order.1)

order-append : (first middle last : ℕ) (some more : List Given) → AreInOrder first middle some → AreInOrder middle last more → AreInOrder first last (some ++ more)
order-append first middle last [] more front rest = order-earlier first middle last more front rest
order-append first middle last (given ∷ some) more front rest = (front.0, order-append (place_of given.source + 1) middle last some more front.1 rest)

order-first : (first last : ℕ) (all : List Given) → AreInOrder first last all → first ≤ last
order-first first last [] order = order
order-first first last (given ∷ rest) order = omega (arith, order.0, order-first (place_of given.source + 1) last rest order.1)

-- a role of another place is another one, and what is read for it stays
read-other : (read : Reads) (gone source : Source) (name : List ℕ) → (place_of gone ≡ place_of source → ⊥) → without gone read source name ≡ read source name
read-other read gone source name other =
    elim (is_same_source gone source) as (λ same. is_same_source gone source ≡ same → without gone read source name ≡ read source name) [
      | true ↦ λ is. absurd (other (grind (arith, is)))
      | false ↦ λ is. rw is refl
    ] refl

agree-without : (read : Reads) (gone : Source) (first last : ℕ) (all : List Given) → AreInOrder first last all → last ≤ place_of gone → AllAgree read all → AllAgree (without gone read) all
agree-without read gone first last [] order behind agree = tt
agree-without read gone first last (given ∷ rest) order behind agree = (
  subst (λ held. Agrees held given.gave)
      (sym (read-other read gone given.source given.name (λ same. omega (arith, same, behind, order-first (place_of given.source + 1) last rest order.1)))) agree.0,
  agree-without read gone (place_of given.source + 1) last rest order.1 behind agree.1,
)

module _ {X Y A B : Type 0} (first middle between last : ℕ) (one : X → A) (two : Y → B) (steps : Reads → Step A) (next : Reads → A → Step B) (before now : Stand Files) where
  -- the first stops
  stops : (stop : Stop) (read : Reads) → between ≤ last → StopsBy steps first between before now stop read → StopsBy (λ r. steps r >>= next r) first last before now stop read
  stops (Refused refusal) read below answer = (ap (λ step. step >>= next read) answer.0, answer.1, answer.2)
  stops (Unread source) read below answer = (
    answer.0,
    omega (arith, answer.1),
    ap (λ step. step >>= next (without source read)) answer.2,
    elim answer.3 [
      | inl rose ↦ inl rose
      | inr lacks ↦ inr (lacks.0, lacks.1, ap (λ step. step >>= next (reads_of lacks.0)) lacks.2)
    ],
  )
  stops OutOfMemory read below answer = answer

  pub judged_stop : (stop : Stop) → between ≤ last → Judged first between one steps before now (Err stop) → Judged first last two (λ read. steps read >>= next read) before now (Err stop)
  judged_stop stop below j = record {
    given = j.given;
    heard = j.heard;
    once = order-later first between last j.given below j.once;
    tells = j.tells;
    answers = λ read agree. stops stop read below (j.answers read agree);
    told = j.told;
  }

-- the first is accepted, and the second answers
module _ {X Y A B : Type 0} (first middle between last : ℕ) (one : X → A) (two : Y → B) (steps : Reads → Step A) (next : Reads → A → Step B) (value : X) (before then now : Stand Files) (mid : middle ≤ between)
    (j : Judged first middle one steps before then (Ok value)) (result : Result Y Stop) (k : Judged between last two (λ read. next read (one value)) then now result) where
  -- with the files of the first step the whole is what comes after it
  on : (read : Reads) → AllAgree read j.given → (steps read >>= next read) ≡ next read (one value)
  on read agree = ap (λ step. step >>= next read) (j.answers read agree).0

  lacks : (source : Source) → IsMissing then.told (λ read. next read (one value)) source → IsMissing before.told (λ read. steps read >>= next read) source
  lacks source gone = (gone.0, sym j.told ∙ gone.1, on (reads_of gone.0) (j.tells gone.0 (sym j.told ∙ gone.1)) ∙ gone.2)

  stops_later : (stop : Stop) (read : Reads) → AllAgree read j.given → StopsBy (λ r. next r (one value)) between last then now stop read
      → StopsBy (λ r. steps r >>= next r) first last before now stop read
  stops_later (Refused refusal) read agree answer = (on read agree ∙ answer.0, answer.1 ∙ (j.answers read agree).1, answer.2)
  stops_later (Unread source) read agree answer =
      let behind : middle ≤ place_of source = omega (arith, mid, answer.0) in (
        omega (arith, behind, order-first first middle j.given j.once),
        answer.1,
        on (without source read) (agree-without read source first middle j.given j.once behind agree) ∙ answer.2,
        elim answer.3 [
          | inl rose ↦ inl (subst (λ n. Rose n now.faults) (j.answers read agree).1 rose)
          | inr gone ↦ inr (lacks source gone)
        ],
      )
  stops_later OutOfMemory read agree answer = answer ∙ (j.answers read agree).1

  answer : (result : Result Y Stop) (read : Reads) → AllAgree read j.given → AnswersBy two (λ r. next r (one value)) between last then now result read
      → AnswersBy two (λ r. steps r >>= next r) first last before now result read
  answer (Ok done) read agree is = (on read agree ∙ is.0, is.1 ∙ (j.answers read agree).1)
  answer (Err stop) read agree is = stops_later stop read agree is

  pub judged_then : Judged first last two (λ read. steps read >>= next read) before now result
  judged_then = record {
    given = j.given ++ k.given;
    heard = k.heard ∙ ap (λ ys. ys ++ all_heard k.given) j.heard ∙ append_assoc before.heard (all_heard j.given) (all_heard k.given) ∙ ap (λ ys. before.heard ++ ys) (sym (heard-append j.given k.given));
    once = order-append first middle last j.given k.given j.once (order-earlier middle between last k.given mid k.once);
    tells = λ files told. agree-append (reads_of files) j.given k.given (j.tells files told) (k.tells files (j.told ∙ told));
    answers = λ read agree. answer result read (agree-front read j.given k.given agree) (k.answers read (agree-rest read j.given k.given agree));
    told = k.told ∙ j.told;
  }

-- what is made of it reads no file
module _ {X Y A B : Type 0} (first last : ℕ) (one : X → A) (two : Y → B) (steps : Reads → Step A) (next : A → Step B) (value : X) (before now : Stand Files) (j : Judged first last one steps before now (Ok value)) where
  pub judged_made : (made : Y) → next (one value) ≡ accepted (two made) → Judged first last two (λ read. steps read >>= next) before now (Ok made)
  judged_made made is = record {
    given = j.given;
    heard = j.heard;
    once = j.once;
    tells = j.tells;
    answers = λ read agree. (ap (λ step. step >>= next) (j.answers read agree).0 ∙ is, (j.answers read agree).1);
    told = j.told;
  }

  pub judged_refused : (refusal : Refusal) → next (one value) ≡ refused refusal → IsOfInput refusal → Judged first last two (λ read. steps read >>= next) before now (Err (Refused refusal))
  judged_refused refusal is input = record {
    given = j.given;
    heard = j.heard;
    once = j.once;
    tells = j.tells;
    answers = λ read agree. (ap (λ step. step >>= next) (j.answers read agree).0 ∙ is, (j.answers read agree).1, input);
    told = j.told;
  }

  pub judged_starved : Judged first last two (λ read. steps read >>= next) before now (Err OutOfMemory)
  judged_starved = record {
    given = j.given;
    heard = j.heard;
    once = j.once;
    tells = j.tells;
    answers = λ read agree. (j.answers read agree).1;
    told = j.told;
  }

  -- where it is refused, or memory is wanted
  pub judged_not_made : (refusal : Refusal) (stop : Stop) → (stop ≡ OutOfMemory) ⊎ ((stop ≡ Refused refusal) × (next (one value) ≡ refused refusal) × IsOfInput refusal) → Judged first last two (λ read. steps read >>= next) before now (Err stop)
  judged_not_made refusal stop why = elim why [
    | inl starved ↦ subst (λ s. Judged first last two (λ read. steps read >>= next) before now (Err s)) (sym starved) judged_starved
    | inr told ↦ subst (λ s. Judged first last two (λ read. steps read >>= next) before now (Err s)) (sym told.0) (judged_refused refusal told.1 told.2)
  ]

-- what is refused before any file is read
pub judged_at_once : {X A : Type 0} (first last : ℕ) (view : X → A) (steps : Reads → Step A) (before : Stand Files) (refusal : Refusal) → first ≤ last → ((read : Reads) → steps read ≡ refused refusal) → IsOfInput refusal → Judged first last view steps before before (Err (Refused refusal))
judged_at_once first last view steps before refusal order is input = record {
  given = [];
  heard = sym (append-nil before.heard);
  once = order;
  tells = λ files told. tt;
  answers = λ read agree. (is read, refl, input);
  told = refl;
}

-- the bound of the roles may be a later one
pub judged_wider : {X A : Type 0} (first last end : ℕ) (view : X → A) (steps : Reads → Step A) (before now : Stand Files) (result : Result X Stop) → last ≤ end → Judged first last view steps before now result → Judged first end view steps before now result
judged_wider {X} first last end view steps before now result below j =
    let wider : (result : Result X Stop) (read : Reads) → AnswersBy view steps first last before now result read → AnswersBy view steps first end before now result read =
    λ result read. elim result as (λ result. AnswersBy view steps first last before now result read → AnswersBy view steps first end before now result read) [
      | Ok value ↦ λ a. a
      | Err stop ↦ elim stop as (λ stop. AnswersBy view steps first last before now (Err stop) read → AnswersBy view steps first end before now (Err stop) read) [
        | Refused refusal ↦ λ a. a
        | Unread source ↦ λ a. (a.0, omega (arith, a.1, below), a.2, a.3)
        | OutOfMemory ↦ λ a. a
      ]
    ] in
    record {
      given = j.given;
      heard = j.heard;
      once = order-later first last end j.given below j.once;
      tells = j.tells;
      answers = λ read agree. wider result read (j.answers read agree);
      told = j.told;
    }

-- the same seen in another way
pub judged_as : {X Y A : Type 0} (first last : ℕ) (one : X → A) (two : Y → A) (steps : Reads → Step A) (before now : Stand Files) (value : X) (made : Y) → one value ≡ two made → Judged first last one steps before now (Ok value) → Judged first last two steps before now (Ok made)
judged_as first last one two steps before now value made is j = record {
  given = j.given;
  heard = j.heard;
  once = j.once;
  tells = j.tells;
  answers = λ read agree. ((j.answers read agree).0 ∙ ap accepted is, (j.answers read agree).1);
  told = j.told;
}

pub judged_err : {X Y A : Type 0} (first last : ℕ) (one : X → A) (two : Y → A) (steps : Reads → Step A) (before now : Stand Files) (stop : Stop) → Judged first last one steps before now (Err stop) → Judged first last two steps before now (Err stop)
judged_err first last one two steps before now stop j = record {
  given = j.given;
  heard = j.heard;
  once = j.once;
  tells = j.tells;
  answers = λ read agree. j.answers read agree;
  told = j.told;
}

-- memory may be wanted after all was accepted
pub judged_out : {X Y A : Type 0} (first last : ℕ) (one : X → A) (two : Y → A) (steps : Reads → Step A) (before now : Stand Files) (value : X) → Judged first last one steps before now (Ok value) → Judged first last two steps before now (Err OutOfMemory)
judged_out first last one two steps before now value j = record {
  given = j.given;
  heard = j.heard;
  once = j.once;
  tells = j.tells;
  answers = λ read agree. (j.answers read agree).1;
  told = j.told;
}

-- the same steps, said in another way
pub judged_steps : {X A : Type 0} (first last : ℕ) (view : X → A) (one two : Reads → Step A) (before now : Stand Files) (result : Result X Stop) → one ≡ two → Judged first last view one before now result → Judged first last view two before now result
judged_steps first last view one two before now result is j = subst (λ steps. Judged first last view steps before now result) is j

-- what is accepted without a file
pub judged_already : {X A : Type 0} (first last : ℕ) (view : X → A) (steps : Reads → Step A) (before : Stand Files) (value : X) → first ≤ last → ((read : Reads) → steps read ≡ accepted (view value)) → Judged first last view steps before before (Ok value)
judged_already first last view steps before value order is = record {
  given = [];
  heard = sym (append-nil before.heard);
  once = order;
  tells = λ files told. tt;
  answers = λ read agree. (is read, refl);
  told = refl;
}
