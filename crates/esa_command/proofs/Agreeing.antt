-- There are files that agree with what a cabinet gave, since each role is read once.
use Rattle.std.proofs.Common.{◌≡◌, ℕ, ◌+◌, ◌≤◌, false, cond, List, [], ◌∷◌, ◌++◌, replicate, Option, Some, None, refl, sym, subst, arith}
use Rattle.std.proofs.lemmas.List.{length-replicate}
use Rattle.std.specs.List.{concat}
use Rattle.esa_refusal.specs.declared.source.Source.{Source}
use Rattle.esa_refusal.specs.Source.{place_of, is_same_source}
use Rattle.esa_command.specs.Given.{Gave, Given, whole, front, begun, nothing, Agrees, AllAgree, AreInOrder}
use Rattle.esa_command.specs.Step.{Reads}
use Rattle.esa_command.proofs.OneFile.{is_same}

abbrev held : Gave → Option (List ℕ)
held (whole bytes) = Some bytes
held (front pieces behind) = Some (concat pieces ++ replicate behind 0)
held (begun n pieces) = None
held nothing = None

held-agrees : (gave : Gave) → Agrees (held gave) gave
held-agrees (whole bytes) = refl
held-agrees (front pieces behind) = (replicate behind 0, refl, length-replicate behind 0)
held-agrees (begun n pieces) = tt
held-agrees nothing = tt

-- what was given for a role is what is read for it
abbrev pub reads_by : List Given → Reads
reads_by [] source name = None
reads_by (given ∷ rest) source name = cond (is_same_source given.source source) (held given.gave) (reads_by rest source name)

other : (one two : Source) → place_of one + 1 ≤ place_of two → is_same_source one two ≡ false
other one two below = grind (arith, below)

behind : (given : Given) (read : Reads) (rest : List Given) (first last : ℕ) → place_of given.source + 1 ≤ first → AreInOrder first last rest → AllAgree read rest
    → AllAgree (λ source name. cond (is_same_source given.source source) (held given.gave) (read source name)) rest
behind given read [] first last low order agree = tt
behind given read (next ∷ rest) first last low order agree = (
  subst (λ same. Agrees (cond same (held given.gave) (read next.source next.name)) next.gave) (sym (other given.source next.source (omega (arith, low, order.0)))) agree.0,
  behind given read rest (place_of next.source + 1) last (omega (arith, low, order.0)) order.1 agree.1,
)

pub agree_by : (first last : ℕ) (all : List Given) → AreInOrder first last all → AllAgree (reads_by all) all
agree_by first last [] order = tt
agree_by first last (given ∷ rest) order = (
  subst (λ same. Agrees (cond same (held given.gave) (reads_by rest given.source given.name)) given.gave) (sym (is_same given.source)) (held-agrees given.gave),
  behind given (reads_by rest) rest (place_of given.source + 1) last (omega arith) order.1 (agree_by (place_of given.source + 1) last rest order.1),
)
