-- What a seat knows, and how each step changes it.
use Rattle.std.specs.Prelude.{ℕ, zero, suc, ◌+◌, ◌-◌, ◌*◌, ◌==◌, max, Bool, true, false, List, [], ◌∷◌, ◌++◌, length, take, drop, nat_le, if◌then◌else◌, Option, Some, None, count_by}
use Rattle.esa_turnstile.specs.declared.view.About.{About}
use Rattle.esa_turnstile.specs.declared.view.Mark.{Mark}
use Rattle.esa_turnstile.specs.declared.view.Member.{Member}
use Rattle.esa_turnstile.specs.declared.view.Sight.{Sight}
use Rattle.esa_turnstile.specs.declared.view.Stage.{Stage}
use Rattle.esa_turnstile.specs.declared.view.Stage.TheVariants.{Outside, Waiting, Inside}
use Rattle.esa_turnstile.specs.declared.view.View.{View}

-- how many tickets it holds
abbrev pub held : Stage → ℕ
held Outside = 0
held (Waiting t) = 1
held (Inside s) = 1

-- which ticket it holds
abbrev pub ticket : Stage → ℕ
ticket Outside = 0
ticket (Waiting t) = t
ticket (Inside s) = length s.entries

abbrev pub is_inside : Stage → Bool
is_inside Outside = false
is_inside (Waiting t) = false
is_inside (Inside s) = true

-- the slots that are out with a pass: while it is inside, its caller has the value
abbrev pub carried_in : {T : Type 0} → Stage → List (ℕ × Option T)
carried_in Outside = []
carried_in (Waiting t) = []
carried_in (Inside s) = (0, None) ∷ []

-- what it saw last: what it found when it got in, or else what it has seen
abbrev pub sight_in : Sight → Stage → Sight
sight_in seen Outside = seen
sight_in seen (Waiting t) = seen
sight_in seen (Inside s) = s

abbrev pub added : Member → ℕ
added m = m.added

abbrev pub bears : ℕ → Member → Bool
bears x m = m.number == x

-- of the first pass that a seat stands for: its number, and how often it has left it
abbrev pub first_number : List Member → ℕ
first_number [] = 0
first_number (m ∷ ms) = m.number

abbrev pub first_added : List Member → ℕ
first_added [] = 0
first_added (m ∷ ms) = m.added

abbrev pub one : ℕ → ℕ → List Member
one n a = record { number = n; added = a } ∷ []

-- the n passes from number k on, none of which has entered
abbrev pub fresh_from : ℕ → ℕ → List Member
fresh_from k zero = []
fresh_from k (suc n) = record { number = k; added = 0 } ∷ fresh_from (k + 1) n

-- each has entered once more
abbrev pub raised : List Member → List Member
raised [] = []
raised (m ∷ ms) = record { number = m.number; added = m.added + 1 } ∷ raised ms

-- the entries of the longer one with its trail, and the greater mark
abbrev pub later : Sight → Sight → Sight
later s t = let longer = nat_le (length s.entries) (length t.entries) in record {
  entries = if longer then t.entries else s.entries;
  mark = record { number = max s.mark.number t.mark.number; trail = if longer then t.mark.trail else s.mark.trail };
}

module _ {T : Type 0} where
  abbrev pub left_in : View T → ℕ
  left_in v = v.left

  abbrev pub held_in : View T → ℕ
  held_in v = held v.stage

  -- how many passes it stands for
  abbrev pub members_in : View T → ℕ
  members_in v = length v.members

  -- how many of them have the number x
  abbrev pub bearers : ℕ → View T → ℕ
  bearers x v = count_by (bears x) v.members

  abbrev pub latest : View T → Sight
  latest v = sight_in v.seen v.stage

  abbrev pub tickets_in : Option (About T) → ℕ
  tickets_in None = 0
  tickets_in (Some a) = a.tickets

  abbrev pub with_ticket : View T → ℕ → View T
  with_ticket v n = record v { left = v.left - 1; stage = Waiting n }

  abbrev pub entered : View T → Sight → View T
  entered v s = record v { stage = Inside s }

  abbrev pub gone : View T → Sight → View T
  gone v s = record v { members = raised v.members; stage = Outside; seen = s; heard = [] }

  -- a seat that has given out all numbers below k
  abbrev pub dealing : (T → Mark) → About T → ℕ → View T
  dealing mark a k = record {
    about = Some a;
    members = fresh_from k (a.passes - k);
    left = a.tickets * (a.passes - k);
    stage = Outside;
    seen = record { entries = []; mark = mark a.opened.value };
    heard = [];
  }

  -- the pass with the number k, as it is given out
  abbrev pub dealt : (T → Mark) → About T → ℕ → View T
  dealt mark a k = record {
    about = Some a;
    members = one k 0;
    left = a.tickets;
    stage = Outside;
    seen = record { entries = []; mark = mark a.opened.value };
    heard = [];
  }

  abbrev pub rest_of : View T → View T
  rest_of v = record v { members = drop 1 v.members; left = v.left - tickets_in v.about }

  abbrev pub one_of : View T → View T
  one_of v = record v { members = take 1 v.members; left = tickets_in v.about }

  -- what it has seen, and no pass
  abbrev pub note_of : View T → View T
  note_of v = record v { members = []; left = 0; stage = Outside; heard = [] }

  abbrev pub joined : View T → View T → View T
  joined v w = record {
    about = v.about;
    members = v.members ++ w.members;
    left = v.left + w.left;
    stage = Outside;
    seen = later v.seen w.seen;
    heard = (v.heard ++ w.heard) ++ v.seen ∷ w.seen ∷ [];
  }

  -- a seat that was joined into another
  abbrev pub spent : View T
  spent = record { about = None; members = []; left = 0; stage = Outside; seen = record { entries = []; mark = record { number = 0; trail = [] } }; heard = [] }
