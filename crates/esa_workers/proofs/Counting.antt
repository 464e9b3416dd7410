-- How many turns a worker may still have in an attempt, and the tickets for them.
use Rattle.std.proofs.Common.{◌≡◌, ◌≢◌, ℕ, ◌+◌, ◌-◌, ◌*◌, ◌<◌, ◌≤◌, Bool, List, [], ◌∷◌, ◌++◌, length, sym, ap, ◌∙◌, subst, arith, inl, inr, ◌⊎◌, length-append}
use Rattle.std.proofs.lemmas.List.{append_cancel_right}
use Rattle.std.specs.Prelude.{◌==◌, if◌then◌else◌}
use Rattle.std.proofs.Math.Nat.{mul-le-mul_right}
use Rattle.std.proofs.lemmas.Bool.{cases_eq, cases_lt, eq-eqb}
use Rattle.std.proofs.lemmas.Nat.{mod_below}
use Rattle.esa_laws.proofs.Events.{event-past}
use Rattle.esa_laws.proofs.GrownLaws.{phase-kept}
use Rattle.esa_laws.proofs.HistoryLaws.{begun-worker, latest-owner, latest-worker}
use Rattle.esa_laws.proofs.RoundLaws.{claims-inside, claims-start, first-phase, grown, next-by_phase, phase-end, phase-more, rounds}
use Rattle.esa_laws.proofs.Tests.{unequal}
use Rattle.esa_laws.proofs.TurnLaws.{held-at_claim}
use Rattle.esa_params.specs.Sizes.{Sizes}
use Rattle.esa_spec.specs.Histories.{begun, latest}
use Rattle.esa_spec.specs.Turns.{claims, event_of, next, next_phase, turns_of}
use Rattle.esa_spec.specs.declared.event.Event.TheVariants.{Done}
use Rattle.esa_floor.specs.Parts.{Parts}
use Rattle.esa_turnstile.specs.Passes.{left_of, number_of, seen_of}
use Rattle.esa_turnstile.specs.declared.pass.Pass.{Pass}
use Rattle.esa_workers.specs.Posts.{HasTickets, IsUsed}
use Rattle.esa_workers.specs.Works.{GoesOn, attempts_left, most_turns}
use Rattle.esa_workers.proofs.Listing.{begun_append, latest_on}

-- the turns that are left of a round, by its phase
abbrev later : ℕ → ℕ → ℕ
later b f = if f == 0 then 0 else b + 3 - f

later_none : (b f : ℕ) → f ≡ 0 → later b f ≡ 0
later_none b f none = ap (λ (z : Bool). if z then 0 else b + 3 - f) (eq-eqb f 0 none)

later_in : (b f : ℕ) → f ≢ 0 → later b f ≡ b + 3 - f
later_in b f inside = ap (λ (z : Bool). if z then 0 else b + 3 - f) (unequal f 0 inside)

-- the turns that a worker may still have after some: those of its round and of the buckets that are left, and one more
abbrev pub to_come : ℕ → List ℕ → ℕ → ℕ
to_come b h n = (b - claims b h) * (b + 3) + later b (next_phase b h n) + 1

some_more : (x y : ℕ) → 1 ≤ x + y + 1
some_more x y = omega arith

pub some_to_come : (b : ℕ) (h : List ℕ) (n : ℕ) → 1 ≤ to_come b h n
some_to_come b h n = some_more ((b - claims b h) * (b + 3)) (later b (next_phase b h n))

claims_on : (b : ℕ) (h more : List ℕ) → claims b h ≤ claims b (h ++ more)
claims_on b h more = grown (λ (g : List ℕ). claims b h ≤ claims b g)
    (λ g w before. elim (cases_eq (next_phase b g w) 0) [
      | inl start ↦ let one = claims-start b g w start in omega (arith, before, one)
      | inr inside ↦ let none = claims-inside b g w inside in omega (arith, before, none)
    ]) h more (omega arith)

fewer : (x y l k : ℕ) → x ≤ y → l ≡ k → x + l + 1 ≤ y + k + 1
fewer x y l k less same = omega (arith, less, same)

-- the turns of others
pub others_fewer : (b : ℕ) (h more : List ℕ) (n : ℕ) → turns_of n more ≡ 0 → to_come b (h ++ more) n ≤ to_come b h n
others_fewer b h more n none =
    let grow = claims_on b h more in
    let left : b - claims b (h ++ more) ≤ b - claims b h = omega (arith, grow) in
    fewer ((b - claims b (h ++ more)) * (b + 3)) ((b - claims b h) * (b + 3)) (later b (next_phase b (h ++ more) n)) (later b (next_phase b h n))
    (mul-le-mul_right (b + 3) left) (ap (later b) (phase-kept b h more n none))

-- one turn of its own
module _ (b : ℕ) (h : List ℕ) (n : ℕ) where
  abbrev h' : List ℕ
  h' = h ++ n ∷ []

  less_claimed : next_phase b h n ≡ 0 → next b h n ≢ Done → claims b h < b
  less_claimed start found = elim (cases_lt (claims b h) b) [
    | inl less ↦ less
    | inr none ↦ absurd (found (next-by_phase b h n
        ∙ ap (λ (k : ℕ). event_of b k (next_phase b h n)) (held-at_claim b h n start)
        ∙ ap (event_of b (claims b h)) start ∙ event-past b (claims b h) 0 none))
  ]

  one_bucket : (x m : ℕ) → (x + 1) * m ≡ x * m + m
  one_bucket x m = omega arith

  start_sum : (x y l k : ℕ) → y ≡ x + (b + 3) → l ≡ b + 2 → k ≡ 0 → x + l + 1 + 1 ≤ y + k + 1
  start_sum x y l k more first none = omega (arith, more, first, none)

  own_start : next_phase b h n ≡ 0 → next b h n ≢ Done → to_come b h' n + 1 ≤ to_come b h n
  own_start start found =
      let less = less_claimed start found in
      let one = claims-start b h n start in
      let first = first-phase b h n (rounds b h) start in
      let split : b - claims b h ≡ (b - claims b h') + 1 = omega (arith, less, one) in
      let last : later b (next_phase b h' n) ≡ b + 2 = later_in b (next_phase b h' n) (λ zero. absurd (omega (arith, zero, first))) ∙ omega (arith, first) in
      start_sum ((b - claims b h') * (b + 3)) ((b - claims b h) * (b + 3)) (later b (next_phase b h' n)) (later b (next_phase b h n))
      (ap (λ (k : ℕ). k * (b + 3)) split ∙ one_bucket (b - claims b h') (b + 3)) last (later_none b (next_phase b h n) start)

  in_sum : (x y l k : ℕ) → x ≡ y → l + 1 ≤ k → x + l + 1 + 1 ≤ y + k + 1
  in_sum x y l k same less = omega (arith, same, less)

  within : next_phase b h n < b + 3
  within = mod_below (turns_of n h) (b + 3) (omega arith)

  later_less : next_phase b h n ≢ 0 → later b (next_phase b h' n) + 1 ≤ later b (next_phase b h n)
  later_less inside =
      let now = later_in b (next_phase b h n) inside in
      elim (cases_lt (next_phase b h n + 1) (b + 3)) [
        | inl short ↦
            let more = phase-more b h n short in
            let afterwards = later_in b (next_phase b h' n) (λ zero. absurd (omega (arith, zero, more))) in
            omega (arith, now, afterwards, more, short)
        | inr long ↦
            let full : next_phase b h n + 1 ≡ b + 3 = let short = within in omega (arith, long, short) in
            let afterwards = later_none b (next_phase b h' n) (phase-end b h n full) in
            omega (arith, now, afterwards, full)
      ]

  own_inside : next_phase b h n ≢ 0 → to_come b h' n + 1 ≤ to_come b h n
  own_inside inside =
      in_sum ((b - claims b h') * (b + 3)) ((b - claims b h) * (b + 3)) (later b (next_phase b h' n)) (later b (next_phase b h n))
      (ap (λ (k : ℕ). (b - k) * (b + 3)) (claims-inside b h n inside)) (later_less inside)

  pub own_fewer : next b h n ≢ Done → to_come b h' n + 1 ≤ to_come b h n
  own_fewer found = elim (cases_eq (next_phase b h n) 0) [
    | inl start ↦ own_start start found
    | inr inside ↦ own_inside inside
  ]

  most_start : (x y l : ℕ) → x ≤ y → l ≡ 0 → x + l + 1 ≤ y + 1
  most_start x y l less none = omega (arith, less, none)

  most_inside : (x y z l f : ℕ) → x ≤ y → z ≡ y + (b + 3) → l ≡ b + 3 - f → f ≢ 0 → x + l + 1 ≤ z + 1
  most_inside x y z l f less split is inside = omega (arith, less, split, is, inside)

  pub most_to_come : 1 ≤ b → to_come b h n ≤ b * (b + 3) + 1
  most_to_come some = elim (cases_eq (next_phase b h n) 0) [
    | inl start ↦
        let few : b - claims b h ≤ b = omega arith in
        most_start ((b - claims b h) * (b + 3)) (b * (b + 3)) (later b (next_phase b h n)) (mul-le-mul_right (b + 3) few) (later_none b (next_phase b h n) start)
    | inr inside ↦
        let claimed = (rounds b h).claimed n inside in
        let few : b - claims b h ≤ b - 1 = omega (arith, claimed) in
        let split : b ≡ (b - 1) + 1 = omega (arith, some) in
        most_inside ((b - claims b h) * (b + 3)) ((b - 1) * (b + 3)) (b * (b + 3)) (later b (next_phase b h n)) (next_phase b h n)
        (mul-le-mul_right (b + 3) few) (ap (λ (k : ℕ). k * (b + 3)) split ∙ one_bucket (b - 1) (b + 3))
        (later_in b (next_phase b h n) inside) inside
  ]

-- a pass with a ticket for each turn that its worker may still have
pub record Tickets {V : Type 0} (p : Sizes) (pass : Pass (Parts V)) : Type 0 where
  pub one : 1 ≤ left_of pass
  pub begun_some : 1 ≤ begun p.workers (seen_of pass)
  pub some : 1 ≤ attempts_left p (seen_of pass)
  pub all : (attempts_left p (seen_of pass) - 1) * most_turns p + to_come p.b (latest p.workers (seen_of pass)) (number_of pass) ≤ left_of pass

-- at first, or after a turn
abbrev pub HasEnough : {V : Type 0} → Sizes → Pass (Parts V) → Type 0
HasEnough p pass = HasTickets p pass ⊎ Tickets p pass

-- one attempt less, and one ticket
spent : (x e m left now r : ℕ) → x + 1 ≤ e → e * m ≤ left → now + 1 ≡ left → r + 1 ≤ m → x * m + r ≤ now
spent x e m left now r less all one few =
    let big = mul-le-mul_right m less in
    let split : (x + 1) * m ≡ x * m + m = omega arith in
    omega (arith, big, split, all, one, few)

kept_on : (x y m left now r s : ℕ) → x ≡ y → y * m + s ≤ left → now + 1 ≡ left → r + 1 ≤ s → x * m + r ≤ now
kept_on x y m left now r s same all one few = let is = ap (λ (k : ℕ). k * m) same in omega (arith, is, all, one, few)

ended_on : (x y m left now s : ℕ) → x ≤ y → y * m + s ≤ left → now + 1 ≡ left → 1 ≤ s → x * m ≤ now
ended_on x y m left now s less all one some = let big = mul-le-mul_right m less in omega (arith, big, all, one, some)

nothing : (x m now : ℕ) → x ≡ 0 → x * m ≤ now
nothing x m now none = subst (λ (k : ℕ). k * m ≤ now) (sym none) (omega arith)

front : (x y z : ℕ) → x + y ≤ z → x ≤ z
front x y z less = omega (arith, less)

positive : (x : ℕ) → 0 + 1 ≤ x + 1
positive x = omega arith

above : (x y left : ℕ) → x + y ≤ left → 1 ≤ y → 1 ≤ left
above x y left less some = omega (arith, less, some)

module _ {V : Type 0} (p : Sizes) (old new : Pass (Parts V)) (used : IsUsed old new) where
  abbrev n : ℕ
  n = number_of new

  abbrev m : ℕ
  m = most_turns p

  abbrev e : ℕ
  e = attempts_left p (seen_of old)

  abbrev e' : ℕ
  e' = attempts_left p (seen_of new)

  begun_more : begun p.workers (seen_of new) ≡ (begun p.workers (seen_of old) + begun p.workers used.others) + begun p.workers (n ∷ [])
  begun_more =
      ap (begun p.workers) used.seen ∙ begun_append p.workers (seen_of old ++ used.others) (n ∷ [])
      ∙ ap (λ (k : ℕ). k + begun p.workers (n ∷ [])) (begun_append p.workers (seen_of old) used.others)

  fewer_left : e' ≤ e
  fewer_left = let more = begun_more in omega (arith, more)

  pub attempts_end : HasEnough p old → (e' - 1) * m ≤ left_of new
  attempts_end (inl tickets) = elim (cases_lt 0 e') [
    | inl some ↦
        let less : (e' - 1) + 1 ≤ e = let few = fewer_left in omega (arith, few, some) in
        front ((e' - 1) * m) 0 (left_of new) (spent (e' - 1) e m (left_of old) (left_of new) 0 less tickets.all used.left (positive (p.b * (p.b + 3))))
    | inr none ↦ nothing (e' - 1) m (left_of new) (omega (arith, none))
  ]
  attempts_end (inr tickets) =
      let less : e' - 1 ≤ e - 1 = let few = fewer_left in omega (arith, few) in
      ended_on (e' - 1) (e - 1) m (left_of old) (left_of new) (to_come p.b (latest p.workers (seen_of old)) (number_of old))
      less tickets.all used.left (some_to_come p.b (latest p.workers (seen_of old)) (number_of old))

  module _ (mark : ℕ) (buckets : 1 ≤ p.b) (goes : GoesOn p (seen_of new) mark n) where
    abbrev h : List ℕ
    h = latest p.workers (seen_of new)

    some_left : 1 ≤ e'
    some_left = let some = goes.some_begun in let few = goes.planned in omega (arith, some, few)

    worker : n ≢ p.workers
    worker same =
        let none : goes.before ++ n ∷ [] ≡ [] =
        sym goes.turns ∙ ap (latest p.workers) (used.seen ∙ ap (λ (k : ℕ). (seen_of old ++ used.others) ++ k ∷ []) same)
        ∙ latest-owner p.workers (seen_of old ++ used.others) in
        let long = length-append goes.before (n ∷ []) in
        let short = ap length none in
        absurd (omega (arith, long, short))

    before_is : latest p.workers (seen_of old ++ used.others) ≡ goes.before
    before_is = append_cancel_right (latest p.workers (seen_of old ++ used.others)) goes.before (n ∷ [])
        (sym (latest-worker p.workers (seen_of old ++ used.others) n worker) ∙ ap (latest p.workers) (sym used.seen) ∙ goes.turns)

    last_fewer : to_come p.b h n + 1 ≤ to_come p.b goes.before n
    last_fewer = subst (λ (l : List ℕ). to_come p.b l n + 1 ≤ to_come p.b goes.before n) (sym goes.turns) (own_fewer p.b goes.before n goes.found)

    few_in : (x y z : ℕ) → x + 1 ≤ y → y ≤ z → x + 1 ≤ z
    few_in x y z less most = omega (arith, less, most)

    few : to_come p.b h n + 1 ≤ m
    few = few_in (to_come p.b h n) (to_come p.b goes.before n) m last_fewer (most_to_come p.b goes.before n buckets)

    enough : HasEnough p old → (e' - 1) * m + to_come p.b h n ≤ left_of new
    enough (inl tickets) =
        let less : (e' - 1) + 1 ≤ e = let few = fewer_left in let some = some_left in omega (arith, few, some) in
        spent (e' - 1) e m (left_of old) (left_of new) (to_come p.b h n) less tickets.all used.left few
    enough (inr tickets) = elim (cases_eq (begun p.workers used.others) 0) [
      | inl none ↦
          let own : begun p.workers (n ∷ []) ≡ 0 = begun-worker p.workers [] n worker in
          let same : e' - 1 ≡ e - 1 = let more = begun_more in omega (arith, more, none, own) in
          let before : goes.before ≡ latest p.workers (seen_of old) ++ used.others = sym before_is ∙ latest_on p.workers (seen_of old) used.others none in
          let fell : to_come p.b goes.before n ≤ to_come p.b (latest p.workers (seen_of old)) n =
          subst (λ (l : List ℕ). to_come p.b l n ≤ to_come p.b (latest p.workers (seen_of old)) n) (sym before)
          (others_fewer p.b (latest p.workers (seen_of old)) used.others n used.none_own) in
          kept_on (e' - 1) (e - 1) m (left_of old) (left_of new) (to_come p.b h n) (to_come p.b (latest p.workers (seen_of old)) n) same
          (subst (λ (k : ℕ). (e - 1) * m + to_come p.b (latest p.workers (seen_of old)) k ≤ left_of old) (sym used.number) tickets.all) used.left
          (few_in (to_come p.b h n) (to_come p.b goes.before n) (to_come p.b (latest p.workers (seen_of old)) n) last_fewer fell)
      | inr some ↦
          let less : (e' - 1) + 1 ≤ e - 1 = let more = begun_more in let is = some_left in let first = tickets.begun_some in omega (arith, more, some, first, is) in
          spent (e' - 1) (e - 1) m (left_of old) (left_of new) (to_come p.b h n) less
          (front ((e - 1) * m) (to_come p.b (latest p.workers (seen_of old)) (number_of old)) (left_of old) tickets.all) used.left few
    ]

    pub goes_on : HasEnough p old → Tickets p new
    goes_on tickets = record {
      one = above ((e' - 1) * m) (to_come p.b h n) (left_of new) (enough tickets) (some_to_come p.b h n);
      begun_some = goes.some_begun;
      some = some_left;
      all = enough tickets;
    }
