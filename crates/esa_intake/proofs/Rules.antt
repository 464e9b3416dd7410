-- Each step of a pass keeps the rule.
use Rattle.std.proofs.Common.{◌≡◌, ◌≢◌, ℕ, zero, suc, ◌+◌, ◌<◌, ◌≤◌, ◌==◌, true, false, true≢false, List, [], ◌∷◌, ◌++◌, length, set, get_or, sym, refl, ap, ◌∙◌, subst, ◌⊎◌, inl, inr, ⊎_elim, append_assoc, append-nil, arith}
use Rattle.std.specs.Prelude.{All}
use Rattle.std.specs.List.{filter}
use Rattle.std.proofs.lemmas.List.{map-append, length-set, length-append}
use Rattle.std.proofs.lemmas.List.Elements.{filter-append, All-head, All-tail, All-push}
use Rattle.std.proofs.lemmas.Bool.Decides.{nat_tests}
use mathlib.Core.Option.{some, some-injective, some-ne-none}
use lib.ListN.{get_elem?}
use Rattle.crossbeam_queue.specs.Fifo.{Pushes, Pops, Forks, Merges, Learns}
use Rattle.crossbeam_queue.proofs.Lists.{at_set, set_else}
use Rattle.esa_params.specs.declared.form.Form.{Form}
use Rattle.esa_params.specs.declared.form.Form.TheVariants.{One}
use Rattle.esa_intake.specs.declared.sealed.Sealed.{Sealed}
use Rattle.esa_intake.specs.declared.hand.Hand.{Hand}
use Rattle.esa_intake.specs.declared.hand.Closed.{Closed}
use Rattle.esa_intake.specs.Keeping.{envelopes, put_by, IsSealedOf, first, with_sender, new_sender, with_closed, spent, with_put, with_taken, OwnLog, IsClosed, Knows, KnowForm, IsOfOneForm, Kept, SenderSees, TakerSees}
use Rattle.esa_intake.proofs.Counts.{none-put}

-- what a push adds to each sender's part of the log
put_by-own : (place : ℕ) (log : List (ℕ × Sealed)) (sealed : Sealed) → put_by place (log ++ (place, sealed) ∷ []) ≡ put_by place log ++ sealed ∷ []
put_by-own place log sealed =
    ap envelopes (filter-append (λ (entry : ℕ × Sealed). entry.0 == place) log ((place, sealed) ∷ []) ∙ ap (λ last. filter (λ (entry : ℕ × Sealed). entry.0 == place) log ++ last) one)
    ∙ map-append (λ (entry : ℕ × Sealed). entry.1) (filter (λ (entry : ℕ × Sealed). entry.0 == place) log) ((place, sealed) ∷ [])
  where
    one : filter (λ (entry : ℕ × Sealed). entry.0 == place) ((place, sealed) ∷ []) ≡ (place, sealed) ∷ []
    one = grind (arith, nat_tests)

put_by-other : (place number : ℕ) (log : List (ℕ × Sealed)) (sealed : Sealed) → number ≢ place → put_by number (log ++ (place, sealed) ∷ []) ≡ put_by number log
put_by-other place number log sealed other =
    ap envelopes (filter-append (λ (entry : ℕ × Sealed). entry.0 == number) log ((place, sealed) ∷ []) ∙ ap (λ last. filter (λ (entry : ℕ × Sealed). entry.0 == number) log ++ last) none ∙ append-nil (filter (λ (entry : ℕ × Sealed). entry.0 == number) log))
  where
    none : filter (λ (entry : ℕ × Sealed). entry.0 == number) ((place, sealed) ∷ []) ≡ []
    none = grind (arith, nat_tests)

there : (hands : List Hand) (place : ℕ) (hand : Hand) → get_elem? hands place ≡ some hand → place < length hands
there [] place hand at = absurd (some-ne-none hand (sym at))
there (x ∷ hands) zero hand at = omega arith
there (x ∷ hands) (suc place) hand at = omega (arith, there hands place hand at)

-- the last pass, or one before it
at_end : (hands : List Hand) (last hand : Hand) (place : ℕ) → get_elem? (hands ++ last ∷ []) place ≡ some hand → (get_elem? hands place ≡ some hand) ⊎ ((place ≡ length hands) × (last ≡ hand))
at_end [] last hand zero at = inr (refl, some-injective last hand at)
at_end [] last hand (suc place) at = absurd (some-ne-none hand (sym at))
at_end (x ∷ hands) last hand zero at = inl at
at_end (x ∷ hands) last hand (suc place) at = ⊎_elim inl (λ (mine : (place ≡ length hands) × (last ≡ hand)). inr (ap suc mine.0, mine.1)) (at_end hands last hand place at)

pub begins : Kept [] (first ∷ [])
begins = (
  [],
  [],
  refl,
  (λ place hand at may. ⊎_elim (λ none. absurd (some-ne-none hand (sym none))) (λ (mine : (place ≡ 0) × (first ≡ hand)). (ap (λ (h : Hand). h.number) (sym mine.1) ∙ sym mine.0, ap (λ (h : Hand). h.put) (sym mine.1))) (at_end [] first hand place at)),
  (λ hand at. subst (Knows [] [] (first ∷ [])) (some-injective first hand at) (refl, refl, λ k d below. absurd (omega arith))),
  (λ number past. refl),
  (
    One,
    (λ k d below. absurd (omega arith)),
    λ place hand at may. ⊎_elim (λ none. absurd (some-ne-none hand (sym none))) (λ (mine : (place ≡ 0) × (first ≡ hand)). ap (λ (h : Hand). h.form) (sym mine.1)) (at_end [] first hand place at),
  ),
)

-- a pass whose form and right are those of the one that stood there
form_same : (form : Form) (hands : List Hand) (place : ℕ) (hand now : Hand) → get_elem? hands place ≡ some hand → now.puts ≡ hand.puts → now.form ≡ hand.form → KnowForm form hands → KnowForm form (set hands place now)
form_same form hands place hand now at puts_same same know = λ other u there_is may.
    ⊎_elim
    (λ (is : (other ≡ place) × (now ≡ u)). ap (λ (h : Hand). h.form) (sym is.1) ∙ same ∙ know place hand at (sym puts_same ∙ ap (λ (h : Hand). h.puts) is.1 ∙ may))
    (λ (isnt : (other ≢ place) × (get_elem? hands other ≡ some u)). know other u isnt.1 may)
    (at_set hands place other now u there_is)

-- a fact of all elements is one of that behind some
between_of : {X : Type 0} (P : X → Type 0) (xs : List X) (x : X) (ys : List X) → All P (xs ++ x ∷ ys) → P x
between_of P [] x ys all = All-head P x ys all
between_of P (y ∷ xs) x ys all = between_of P xs x ys (All-tail P y (xs ++ x ∷ ys) all)

pub puts : (n place : ℕ) (hand : Hand) (sealed : Sealed) → hand.puts ≡ true → IsSealedOf hand.form sealed → Pushes Kept n place hand sealed (λ now. now ≡ with_put hand sealed)
puts n place hand sealed may of waiting hands room kept at =
    let log = kept.0 in
    let taken = kept.1 in
    let now = with_put hand sealed in
    let more : List (ℕ × Sealed) = log ++ (place, sealed) ∷ [] in
    let mine = kept.3 place hand at may in
    let inside = there hands place hand at in
    let own : OwnLog more (set hands place now) =
    λ other u there_is may_too. ⊎_elim
    (λ (is : (other ≡ place) × (now ≡ u)). (
      ap (λ (h : Hand). h.number) (sym is.1) ∙ mine.0 ∙ sym is.0,
      ap (λ (h : Hand). h.put) (sym is.1) ∙ ap (λ l. l ++ sealed ∷ []) mine.1 ∙ sym (put_by-own place log sealed) ∙ ap (λ q. put_by q more) (sym is.0),
    ))
    (λ (isnt : (other ≢ place) × (get_elem? hands other ≡ some u)).
    let theirs = kept.3 other u isnt.1 may_too in (theirs.0, theirs.1 ∙ sym (put_by-other place other log sealed isnt.0)))
    (at_set hands place other now u there_is) in
    let closed : (c : Closed) → IsClosed log hands c → IsClosed more (set hands place now) c =
    λ c is.
    let apart : c.number ≢ place = λ same. true≢false (sym may ∙ is.2 hand (ap (get_elem? hands) same ∙ at)) in (
      is.0 ∙ sym (put_by-other place c.number log sealed apart),
      omega (arith, is.1, length-set hands place now),
      λ u there_is. is.2 u (sym (set_else hands place c.number now apart) ∙ there_is),
    ) in
    let step : (u : Hand) → Knows log taken hands u → Knows more taken (set hands place now) u =
    λ u knows. (knows.0, length-set hands place now ∙ knows.1, λ k d below. closed (get_or u.closed k d) (knows.2 k d below)) in (
      now,
      (
        more,
        taken,
        map-append (λ (entry : ℕ × Sealed). entry.1) log ((place, sealed) ∷ []) ∙ ap (λ l. l ++ sealed ∷ []) kept.2 ∙ append_assoc taken waiting (sealed ∷ []),
        own,
        (λ u there_is. ⊎_elim
            (λ (is : (0 ≡ place) × (now ≡ u)). subst (Knows more taken (set hands place now)) is.1 (step hand (kept.4 hand (ap (get_elem? hands) is.0 ∙ at))))
            (λ (isnt : (0 ≢ place) × (get_elem? hands 0 ≡ some u)). step u (kept.4 u isnt.1))
            (at_set hands place 0 now u there_is)),
        (λ number past.
            let far : length hands ≤ number = omega (arith, length-set hands place now, past) in
            put_by-other place number log sealed (λ same. absurd (omega (arith, same, far, inside))) ∙ kept.5 number far),
        (
          kept.6.0,
          subst (All (IsSealedOf kept.6.0)) (sym (map-append (λ (entry : ℕ × Sealed). entry.1) log ((place, sealed) ∷ [])))
              (All-push (IsSealedOf kept.6.0) (envelopes log) sealed kept.6.1 (subst (λ (f : Form). IsSealedOf f sealed) (kept.6.2 place hand at may) of)),
          form_same kept.6.0 hands place hand now at refl refl kept.6.2,
        ),
      ),
      refl,
    )

-- a pass whose number, put and right are those of the one that stood there
own_same : (log : List (ℕ × Sealed)) (hands : List Hand) (place : ℕ) (hand now : Hand) → get_elem? hands place ≡ some hand → now.puts ≡ hand.puts → now.number ≡ hand.number → now.put ≡ hand.put → OwnLog log hands → OwnLog log (set hands place now)
own_same log hands place hand now at puts_same number_same put_same own = λ other u there_is may.
    ⊎_elim
    (λ (is : (other ≡ place) × (now ≡ u)).
    let mine = own place hand at (sym puts_same ∙ ap (λ (h : Hand). h.puts) is.1 ∙ may) in (
      ap (λ (h : Hand). h.number) (sym is.1) ∙ number_same ∙ mine.0 ∙ sym is.0,
      ap (λ (h : Hand). h.put) (sym is.1) ∙ put_same ∙ mine.1 ∙ ap (λ q. put_by q log) (sym is.0),
    ))
    (λ (isnt : (other ≢ place) × (get_elem? hands other ≡ some u)). own other u isnt.1 may)
    (at_set hands place other now u there_is)

closed_same : (log : List (ℕ × Sealed)) (hands : List Hand) (place : ℕ) (hand now : Hand) (c : Closed) → get_elem? hands place ≡ some hand → now.puts ≡ hand.puts → IsClosed log hands c → IsClosed log (set hands place now) c
closed_same log hands place hand now c at puts_same is = (
  is.0,
  omega (arith, is.1, length-set hands place now),
  λ u there_is. ⊎_elim
      (λ (mine : (c.number ≡ place) × (now ≡ u)). ap (λ (h : Hand). h.puts) (sym mine.1) ∙ puts_same ∙ is.2 hand (ap (get_elem? hands) mine.0 ∙ at))
      (λ (isnt : (c.number ≢ place) × (get_elem? hands c.number ≡ some u)). is.2 u isnt.1)
      (at_set hands place c.number now u there_is),
)

pub takes : (hand : Hand) → hand.puts ≡ true → Pops Kept 0 hand (λ sealed now. (now ≡ with_taken hand sealed) × IsSealedOf hand.form sealed)
takes hand may sealed waiting hands kept at =
    let log = kept.0 in
    let taken = kept.1 in
    let now = with_taken hand sealed in
    let knows = kept.4 hand at in (
      now,
      (
        log,
        taken ++ sealed ∷ [],
        kept.2 ∙ sym (append_assoc taken (sealed ∷ []) waiting),
        own_same log hands 0 hand now at refl refl refl kept.3,
        (λ u there_is. ⊎_elim
            (λ (is : (0 ≡ 0) × (now ≡ u)). subst (Knows log (taken ++ sealed ∷ []) (set hands 0 now)) is.1
            (ap (λ l. l ++ sealed ∷ []) knows.0, length-set hands 0 now ∙ knows.1, λ k d below. closed_same log hands 0 hand now (get_or hand.closed k d) at refl (knows.2 k d below)))
            (λ (isnt : (0 ≢ 0) × (get_elem? hands 0 ≡ some u)). absurd (isnt.0 refl))
            (at_set hands 0 0 now u there_is)),
        (λ number past. kept.5 number (omega (arith, length-set hands 0 now, past))),
        (kept.6.0, kept.6.1, form_same kept.6.0 hands 0 hand now at refl refl kept.6.2),
      ),
      (
        refl,
        between_of (IsSealedOf hand.form) taken sealed waiting
            (subst (All (IsSealedOf hand.form)) kept.2 (subst (λ (f : Form). All (IsSealedOf f) (envelopes log)) (sym (kept.6.2 0 hand at may)) kept.6.1)),
      ),
    )

-- the form that a pass knows that makes a sender, before it knew any, or the same as before
module _ (form : Form) (log : List (ℕ × Sealed)) (hands : List Hand) (hand right : Hand) (at : get_elem? hands 0 ≡ some hand) (is : right.form ≡ form) where
  form_first : length hands ≡ 1 → envelopes log ≡ [] → IsOfOneForm log (set hands 0 (with_sender form hand) ++ right ∷ [])
  form_first alone nothing = (
    form,
    subst (All (IsSealedOf form)) (sym nothing) (λ k d below. absurd (omega arith)),
    λ place u there_is may. ⊎_elim
        (λ before. ⊎_elim
        (λ (same : (place ≡ 0) × (with_sender form hand ≡ u)). ap (λ (h : Hand). h.form) (sym same.1))
        (λ (isnt : (place ≢ 0) × (get_elem? hands place ≡ some u)). absurd (isnt.0 (omega (arith, alone, there hands place u isnt.1))))
        (at_set hands 0 place (with_sender form hand) u before))
        (λ (last : (place ≡ length (set hands 0 (with_sender form hand))) × (right ≡ u)). ap (λ (h : Hand). h.form) (sym last.1) ∙ is)
        (at_end (set hands 0 (with_sender form hand)) right u place there_is),
  )

  form_later : hand.puts ≡ true → hand.form ≡ form → IsOfOneForm log hands → IsOfOneForm log (set hands 0 (with_sender form hand) ++ right ∷ [])
  form_later may known before = (
    before.0,
    before.1,
    λ place u there_is may_too. ⊎_elim
        (λ earlier. form_same before.0 hands 0 hand (with_sender form hand) at refl (sym known) before.2 place u earlier may_too)
        (λ (last : (place ≡ length (set hands 0 (with_sender form hand))) × (right ≡ u)).
        ap (λ (h : Hand). h.form) (sym last.1) ∙ is ∙ sym known ∙ before.2 0 hand at may)
        (at_end (set hands 0 (with_sender form hand)) right u place there_is),
  )

  pub form_of_senders : (n : ℕ) → hand.senders ≡ n → hand.puts ≡ true → hand.put ≡ [] → (1 ≤ hand.senders → hand.form ≡ form) → length hands ≡ hand.senders + 1
      → hand.put ≡ put_by 0 log → ((number : ℕ) → length hands ≤ number → put_by number log ≡ []) → IsOfOneForm log hands
      → IsOfOneForm log (set hands 0 (with_sender form hand) ++ right ∷ [])
  form_of_senders zero same may none known long own within before =
      form_first (omega (arith, long, same)) (none-put log (sym none ∙ own) (λ number past. within number (omega (arith, long, same, past))))
  form_of_senders (suc n) same may none known long own within before = form_later may (known (omega (arith, same))) before

pub forks : (form : Form) (hand : Hand) → hand.puts ≡ true → hand.put ≡ [] → (1 ≤ hand.senders → hand.form ≡ form) → Forks Kept 0 hand (with_sender form hand) (new_sender form hand)
forks form hand may none known waiting hands kept at =
    let log = kept.0 in
    let taken = kept.1 in
    let left = with_sender form hand in
    let right = new_sender form hand in
    let now = set hands 0 left in
    let knows = kept.4 hand at in
    let inside = there hands 0 hand at in
    let long : length (now ++ right ∷ []) ≡ length hands + 1 = omega (arith, length-append now (right ∷ []), length-set hands 0 left) in
    let own_now = own_same log hands 0 hand left at refl refl refl kept.3 in
    let closed : (c : Closed) → IsClosed log hands c → IsClosed log (now ++ right ∷ []) c =
    λ c is.
    let was = closed_same log hands 0 hand left c at refl is in (
      is.0,
      omega (arith, is.1, long),
      λ u there_is. ⊎_elim (was.2 u) (λ (last : (c.number ≡ length now) × (right ≡ u)). absurd (omega (arith, last.0, is.1, length-set hands 0 left))) (at_end now right u c.number there_is),
    ) in (
      log,
      taken,
      kept.2,
      (λ place u there_is may. ⊎_elim (λ before. own_now place u before may)
          (λ (last : (place ≡ length now) × (right ≡ u)).
          let number : hand.senders + 1 ≡ place = omega (arith, last.0, length-set hands 0 left, knows.1) in (
            ap (λ (h : Hand). h.number) (sym last.1) ∙ number,
            ap (λ (h : Hand). h.put) (sym last.1) ∙ sym (kept.5 place (omega (arith, last.0, length-set hands 0 left))),
          ))
          (at_end now right u place there_is)),
      (λ u there_is. ⊎_elim
          (λ before. ⊎_elim
          (λ (is : (0 ≡ 0) × (left ≡ u)). subst (Knows log taken (now ++ right ∷ [])) is.1 (knows.0, omega (arith, long, knows.1), λ k d below. closed (get_or hand.closed k d) (knows.2 k d below)))
          (λ (isnt : (0 ≢ 0) × (get_elem? hands 0 ≡ some u)). absurd (isnt.0 refl))
          (at_set hands 0 0 left u before))
          (λ (last : (0 ≡ length now) × (right ≡ u)). absurd (omega (arith, last.0, length-set hands 0 left, inside)))
          (at_end now right u 0 there_is)),
      (λ number past. kept.5 number (omega (arith, long, past))),
      form_of_senders form log hands hand right at refl hand.senders refl may none known knows.1 (kept.3 0 hand at may).1 kept.5 kept.6,
    )

pub merges : (hand : Hand) (place : ℕ) (other : Hand) → other.puts ≡ true → Merges Kept 0 hand place other (with_closed hand other) spent
merges hand place other may waiting hands kept at apart at_other =
    let log = kept.0 in
    let taken = kept.1 in
    let both = with_closed hand other in
    let between = set hands 0 both in
    let now = set between place spent in
    let was : get_elem? hands place ≡ some other = sym (set_else hands 0 place both apart) ∙ at_other in
    let theirs = kept.3 place other was may in
    let knows = kept.4 hand at in
    let long : length now ≡ length hands = length-set between place spent ∙ length-set hands 0 both in
    let own_between = own_same log hands 0 hand both at refl refl refl kept.3 in
    let gone : (number : ℕ) → number ≡ place → (u : Hand) → get_elem? now number ≡ some u → u.puts ≡ false =
    λ number same u there_is. ⊎_elim (λ (mine : (number ≡ place) × (spent ≡ u)). ap (λ (h : Hand). h.puts) (sym mine.1)) (λ (isnt : (number ≢ place) × (get_elem? between number ≡ some u)). absurd (isnt.0 same)) (at_set between place number spent u there_is) in
    let closed : (c : Closed) → IsClosed log hands c → IsClosed log now c =
    λ c is.
    let after = closed_same log hands 0 hand both c at refl is in (
      is.0,
      omega (arith, is.1, long),
      λ u there_is. ⊎_elim (λ (mine : (c.number ≡ place) × (spent ≡ u)). ap (λ (h : Hand). h.puts) (sym mine.1)) (λ (isnt : (c.number ≢ place) × (get_elem? between c.number ≡ some u)). after.2 u isnt.1) (at_set between place c.number spent u there_is),
    ) in
    let last : Closed = record { number = other.number; put = other.put } in
    let is_last : IsClosed log now last = (theirs.1 ∙ ap (λ q. put_by q log) (sym theirs.0), omega (arith, there hands place other was, theirs.0, long), λ u there_is. gone other.number theirs.0 u there_is) in (
      log,
      taken,
      kept.2,
      (λ number u there_is may_too. ⊎_elim
          (λ (mine : (number ≡ place) × (spent ≡ u)). absurd (true≢false (sym may_too ∙ ap (λ (h : Hand). h.puts) (sym mine.1))))
          (λ (isnt : (number ≢ place) × (get_elem? between number ≡ some u)). own_between number u isnt.1 may_too)
          (at_set between place number spent u there_is)),
      (λ u there_is. ⊎_elim
          (λ (mine : (0 ≡ place) × (spent ≡ u)). absurd (apart (sym mine.0)))
          (λ (isnt : (0 ≢ place) × (get_elem? between 0 ≡ some u)). ⊎_elim
          (λ (is : (0 ≡ 0) × (both ≡ u)). subst (Knows log taken now) is.1 (knows.0, long ∙ knows.1, All-push (IsClosed log now) hand.closed last (λ k d below. closed (get_or hand.closed k d) (knows.2 k d below)) is_last))
          (λ (never : (0 ≢ 0) × (get_elem? hands 0 ≡ some u)). absurd (never.0 refl))
          (at_set hands 0 0 both u isnt.1))
          (at_set between place 0 spent u there_is)),
      (λ number past. kept.5 number (omega (arith, long, past))),
      (
        kept.6.0,
        kept.6.1,
        λ number u there_is may_too. ⊎_elim
            (λ (mine : (number ≡ place) × (spent ≡ u)). absurd (true≢false (sym may_too ∙ ap (λ (h : Hand). h.puts) (sym mine.1))))
            (λ (isnt : (number ≢ place) × (get_elem? between number ≡ some u)). form_same kept.6.0 hands 0 hand both at refl refl kept.6.2 number u isnt.1 may_too)
            (at_set between place number spent u there_is),
      ),
    )

pub sender_sees : (place : ℕ) (hand : Hand) → hand.puts ≡ true → Learns Kept place hand (SenderSees hand)
sender_sees place hand may waiting hands kept at =
    let mine = kept.3 place hand at may in
    (kept.0, kept.1, kept.2, mine.1 ∙ ap (λ q. put_by q kept.0) (sym mine.0))

pub taker_sees : (hand : Hand) → hand.puts ≡ true → Learns Kept 0 hand (TakerSees hand)
taker_sees hand may waiting hands kept at =
    let knows = kept.4 hand at in
    let mine = kept.3 0 hand at may in (
      kept.0,
      kept.2 ∙ ap (λ l. l ++ waiting) (sym knows.0),
      mine.1,
      (λ k d below. (knows.2 k d below).0),
      (λ number past. kept.5 number (omega (arith, knows.1, past))),
      subst (λ (f : Form). All (IsSealedOf f) (envelopes kept.0)) (sym (kept.6.2 0 hand at may)) kept.6.1,
    )
