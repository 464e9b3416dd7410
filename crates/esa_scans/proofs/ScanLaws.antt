-- What a scan has read once it has read one block more.
use Rattle.std.proofs.Common.{◌≡◌, ℕ, suc, ◌+◌, ◌*◌, ◌<◌, ◌≤◌, Bool, true, false, List, [], ◌∷◌, ◌++◌, length, map, Option, Some, None, Ok, Err, refl, sym, ap, ◌∙◌, subst, arith, append_assoc, length-append, add-one}
use Rattle.std.specs.List.{concat, cons_option, range_with_len}
use Rattle.std.specs.Option.{option_map_or}
use Rattle.std.specs.Prelude.{All, if◌then◌else◌, unwrap_or}
use Rattle.std.proofs.lemmas.List.{map-append}
use Rattle.std.proofs.lemmas.List.Elements.{All-append, All-cons, All-nil}
use Rattle.std.proofs.lemmas.List.FromFn.{map-range_with_len_more}
use Rattle.esa_crowds.specs.Entries.{Entry, entries, entries_from, if_real, inner_in}
use Rattle.esa_crowds.specs.Kept.{drops_in, sent_from}
use Rattle.esa_crowds.specs.Rows.{kept_at}
use Rattle.esa_params.specs.declared.form.Form.{Form}
use Rattle.esa_scans.specs.Forwarded.{HasForwarded}
use Rattle.esa_params.specs.Form.{inner_length}
use Rattle.esa_device.specs.Logs.{Carried}
use Rattle.esa_device.specs.Recording.{Recorded}
use Rattle.esa_envelope.specs.declared.keys.Keys.{Keys}
use Rattle.esa_params.specs.Sizes.{Sizes, first, size}
use Rattle.esa_params.specs.Slots.{at, item_length, number_of}
use Rattle.esa_params.specs.declared.slot.Access.{Access}
use Rattle.esa_params.specs.declared.slot.Op.{Op}
use Rattle.esa_params.specs.declared.slot.Region.TheVariants.{Output}
use Rattle.esa_report.specs.declared.item.Item.{Item}
use Rattle.esa_spec.specs.Traces.{read_output, scan}
use Rattle.esa_vault.specs.Seals.{opens}
use Rattle.esa_vault.specs.Traffic.{IsRead, OnGiven, ReadAnswer, given_by}
use Rattle.esa_vault.specs.declared.fault.VaultFault.{VaultFault}
use Rattle.esa_vault.specs.declared.fault.VaultFault.TheVariants.{Device, Tampered}
use Rattle.esa_scans.specs.Held.{is_marked}
use Rattle.esa_scans.specs.Scans.{AreOpen, FailsAt, GaveOpen, HasRead, carried_from, is_open, items_from, items_of, reads, text_given}
use Rattle.esa_scans.proofs.HeldLaws.{entries-append, length-items, sent-joined, sent_few}

-- what opens is the same text, whatever stood in its place before
pub same_text : (text : Option (List ℕ)) (test : List ℕ → Bool) (before other : List ℕ) → option_map_or test text false ≡ true → unwrap_or text before ≡ unwrap_or text other
same_text None test before other opens = cc opens
same_text (Some text) test before other opens = refl

module _ (p : Sizes) (keys : Keys) (attempt : ℕ) where
  pub carried-push : (j : ℕ) (given : List (List ℕ)) (bytes : List ℕ)
      → carried_from p attempt j (given ++ bytes ∷ []) ≡ carried_from p attempt j given ++ record { access = read_output p attempt (j + length given); bytes = Some bytes } ∷ []
  carried-push j [] bytes = let same : j ≡ j + 0 = omega arith in ap (λ k. carried_from p attempt k (bytes ∷ [])) same
  carried-push j (x ∷ given) bytes =
      let same : suc j + length given ≡ j + suc (length given) = omega arith in
      ap (λ (rest : List Carried). record { access = read_output p attempt j; bytes = Some x } ∷ rest) (carried-push (suc j) given bytes)
      ∙ ap (λ k. carried_from p attempt j (x ∷ given) ++ record { access = read_output p attempt k; bytes = Some bytes } ∷ []) same

  pub items-push : (j : ℕ) (given : List (List ℕ)) (bytes : List ℕ)
      → items_from p keys attempt j (given ++ bytes ∷ []) ≡ items_from p keys attempt j given ++ items_of p keys attempt (j + length given) bytes
  items-push j [] bytes =
      let same : j ≡ j + 0 = omega arith in append_nil (items_of p keys attempt j bytes) ∙ ap (λ k. items_of p keys attempt k bytes) same
    where
      append_nil : (xs : List Item) → xs ++ [] ≡ xs
      append_nil [] = refl
      append_nil (x ∷ xs) = ap (λ ys. x ∷ ys) (append_nil xs)
  items-push j (x ∷ given) bytes =
      let same : suc j + length given ≡ j + suc (length given) = omega arith in
      ap (λ (rest : List Item). items_of p keys attempt j x ++ rest) (items-push (suc j) given bytes)
      ∙ sym (append_assoc (items_of p keys attempt j x) (items_from p keys attempt (suc j) given) (items_of p keys attempt (suc j + length given) bytes))
      ∙ ap (λ k. items_from p keys attempt j (x ∷ given) ++ items_of p keys attempt k bytes) same

  pub open-push : (j : ℕ) (given : List (List ℕ)) (bytes : List ℕ) → AreOpen p keys attempt j given → is_open p keys attempt (j + length given) bytes
      → AreOpen p keys attempt j (given ++ bytes ∷ [])
  open-push j [] bytes all one = let same : j + 0 ≡ j = omega arith in (subst (λ k. is_open p keys attempt k bytes) same one, tt)
  open-push j (x ∷ given) bytes all one =
      let same : j + suc (length given) ≡ suc j + length given = omega arith in
      (all.0, open-push (suc j) given bytes all.1 (subst (λ k. is_open p keys attempt k bytes) same one))

  -- the log of a scan has its reads
  pub accesses-carried : (j : ℕ) (given : List (List ℕ)) → map (λ (entry : Carried). entry.access) (carried_from p attempt j given) ≡ map (read_output p attempt) (range_with_len j (length given))
  accesses-carried j [] = refl
  accesses-carried j (x ∷ given) =
      ap (λ (rest : List Access). read_output p attempt j ∷ rest)
      (accesses-carried (suc j) given ∙ ap (λ k. map (read_output p attempt) (range_with_len k (length given))) (sym (add-one j)))

  -- and all that they gave opens
  pub opened-carried : (j : ℕ) (given : List (List ℕ)) → AreOpen p keys attempt j given → All (GaveOpen p keys attempt) (carried_from p attempt j given)
  opened-carried j [] all = All-nil (GaveOpen p keys attempt)
  opened-carried j (x ∷ given) all =
      All-cons (GaveOpen p keys attempt) (record { access = read_output p attempt j; bytes = Some x }) (carried_from p attempt (suc j) given) (x, refl, all.0)
      (opened-carried (suc j) given all.1)

  first-le : (j : ℕ) → first p j ≤ first p (j + 1)
  first-le j = omega arith

  -- how many items there are
  pub count-from : (j : ℕ) (given : List (List ℕ)) → first p j + length (items_from p keys attempt j given) ≡ first p (j + length given)
  count-from j [] = let same : j ≡ j + 0 = omega arith in ap (λ k. first p k + 0) same ∙ omega arith
  count-from j (x ∷ given) =
      let rest = count-from (suc j) given in
      let one = length-items (item_length p.form) (size p j) (text_given p keys attempt j x) in
      let both = length-append (items_of p keys attempt j x) (items_from p keys attempt (suc j) given) in
      let next : suc j ≡ j + 1 = omega arith in
      let here : first p (suc j) ≡ first p (j + 1) = ap (first p) next in
      let same : suc j + length given ≡ j + suc (length given) = omega arith in
      let end : first p (suc j + length given) ≡ first p (j + suc (length given)) = ap (first p) same in
      omega (arith, rest, one, both, here, end, first-le j)

  pub count-first : (given : List (List ℕ)) → length (items_from p keys attempt 0 given) ≡ first p (length given)
  count-first given =
      let all = count-from 0 given in
      let none : first p 0 ≡ 0 = omega arith in
      let same : 0 + length given ≡ length given = omega arith in
      let end : first p (0 + length given) ≡ first p (length given) = ap (first p) same in
      omega (arith, all, none, end)

  reads-more : (n : ℕ) → reads p attempt (n + 1) ≡ reads p attempt n ++ read_output p attempt n ∷ []
  reads-more n = map-range_with_len_more (read_output p attempt) 0 n n (omega arith)

  module _ {V : Type 0} (told : V → Option (List (List ℕ))) (faults : V → ℕ) (last_call : V → Option (Op × ℕ)) (old mid new : Recorded V) (given : List (List ℕ)) (bytes : List ℕ) (j : ℕ)
      (here : length given ≡ j) (before : HasRead told faults p keys attempt given old mid)
    where
      trace-more : new.trace ≡ mid.trace ++ read_output p attempt j ∷ [] → new.trace ≡ old.trace ++ reads p attempt (j + 1)
      trace-more now =
          now
          ∙ ap (λ (accesses : List Access). accesses ++ read_output p attempt j ∷ []) before.trace
          ∙ append_assoc old.trace (reads p attempt (length given)) (read_output p attempt j ∷ [])
          ∙ ap (λ n. old.trace ++ (reads p attempt n ++ read_output p attempt j ∷ [])) here
          ∙ ap (λ (accesses : List Access). old.trace ++ accesses) (sym (reads-more j))

      -- one block more was read
      pub read-more : (done : Unit {0}) → IsRead {V = V} {T = Unit {0}} told faults last_call p (at Output j) attempt (opens p keys (at Output j) attempt (size p j)) bytes mid new (Ok done)
          → HasRead told faults p keys attempt (given ++ bytes ∷ []) old new
      read-more done read =
          let long : length (given ++ bytes ∷ []) ≡ j + 1 = length-append given (bytes ∷ []) ∙ ap (λ n. n + 1) here in
          let zero_on : 0 + length given ≡ j = omega (arith, here) in
          record {
            trace = trace-more read.recorded.trace ∙ ap (λ n. old.trace ++ reads p attempt n) (sym long);
            log = read.recorded.log
                ∙ ap (λ (log : List Carried). log ++ record { access = read_output p attempt j; bytes = Some bytes } ∷ []) before.log
                ∙ append_assoc old.log (carried_from p attempt 0 given) (record { access = read_output p attempt j; bytes = Some bytes } ∷ [])
                ∙ ap (λ n. old.log ++ (carried_from p attempt 0 given ++ record { access = read_output p attempt n; bytes = Some bytes } ∷ [])) (sym zero_on)
                ∙ ap (λ (log : List Carried). old.log ++ log) (sym (carried-push 0 given bytes));
            room = omega (arith, before.room, read.recorded.room, long, here);
            plan = read.recorded.plan ∙ before.plan;
            stays = read.stays ∙ before.stays;
            calm = read.answer.1 ∙ before.calm;
            opened = open-push 0 given bytes before.opened (subst (λ k. is_open p keys attempt k bytes) (sym zero_on) (ap (opens p keys (at Output j) attempt (size p j)) (sym read.given) ∙ read.answer.0));
          }

      -- the entry of a read that failed
      same-given : (fault : VaultFault) (last : List ℕ) → OnGiven {T = Unit {0}} (Err fault) (last ≡ bytes) → given_by {T = Unit {0}} (Err fault) bytes ≡ given_by {T = Unit {0}} (Err fault) last
      same-given (Device slot) last is = refl
      same-given (Tampered slot) last is = ap (λ xs. Some xs) (sym is)

      -- the read failed
      pub read-failed : (fault : VaultFault) → j < p.b → IsRead {V = V} {T = Unit {0}} told faults last_call p (at Output j) attempt (opens p keys (at Output j) attempt (size p j)) bytes mid new (Err fault)
          → FailsAt {V = V} {T = Unit {0}} told faults p keys attempt [] j old new (Err fault)
      read-failed fault inside read = record {
        inside = inside;
        trace = trace-more read.recorded.trace;
        log = record {
          passed = carried_from p attempt 0 given;
          accesses = accesses-carried 0 given ∙ ap (reads p attempt) here;
          opened = opened-carried 0 given before.opened;
          log = read.recorded.log
              ∙ ap (λ (gave : Option (List ℕ)). mid.log ++ record { access = read_output p attempt j; bytes = gave } ∷ []) (same-given fault new.last read.given)
              ∙ ap (λ (log : List Carried). log ++ record { access = read_output p attempt j; bytes = given_by {T = Unit {0}} (Err fault) new.last } ∷ []) before.log
              ∙ append_assoc old.log (carried_from p attempt 0 given) (record { access = read_output p attempt j; bytes = given_by {T = Unit {0}} (Err fault) new.last } ∷ []);
        };
        plan = read.recorded.plan ∙ before.plan;
        stays = read.stays ∙ before.stays;
        answer = subst (λ n. ReadAnswer {T = Unit {0}} (number_of p (at Output j)) n (faults new.device) (opens p keys (at Output j) attempt (size p j) new.last) (Err fault)) before.calm read.answer;
      }

-- the entries of the items of one block more
pub entries-more : (p : Sizes) (keys : Keys) (attempt : ℕ) (key : List ℕ) (given : List (List ℕ)) (bytes : List ℕ) (j : ℕ) (old new : List Entry) → length given ≡ j
    → old ≡ entries p.form key (items_from p keys attempt 0 given) → new ≡ old ++ entries_from p.form key (first p j) (items_of p keys attempt j bytes)
    → new ≡ entries p.form key (items_from p keys attempt 0 (given ++ bytes ∷ []))
entries-more p keys attempt key given bytes j old new here before now =
    let stands : first p j ≡ 0 + length (items_from p keys attempt 0 given) = omega (arith, count-first p keys attempt given, ap (first p) here) in
    let same : j ≡ 0 + length given = omega (arith, here) in
    now
    ∙ (λ i. before i ++ entries_from p.form key (stands i) (items_of p keys attempt (same i) bytes))
    ∙ sym (entries-append p.form key 0 (items_from p keys attempt 0 given) (items_of p keys attempt (0 + length given) bytes))
    ∙ ap (entries p.form key) (sym (items-push p keys attempt 0 given bytes))

-- what is sent of them
pub sent-pushed : (p : Sizes) (keys : Keys) (attempt : ℕ) (kept : ℕ → Bool) (given : List (List ℕ)) (bytes : List ℕ) (j : ℕ) (old new : List ℕ) → length given ≡ j
    → old ≡ concat (sent_from p.form kept 0 (items_from p keys attempt 0 given)) → new ≡ old ++ concat (sent_from p.form kept (first p j) (items_of p keys attempt j bytes))
    → new ≡ concat (sent_from p.form kept 0 (items_from p keys attempt 0 (given ++ bytes ∷ [])))
sent-pushed p keys attempt kept given bytes j old new here before now =
    let stands : first p j ≡ 0 + length (items_from p keys attempt 0 given) = omega (arith, count-first p keys attempt given, ap (first p) here) in
    let same : j ≡ 0 + length given = omega (arith, here) in
    now
    ∙ (λ i. before i ++ concat (sent_from p.form kept (stands i) (items_of p keys attempt (same i) bytes)))
    ∙ sym (sent-joined p.form kept 0 (items_from p keys attempt 0 given) (items_of p keys attempt (0 + length given) bytes))
    ∙ ap (λ items. concat (sent_from p.form kept 0 items)) (sym (items-push p keys attempt 0 given bytes))

-- there is room for what is sent of the next block
pub few-sent : (p : Sizes) (keys : Keys) (attempt : ℕ) (kept : ℕ → Bool) (given : List (List ℕ)) (j : ℕ) (sent : List ℕ) → length given ≡ j
    → sent ≡ concat (sent_from p.form kept 0 (items_from p keys attempt 0 given)) → length sent ≤ first p j * inner_length p.form
few-sent p keys attempt kept given j sent here is =
    let few = sent_few p.form kept 0 (items_from p keys attempt 0 given) in
    let many : length (items_from p keys attempt 0 given) * inner_length p.form ≡ first p j * inner_length p.form = ap (λ n. n * inner_length p.form) (count-first p keys attempt given ∙ ap (first p) here) in
    omega (arith, few, many, ap length is)

-- positions that are kept alike send alike
pub sent_alike : (form : Form) (kept other : ℕ → Bool) (high q : ℕ) (items : List Item) → ((position : ℕ) → position < high → kept position ≡ other position) → q + length items ≤ high
    → sent_from form kept q items ≡ sent_from form other q items
sent_alike form kept other high q [] same fits = refl
sent_alike form kept other high q (item ∷ items) same fits =
    let here = same q (omega (arith, fits)) in
    let rest = sent_alike form kept other high (suc q) items same (omega (arith, fits)) in
    (λ i. cons_option (if here i then if_real item.kind (inner_in form item.body) else None) (rest i))

module _ {V : Type 0} (told : V → Option (List (List ℕ))) (faults : V → ℕ) (p : Sizes) (keys : Keys) (attempt : ℕ) (old mid new : Recorded V) (one : List (List ℕ))
    (all : length one ≡ p.b) (before : HasRead told faults p keys attempt one old mid)
  where
    -- the second scan failed
    pub failed-later : (fault : VaultFault) (j : ℕ) → FailsAt {V = V} {T = Unit {0}} told faults p keys attempt [] j mid new (Err fault)
        → FailsAt {V = V} {T = Unit {0}} told faults p keys attempt (scan p attempt) j old new (Err fault)
    failed-later fault j failed = record {
      inside = failed.inside;
      trace = failed.trace
          ∙ ap (λ (accesses : List Access). accesses ++ reads p attempt (j + 1)) (before.trace ∙ ap (λ n. old.trace ++ reads p attempt n) all)
          ∙ append_assoc old.trace (scan p attempt) (reads p attempt (j + 1));
      log =
          let last : List Carried = record { access = read_output p attempt j; bytes = given_by {T = Unit {0}} (Err fault) new.last } ∷ [] in
          let first : map (λ (entry : Carried). entry.access) (carried_from p attempt 0 one) ≡ scan p attempt = accesses-carried p keys attempt 0 one ∙ ap (reads p attempt) all in
          record {
            passed = carried_from p attempt 0 one ++ failed.log.passed;
            accesses = map-append (λ (entry : Carried). entry.access) (carried_from p attempt 0 one) failed.log.passed
                ∙ (λ i. first i ++ failed.log.accesses i);
            opened = All-append (GaveOpen p keys attempt) (carried_from p attempt 0 one) failed.log.passed (opened-carried p keys attempt 0 one before.opened) failed.log.opened;
            log = failed.log.log
                ∙ ap (λ (log : List Carried). log ++ (failed.log.passed ++ last)) before.log
                ∙ append_assoc old.log (carried_from p attempt 0 one) (failed.log.passed ++ last)
                ∙ ap (λ (log : List Carried). old.log ++ log) (sym (append_assoc (carried_from p attempt 0 one) failed.log.passed last));
          };
      plan = failed.plan ∙ before.plan;
      stays = failed.stays ∙ before.stays;
      answer = subst (λ n. ReadAnswer {T = Unit {0}} (number_of p (at Output j)) n (faults new.device) (opens p keys (at Output j) attempt (size p j) new.last) (Err fault)) before.calm failed.answer;
    }

    -- both scans are whole
    pub both-read : (two : List (List ℕ)) (key drops : List ℕ) (t : ℕ) (marks : List Bool) (seen : List Entry) (sent : List ℕ) → length two ≡ p.b → HasRead told faults p keys attempt two mid new
        → seen ≡ entries p.form key (items_from p keys attempt 0 one)
        → ((position : ℕ) → position < p.n → is_marked marks position ≡ kept_at (drops_in key drops) t seen position)
        → sent ≡ concat (sent_from p.form (is_marked marks) 0 (items_from p keys attempt 0 two))
        → HasForwarded told faults p keys attempt key drops t old new sent
    both-read two key drops t marks seen sent whole after gathered marked is =
        let fits : 0 + length (items_from p keys attempt 0 two) ≤ p.n = omega (arith, count-first p keys attempt two) in
        record {
          first = one;
          second = two;
          whole_first = all;
          whole_second = whole;
          trace = after.trace ∙ ap (λ n. mid.trace ++ reads p attempt n) whole
              ∙ ap (λ (accesses : List Access). accesses ++ scan p attempt) (before.trace ∙ ap (λ n. old.trace ++ reads p attempt n) all)
              ∙ append_assoc old.trace (scan p attempt) (scan p attempt);
          log = after.log ∙ ap (λ (log : List Carried). log ++ carried_from p attempt 0 two) before.log
              ∙ append_assoc old.log (carried_from p attempt 0 one) (carried_from p attempt 0 two);
          room = omega (arith, before.room, after.room, all, whole);
          plan = after.plan ∙ before.plan;
          stays = after.stays ∙ before.stays;
          calm = after.calm ∙ before.calm;
          opened_first = before.opened;
          opened_second = after.opened;
          sent = is
              ∙ ap concat (sent_alike p.form (is_marked marks) (kept_at (drops_in key drops) t seen) p.n 0 (items_from p keys attempt 0 two) marked fits)
              ∙ ap (λ (seen : List Entry). concat (sent_from p.form (kept_at (drops_in key drops) t seen) 0 (items_from p keys attempt 0 two))) gathered;
        }
