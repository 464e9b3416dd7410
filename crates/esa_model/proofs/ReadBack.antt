-- The bytes of a turns file read back as its lists.
use Rattle.std.proofs.Common.{◌≡◌, ◌≢◌, ℕ, zero, suc, ◌+◌, ◌^◌, ◌<◌, ◌≤◌, ◌⊎◌, Bool, true, false, cond, Some, None, Result, Ok, Err, List, [], ◌∷◌, ◌++◌, length, map, refl, sym, ap, ◌∙◌, arith, inl, inr, append-nil, append_assoc, length-append}
use Rattle.std.specs.Prelude.{All, codes, bytes_eq, option_and_then, MatchResult}
use Rattle.std.specs.List.{flat_map}
use Rattle.std.specs.Fmt.{decimal}
use Rattle.std.specs.Str.{all_ascii_digits}
use Rattle.std.specs.Char.{is_ascii_digit}
use Rattle.std.proofs.lemmas.Bool.{cases_Bool, and_parts, lt-ltb}
use Rattle.std.proofs.lemmas.Fmt.{digits_decimal}
use Rattle.std.proofs.lemmas.List.Sums.{sum_by-append, sum_by-cons}
use Rattle.std.proofs.lemmas.Slice.Eq.{bytes_eq-Decides}
use Rattle.esa_bytes.specs.Decimal.{decimal_in}
use Rattle.esa_bytes.specs.Lines.{text_lines}
use Rattle.esa_bytes.proofs.DecimalLemmas.{own, decimal_in-decimal_of}
use Rattle.esa_bytes.proofs.LineLemmas.{text_lines-line}
use Rattle.esa_spec.specs.Files.{turn_line, next_line, turns_bytes}
use Rattle.esa_model.specs.Drafts.{Begun, can_come, lists_of, turns_in, with_word}
use Rattle.esa_model.specs.Turns.{AreWorkers, CanRead, turns_of}
use Rattle.esa_model.specs.Words.{turn_of, word_in}
use Rattle.esa_model.specs.declared.turns.TurnsRefused.{TurnsRefused}
use Rattle.esa_model.specs.declared.turns.TurnsRefused.TheVariants.{OutOfMemory}
use Rattle.esa_model.specs.declared.word.Word.TheVariants.{Turn, Next}
use Rattle.esa_model.proofs.Reading.{read_all, read_from}
use Rattle.esa_model.proofs.TurnLemmas.{good_line}

-- digits are no newline
digit-plain : (byte : ℕ) → is_ascii_digit byte ≡ true → byte ≢ 10
digit-plain byte digit is = absurd (cc (sym (ap is_ascii_digit is) ∙ digit))

digits-plain : (text : List ℕ) → all_ascii_digits text ≡ true → All (λ byte. byte ≢ 10) text
digits-plain [] digits k d k_in = absurd (omega arith)
digits-plain (byte ∷ text) digits zero d k_in = digit-plain byte (and_parts (is_ascii_digit byte) (all_ascii_digits text) digits).0
digits-plain (byte ∷ text) digits (suc k) d k_in = digits-plain text (and_parts (is_ascii_digit byte) (all_ascii_digits text) digits).1 k d (omega arith)

-- the line of a worker
module _ (workers w : ℕ) (w_in : w < workers) (fits : w < 2 ^ 64) where
  not-next : bytes_eq (decimal w) (codes "next") ≡ false
  not-next =
      elim (cases_Bool (bytes_eq (decimal w) (codes "next"))) [
        | inl same ↦ absurd (some-none (sym (decimal_in-decimal_of w fits) ∙ ap decimal_in ((bytes_eq-Decides (decimal w) (codes "next")).0 same)))
        | inr other ↦ other
      ]
    where
      some-none : Some w ≡ decimal_in (codes "next") → ⊥
      some-none h = cc

  worker-word : word_in workers (decimal w) ≡ Some (Turn w)
  worker-word =
      ap (λ (c : Bool). cond c (Some Next) (option_and_then (turn_of workers) (decimal_in (decimal w)))) not-next
      ∙ ap (option_and_then (turn_of workers)) (decimal_in-decimal_of w fits)
      ∙ ap (λ (c : Bool). cond c (Some (Turn w)) None) (lt-ltb w workers w_in)

-- the lines of turns, and those behind them
lines-turns : (ts rest : List ℕ) → All (λ w. w < 2 ^ 64) ts → text_lines (flat_map turn_line ts ++ rest) ≡ map decimal ts ++ text_lines rest
lines-turns [] rest fit = refl
lines-turns (w ∷ ts) rest fit =
    ap text_lines (append_assoc (turn_line w) (flat_map turn_line ts) rest ∙ append_assoc (decimal w) (10 ∷ []) (flat_map turn_line ts ++ rest))
    ∙ text_lines-line (decimal w) (flat_map turn_line ts ++ rest) (digits-plain (decimal w) (digits_decimal own w (fit 0 0 (omega arith))))
    ∙ ap (λ (l : List (List ℕ)). decimal w ∷ l) (lines-turns ts rest (λ k d k_in. fit (suc k) d (omega arith)))

turns-begun : (begun : Begun) → turns_in (lists_of begun) ≡ turns_in begun.ended + length begun.list
turns-begun begun = sum_by-append length begun.ended (begun.list ∷ []) ∙ ap (λ (n : ℕ). turns_in begun.ended + n) (sum_by-cons length begun.list [] ∙ omega arith)

-- a list of turns is read, whatever comes of the lines behind it
read-turns : (workers attempts : ℕ) (ts : List ℕ) (lines : List (List ℕ)) (answer : Result (List (List ℕ)) TurnsRefused) (begun : Begun)
    → workers ≤ 2 ^ 64 → All (λ w. w < workers) ts → turns_in begun.ended + length begun.list + length ts ≤ 4194304
    → ((number : ℕ) → read_from workers attempts number (record begun { list = begun.list ++ ts }) lines ≡ answer)
    → (number : ℕ) → read_from workers attempts number begun (map decimal ts ++ lines) ≡ answer
read-turns workers attempts [] lines answer begun small are few then number =
    ap (λ (l : List ℕ). read_from workers attempts number (record begun { list = l }) lines) (sym (append-nil begun.list)) ∙ then number
read-turns workers attempts (w ∷ ts) lines answer begun small are few then number =
    let w_in : w < workers = are 0 0 (omega arith) in
    let can : can_come attempts begun (Turn w) ≡ true = lt-ltb (turns_in (lists_of begun)) 4194304 (omega (arith, turns-begun begun)) in
    let longer = length-append begun.list (w ∷ []) in
    good_line workers attempts number begun (decimal w) (map decimal ts ++ lines) (Turn w) (worker-word workers w w_in (omega arith)) can
    ∙ read-turns workers attempts ts lines answer (with_word begun (Turn w)) small (λ k d k_in. are (suc k) d (omega arith)) (omega (arith, longer))
    (λ n. ap (λ (l : List ℕ). read_from workers attempts n (record begun { list = l }) lines) (append_assoc begun.list (w ∷ []) ts) ∙ then n)
    (number + 1)

-- the lists of a file, one after another
read-lists : (workers attempts : ℕ) (h : List ℕ) (hs : List (List ℕ)) (ended : List (List ℕ))
    → workers ≤ 2 ^ 64 → AreWorkers workers (h ∷ hs) → turns_in ended + turns_in (h ∷ hs) ≤ 4194304 → length ended + length (h ∷ hs) ≤ attempts
    → (number : ℕ) → read_from workers attempts number record { ended = ended; list = [] } (text_lines (turns_bytes (h ∷ hs))) ≡ Ok (ended ++ h ∷ hs)
read-lists workers attempts h [] ended small are few lists number =
    let each : All (λ w. w < 2 ^ 64) h = λ k d k_in. omega (arith, are 0 [] (omega arith) k d k_in) in
    ap (λ (l : List (List ℕ)). read_from workers attempts number record { ended = ended; list = [] } l)
    (ap text_lines (sym (append-nil (flat_map turn_line h))) ∙ lines-turns h [] each)
    ∙ read-turns workers attempts h [] (Ok (ended ++ h ∷ [])) record { ended = ended; list = [] } small (are 0 [] (omega arith)) (omega (arith, sum_by-cons length h [])) (λ n. refl) number
read-lists workers attempts h (g ∷ hs) ended small are few lists number =
    let each : All (λ w. w < 2 ^ 64) h = λ k d k_in. omega (arith, are 0 [] (omega arith) k d k_in) in
    let bytes = turns_bytes (g ∷ hs) in
    let begun : Begun = record { ended = ended; list = h } in
    let next : (n : ℕ) → read_from workers attempts n begun (codes "next" ∷ text_lines bytes) ≡ Ok (ended ++ h ∷ g ∷ hs) =
    λ n.
    good_line workers attempts n begun (codes "next") (text_lines bytes) Next refl
    (lt-ltb (length (lists_of begun)) attempts (omega (arith, length-append ended (h ∷ []))))
    ∙ read-lists workers attempts g hs (ended ++ h ∷ []) small (λ k d k_in. are (suc k) d (omega arith))
    (omega (arith, sum_by-append length ended (h ∷ []), sum_by-cons length h [], sum_by-cons length h (g ∷ hs))) (omega (arith, length-append ended (h ∷ []))) (n + 1)
    ∙ ap Ok (append_assoc ended (h ∷ []) (g ∷ hs)) in
    ap (λ (l : List (List ℕ)). read_from workers attempts number record { ended = ended; list = [] } l)
    (ap text_lines (append_assoc (flat_map turn_line h) next_line bytes) ∙ lines-turns h (next_line ++ bytes) each
    ∙ ap (λ (l : List (List ℕ)). map decimal h ++ l) (text_lines-line (codes "next") bytes next-plain))
    ∙ read-turns workers attempts h (codes "next" ∷ text_lines bytes) (Ok (ended ++ h ∷ g ∷ hs)) record { ended = ended; list = [] } small (are 0 [] (omega arith))
    (omega (arith, sum_by-cons length h (g ∷ hs))) next number
  where
    next-plain : All (λ byte. byte ≢ 10) (codes "next")
    next-plain zero d k_in = λ is. absurd (cc)
    next-plain (suc zero) d k_in = λ is. absurd (cc)
    next-plain (suc (suc zero)) d k_in = λ is. absurd (cc)
    next-plain (suc (suc (suc zero))) d k_in = λ is. absurd (cc)
    next-plain (suc (suc (suc (suc k)))) d k_in = absurd (omega arith)

pub turns-back : (workers attempts : ℕ) (lists : List (List ℕ)) → workers ≤ 2 ^ 64 → CanRead workers attempts lists
    → turns_of workers attempts (turns_bytes lists) ≡ Ok lists
turns-back workers attempts [] small can = absurd (omega (arith, can.some))
turns-back workers attempts (h ∷ hs) small can =
    sym (read_all workers attempts (turns_bytes (h ∷ hs)))
    ∙ read-lists workers attempts h hs [] small can.workers (omega (arith, can.turns)) (omega (arith, can.lists)) 1

-- what a reader gives, where the file says lists
pub read-as : (result : Result (List (List ℕ)) TurnsRefused) (lists : List (List ℕ)) (said : Result (List (List ℕ)) TurnsRefused) → said ≡ Ok lists
    → MatchResult result (λ turns. said ≡ Ok turns) (λ refused. (refused ≡ OutOfMemory) ⊎ (said ≡ Err refused))
    → MatchResult result (λ turns. turns ≡ lists) (λ refused. refused ≡ OutOfMemory)
read-as (Ok turns) lists said is found = same said found is
  where
    same : (a : Result (List (List ℕ)) TurnsRefused) {x y : List (List ℕ)} → a ≡ Ok x → a ≡ Ok y → x ≡ y
    same a p q = cc
read-as (Err refused) lists said is (inl none) = none
read-as (Err refused) lists said is (inr found) = absurd (clash said is found)
  where
    clash : (a : Result (List (List ℕ)) TurnsRefused) {x : List (List ℕ)} {e : TurnsRefused} → a ≡ Ok x → a ≡ Err e → ⊥
    clash a p q = cc
