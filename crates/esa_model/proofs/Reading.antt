-- A turns file as it is read, line by line, gives what the file says.
use Rattle.std.proofs.Common.{◌≡◌, ℕ, ◌+◌, ◌<◌, Bool, true, false, cond, Option, Some, None, Result, Ok, Err, List, [], ◌∷◌, ◌++◌, length, get_or, map, refl, sym, ap, ◌∙◌, arith, inl, inr, append-nil, append_assoc, length-append}
use Rattle.std.specs.Prelude.{All, find, filter_map, count_by, not}
use Rattle.std.specs.List.{slice_split, onto_first, range_with_len}
use Rattle.std.specs.Option.{option_map_or}
use Rattle.std.proofs.Math.Seq.{take-append-add, get_or-append_seam}
use Rattle.std.proofs.lemmas.Bool.{cases_lt, lt-ltb, le-ltb, le-leb, lt-leb}
use Rattle.std.proofs.lemmas.List.Sums.{sum_by_push}
use Rattle.esa_bytes.specs.Lines.{text_lines}
use Rattle.esa_model.specs.Drafts.{Begun, none_begun, lists_of, turns_in, with_word, can_come}
use Rattle.esa_model.specs.Turns.{AreWorkers, words_in, is_next, is_turn, worker_in, is_bad, is_refused, first_refused, lists_in, unless, turns_of}
use Rattle.esa_model.specs.Words.{word_in}
use Rattle.esa_model.specs.declared.word.Word.{Word}
use Rattle.esa_model.specs.declared.word.Word.TheVariants.{Turn, Next}
use Rattle.esa_model.specs.declared.turns.TurnsRefused.{TurnsRefused}
use Rattle.esa_model.specs.declared.turns.TurnsRefused.TheVariants.{Line}

-- what is begun with one line more, where the line says a word that can come
abbrev pub with_line : ℕ → Begun → Option Word → Option Begun
with_line attempts begun None = None
with_line attempts begun (Some word) = cond (can_come attempts begun word) (Some (with_word begun word)) None

-- the lists that lines say behind what is begun, or the number of the first line that can't be read
abbrev pub read_from : ℕ → ℕ → ℕ → Begun → List (List ℕ) → Result (List (List ℕ)) TurnsRefused
read_from workers attempts number begun [] = Ok (lists_of begun)
read_from workers attempts number begun (line ∷ lines) =
    option_map_or (λ more. read_from workers attempts (number + 1) more lines) (with_line attempts begun (word_in workers line)) (Err (Line number))

-- each turn that is begun is that of a worker
pub record AreBegun (workers : ℕ) (begun : Begun) : Type 0 where
  pub ended : AreWorkers workers begun.ended
  pub list : All (λ worker. worker < workers) begun.list

-- lists behind one that goes on into the first of them
abbrev onto : List ℕ → List (List ℕ) → List (List ℕ)
onto list [] = list ∷ []
onto list (q ∷ qs) = (list ++ q) ∷ qs

onto-turn : (w : ℕ) (list : List ℕ) (parts : List (List (Option Word)))
    → onto list (map (filter_map worker_in) (onto_first (Some (Turn w)) parts)) ≡ onto (list ++ w ∷ []) (map (filter_map worker_in) parts)
onto-turn w list [] = refl
onto-turn w list (q ∷ qs) = ap (λ (l : List ℕ). l ∷ map (filter_map worker_in) qs) (sym (append_assoc list (w ∷ []) (filter_map worker_in q)))

onto-none-by : (word : Option Word) (c : Bool) (parts : List (List (Option Word)))
    → onto [] (map (filter_map worker_in) (cond c ([] ∷ parts) (onto_first word parts))) ≡ map (filter_map worker_in) (cond c ([] ∷ parts) (onto_first word parts))
onto-none-by word true parts = refl
onto-none-by word false [] = refl
onto-none-by word false (q ∷ qs) = refl

onto-none : (words : List (Option Word)) → onto [] (lists_in words) ≡ lists_in words
onto-none [] = refl
onto-none (word ∷ words) = onto-none-by word (is_next word) (slice_split is_next words)

-- the lists when one word more is read
lists-word : (begun : Begun) (word : Word) (words : List (Option Word))
    → begun.ended ++ onto begun.list (lists_in (Some word ∷ words)) ≡ (with_word begun word).ended ++ onto (with_word begun word).list (lists_in words)
lists-word begun (Turn w) words = ap (λ (l : List (List ℕ)). begun.ended ++ l) (onto-turn w begun.list (slice_split is_next words))
lists-word begun Next words =
    ap (λ (l : List ℕ). begun.ended ++ l ∷ lists_in words) (append-nil begun.list)
    ∙ sym (append_assoc begun.ended (begun.list ∷ []) (lists_in words))
    ∙ ap (λ (l : List (List ℕ)). (begun.ended ++ begun.list ∷ []) ++ l) (sym (onto-none words))

-- what is begun counts the words that were read
record Counts (begun : Begun) (words : List (Option Word)) : Type 0 where
  nexts : count_by is_next words + 1 ≡ length (lists_of begun)
  turns : count_by is_turn words ≡ turns_in (lists_of begun)

turns-begun : (begun : Begun) → turns_in (lists_of begun) ≡ turns_in begun.ended + length begun.list
turns-begun begun = sum_by_push length begun.ended begun.list

counts-word : (begun : Begun) (words : List (Option Word)) (word : Word) → Counts begun words → Counts (with_word begun word) (words ++ Some word ∷ [])
counts-word begun words (Turn w) counts =
    let one = sum_by_push (λ (x : Option Word). cond (is_next x) 1 0) words (Some (Turn w)) in
    let two = sum_by_push (λ (x : Option Word). cond (is_turn x) 1 0) words (Some (Turn w)) in
    let longer = length-append begun.list (w ∷ []) in
    let lists = length-append begun.ended (begun.list ∷ []) in
    let lists' = length-append begun.ended ((begun.list ++ w ∷ []) ∷ []) in
    record {
      nexts = omega (arith, one, counts.nexts, lists, lists');
      turns = omega (arith, two, counts.turns, longer, turns-begun begun, turns-begun (with_word begun (Turn w)));
    }
counts-word begun words Next counts =
    let one = sum_by_push (λ (x : Option Word). cond (is_next x) 1 0) words (Some Next) in
    let two = sum_by_push (λ (x : Option Word). cond (is_turn x) 1 0) words (Some Next) in
    record {
      nexts = omega (arith, one, counts.nexts, length-append (lists_of begun) ([] ∷ []));
      turns = omega (arith, two, counts.turns, turns-begun (with_word begun Next));
    }

none-counts : Counts none_begun []
none-counts = record { nexts = refl; turns = refl }

-- a word can come exactly where it isn't bad
bad-unless : (attempts : ℕ) (begun : Begun) (words : List (Option Word)) (word : Word) → Counts begun words
    → is_bad attempts (words ++ Some word ∷ []) (Some word) ≡ not (can_come attempts begun word)
bad-unless attempts begun words (Turn w) counts =
    let two = sum_by_push (λ (x : Option Word). cond (is_turn x) 1 0) words (Some (Turn w)) in
    elim (cases_lt (turns_in (lists_of begun)) 4194304) [
      | inl few ↦ le-ltb 4194304 (count_by is_turn (words ++ Some (Turn w) ∷ [])) (omega (arith, two, counts.turns)) ∙ sym (ap not (lt-ltb (turns_in (lists_of begun)) 4194304 few))
      | inr many ↦ lt-ltb 4194304 (count_by is_turn (words ++ Some (Turn w) ∷ [])) (omega (arith, two, counts.turns)) ∙ sym (ap not (le-ltb (turns_in (lists_of begun)) 4194304 many))
    ]
bad-unless attempts begun words Next counts =
    let one = sum_by_push (λ (x : Option Word). cond (is_next x) 1 0) words (Some Next) in
    elim (cases_lt (length (lists_of begun)) attempts) [
      | inl few ↦ lt-leb attempts (count_by is_next (words ++ Some Next ∷ [])) (omega (arith, one, counts.nexts)) ∙ sym (ap not (lt-ltb (length (lists_of begun)) attempts few))
      | inr many ↦ le-leb attempts (count_by is_next (words ++ Some Next ∷ [])) (omega (arith, one, counts.nexts)) ∙ sym (ap not (le-ltb (length (lists_of begun)) attempts many))
    ]

-- the word behind others is refused where it is bad
refused-at : (attempts : ℕ) (before : List (Option Word)) (word : Option Word) (words : List (Option Word))
    → is_refused attempts (before ++ word ∷ words) (length before) ≡ is_bad attempts (before ++ word ∷ []) word
refused-at attempts before word words =
    ap (λ (l : List (Option Word)). is_bad attempts l (get_or (before ++ word ∷ words) (length before) None)) (take-append-add before (word ∷ words) 1)
    ∙ ap (is_bad attempts (before ++ word ∷ [])) (get_or-append_seam before word words None)

module _ (workers attempts : ℕ) where
  -- what is to be shown of the lines behind those that were read
  abbrev IsRead : List (Option Word) → Begun → List (List ℕ) → Type 0
  IsRead before begun lines =
      read_from workers attempts (length before + 1) begun lines
      ≡ unless (find (is_refused attempts (before ++ words_in workers lines)) (range_with_len (length before) (length (words_in workers lines)))) (begun.ended ++ onto begun.list (lists_in (words_in workers lines)))

  read-by : (before : List (Option Word)) (begun : Begun) (word : Word) (lines : List (List ℕ)) (c : Bool) → can_come attempts begun word ≡ c
      → Counts begun before → IsRead (before ++ Some word ∷ []) (with_word begun word) lines
      → option_map_or (λ more. read_from workers attempts (length before + 1 + 1) more lines) (cond (can_come attempts begun word) (Some (with_word begun word)) None) (Err (Line (length before + 1)))
      ≡ unless (find (is_refused attempts (before ++ Some word ∷ words_in workers lines)) (range_with_len (length before) (length (Some word ∷ words_in workers lines)))) (begun.ended ++ onto begun.list (lists_in (Some word ∷ words_in workers lines)))
  read-by before begun word lines true can counts then =
      let words = words_in workers lines in
      let longer : length (before ++ Some word ∷ []) ≡ length before + 1 = length-append before (Some word ∷ []) in
      let here : is_refused attempts (before ++ Some word ∷ words) (length before) ≡ false = refused-at attempts before (Some word) words ∙ bad-unless attempts begun before word counts ∙ ap not can in
      let lists = (with_word begun word).ended ++ onto (with_word begun word).list (lists_in words) in
      ap (λ (b : Bool). option_map_or (λ more. read_from workers attempts (length before + 1 + 1) more lines) (cond b (Some (with_word begun word)) None) (Err (Line (length before + 1)))) can
      ∙ ap (λ (n : ℕ). read_from workers attempts (n + 1) (with_word begun word) lines) (sym longer)
      ∙ then
      ∙ ap (λ (l : List (Option Word)). unless (find (is_refused attempts l) (range_with_len (length (before ++ Some word ∷ [])) (length words))) lists) (append_assoc before (Some word ∷ []) words)
      ∙ ap (λ (n : ℕ). unless (find (is_refused attempts (before ++ Some word ∷ words)) (range_with_len n (length words))) lists) longer
      ∙ sym (ap (λ (b : Bool). unless (cond b (Some (length before)) (find (is_refused attempts (before ++ Some word ∷ words)) (range_with_len (length before + 1) (length words)))) lists) here)
      ∙ ap (unless (find (is_refused attempts (before ++ Some word ∷ words)) (range_with_len (length before) (length (Some word ∷ words))))) (sym (lists-word begun word words))
  read-by before begun word lines false can counts then =
      let words = words_in workers lines in
      let here : is_refused attempts (before ++ Some word ∷ words) (length before) ≡ true = refused-at attempts before (Some word) words ∙ bad-unless attempts begun before word counts ∙ ap not can in
      ap (λ (b : Bool). option_map_or (λ more. read_from workers attempts (length before + 1 + 1) more lines) (cond b (Some (with_word begun word)) None) (Err (Line (length before + 1)))) can
      ∙ sym (ap (λ (b : Bool). unless (cond b (Some (length before)) (find (is_refused attempts (before ++ Some word ∷ words)) (range_with_len (length before + 1) (length words)))) (begun.ended ++ onto begun.list (lists_in (Some word ∷ words)))) here)

  read-word : (before : List (Option Word)) (begun : Begun) (word : Option Word) (lines : List (List ℕ)) → Counts begun before
      → ((before : List (Option Word)) (begun : Begun) → Counts begun before → IsRead before begun lines)
      → option_map_or (λ more. read_from workers attempts (length before + 1 + 1) more lines) (with_line attempts begun word) (Err (Line (length before + 1)))
      ≡ unless (find (is_refused attempts (before ++ word ∷ words_in workers lines)) (range_with_len (length before) (length (word ∷ words_in workers lines)))) (begun.ended ++ onto begun.list (lists_in (word ∷ words_in workers lines)))
  read-word before begun None lines counts then =
      sym (ap (λ (b : Bool). unless (cond b (Some (length before)) (find (is_refused attempts (before ++ None ∷ words_in workers lines)) (range_with_len (length before + 1) (length (words_in workers lines))))) (begun.ended ++ onto begun.list (lists_in (None ∷ words_in workers lines)))) (refused-at attempts before None (words_in workers lines)))
  read-word before begun (Some word) lines counts then =
      read-by before begun word lines (can_come attempts begun word) refl counts (then (before ++ Some word ∷ []) (with_word begun word) (counts-word begun before word counts))

  read-on : (lines : List (List ℕ)) (before : List (Option Word)) (begun : Begun) → Counts begun before → IsRead before begun lines
  read-on [] before begun counts = ap (λ (l : List ℕ). Ok (begun.ended ++ l ∷ [])) (sym (append-nil begun.list))
  read-on (line ∷ lines) before begun counts = read-word before begun (word_in workers line) lines counts (read-on lines)

-- reading from the first line on gives what the file says
pub read_all : (workers attempts : ℕ) (bytes : List ℕ) → read_from workers attempts 1 none_begun (text_lines bytes) ≡ turns_of workers attempts bytes
read_all workers attempts bytes =
    read-on workers attempts (text_lines bytes) [] none_begun none-counts
    ∙ ap (unless (first_refused attempts (words_in workers (text_lines bytes)))) (onto-none (words_in workers (text_lines bytes)))
