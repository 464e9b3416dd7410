-- A log that grows, and what stands in the slots then.
use Rattle.std.proofs.Common.{◌≡◌, ◌≢◌, ℕ, zero, suc, ◌<◌, true, false, ◌&&◌, ◌==◌, List, [], ◌∷◌, ◌++◌, length, map, Option, Some, None, Result, Ok, Err, refl, sym, ap, ◌∙◌, subst, arith, inl, inr, ◌⊎◌, length-append, append_assoc}
use Rattle.std.specs.Prelude.{Bool, find, is_some, not, reverse, slice_get, slice_set, unwrap_or, if◌then◌else◌, OnOk, OnErr}
use Rattle.std.specs.Option.{option_map_or}
use Rattle.std.proofs.lemmas.Bool.{cases_Bool}
use Rattle.std.proofs.lemmas.Bool.Decides.{nat_tests}
use Rattle.std.proofs.lemmas.List.{map-append, reverse-append}
use Rattle.esa_params.specs.Slots.{slot_number, is_writing, writes_number}
use Rattle.esa_params.specs.Sizes.{Sizes}
use Rattle.esa_params.specs.declared.slot.Access.{Access}
use Rattle.esa_params.specs.declared.slot.Op.{Op}
use Rattle.esa_params.specs.declared.slot.Op.TheVariants.{Read, Write}
use Rattle.esa_device.specs.Blocks.{ChangesBlock}
use Rattle.esa_device.specs.Recording.{Names, number_in}
use Rattle.esa_device.specs.Logs.{Carried, Gave, HoldsWritten, IsBacked, IsFaithful, Took, carried_by, has_given, last_given, latest_carried}

-- a beginning of a faithful log is faithful
pub faithful-front : (p : Sizes) (log more : List Carried) → IsFaithful p (log ++ more) → IsFaithful p log
faithful-front p log more whole before after entry given written is gave took =
    whole before (after ++ more) entry given written (ap (λ xs. xs ++ more) is ∙ append_assoc before (entry ∷ after) more) gave took

nothing_left : {X : Type 0} (x : X) (xs ys : List X) → [] ≡ ys ++ x ∷ xs → ⊥
nothing_left x xs ys is =
    let none : zero ≡ length (ys ++ x ∷ xs) = ap length is in
    let some = length-append ys (x ∷ xs) in omega (arith, none, some)

same_head : {X : Type 0} (x y : X) (xs ys : List X) → x ∷ xs ≡ y ∷ ys → x ≡ y
same_head x y xs ys is = cc

same_tail : {X : Type 0} (x y : X) (xs ys : List X) → x ∷ xs ≡ y ∷ ys → xs ≡ ys
same_tail x y xs ys is = cc

-- an entry of a list that is longer by one is that one, behind all others, or one of the others
abbrev pub Where : {X : Type 0} → List X → List X → X → List X → X → Type 0
Where {X} log before entry after last = ((log ≡ before) × (last ≡ entry)) ⊎ ((rest : List X) × (log ≡ before ++ entry ∷ rest))

further : {X : Type 0} (x y : X) (log before : List X) (entry : X) (after : List X) (last : X) → x ≡ y → Where log before entry after last → Where (x ∷ log) (y ∷ before) entry after last
further x y log before entry after last same (inl here) = inl (cc (same, here.0), here.1)
further x y log before entry after last same (inr there) = inr (there.0, cc (same, there.1))

pub found : {X : Type 0} (log before : List X) (entry : X) (after : List X) (last : X) → log ++ last ∷ [] ≡ before ++ entry ∷ after → Where log before entry after last
found [] [] entry after last is = inl (refl, same_head last entry [] after is)
found [] (y ∷ before) entry after last is = absurd (nothing_left entry after before (same_tail last y [] (before ++ entry ∷ after) is))
found (x ∷ log) [] entry after last is = inr (log, ap (λ y. y ∷ log) (same_head x entry (log ++ last ∷ []) after is))
found (x ∷ log) (y ∷ before) entry after last is =
    further x y log before entry after last (same_head x y (log ++ last ∷ []) (before ++ entry ∷ after) is)
    (found log before entry after last (same_tail x y (log ++ last ∷ []) (before ++ entry ∷ after) is))

-- a log stays faithful where a read, if one is added, gave what its slot's latest write took
pub faithful-push : (p : Sizes) (log : List Carried) (last : Carried) → IsFaithful p log
    → ((given written : List ℕ) → Gave last given → Took p (slot_number p last.access) written log → given ≡ written)
    → IsFaithful p (log ++ last ∷ [])
faithful-push p log last faithful gives before after entry given written is gave took =
    elim (found log before entry after last is) [
      | inl here ↦ gives given written (subst (λ e. Gave e given) (sym here.1) gave)
          (subst (λ (xs : List Carried). Took p (slot_number p last.access) written xs) (sym here.0)
          (subst (λ (e : Carried). Took p (slot_number p e.access) written before) (sym here.1) took))
      | inr there ↦ faithful before there.0 entry given written there.1 gave took
    ]

-- what the last read of a faithful log gave
pub faithful-last : (p : Sizes) (log : List Carried) (last : Carried) (given written : List ℕ) → IsFaithful p (log ++ last ∷ [])
    → Gave last given → Took p (slot_number p last.access) written log → given ≡ written
faithful-last p log last given written faithful gave took = faithful log [] last given written refl gave took

-- by whether the last access writes the slot
pub latest-push : (p : Sizes) (number : ℕ) (log : List Carried) (last : Carried)
    → latest_carried p number (log ++ last ∷ []) ≡ (if writes_number p number last.access then Some last else latest_carried p number log)
latest-push p number log last = ap (find (λ (entry : Carried). writes_number p number entry.access)) (reverse-append log (last ∷ []))

-- a read writes no slot
pub reads_nothing : (p : Sizes) (number : ℕ) (access : Access) → access.op ≡ Read → writes_number p number access ≡ false
reads_nothing p number access reads = ap (λ op. is_writing op && slot_number p access == number) reads

-- nor does a write of another slot write this one
pub writes_elsewhere : (p : Sizes) (number : ℕ) (access : Access) → number ≢ slot_number p access → writes_number p number access ≡ false
writes_elsewhere p number access other = elim (cases_Bool (is_writing access.op)) [
  | inl writes ↦ rw writes (grind (arith, nat_tests))
  | inr reads ↦ rw reads refl
]

pub writes_here : (p : Sizes) (number : ℕ) (access : Access) → access.op ≡ Write → number ≡ slot_number p access → writes_number p number access ≡ true
writes_here p number access writes same =
    ap (λ op. is_writing op && slot_number p access == number) writes ∙ grind (arith, nat_tests)

pub get-set_same : (blocks : List (List ℕ)) (number : ℕ) (bytes : List ℕ) → number < length blocks
    → slice_get (slice_set blocks number bytes) number ≡ Some bytes
get-set_same [] number bytes inside = absurd (omega arith)
get-set_same (block ∷ blocks) zero bytes inside = refl
get-set_same (block ∷ blocks) (suc number) bytes inside = get-set_same blocks number bytes (omega arith)

pub get-set_other : (blocks : List (List ℕ)) (number other : ℕ) (bytes : List ℕ) → other ≢ number
    → slice_get (slice_set blocks number bytes) other ≡ slice_get blocks other
get-set_other [] number other bytes differs = refl
get-set_other (block ∷ blocks) zero zero bytes differs = absurd (differs refl)
get-set_other (block ∷ blocks) zero (suc other) bytes differs = refl
get-set_other (block ∷ blocks) (suc number) zero bytes differs = refl
get-set_other (block ∷ blocks) (suc number) (suc other) bytes differs =
    get-set_other blocks number other bytes (λ same. differs (ap suc same))

-- where the last access doesn't write the slot, the latest write is the one before
pub took-before : (p : Sizes) (number : ℕ) (bytes : List ℕ) (log : List Carried) (last : Carried) → writes_number p number last.access ≡ false
    → Took p number bytes (log ++ last ∷ []) → Took p number bytes log
took-before p number bytes log last none took = (
  took.0,
  sym (latest-push p number log last ∙ ap (λ writes. if writes then Some last else latest_carried p number log) none) ∙ took.1,
)

-- and where it does, it is the latest
pub took-here : (p : Sizes) (number : ℕ) (bytes : List ℕ) (log : List Carried) (last : Carried) → writes_number p number last.access ≡ true
    → Took p number bytes (log ++ last ∷ []) → last.bytes ≡ Some bytes
took-here p number bytes log last writes took =
    let same : Some last ≡ Some (record { access = took.0; bytes = Some bytes }) =
    sym (latest-push p number log last ∙ ap (λ writes. if writes then Some last else latest_carried p number log) writes) ∙ took.1 in
    let is : last ≡ record { access = took.0; bytes = Some bytes } = cc same in
    ap (λ (entry : Carried). entry.bytes) is

-- what was the latest stays so where the last access doesn't write the slot
took-after : (p : Sizes) (number : ℕ) (bytes : List ℕ) (log : List Carried) (last : Carried) → writes_number p number last.access ≡ false
    → Took p number bytes log → Took p number bytes (log ++ last ∷ [])
took-after p number bytes log last none took = (
  took.0,
  latest-push p number log last ∙ ap (λ writes. if writes then Some last else latest_carried p number log) none ∙ took.1,
)

pub took-read : (p : Sizes) (number : ℕ) (bytes : List ℕ) (log : List Carried) (last : Carried) → last.access.op ≡ Read
    → Took p number bytes log → Took p number bytes (log ++ last ∷ [])
took-read p number bytes log last reads took = took-after p number bytes log last (reads_nothing p number last.access reads) took

pub took-elsewhere : (p : Sizes) (number : ℕ) (bytes : List ℕ) (log : List Carried) (last : Carried) → number ≢ slot_number p last.access
    → Took p number bytes log → Took p number bytes (log ++ last ∷ [])
took-elsewhere p number bytes log last other took = took-after p number bytes log last (writes_elsewhere p number last.access other) took

pub took-written : (p : Sizes) (bytes : List ℕ) (log : List Carried) (last : Carried) → last.access.op ≡ Write → last.bytes ≡ Some bytes
    → Took p (slot_number p last.access) bytes (log ++ last ∷ [])
took-written p bytes log last writes is = (
  last.access,
  latest-push p (slot_number p last.access) log last
      ∙ ap (λ writes. if writes then Some last else latest_carried p (slot_number p last.access) log) (writes_here p (slot_number p last.access) last.access writes refl)
      ∙ ap (λ bytes. Some (record { access = last.access; bytes = bytes })) is,
)

-- two bytes that an option holds are the same
same_bytes : (block : Option (List ℕ)) (given written : List ℕ) → block ≡ Some given → block ≡ Some written → given ≡ written
same_bytes block given written first second = cc (first, second)

pub access-carried : {T E : Type 0} (access : Access) (result : Result T E) (bytes : List ℕ) → (carried_by access result bytes).access ≡ access
access-carried access result bytes = refl

gave-held : {T E : Type 0} (access : Access) (result : Result T E) (out given : List ℕ) (block : Option (List ℕ))
    → OnOk result (block ≡ Some out) → Gave (carried_by access result out) given → block ≡ Some given
gave-held access (Ok done) out given block holds gave = holds ∙ gave.1
gave-held access (Err failure) out given block holds gave = cc gave.1

holds-read : (p : Sizes) (blocks : List (List ℕ)) (log : List Carried) (last : Carried) → last.access.op ≡ Read
    → HoldsWritten p blocks log → HoldsWritten p blocks (log ++ last ∷ [])
holds-read p blocks log last reads holds number bytes took =
    holds number bytes (took-before p number bytes log last (reads_nothing p number last.access reads) took)

-- a read of a device that tells gives what the slot holds
read-told : {T E : Type 0} (p : Sizes) (blocks : List (List ℕ)) (log : List Carried) (access : Access) (result : Result T E) (out : List ℕ)
    → access.op ≡ Read → OnOk result (slice_get blocks (slot_number p access) ≡ Some out)
    → HoldsWritten p blocks log × IsFaithful p log
    → HoldsWritten p blocks (log ++ carried_by access result out ∷ []) × IsFaithful p (log ++ carried_by access result out ∷ [])
read-told p blocks log access result out reads gives backed =
    let same = access-carried access result out in (
      holds-read p blocks log (carried_by access result out) (ap (λ (a : Access). a.op) same ∙ reads) backed.0,
      faithful-push p log (carried_by access result out) backed.1
          (λ given written gave took. same_bytes (slice_get blocks (slot_number p access)) given written
          (gave-held access result out given (slice_get blocks (slot_number p access)) gives gave)
          (backed.0 (slot_number p access) written (subst (λ (a : Access). Took p (slot_number p a) written log) same took))),
    )

pub backed-read : {T E : Type 0} (plan : Option Sizes) (old new : Option (List (List ℕ))) (log : List Carried) (access : Access) (n : ℕ) (result : Result T E) (out : List ℕ)
    → Names Read plan access n → new ≡ old
    → ((blocks : List (List ℕ)) → old ≡ Some blocks → OnOk result (slice_get blocks (number_in plan access) ≡ Some out))
    → IsBacked plan old log → IsBacked plan new (log ++ carried_by access result out ∷ [])
backed-read None old new log access n result out named same gives backed = tt
backed-read (Some p) old new log access n result out named same gives backed = λ blocks told.
    read-told p blocks log access result out named.asks (gives blocks (sym same ∙ told)) (backed blocks (sym same ∙ told))

-- the same where the recorder's plan, its log and the number of the slot come under other names
pub backed-after_read : {T E : Type 0} (plan now : Option Sizes) (before after : Option (List (List ℕ))) (log entries : List Carried) (access : Access) (number n : ℕ) (result : Result T E) (out : List ℕ)
    → plan ≡ now → entries ≡ log ++ carried_by access result out ∷ [] → Names Read now access n → number ≡ number_in now access → after ≡ before
    → ((blocks : List (List ℕ)) → before ≡ Some blocks → OnOk result (slice_get blocks number ≡ Some out))
    → IsBacked plan before log → IsBacked plan after entries
backed-after_read plan now before after log entries access number n result out same added named is kept gave backed =
    subst (λ (entries : List Carried). IsBacked plan after entries) (sym added)
    (backed-read plan before after log access n result out (subst (λ (plan : Option Sizes). Names Read plan access n) (sym same) named) kept
    (λ blocks told. subst (λ (k : ℕ). OnOk result (slice_get blocks k ≡ Some out)) (is ∙ ap (λ (plan : Option Sizes). number_in plan access) (sym same)) (gave blocks told))
    backed)

-- no write is a read
write-gave : {T E : Type 0} (access : Access) (result : Result T E) (bytes given : List ℕ) → access.op ≡ Write → Gave (carried_by access result bytes) given → ⊥
write-gave access result bytes given writes gave =
    let both : Read ≡ Write = sym gave.0 ∙ ap (λ (a : Access). a.op) (access-carried access result bytes) ∙ writes in cc both

faithful-write : {T E : Type 0} (p : Sizes) (log : List Carried) (access : Access) (result : Result T E) (bytes : List ℕ) → access.op ≡ Write
    → IsFaithful p log → IsFaithful p (log ++ carried_by access result bytes ∷ [])
faithful-write p log access result bytes writes faithful =
    faithful-push p log (carried_by access result bytes) faithful (λ given written gave took. absurd (write-gave access result bytes given writes gave))

same_blocks : (told : Option (List (List ℕ))) (first second : List (List ℕ)) → told ≡ Some first → told ≡ Some second → first ≡ second
same_blocks told first second one two = cc (one, two)

-- what a write took is what it left in the slot
left-took : {T E : Type 0} (access : Access) (result : Result T E) (bytes left wrote : List ℕ) → OnOk result (left ≡ bytes)
    → (carried_by access result bytes).bytes ≡ Some wrote → Some left ≡ Some wrote
left-took access (Ok done) bytes left wrote stored is = ap Some stored ∙ is
left-took access (Err failure) bytes left wrote stored is = cc is

-- a write to a device that tells leaves in the slot what it took, if it didn't fail, and all other slots as they were
holds-write : {T E : Type 0} (p : Sizes) (held : List (List ℕ)) (log : List Carried) (access : Access) (result : Result T E) (bytes left : List ℕ)
    → access.op ≡ Write → slot_number p access < length held → OnOk result (left ≡ bytes) → HoldsWritten p held log
    → HoldsWritten p (slice_set held (slot_number p access) left) (log ++ carried_by access result bytes ∷ [])
holds-write p held log access result bytes left writes there stored holds number wrote took =
    let same = access-carried access result bytes in
    elim (cases_Bool (number == slot_number p access)) [
      | inl here ↦
          let at : number ≡ slot_number p access = grind (arith, nat_tests) in
          let is : (carried_by access result bytes).bytes ≡ Some wrote =
          took-here p number wrote log (carried_by access result bytes) (ap (writes_number p number) same ∙ writes_here p number access writes at) took in
          ap (slice_get (slice_set held (slot_number p access) left)) at
          ∙ get-set_same held (slot_number p access) left there
          ∙ left-took access result bytes left wrote stored is
      | inr other ↦
          let elsewhere : number ≢ slot_number p access = grind (arith, nat_tests) in
          get-set_other held (slot_number p access) number left elsewhere
          ∙ holds number wrote (took-before p number wrote log (carried_by access result bytes) (ap (writes_number p number) same ∙ writes_elsewhere p number access elsewhere) took)
    ]

write-told : {T E : Type 0} (p : Sizes) (held : List (List ℕ)) (new : Option (List (List ℕ))) (log : List Carried) (access : Access) (result : Result T E) (bytes left : List ℕ)
    → access.op ≡ Write → slot_number p access < length held → new ≡ Some (slice_set held (slot_number p access) left) → OnOk result (left ≡ bytes)
    → HoldsWritten p held log × IsFaithful p log
    → IsBacked (Some p) new (log ++ carried_by access result bytes ∷ [])
write-told p held new log access result bytes left writes there now stored backed = λ blocks told. (
  subst (λ (b : List (List ℕ)). HoldsWritten p b (log ++ carried_by access result bytes ∷ []))
      (same_blocks new (slice_set held (slot_number p access) left) blocks now told)
      (holds-write p held log access result bytes left writes there stored backed.0),
  faithful-write p log access result bytes writes backed.1,
)

pub backed-write : {T E : Type 0} (plan : Option Sizes) (old new : Option (List (List ℕ))) (log : List Carried) (access : Access) (n : ℕ) (result : Result T E) (bytes : List ℕ)
    → Names Write plan access n
    → ((blocks : List (List ℕ)) → old ≡ Some blocks → number_in plan access < length blocks)
    → ((blocks : List (List ℕ)) → old ≡ Some blocks → OnOk result (new ≡ Some (slice_set blocks (number_in plan access) bytes)))
    → ((blocks : List (List ℕ)) → old ≡ Some blocks → OnErr result (ChangesBlock blocks (number_in plan access) new))
    → (old ≡ None → new ≡ None)
    → IsBacked plan old log → IsBacked plan new (log ++ carried_by access result bytes ∷ [])
backed-write None old new log access n result bytes named there written failed silent backed = tt
backed-write (Some p) None new log access n result bytes named there written failed silent backed = λ blocks told. cc (silent refl, told)
backed-write {T} {E} (Some p) (Some held) new log access n (Ok done) bytes named there written failed silent backed =
    write-told {T = T} {E = E} p held new log access (Ok done) bytes bytes named.asks (there held refl) (written held refl) refl (backed held refl)
backed-write {T} {E} (Some p) (Some held) new log access n (Err failure) bytes named there written failed silent backed =
    let left = failed held refl in
    write-told {T = T} {E = E} p held new log access (Err failure) bytes left.0 named.asks (there held refl) left.1 tt (backed held refl)

-- nothing was written yet
pub nothing-took : (p : Sizes) (number : ℕ) (bytes : List ℕ) → Took p number bytes [] → ⊥
nothing-took p number bytes took = cc took.1

-- an empty log is backed by any device
pub backed-empty : (plan : Option Sizes) (told : Option (List (List ℕ))) → IsBacked plan told []
backed-empty None told = tt
backed-empty (Some p) told = λ blocks is. (
  λ number bytes took. absurd (nothing-took p number bytes took),
  λ before after entry given written whole gave took. absurd (nothing_left entry after before whole),
)

-- by whether the last access is a read that didn't fail
given-push : (log : List Carried) (last : Carried) → last_given (log ++ last ∷ []) ≡ (if has_given last then unwrap_or last.bytes [] else last_given log)
given-push log last =
    ap (λ (xs : List Carried). option_map_or (λ (entry : Carried). unwrap_or entry.bytes []) (find has_given xs) []) (reverse-append log (last ∷ []))
    ∙ by_last (has_given last)
  where
    by_last : (gives : Bool) → option_map_or (λ (entry : Carried). unwrap_or entry.bytes []) (if gives then Some last else find has_given (reverse log)) []
        ≡ (if gives then unwrap_or last.bytes [] else last_given log)
    by_last true = refl
    by_last false = refl

-- an access that is named asks for what it is named for
pub asks : (op : Op) (plan : Option Sizes) (access : Access) (n : ℕ) → Names op plan access n → access.op ≡ op
asks op None access n named = absurd named
asks op (Some p) access n named = named.asks

-- a read that didn't fail gave its bytes last, and one that failed gives nothing
pub given-read : {T E : Type 0} (log : List Carried) (access : Access) (result : Result T E) (value : T) (bytes : List ℕ) → result ≡ Ok value → access.op ≡ Read
    → last_given (log ++ carried_by access result bytes ∷ []) ≡ bytes
given-read {T} {E} log access result value bytes is reads =
    ap (λ (r : Result T E). last_given (log ++ carried_by access r bytes ∷ [])) is
    ∙ given-push log (record { access = access; bytes = Some bytes })
    ∙ ap (λ (op : Op). if not (is_writing op) && true then bytes else last_given log) reads

pub given-failed : {T E : Type 0} (log : List Carried) (access : Access) (result : Result T E) (failure : E) (bytes : List ℕ) → result ≡ Err failure → access.op ≡ Read
    → last_given (log ++ carried_by access result bytes ∷ []) ≡ last_given log
given-failed {T} {E} log access result failure bytes is reads =
    ap (λ (r : Result T E). last_given (log ++ carried_by access r bytes ∷ [])) is
    ∙ given-push log (record { access = access; bytes = None })
    ∙ ap (λ (op : Op). if not (is_writing op) && false then [] else last_given log) reads

-- a write gives nothing
pub given-write : {T E : Type 0} (log : List Carried) (access : Access) (result : Result T E) (bytes : List ℕ) → access.op ≡ Write
    → last_given (log ++ carried_by access result bytes ∷ []) ≡ last_given log
given-write log access result bytes writes =
    let last = carried_by access result bytes in
    given-push log last
    ∙ ap (λ (op : Op). if not (is_writing op) && is_some last.bytes then unwrap_or last.bytes [] else last_given log)
    (ap (λ (a : Access). a.op) (access-carried access result bytes) ∙ writes)

-- the log is of the accesses
pub accesses-push : {T E : Type 0} (log : List Carried) (trace : List Access) (access : Access) (result : Result T E) (bytes : List ℕ)
    → map (λ (entry : Carried). entry.access) log ≡ trace
    → map (λ (entry : Carried). entry.access) (log ++ carried_by access result bytes ∷ []) ≡ trace ++ access ∷ []
accesses-push log trace access result bytes is =
    map-append (λ (entry : Carried). entry.access) log (carried_by access result bytes ∷ [])
    ∙ ap (λ xs. xs ++ (carried_by access result bytes).access ∷ []) is
    ∙ ap (λ a. trace ++ a ∷ []) (access-carried access result bytes)
