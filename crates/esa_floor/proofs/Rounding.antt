-- A worker that is in its round is in it one turn later, whoever had the turn.
use Rattle.std.proofs.Common.{◌≡◌, ◌≢◌, ℕ, ◌+◌, ◌%◌, ◌<◌, ◌≤◌, min, List, [], ◌∷◌, ◌++◌, refl, sym, ap, ◌∙◌, subst, arith, inl, inr}
use Rattle.std.proofs.Math.Nat.{mod-eq_of_lt, mod_self}
use Rattle.std.proofs.lemmas.Bool.{cases_lt}
use Rattle.std.proofs.lemmas.Nat.{mod_below}
use Rattle.esa_laws.proofs.RoundLaws.{other-phase, own-phase}
use Rattle.esa_laws.proofs.TurnLaws.{held-at_claim, held-other, held-own}
use Rattle.esa_spec.specs.Turns.{claims, held, next_phase, turns_of}
use Rattle.esa_floor.specs.Workers.{HasExchanged, HasRead, IsInRound}
use Rattle.esa_floor.specs.Working.{Buffered, IsReady, Working, passed}
use Rattle.esa_floor.specs.declared.worker.Stage.{Stage}
use Rattle.esa_floor.specs.declared.worker.Stage.TheVariants.{Empty, Envelopes, Items, Chunks, Blocks}

-- what a worker that is ready holds
pub are_items : (stage : Stage) → IsReady stage → HasRead stage → stage ≡ Items
are_items Empty ready never = absurd never
are_items Envelopes never read = absurd never
are_items Items ready read = refl
are_items Chunks never read = absurd never
are_items Blocks ready never = absurd never

pub are_blocks : (stage : Stage) → IsReady stage → HasExchanged stage → stage ≡ Blocks
are_blocks Empty ready never = absurd never
are_blocks Envelopes never exchanged = absurd never
are_blocks Items ready never = absurd never
are_blocks Chunks never exchanged = absurd never
are_blocks Blocks ready exchanged = refl

-- the phase after a write is no phase before one
pub no_second : (x m : ℕ) → 3 ≤ x → x < m → (x + 1) % m ≢ 2
no_second x m least most second = elim (cases_lt (x + 1) m) [
  | inl within ↦ let same = mod-eq_of_lt within in absurd (omega (arith, same, second, least))
  | inr past ↦
      let full : x + 1 ≡ m = omega (arith, past, most) in
      let none : (x + 1) % m ≡ 0 = ap (λ (y : ℕ). y % m) full ∙ mod_self m in
      absurd (omega (arith, none, second))
]

module _ {C : Type 0} (b : ℕ) (h : List ℕ) (w : Working C) (in_round : IsInRound b h w) where
  -- private work
  pub prepared_round : (new : Working C) → new.number ≡ w.number → new.phase ≡ w.phase → new.bucket ≡ w.bucket
      → (HasRead w.stage → HasRead new.stage) → (HasExchanged w.stage → HasExchanged new.stage) → IsInRound b h new
  prepared_round new number phase bucket read exchanged = record {
    phase = phase ∙ in_round.phase ∙ ap (next_phase b h) (sym number);
    bucket = λ more.
        bucket ∙ in_round.bucket (λ none. more (phase ∙ none)) ∙ ap (λ (v : ℕ). min (held b h v) b) (sym number);
    read = λ second inside. read (in_round.read (sym phase ∙ second) (subst (λ (j : ℕ). j < b) bucket inside));
    exchanged = λ third inside. exchanged (in_round.exchanged (subst (λ (x : ℕ). 3 ≤ x) phase third) (subst (λ (j : ℕ). j < b) bucket inside));
  }

  phase_is : next_phase b h w.number ≡ w.phase
  phase_is = sym in_round.phase

  after : next_phase b (h ++ w.number ∷ []) w.number ≡ (w.phase + 1) % (b + 3)
  after = own-phase b h w.number ∙ ap (λ (x : ℕ). (x + 1) % (b + 3)) phase_is

  -- a turn that begins a round
  pub claim_round : (j : ℕ) → w.phase ≡ 0 → j ≡ min (claims b h) b → IsInRound b (h ++ w.number ∷ []) (record w { phase = 1; bucket = j; stage = Empty })
  claim_round j first is =
      let one : next_phase b (h ++ w.number ∷ []) w.number ≡ 1 = after ∙ ap (λ (x : ℕ). (x + 1) % (b + 3)) first ∙ mod-eq_of_lt (omega arith) in
      record {
        phase = sym one;
        bucket = λ more. is
            ∙ ap (λ (k : ℕ). min k b) (sym (held-own b h w.number (λ none. absurd (omega (arith, one, none))) ∙ held-at_claim b h w.number (phase_is ∙ first)));
        read = λ second inside. absurd (omega (arith, second));
        exchanged = λ third inside. absurd (omega (arith, third));
      }

  -- another turn of its round
  own_round : (new : Working C) → w.phase ≢ 0 → new.number ≡ w.number → new.bucket ≡ w.bucket → new.phase ≡ (w.phase + 1) % (b + 3)
      → (new.phase ≡ 2 → new.bucket < b → HasRead new.stage) → (3 ≤ new.phase → new.bucket < b → HasExchanged new.stage)
      → IsInRound b (h ++ w.number ∷ []) new
  own_round new more number bucket phase read exchanged = record {
    phase = phase ∙ sym after ∙ ap (next_phase b (h ++ w.number ∷ [])) (sym number);
    bucket = λ later.
        bucket ∙ in_round.bucket more
        ∙ ap (λ (k : ℕ). min k b) (sym (held-own b h w.number (λ none. later (phase ∙ sym after ∙ none))) ∙ ap (held b (h ++ w.number ∷ [])) (sym number));
    read = read;
    exchanged = exchanged;
  }

  pub pass_round : w.phase ≢ 0 → b ≤ w.bucket → w.buffers.plan.b ≡ b → IsInRound b (h ++ w.number ∷ []) (passed w)
  pass_round more none same = own_round (passed w) more refl refl (ap (λ (k : ℕ). (w.phase + 1) % (k + 3)) same)
      (λ second inside. absurd (omega (arith, inside, none))) (λ third inside. absurd (omega (arith, inside, none)))

  pub read_round : (buffers : Buffered) → w.phase ≡ 1 → IsInRound b (h ++ w.number ∷ []) (record w { phase = 2; stage = Envelopes; buffers = buffers })
  read_round buffers first = own_round (record w { phase = 2; stage = Envelopes; buffers = buffers }) (λ none. absurd (omega (arith, none, first))) refl refl
      (sym (mod-eq_of_lt (omega arith)) ∙ ap (λ (x : ℕ). (x + 1) % (b + 3)) (sym first))
      (λ second inside. tt) (λ third inside. absurd (omega (arith, third)))

  pub exchange_round : (buffers : Buffered) → w.phase ≡ 2 → w.bucket < b → IsInRound b (h ++ w.number ∷ []) (record w { phase = 3; stage = Chunks; buffers = buffers })
  exchange_round buffers second some = own_round (record w { phase = 3; stage = Chunks; buffers = buffers }) (λ none. absurd (omega (arith, none, second))) refl refl
      (sym (mod-eq_of_lt (omega (arith, some))) ∙ ap (λ (x : ℕ). (x + 1) % (b + 3)) (sym second))
      (λ second inside. absurd (omega (arith, second))) (λ third inside. tt)

  within : w.phase < b + 3
  within = subst (λ (x : ℕ). x < b + 3) phase_is (mod_below (turns_of w.number h) (b + 3) (omega arith))

  pub write_round : 3 ≤ w.phase → w.stage ≡ Blocks → w.buffers.plan.b ≡ b → IsInRound b (h ++ w.number ∷ []) (passed w)
  write_round least blocks same = own_round (passed w) (λ none. absurd (omega (arith, none, least))) refl refl (ap (λ (k : ℕ). (w.phase + 1) % (k + 3)) same)
      (λ second inside. absurd (no_second w.phase (b + 3) least within (ap (λ (k : ℕ). (w.phase + 1) % (k + 3)) (sym same) ∙ second))) (λ third inside. subst HasExchanged (sym blocks) tt)

  -- a turn of another worker
  pub other_round : (v : ℕ) → w.number ≢ v → IsInRound b (h ++ v ∷ []) w
  other_round v other = record {
    phase = in_round.phase ∙ sym (other-phase b h v w.number other);
    bucket = λ more.
        in_round.bucket more
        ∙ ap (λ (k : ℕ). min k b) (sym (held-other b h w.number v other (λ none. more (in_round.phase ∙ none))));
    read = in_round.read;
    exchanged = in_round.exchanged;
  }
