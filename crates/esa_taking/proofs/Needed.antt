-- What a job has that shuffles a batch, and its keys, and what its drops file is refused for.
use Rattle.std.proofs.Common.{◌≡◌, inl, inr, true, false, ap, ◌∙◌}
use Rattle.std.specs.Prelude.{IsSome}
use Rattle.esa_job.specs.Keys.{needs_key, key_of}
use Rattle.esa_job.specs.Table.{need_of}
use Rattle.esa_job.specs.declared.command.Command.{Command}
use Rattle.esa_job.specs.declared.command.Command.TheVariants.{Run, Shuffle}
use Rattle.esa_job.specs.declared.field.JobField.{JobField}
use Rattle.esa_job.specs.declared.field.Need.TheVariants.{Needed}
use Rattle.esa_job.specs.declared.keys.KeyField.{KeyField}
use Rattle.esa_job.specs.declared.drops.DropsRefused.{DropsRefused}
use Rattle.esa_job.specs.declared.drops.DropsRefused.TheVariants.{Line}
use Rattle.esa_refusal.specs.Refusal.{IsOfInput}
use Rattle.esa_taking.specs.Run.{Shuffles, drops_refusal}
use Rattle.esa_taking.specs.RunTaken.{IsTaken}
use Rattle.esa_taking.specs.declared.input.RunInput.{RunInput}

pub needs : (field : JobField) (own command : Command) → own ≡ command → Shuffles command → need_of field Run ≡ Needed → need_of field Shuffle ≡ Needed → need_of field own ≡ Needed
needs field own command same shuffles run shuffle =
    ap (need_of field) same ∙ elim shuffles [
      | inl is ↦ ap (need_of field) is ∙ run
      | inr is ↦ ap (need_of field) is ∙ shuffle
    ]

pub of_drops : (refused : DropsRefused) → IsOfInput (drops_refusal refused)
of_drops (Line line) = tt

-- the keys that both need
pub has_key : (input : RunInput) → IsTaken input → (key : KeyField) → needs_key Run false key ≡ true → needs_key Shuffle false key ≡ true → IsSome (key_of input.keys key)
has_key input taken key run shuffle =
    taken.keys key (elim taken.shuffles [
      | inl is ↦ ap (λ command. needs_key command false key) is ∙ run
      | inr is ↦ ap (λ command. needs_key command false key) is ∙ shuffle
    ])
