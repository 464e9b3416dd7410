-- What is known once all passes are back.
use Rattle.std.specs.Prelude.{◌≡◌, ℕ, ◌<◌, List, length, All, Contains}
use mathlib.Core.List.{IsPrefix}
use Rattle.esa_turnstile.specs.declared.view.About.{About}
use Rattle.esa_turnstile.specs.declared.view.Mark.{Mark}
use Rattle.esa_turnstile.specs.declared.view.View.{View}
use Rattle.esa_turnstile.specs.declared.pass.Pass.{Pass}
use Rattle.esa_turnstile.specs.Entries.{times}
use Rattle.esa_turnstile.specs.Marks.{IsBelow}
use Rattle.esa_turnstile.specs.Passes.{member_of}

module _ {T : Type 0} where
  -- the seat stands for the pass, and has heard of what it had seen
  abbrev pub Knows : View T → Pass T → Type 0
  Knows v p = Contains v.members (member_of p) × Contains v.heard p.seat.me.0.seen

module _ {T O : Type 0} (log_of : T → List ℕ) (origin : T → O) (IsSound : T → Type 0) (mark : T → Mark) where
  -- the value at the end, beside what the one seat knows
  pub record IsSettled (about : About T) (v : View T) (x : T) : Type 0 where
    pub begins : All (λ s. IsPrefix s.entries (log_of x)) v.heard
    pub counts : All (λ m. times m.number (log_of x) ≡ m.added) v.members
    pub named : All (λ n. n < about.passes) (log_of x)
    pub origin_is : origin x ≡ origin about.opened.value
    pub sound : IsSound x
    pub mark_above : All (λ s. IsBelow s.mark (mark x)) v.heard
    pub mark_same : All (λ s. length (log_of x) ≡ length s.entries → mark x ≡ s.mark) v.heard
