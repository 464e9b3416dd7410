-- What counting the envelopes of a forward file gives.
use Rattle.std.proofs.Common.{◌≡◌, ℕ, List, sym, ap, ◌∙◌, subst}
use Rattle.std.specs.List.{concat}
use Rattle.esa_params.specs.Form.{inner_length}
use Rattle.esa_envelope.specs.declared.keys.Keys.{Keys}
use Rattle.esa_header.specs.Pieces.{HaveLength}
use Rattle.esa_header.proofs.PieceLaws.{concat-pieces, HaveLength-pieces}
use Rattle.esa_threshold.specs.declared.envelopes.Forwarded.{Forwarded}
use Rattle.esa_analyser.specs.Database.{Database}
use Rattle.esa_analyser.specs.Counted.{Counted}
use Rattle.esa_analyser.specs.Opened.{database_of}
use Rattle.esa_analysing.specs.Analyse.{number_of, envelopes_of, AreWhole}

pub counts : (analysis after : Counted) (room : ℕ) (none : Database) (keys : Keys) (forwarded : Forwarded) (bytes : List ℕ) → analysis ≡ record { form = forwarded.form; room = room; database = none } → bytes ≡ forwarded.envelopes → AreWhole forwarded
    → ((list : List (List ℕ)) → HaveLength (inner_length analysis.form) list → bytes ≡ concat list → after ≡ record analysis { database = database_of keys list })
    → (after.form ≡ forwarded.form) × (after.database ≡ database_of keys (envelopes_of forwarded))
counts analysis after room none keys forwarded bytes made same whole counted =
    let form : analysis.form ≡ forwarded.form = ap (λ a. a.form) made in
    let size = inner_length forwarded.form in
    let list = envelopes_of forwarded in
    let lengths : HaveLength (inner_length analysis.form) list = subst (λ f. HaveLength (inner_length f) list) (sym form) (HaveLength-pieces size (number_of forwarded) forwarded.envelopes whole.0) in
    let joined : bytes ≡ concat list = same ∙ sym (concat-pieces size (number_of forwarded) forwarded.envelopes whole.0) in
    let is : after ≡ record analysis { database = database_of keys list } = counted list lengths joined in
    (ap (λ a. a.form) is ∙ form, ap (λ a. a.database) is)
