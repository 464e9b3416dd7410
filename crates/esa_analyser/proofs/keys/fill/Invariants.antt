use Rattle.std.proofs.Common.{◌≡◌, ◌+◌, ◌-◌, ◌*◌, ◌≤◌, ℕ, List, length}
use Rattle.std.specs.Prelude.{All, filter_map, vec_capacity}
use Rattle.std.specs.List.{sum_by}
use Rattle.esa_header.specs.Pieces.{pieces}
use Rattle.esa_analyser.specs.Opened.{reported}
use Rattle.esa_analyser.specs.Repeated.{IsRepeated, weighed}
use Rattle.esa_analyser.proofs.keys.fill.Given as goal

abbrev pub invariant-loop : goal.invariant-loop
invariant-loop g l = record {
  left : length l.rest ≡ (g.row.P + 40) * (l.number - l.counter);
  counted : (f : List ℕ → ℕ) → sum_by f (filter_map (reported l.inner) (pieces (g.row.P + 40) l.number l.envelopes))
      ≡ weighed f l.keys.items + sum_by f (filter_map (reported l.inner) (pieces (g.row.P + 40) (l.number - l.counter) l.rest));
  each : All IsRepeated l.keys.items;
  few : weighed (λ value. 1) l.keys.items ≤ l.counter;
  short : length l.keys.items ≤ l.counter;
  room : vec_capacity l.keys ≡ vec_capacity l.fn.keys;
}
