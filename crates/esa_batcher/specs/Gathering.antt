-- What a `Batcher` stands for.
use Rattle.std.specs.Prelude.{◌≤◌, length, vec_capacity}
use Rattle.esa_params.specs.Form.{envelope_length}
use Rattle.esa_header.specs.Pieces.{HaveLength}
use Rattle.esa_batcher.specs.declared.batcher.Batcher.TheInside.{Inside}
use Rattle.esa_batcher.specs.Adding.{Gathered}
use Rattle.esa_batcher.specs.Envelopes.{list_of, form_of, capacity_of}

abbrev pub gathered_in : Inside → Gathered
gathered_in a = record { form = form_of a.envelopes; room = a.room; list = list_of a.envelopes }

-- the envelopes have the form's length, are no more than a batch has, and have the room that was asked for, and
-- as much for keys, of which each of them has one
pub record IsGathered (a : Inside) : Type 0 where
  pub lengths : HaveLength (envelope_length (form_of a.envelopes)) (list_of a.envelopes)
  pub number : length (list_of a.envelopes) ≤ 262144
  pub room : a.room ≤ capacity_of a.envelopes
  pub keys : length (list_of a.envelopes) ≤ vec_capacity a.keys
  pub keys_room : a.room ≤ vec_capacity a.keys
