use Rattle.std.proofs.Common.{◌∙◌, ◌-◌, ◌*◌, ◌%◌, length, ap}
use Rattle.std.proofs.Math.Nat.{mul-mod_left}
use Rattle.esa_shares.specs.Polynomial.{evaluated}
use Rattle.esa_shares.specs.Share.{share_record, mark_of, share_of}
use Rattle.esa_shares.proofs.shaper.ShareShaper.put_share.Goals as goal

pub put_record-requires-clause-whole : goal.put_record-requires-clause-whole
put_record-requires-clause-whole c =
    ap (λ n. n % length c.args.value.now) (c.put_pieces.auto.rows ∙ c.split_at_mut-coefs.ensures.front_len ∙ ap (λ n. n * length c.args.value.now) c.from.ensures)
    ∙ mul-mod_left (c.self.inside.t - 1) (length c.args.value.now)

pub returns : goal.returns
returns c =
    c.put_record.ensures
    ∙ ap (λ coefs. share_record c.self.inside.t c.args.point (mark_of c.args.value.now) (evaluated c.args.value.now coefs c.args.point))
    (c.put_pieces.ensures c.self.inside.key c.self.invariant.begun)
    ∙ ap (λ s. share_of s.t s.key c.args.value.now c.args.point) c.self.view_is
