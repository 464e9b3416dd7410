use Rattle.std.proofs.Common.{◌≡◌, ◌≢◌, ℕ, ◌/◌, ◌%◌, ◌<◌, List, [], ◌∷◌, get_or}
use Rattle.esa_hmac.specs.Hmac.{hmac}
use Rattle.esa_hmac.specs.Mac.{StandsFor}
use Rattle.esa_shares.specs.Share.{coefficient_byte}
use Rattle.esa_shares.proofs.shaper.put_piece.Given as goal

abbrev pub invariant-loop-y : goal.invariant-loop-y
invariant-loop-y l = (key : List ℕ) → StandsFor l.begun key [] → record {
  digest : l.y % 32 ≢ 0 → l.digest ≡ hmac key (l.power ∷ l.y / 32 ∷ l.value);
  done : (z : ℕ) → z < l.y → get_or l.out z 0 ≡ coefficient_byte key l.value l.power z;
}
