-- What a `ShareShaper` stands for.
use Rattle.std.specs.Prelude.{◌≤◌, []}
use Rattle.esa_hmac.specs.Mac.{StandsFor}
use Rattle.esa_shares.specs.declared.shaper.ShareShaper.TheInside.{Inside}
use Rattle.esa_shares.specs.Share.{Sharing}

abbrev pub sharing_in : Inside → Sharing
sharing_in s = record { t = s.t; key = s.key }

-- two to 16 shares, and a code that begins with the key
pub record IsSharing (s : Inside) : Type 0 where
  pub some : 2 ≤ s.t
  pub few : s.t ≤ 16
  pub begun : StandsFor s.mac s.key []
