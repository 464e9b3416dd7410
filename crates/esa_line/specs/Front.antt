-- The front of a line: a moment, a tab, a sender, a tab.
use Rattle.std.specs.Prelude.{ℕ, ◌==◌, nat_le, Bool, ◌&&◌, if◌then◌else◌, List, length, Result, Ok, Err, is_some}
use Rattle.std.specs.Char.{is_ascii_graphic}
use Rattle.std.specs.List.{list_all}
use Rattle.esa_bytes.specs.Decimal.{decimal_in}
use Rattle.esa_line.specs.declared.refused.LineCause.{LineCause}
use Rattle.esa_line.specs.declared.refused.LineCause.TheVariants.{BadMoment, BadSender}

abbrev pub is_tab : ℕ → Bool
is_tab byte = byte == 9

-- 1 to 64 bytes from 0x21 to 0x7e
abbrev pub is_sender : List ℕ → Bool
is_sender sender = nat_le 1 (length sender) && nat_le (length sender) 64 && list_all is_ascii_graphic sender

-- a moment is a decimal number below 2^64; it is tested before the sender
abbrev pub front_in : List ℕ → List ℕ → Result (Unit {0}) LineCause
front_in moment sender =
    if is_some (decimal_in moment) then (if is_sender sender then Ok tt else Err BadSender) else Err BadMoment
