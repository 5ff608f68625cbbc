-- The largest size that travels beside a stream, none of a blank image, as coding/specs/Codes.antt has it.
use Rattle.std.proofs.Math.Option.{Option as Mark, none, some}
use Rattle.std.specs.Prelude.{None, Option, Some, ℕ}

abbrev pub mark_of : Option ℕ → Mark ℕ
mark_of None = none
mark_of (Some n) = some n
