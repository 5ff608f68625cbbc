-- What the code finds in a stream, as Seeking.antt has it. Definitions only.
use Rattle.std.specs.Prelude.{List, ◌+◌, ◌≤◌, ℕ, Option, Some, None, drop}
use Rattle.reading.specs.Seeking.{Seek, ended, lost, seek}
use Rattle.reading.specs.declared.Next.{Next}
use Rattle.reading.specs.declared.Next.TheVariants.{Ended, Run}

-- in a stream with the symbols s; nothing that can be read is a stream lost
abbrev pub next_of : List ℕ → Option Next → Seek
next_of s None = lost
next_of s (Some (Ended at)) = ended (drop at s)
next_of s (Some (Run run)) = seek run.left (drop run.at s)

-- it is not far from symbol `at`: no more digits than the run has pixels and one, and two commas
abbrev pub Nearby : ℕ → Option Next → Type 0
Nearby at None = Unit {0}
Nearby at (Some (Ended next)) = next ≤ at + 2
Nearby at (Some (Run run)) = run.at ≤ at + run.left + 2
