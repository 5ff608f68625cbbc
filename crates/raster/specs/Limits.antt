-- The largest frame that the code's buffers serve; the sides that the table of refusals takes are within it. Definitions only.
use Rattle.std.specs.Prelude.{◌/◌, ℕ}

-- its sides
abbrev pub max_frame : ℕ
max_frame = 1024

-- the bytes of its rows
abbrev pub max_stride : ℕ
max_stride = max_frame / 8
