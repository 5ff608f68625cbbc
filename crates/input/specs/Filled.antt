-- What was read lies within the buffer.
use Rattle.std.specs.Prelude.{Err, List, Ok, Result, ℕ, length, take, ◌≡◌, ◌≤◌}

-- a count is that of bytes at the start of the buffer; the second part follows from the first, and is what a caller's `&buf[..n]` asks
abbrev pub Filled : {E : Type 0} → Result ℕ E → List ℕ → Type 0
Filled (Ok n) buf = (n ≤ length buf) × (n ≡ length (take n buf))
Filled (Err e) buf = Unit
