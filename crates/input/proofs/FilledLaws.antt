-- What was read lies within the buffer.
use Rattle.std.proofs.Common.{List, Ok, Result, length, subst, take, ◌≡◌, ◌≤◌, ℕ}
use Rattle.input.specs.Filled.{Filled}

pub filled_read : {E : Type 0} {r : Result ℕ E} {n : ℕ} (buf : List ℕ) → r ≡ Ok n → Filled r buf → (n ≤ length buf) × (n ≡ length (take n buf))
filled_read {E} buf e w = subst (λ (r : Result ℕ E). Filled r buf) e w
