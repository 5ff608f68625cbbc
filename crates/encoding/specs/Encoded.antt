-- What the writer of codes answers, as 02 numbers it.
use Rattle.std.specs.Prelude.{None, Option, Result, Some, [], ◌∷◌}
use Rattle.morphology.specs.Answers.{Answer, answered, blank}
use Rattle.refusals.specs.Refusal.{answer_by}
use Rattle.refusals.specs.declared.Refusal.{Refusal}
use Rattle.encoding.specs.declared.Stream.{Stream}

-- the bytes and the largest size, or 0 bytes of an empty image
abbrev pub written : Option Stream → Answer
written None = blank
written (Some s) = answered (s.bytes ∷ s.largest ∷ [])

abbrev pub answer_of : Result (Option Stream) Refusal → Answer
answer_of r = answer_by written r
