-- Why a call is refused, as the table of refusals numbers it, and what an operation answers. Definitions only; proofs/RowLaws.antt has the laws.
use Rattle.std.specs.Prelude.{Err, Ok, Result, ℕ}
use Rattle.morphology.specs.Answers.{Answer, foreground, refused}
use Rattle.refusals.specs.declared.Refusal.{Refusal}
use Rattle.refusals.specs.declared.Refusal.TheVariants.{Element, Labels, Lengths, Limit, Map, Mask, Padding, Rest, Room, Sides, Stream}

-- the row's number
abbrev pub number_of : Refusal → ℕ
number_of Sides = 1
number_of Element = 2
number_of Lengths = 3
number_of Padding = 4
number_of Labels = 5
number_of Mask = 6
number_of Limit = 7
number_of Room = 8
number_of Stream = 9
number_of Rest = 10
number_of Map = 11

-- what a test of rows says: the number of the row that refuses, 0 where none does
abbrev pub refusal_of : Result Unit Refusal → ℕ
refusal_of (Ok u) = 0
refusal_of (Err refusal) = number_of refusal

-- an operation's answer as 01 numbers it: a refusal's number alone, or the values of what it answers
abbrev pub answer_by : {T : Type 0} → (T → Answer) → Result T Refusal → Answer
answer_by values (Ok v) = values v
answer_by values (Err refusal) = refused (number_of refusal)

-- of an operation that answers an area, or the points left
abbrev pub answer_of : Result ℕ Refusal → Answer
answer_of r = answer_by foreground r
