-- An answer as numbers. Definitions only; proofs/CallLaws.antt has the laws.
use Rattle.std.specs.Prelude.{[], ◌∷◌, get_or, length, take}
use Rattle.morphology.specs.Answers.{Answer}
use Rattle.calls.specs.declared.Reply.{Reply}

-- what a reply says: the refusal, and so many of its values
abbrev pub answer_of : Reply → Answer
answer_of r = record { refusal = r.refusal; values = take r.count (r.first ∷ r.second ∷ r.third ∷ []) }

-- an answer of at most three values as a reply; values that are not there are 0
abbrev pub reply_of : Answer → Reply
reply_of a = record {
  refusal = a.refusal;
  count = length a.values;
  first = get_or a.values 0 0;
  second = get_or a.values 1 0;
  third = get_or a.values 2 0;
}
