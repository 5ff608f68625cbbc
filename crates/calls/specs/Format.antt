-- A call and its reply as bytes. Definitions only; proofs/FormatLaws.antt has the laws.
use Rattle.std.specs.Prelude.{not, List, [], ◌++◌, ◌∷◌, ◌*◌, ℕ, eqb, get_or, length}
use Rattle.morphology.specs.Answers.{Outcome, outcome}
use Rattle.morphology.specs.Refusals.{checked, row3}
use Rattle.numbers.specs.Numbers.{counter_bytes, counters_of, four_bytes, number_at}
use Rattle.calls.specs.Called.{called}
use Rattle.calls.specs.Replies.{reply_of}
use Rattle.calls.specs.declared.Reply.{Reply}

-- the 14 bytes of an answer: refusal, number of values, three values
abbrev pub reply_bytes : Reply → List ℕ
reply_bytes r = r.refusal ∷ r.count ∷ (four_bytes r.first ++ (four_bytes r.second ++ four_bytes r.third))

-- the call of a header, which has the operation, w, h, a and b
abbrev pub headed : (header x y z counters : List ℕ) → Outcome
headed s x y z counters = called (get_or s 0 0) (number_at s 1) (number_at s 5) (number_at s 9) (number_at s 13) x y z counters

-- an outcome with counters, and their bytes before them
abbrev pub in_bytes : Outcome → Outcome
in_bytes o = let c = get_or o.lent 2 [] in outcome o.answer (get_or o.lent 0 [] ∷ get_or o.lent 1 [] ∷ counter_bytes c ∷ c ∷ [])

-- the same call with its counters in the bytes of c; c that is not two bytes for each counter is a buffer of a wrong length, and no call is made
abbrev pub called_in_bytes : (header x y z c counters : List ℕ) → Outcome
called_in_bytes s x y z c counters =
    checked (row3 (not (eqb (length c) (2 * length counters)) ∷ []) ∷ []) (y ∷ z ∷ c ∷ counters ∷ []) (in_bytes (headed s x y z (counters_of c)))

-- a reply: the bytes of the answer, then the buffers as they are after the call, y, z and c; the counters are not sent
abbrev pub reply : Outcome → List (List ℕ)
reply o = reply_bytes (reply_of o.answer) ∷ o.lent

unfoldable pub replied : (header x y z c counters : List ℕ) → List (List ℕ)
replied s x y z c counters = reply (called_in_bytes s x y z c counters)
