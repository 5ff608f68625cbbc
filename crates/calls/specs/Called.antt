-- The operations of 01 and 02 by number, and one dilation, over one list of arguments. Definitions only; proofs/CallLaws.antt has the laws.
use Rattle.std.specs.Prelude.{List, [], ◌++◌, ◌∷◌, ℕ, get_or}
use Rattle.std.proofs.Math.Option.{none, some}
use Rattle.coding.specs.Coding.{encoded}
use Rattle.morphology.specs.Answers.{Outcome, outcome}
use Rattle.morphology.specs.Operations.{decomposed, eroded, hit_or_miss, minimised, opened, reconstructed, thin}
use Rattle.dilation.specs.Dilation.{dilated}
use Rattle.reading.specs.Decoding.{decoded}

-- an outcome, and buffers that the operation does not have: they stay as they are
abbrev pub beside : Outcome → List (List ℕ) → Outcome
beside o others = outcome o.answer (o.lent ++ others)

-- the operations 0 to 9. x is read; y, z and c are lent, and stand in this order in each outcome
abbrev pub operations : (W H a b : ℕ) → (x y z c : List ℕ) → List Outcome
operations W H a b x y z c =
    beside (eroded W H a b x y z) (c ∷ [])
    ∷ beside (opened W H a b x y z) (c ∷ [])
    ∷ beside (decomposed W H a x y z) (c ∷ [])
    ∷ beside (reconstructed W H a b x y z) (c ∷ [])
    ∷ minimised W H a y z c
    ∷ beside (hit_or_miss W H (a, b) x y) (z ∷ c ∷ [])
    ∷ beside (thin W H y z) (c ∷ [])
    ∷ beside (encoded W H a x y z) (c ∷ [])
    ∷ beside (decoded W H a (some b) x y z) (c ∷ [])
    ∷ beside (decoded W H a none x y z) (c ∷ [])
    ∷ []

-- the operation with a number; any number above 9 is a dilation
unfoldable pub called : (op W H a b : ℕ) → (x y z c : List ℕ) → Outcome
called op W H a b x y z c = get_or (operations W H a b x y z c) op (beside (dilated W H a x y z) (c ∷ []))
