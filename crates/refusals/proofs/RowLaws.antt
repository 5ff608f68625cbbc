-- What `?` makes of a test of rows: its refusal is the answer, or the rows after it are.
use mathlib.Core.List.{List, ◌++◌}
use mathlib.Core.Path.{◌∙◌, ◌≡◌, ap, refl}
use Prim.Native.Nat.{ℕ}
use native.Mathlib.Nat.{suc-ne-zero}
use lib.Dec.{T}
use Rattle.std.specs.Prelude.{Result}
use Rattle.std.specs.Result.{IsErrAnd}
use Rattle.std.proofs.lemmas.Result.{err_from_is_err_and}
use Rattle.morphology.specs.Answers.{Answer, Outcome, outcome, refused}
use Rattle.morphology.specs.Refusals.{Row, checked, first_refusal}
use Rattle.morphology.proofs.RefusalLaws.{checked_refused, first_passed, first-refused, numbered}
use Rattle.refusals.specs.Refusal.{answer_by, number_of, refusal_of}
use Rattle.refusals.specs.declared.Refusal.{Refusal}
use Rattle.refusals.specs.declared.Refusal.TheVariants.{Element, Labels, Lengths, Limit, Map, Mask, Padding, Rest, Room, Sides, Stream}

-- no row has the number 0
pub number_ne-zero : (x : Refusal) → number_of x ≡ 0 → ⊥
number_ne-zero Sides e = suc-ne-zero _ e
number_ne-zero Element e = suc-ne-zero _ e
number_ne-zero Lengths e = suc-ne-zero _ e
number_ne-zero Padding e = suc-ne-zero _ e
number_ne-zero Labels e = suc-ne-zero _ e
number_ne-zero Mask e = suc-ne-zero _ e
number_ne-zero Limit e = suc-ne-zero _ e
number_ne-zero Room e = suc-ne-zero _ e
number_ne-zero Stream e = suc-ne-zero _ e
number_ne-zero Rest e = suc-ne-zero _ e
number_ne-zero Map e = suc-ne-zero _ e

-- the first rows refuse: their refusal is that of all
pub rows_refused : (xs ys : List Row) (r : Result Unit Refusal) (x : Refusal) → T (numbered xs) → IsErrAnd r (λ y. y ≡ x) → number_of x ≡ first_refusal xs
    → refusal_of r ≡ first_refusal (xs ++ ys)
rows_refused xs ys r x h i q =
    let p = err_from_is_err_and r i in
    ap refusal_of p.1 ∙ ap number_of p.2 ∙ first-refused xs ys (number_of x) h q (number_ne-zero x)

-- they do not: the others answer
pub rows_passed : (xs ys : List Row) {r : ℕ} → T (numbered xs) → 0 ≡ first_refusal xs → r ≡ first_refusal ys → r ≡ first_refusal (xs ++ ys)
rows_passed xs ys h p q = first_passed xs ys 0 _ h p refl q

-- an operation whose rows refuse
pub call_refused : {A : Type 0} (values : A → Answer) (rows : List Row) (lent : List (List ℕ)) (o : Outcome) (r : Result A Refusal) (x : Refusal)
    → IsErrAnd r (λ y. y ≡ x) → number_of x ≡ first_refusal rows → outcome (answer_by values r) lent ≡ checked rows lent o
call_refused values rows lent o r x i q =
    let p = err_from_is_err_and r i in
    ap (λ (a : Result _ Refusal). outcome (answer_by values a) lent) p.1 ∙ ap (λ (y : Refusal). outcome (refused (number_of y)) lent) p.2
    ∙ checked_refused rows lent o (number_of x) q (number_ne-zero x)
