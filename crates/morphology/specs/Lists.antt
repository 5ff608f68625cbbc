-- Lists: tests of the members, counts, tables of a function. Definitions only; proofs/TestLaws.antt and CountLaws.antt have the laws.
use Rattle.std.specs.Prelude.{Bool, ◌&&◌, ◌||◌, cond, false, true, List, [], ◌∷◌, ◌+◌, max, suc, zero, ℕ}

module _ {ℓ} {A : Type ℓ} where
  -- every member passes
  abbrev pub every_of : (A → Bool) → List A → Bool
  every_of p [] = true
  every_of p (a ∷ l) = p a && every_of p l

  -- some member passes
  abbrev pub some_of : (A → Bool) → List A → Bool
  some_of p [] = false
  some_of p (a ∷ l) = p a || some_of p l

-- how many members pass
unfoldable pub count_of : {A : Type 0} → (A → Bool) → List A → ℕ
count_of p [] = 0
count_of p (a ∷ l) = cond (p a) 1 0 + count_of p l

-- the largest member, 0 if there is none
unfoldable pub greatest : List ℕ → ℕ
greatest [] = 0
greatest (k ∷ ks) = max (greatest ks) k

-- f i, f (i + 1), .. n of them
unfoldable pub tabulate : {A : Type 0} → (ℕ → A) → ℕ → ℕ → List A
tabulate f i zero = []
tabulate f i (suc n) = f i ∷ tabulate f (suc i) n

-- 0, 1, .. n - 1
abbrev pub up_to : ℕ → List ℕ
up_to n = tabulate (λ i. i) 0 n
