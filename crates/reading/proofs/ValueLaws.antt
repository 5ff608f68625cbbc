-- Base-3 numerals: a number's digits stand for it, have no leading zero, and are the only such digits.
use mathlib.Core.Bool.{Bool, cond, false, true}
use mathlib.Core.List.{List, [], ◌++◌, ◌∷◌, append-nil}
use mathlib.Core.Path.{◌∙◌, ◌≡◌, ap, ap₂, refl, subst, sym}
use Prim.Native.Nat.{◌%◌, ◌*◌, ◌+◌, ◌/◌, ◌<◌, ◌≤◌, suc, zero, ℕ}
use native.Mathlib.Nat.{div-add-mod', mod-lt, not-suc-le-zero, zero-lt-suc}
use native.Mathlib.Omega.{arith}
use borrow.Author.Tests.{le-ltb, ltb-false}
use lib.Arith.{digits_div, digits_mod}
use lib.Dec.{T, ltb, ltb→lt, lt→ltb}
use Rattle.coding.specs.Symbols.{numeral, numeral_before}
use Rattle.coding.proofs.NumeralLaws.{enough, single}
use Rattle.reading.specs.Splits.{is_numeral, value, value_after}
use Rattle.morphology.specs.Lists.{every_of}
use Rattle.morphology.proofs.TestLaws.{and_in, and_l, and_r}

-- ---- the value of a number's digits

value_before : (f n : ℕ) (ds : List ℕ) → n < f → value_after 0 (numeral_before f n ds) ≡ value_after n ds
unfolding numeral_before value_after
value_before zero n ds h = absurd (not-suc-le-zero h)
value_before (suc f) n ds h = go (value_before f (n / 3) (n % 3 ∷ ds)) (ltb n 3) refl
  where
    go : (n / 3 < f → value_after 0 (numeral_before f (n / 3) (n % 3 ∷ ds)) ≡ value_after (n / 3) (n % 3 ∷ ds)) → (b : Bool) → ltb n 3 ≡ b
        → value_after 0 (cond b (n ∷ ds) (numeral_before f (n / 3) (n % 3 ∷ ds))) ≡ value_after n ds
    go rest true q = let e : 0 * 3 + n ≡ n = omega arith in ap (λ (k : ℕ). value_after k ds) e
    go rest false q =
        let l = ltb-false n 3 q in
        rest (omega arith) ∙ ap (λ (k : ℕ). value_after k ds) (div-add-mod' n 3)

pub value-numeral : (n : ℕ) → value (numeral n) ≡ n
unfolding numeral value_after
value-numeral n = value_before (suc n) n [] (omega arith)

-- ---- its digits are digits, and the first is no 0 but in 0 itself

abbrev pub are_digits : List ℕ → Bool
are_digits ds = every_of (λ d. ltb d 3) ds

digits-before : (f n : ℕ) (ds : List ℕ) → T (are_digits ds) → T (are_digits (numeral_before f n ds))
unfolding numeral_before
digits-before zero n ds t = t
digits-before (suc f) n ds t = go (digits-before f (n / 3) (n % 3 ∷ ds)) (ltb n 3) refl
  where
    go : (T (are_digits (n % 3 ∷ ds)) → T (are_digits (numeral_before f (n / 3) (n % 3 ∷ ds)))) → (b : Bool) → ltb n 3 ≡ b
        → T (are_digits (cond b (n ∷ ds) (numeral_before f (n / 3) (n % 3 ∷ ds))))
    go rest true q = and_in (ltb n 3) (are_digits ds) (subst T (sym q) tt) t
    go rest false q = rest (and_in (ltb (n % 3) 3) (are_digits ds) (lt→ltb (n % 3) 3 (mod-lt n (zero-lt-suc 2))) t)

pub digits-numeral : (n : ℕ) → T (are_digits (numeral n))
unfolding numeral
digits-numeral n = digits-before (suc n) n [] tt

leading : (f n : ℕ) (ds : List ℕ) → n < f → 0 < n → (d : ℕ) × (es : List ℕ) × (numeral_before f n ds ≡ suc d ∷ es)
unfolding numeral_before
leading zero n ds h l = absurd (not-suc-le-zero h)
leading (suc f) zero ds h l = absurd (not-suc-le-zero l)
leading (suc f) (suc n) ds h l = go (leading f (suc n / 3) (suc n % 3 ∷ ds)) (ltb (suc n) 3) refl
  where
    go : (suc n / 3 < f → 0 < suc n / 3 → (d : ℕ) × (es : List ℕ) × (numeral_before f (suc n / 3) (suc n % 3 ∷ ds) ≡ suc d ∷ es)) → (b : Bool) → ltb (suc n) 3 ≡ b
        → (d : ℕ) × (es : List ℕ) × (cond b (suc n ∷ ds) (numeral_before f (suc n / 3) (suc n % 3 ∷ ds)) ≡ suc d ∷ es)
    go rest true q = (n, ds, refl)
    go rest false q = let k = ltb-false (suc n) 3 q in rest (omega arith) (omega arith)

led : (d : ℕ) (es : List ℕ) → T (is_numeral (suc d ∷ es))
led d [] = tt
led d (e ∷ es) = tt

pub is-numeral : (n : ℕ) → T (is_numeral (numeral n))
unfolding numeral numeral_before
is-numeral zero = tt
is-numeral (suc n) =
    let r = leading (suc (suc n)) (suc n) [] (omega arith) (omega arith) in
    subst (λ (ds : List ℕ). T (is_numeral ds)) (sym r.2) (led r.0 r.1)

-- ---- no other digits without a leading zero stand for it

step : (f n d : ℕ) (ds : List ℕ) → 0 < n → d < 3 → numeral_before (suc f) (n * 3 + d) ds ≡ numeral_before f n (d ∷ ds)
unfolding numeral_before
step f n d ds h l =
    let m = n * 3 + d in
    let big : 3 ≤ m = omega arith in
    ap (λ (b : Bool). cond b (m ∷ ds) (numeral_before f (m / 3) (m % 3 ∷ ds))) (le-ltb m 3 big)
    ∙ ap₂ (λ (a b : ℕ). numeral_before f a (b ∷ ds)) (digits_div n l) (digits_mod n l)

before-value : (v : ℕ) (ds acc : List ℕ) (f g : ℕ) → T (are_digits ds) → 0 < v → value_after v ds < f → v < g
    → numeral_before f (value_after v ds) acc ≡ numeral_before g v (ds ++ acc)
unfolding value_after
before-value v [] acc f g t p h k = enough f g v acc h k
before-value v (d ∷ ds) acc f g t p h k =
    let m = v * 3 + d in
    let l = ltb→lt d 3 (and_l (ltb d 3) (are_digits ds) t) in
    before-value m ds acc f (suc m) (and_r (ltb d 3) (are_digits ds) t) (omega arith) h (omega arith)
    ∙ step m v d (ds ++ acc) p l ∙ enough m g v (d ∷ ds ++ acc) (omega arith) k

pub numeral-value : (ds : List ℕ) → T (are_digits ds) → T (is_numeral ds) → numeral (value ds) ≡ ds
unfolding numeral value_after
numeral-value [] t u = absurd u
numeral-value (d ∷ []) t u =
    let e : 0 * 3 + d ≡ d = omega arith in
    ap (λ (k : ℕ). numeral_before (suc k) k []) e ∙ single d d [] (ltb→lt d 3 (and_l (ltb d 3) true t))
numeral-value (zero ∷ e ∷ ds) t u = absurd u
numeral-value (suc d ∷ e ∷ ds) t u =
    let n = value_after (suc d) (e ∷ ds) in
    let q : 0 * 3 + suc d ≡ suc d = omega arith in
    let l = ltb→lt (suc d) 3 (and_l (ltb (suc d) 3) (are_digits (e ∷ ds)) t) in
    ap (λ (k : ℕ). numeral_before (suc (value_after k (e ∷ ds))) (value_after k (e ∷ ds)) []) q
    ∙ before-value (suc d) (e ∷ ds) [] (suc n) (suc (suc d)) (and_r (ltb (suc d) 3) (are_digits (e ∷ ds)) t) (zero-lt-suc d) (omega arith) (omega arith)
    ∙ single (suc d) (suc d) ((e ∷ ds) ++ []) l ∙ ap (λ (l : List ℕ). suc d ∷ l) (append-nil (e ∷ ds))
