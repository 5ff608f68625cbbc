-- A call by its rows: the numbers of the rows rise, so that the first that holds is the lowest, and the outcome is refused exactly there.
use mathlib.Core.Bool.{Bool, ◌&&◌, cond, false, not, true}
use mathlib.Core.List.Memᴰ
use mathlib.Core.List.{List, Memᴰ, [], ◌++◌, ◌∷◌}
use mathlib.Core.Logic.{◌≢◌}
use mathlib.Core.Option.{Option, none, some}
use mathlib.Core.Path.{◌∙◌, ◌≡◌, ap, refl, subst, sym}
use Prim.Native.Nat.{◌<◌, ◌≤◌, suc, zero, ℕ}
use native.Mathlib.Omega.{arith}
use native.Mathlib.Nat.{suc-ne-zero}
use lib.Dec.{T, eqb, eqb→eq, ltb, ltb→lt, not_T}
use Rattle.claims.specs.Claims.{Holds, Refuses}
use Rattle.claims.specs.Codes.{RefusesLate}
use Rattle.morphology.specs.Answers.{Outcome, outcome, refused}
use Rattle.morphology.specs.Point.{Point}
use Rattle.morphology.specs.Refusals.{Row, checked, first_refusal, unless}
use Rattle.morphology.proofs.RefusalLaws.{first_append, numbered, then-first, then-second, unless-refused}
use Rattle.morphology.proofs.TestLaws.{and_in, and_l, and_r}
use Rattle.reading.specs.Maps.{Reading, code_rows, map_rows, read_map}

-- the numbers rise, the first from lo on
abbrev pub rises : ℕ → List Row → Bool
rises lo [] = true
rises lo (r ∷ rows) = ltb lo r.0 && rises r.0 rows

rises-first : (lo : ℕ) (r : Row) (rows : List Row) → T (rises lo (r ∷ rows)) → lo < r.0
rises-first lo r rows t = ltb→lt lo r.0 (and_l (ltb lo r.0) (rises r.0 rows) t)

rises-rest : (lo : ℕ) (r : Row) (rows : List Row) → T (rises lo (r ∷ rows)) → T (rises r.0 rows)
rises-rest lo r rows t = and_r (ltb lo r.0) (rises r.0 rows) t

above : (lo : ℕ) (rows : List Row) → T (rises lo rows) → {r : Row} → Memᴰ r rows → lo < r.0
above lo [] t m = absurd (Memᴰ.not-nil m)
above lo (q ∷ rows) t {r} (Memᴰ.head e) = let n : r.0 ≡ q.0 = ap (λ (r : Row). r.0) e in omega (arith, rises-first lo q rows t)
above lo (q ∷ rows) t (Memᴰ.tail m) = omega (arith, rises-first lo q rows t, above q.0 rows (rises-rest lo q rows t) m)

-- the first row that holds is one
first_holds : (rows : List Row) → first_refusal rows ≢ 0 → Holds (first_refusal rows) rows
unfolding first_refusal
first_holds [] h = absurd (h refl)
first_holds ((n, true) ∷ rows) h = Memᴰ.head refl
first_holds ((n, false) ∷ rows) h = Memᴰ.tail (first_holds rows h)

-- there is one, from lo on, where some row holds, and none is lower
first-least : (lo : ℕ) (rows : List Row) → T (rises lo rows) → (k : ℕ) → Holds k rows → (lo < first_refusal rows) × (first_refusal rows ≤ k)
unfolding first_refusal
first-least lo [] t k m = absurd (Memᴰ.not-nil m)
first-least lo ((n, true) ∷ rows) t k (Memᴰ.head e) = let q : k ≡ n = ap (λ (r : Row). r.0) e in (rises-first lo (n, true) rows t, omega arith)
first-least lo ((n, true) ∷ rows) t k (Memᴰ.tail m) = let h = above n rows (rises-rest lo (n, true) rows t) m in (rises-first lo (n, true) rows t, omega arith)
first-least lo ((n, false) ∷ rows) t k (Memᴰ.head e) = absurd (subst T (ap (λ (r : Row). r.1) e) tt)
first-least lo ((n, false) ∷ rows) t k (Memᴰ.tail m) =
    let r = first-least n rows (rises-rest lo (n, false) rows t) k m in (omega (arith, rises-first lo (n, false) rows t), r.1)

-- an outcome answers the number of the first row that holds
pub unless_number : (n : ℕ) (lent : List (List ℕ)) (o : Outcome) → o.answer.refusal ≡ 0 → (unless n lent o).answer.refusal ≡ n
unless_number zero lent o q = q
unless_number (suc n) lent o q = refl

pub refuses : (rows : List Row) (lent : List (List ℕ)) (o : Outcome) → T (rises 0 rows) → o.answer.refusal ≡ 0 → Refuses rows lent (checked rows lent o)
refuses rows lent o t q =
    let n = first_refusal rows in
    let e = unless_number n lent o q in
    let some : (unless n lent o).answer.refusal ≢ 0 → n ≢ 0 = λ f z. f (e ∙ z) in
    record {
      refuses = λ k h. let l = first-least 0 rows t k h in ((λ z. omega (arith, e)), omega (arith, e));
      holds = λ f. subst (λ (k : ℕ). Holds k rows) (sym e) (first_holds rows (some f));
      unchanged = λ f. unless-refused n lent o (some f) ∙ ap (λ (k : ℕ). outcome (refused k) lent) (sym e);
    }

-- ---- with late rows

rises-left : (lo : ℕ) (rows late : List Row) → T (rises lo (rows ++ late)) → T (rises lo rows)
rises-left lo [] late t = tt
rises-left lo (r ∷ rows) late t =
    and_in (ltb lo r.0) (rises r.0 rows) (and_l (ltb lo r.0) (rises r.0 (rows ++ late)) t)
    (rises-left r.0 rows late (rises-rest lo r (rows ++ late) t))

pub rises_numbered : (lo : ℕ) (rows : List Row) → T (rises lo rows) → T (numbered rows)
rises_numbered lo [] t = tt
rises_numbered lo (r ∷ rows) t =
    and_in (not (eqb r.0 0)) (numbered rows)
    (not_T (eqb r.0 0) (λ z. let q = eqb→eq r.0 0 z in omega (arith, rises-first lo r rows t)))
    (rises_numbered r.0 rows (rises-rest lo r rows t))

-- a late row has the larger number
before : (lo : ℕ) (rows late : List Row) → T (rises lo (rows ++ late)) → {q r : Row} → Memᴰ q rows → Memᴰ r late → q.0 < r.0
before lo [] late t k m = absurd (Memᴰ.not-nil k)
before lo (p ∷ rows) late t {q} (Memᴰ.head e) m =
    let n : q.0 ≡ p.0 = ap (λ (r : Row). r.0) e in
    omega (arith, above p.0 (rows ++ late) (rises-rest lo p (rows ++ late) t) (Memᴰ.append_right rows m))
before lo (p ∷ rows) late t (Memᴰ.tail k) m = before p.0 rows late (rises-rest lo p (rows ++ late) t) k m

-- no row has the number of one that may follow
pub first-not : (rows : List Row) (k : ℕ) → T (rises 0 (rows ++ ((k, true) ∷ []))) → first_refusal rows ≢ k
first-not rows k t q =
    let l = above 0 (rows ++ ((k, true) ∷ [])) t (Memᴰ.append_right rows (Memᴰ.head refl)) in
    let h = first_holds rows (λ z. omega arith) in
    omega (arith, before 0 rows ((k, true) ∷ []) t h (Memᴰ.head refl))

-- an outcome answers the number of the first row of both parts that holds
late_number : (n k : ℕ) (lent tidied : List (List ℕ)) (o : Outcome) → o.answer.refusal ≡ 0
    → (unless n lent (unless k tidied o)).answer.refusal ≡ cond (eqb n 0) k n
late_number zero k lent tidied o q = unless_number k tidied o q ∙ then-second 0 k refl
late_number (suc n) k lent tidied o q = then-first (suc n) k (suc-ne-zero n)

pub refuses_late : (rows late : List Row) (lent tidied : List (List ℕ)) (o : Outcome) → T (rises 0 (rows ++ late)) → o.answer.refusal ≡ 0
    → RefusesLate rows late lent tidied (checked rows lent (checked late tidied o))
refuses_late rows late lent tidied o t q = record {
  refuses = λ k h. let l = first-least 0 (rows ++ late) t k h in ((λ z. omega (arith, e)), omega (arith, e));
  holds = λ f. subst (λ (k : ℕ). Holds k (rows ++ late)) (sym e) (first_holds (rows ++ late) (λ z. f (e ∙ z)));
  unchanged = λ h. first (first_refusal rows) refl h;
  tidy = λ h. second (first_refusal rows) refl h;
}
  where
    left : T (rises 0 rows)
    left = rises-left 0 rows late t

    k : ℕ
    k = first_refusal late

    after : ℕ → Outcome
    after n = unless n lent (checked late tidied o)

    e : (after (first_refusal rows)).answer.refusal ≡ first_refusal (rows ++ late)
    e = late_number (first_refusal rows) k lent tidied o q ∙ sym (first_append rows late (rises_numbered 0 rows left))

    first : (n : ℕ) → first_refusal rows ≡ n → Holds (after n).answer.refusal rows → after n ≡ outcome (refused (after n).answer.refusal) lent
    first zero p h = absurd (omega (arith, (first-least 0 rows left (after 0).answer.refusal h).0))
    first (suc n) p h = refl

    second : (n : ℕ) → first_refusal rows ≡ n → Holds (after n).answer.refusal late → after n ≡ outcome (refused (after n).answer.refusal) tidied
    second zero p h =
        let r = unless_number k tidied o q in
        let l = above 0 (rows ++ late) t (Memᴰ.append_right rows h) in
        unless-refused k tidied o (λ z. omega arith) ∙ ap (λ (j : ℕ). outcome (refused j) tidied) (sym r)
    second (suc n) p h =
        let l = before 0 rows late t (first_holds rows (λ z. suc-ne-zero n (sym p ∙ z))) h in
        absurd (omega arith)

-- the rows of a stream may follow row 3
pub code_rises : (W H : ℕ) (B : List Point) (n : Option ℕ) (bytes : List ℕ) → T (rises 3 (code_rows W H B n bytes))
unfolding code_rows
code_rises W H B none bytes = tt
code_rises W H B (some n) bytes = by (read_map W H B n bytes)
  where
    by : (o : Option Reading) → T (rises 3 (map_rows W H B n o))
    by none = tt
    by (some r) = tt
