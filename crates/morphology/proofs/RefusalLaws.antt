-- The table of refusals: what a call that is not refused has shown, what is enough not to be refused, what each row answers.
use mathlib.Core.Bool.{Bool, ◌&&◌, ◌||◌, cond, false, not, true}
use mathlib.Core.List.{List, [], ◌++◌, ◌∷◌}
use mathlib.Core.Path.{◌∙◌, ◌≡◌, ap, ap₂, refl, subst, sym}
use Prim.Native.Nat.{◌*◌, ◌≤◌, suc, zero, ℕ}
use native.Mathlib.Nat.{suc-ne-zero}
use native.Mathlib.Omega.{arith}
use borrow.Author.Tests.{eq-eqb, eqb-true, le-ltb, ne_eqb, not-false}
use lib.Dec.{T, T_not, eqb, leb, leb→le}
use lib.ListN.{length}
use Rattle.morphology.specs.Answers.{Outcome, outcome, refused}
use Rattle.morphology.specs.Element.{is_element, offsets}
use Rattle.morphology.specs.Image.{is_clean, plane_bytes}
use Rattle.morphology.specs.Labels.{max_label}
use Rattle.morphology.specs.Lists.{every_of, some_of}
use Rattle.morphology.specs.Operations.{decompose_rows, minimise_rows, reconstruct_rows}
use Rattle.morphology.specs.Refusals.{Row, checked, first_refusal, image_rows, is_side, is_wild, max_side, not_places, not_plane, row1, row2, row3, row4, row5, row7, short_work, unless}
use Rattle.morphology.proofs.TestLaws.{and_l, and_r}

pub or-out-false : (a b : Bool) → (a || b) ≡ false → (a ≡ false) × (b ≡ false)
or-out-false true b e = absurd (subst T e tt)
or-out-false false b e = (refl, e)

pub or_in-false : (a b : Bool) → a ≡ false → b ≡ false → (a || b) ≡ false
or_in-false a b p q = ap₂ (λ (x y : Bool). x || y) p q

pub or-hit : (a b : Bool) → a ≡ true → (a || b) ≡ true
or-hit a b p = ap (λ (x : Bool). x || b) p

pub not-T-false : (b : Bool) → T b → not b ≡ false
not-T-false true t = refl
not-T-false false t = absurd t

pub T_of-not : (b : Bool) → not b ≡ false → T b
T_of-not true e = tt
T_of-not false e = subst T e tt

pub false_of : (b : Bool) → (T b → ⊥) → b ≡ false
false_of true f = absurd (f tt)
false_of false f = refl

-- a side is a label, so that every size below it has one
pub side-label : (n : ℕ) → n ≤ max_side → n ≤ max_label
side-label n h = omega arith

-- ---- the first row that holds

pub first-hit : (n : ℕ) (t : Bool) (rows : List Row) → t ≡ true → first_refusal ((n, t) ∷ rows) ≡ n
unfolding first_refusal
first-hit n t rows q = ap (λ (b : Bool). cond b n (first_refusal rows)) q

pub first_miss : (n : ℕ) (t : Bool) (rows : List Row) → t ≡ false → first_refusal ((n, t) ∷ rows) ≡ first_refusal rows
unfolding first_refusal
first_miss n t rows q = ap (λ (b : Bool). cond b n (first_refusal rows)) q

pub first-none : first_refusal [] ≡ 0
unfolding first_refusal
first-none = refl

-- where none holds, neither the first nor another
first_out : (n : ℕ) (t : Bool) (rows : List Row) → T (not (eqb n 0)) → first_refusal ((n, t) ∷ rows) ≡ 0 → (t ≡ false) × (first_refusal rows ≡ 0)
unfolding first_refusal
first_out n true rows h q = absurd (T_not (eqb n 0) h (subst (λ (m : ℕ). T (eqb m 0)) (sym q) tt))
first_out n false rows h q = (refl, q)

-- no row holds
abbrev pub Clear : List Row → Type 0
Clear [] = Unit {0}
Clear (r ∷ rows) = (r.1 ≡ false) × Clear rows

pub first_clear : (rows : List Row) → Clear rows → first_refusal rows ≡ 0
unfolding first_refusal
first_clear [] c = refl
first_clear (r ∷ rows) c = ap (λ (b : Bool). cond b r.0 (first_refusal rows)) c.0 ∙ first_clear rows c.1

-- one row alone, its test as the code has it
pub first-row : (n : ℕ) {s t : Bool} {r : ℕ} → s ≡ t → r ≡ first_refusal ((n, s) ∷ []) → r ≡ first_refusal ((n, t) ∷ [])
first-row n e q = q ∙ ap (λ (b : Bool). first_refusal ((n, b) ∷ [])) e

-- ---- rows in two parts

-- no row has the number 0
abbrev pub numbered : List Row → Bool
numbered rows = every_of (λ r. not (eqb r.0 0)) rows

-- where none is refused, no row holds
pub clear-out : (rows : List Row) → T (numbered rows) → first_refusal rows ≡ 0 → Clear rows
clear-out [] h z = tt
clear-out ((n, t) ∷ rows) h z =
    let r = first_out n t rows (and_l (not (eqb n 0)) (numbered rows) h) z in (r.0, clear-out rows (and_r (not (eqb n 0)) (numbered rows) h) r.1)

pub first_append : (xs ys : List Row) → T (numbered xs) → first_refusal (xs ++ ys) ≡ cond (eqb (first_refusal xs) 0) (first_refusal ys) (first_refusal xs)
unfolding first_refusal
first_append [] ys h = refl
first_append ((n, true) ∷ xs) ys h = sym (ap (λ (b : Bool). cond b (first_refusal ys) n) (false_of (eqb n 0) (T_not (eqb n 0) (and_l (not (eqb n 0)) (numbered xs) h))))
first_append ((n, false) ∷ xs) ys h = first_append xs ys (and_r (not (eqb n 0)) (numbered xs) h)

-- a answers the first part, b the second
pub first_both : (xs ys : List Row) (a b : ℕ) {r : ℕ} → T (numbered xs) → a ≡ first_refusal xs → b ≡ first_refusal ys → r ≡ cond (eqb a 0) b a → r ≡ first_refusal (xs ++ ys)
first_both xs ys a b h p q e = e ∙ ap₂ (λ (m n : ℕ). cond (eqb m 0) n m) p q ∙ sym (first_append xs ys h)

pub then-first : (a b : ℕ) → (a ≡ 0 → ⊥) → a ≡ cond (eqb a 0) b a
then-first a b f = sym (ap (λ (t : Bool). cond t b a) (ne_eqb a 0 f))

pub then-second : (a b : ℕ) → a ≡ 0 → b ≡ cond (eqb a 0) b a
then-second a b e = sym (ap (λ (t : Bool). cond t b a) (eq-eqb a 0 e))

-- refused by the first part; not refused by it
pub first-refused : (xs ys : List Row) (a : ℕ) → T (numbered xs) → a ≡ first_refusal xs → (a ≡ 0 → ⊥) → a ≡ first_refusal (xs ++ ys)
first-refused xs ys a h p f = first_both xs ys a (first_refusal ys) h p refl (then-first a (first_refusal ys) f)

pub first_passed : (xs ys : List Row) (a b : ℕ) → T (numbered xs) → a ≡ first_refusal xs → a ≡ 0 → b ≡ first_refusal ys → b ≡ first_refusal (xs ++ ys)
first_passed xs ys a b h p z q = first_both xs ys a b h p q (then-second a b z)

-- ---- the outcome by its rows

-- an outcome that is not refused is the success
pub unless-out : (r : ℕ) (l : List (List ℕ)) (o : Outcome) → (unless r l o).answer.refusal ≡ 0 → unless r l o ≡ o
unless-out zero l o e = refl
unless-out (suc r) l o e = absurd (suc-ne-zero r e)

pub unless-zero : (r : ℕ) (l : List (List ℕ)) (o : Outcome) → (unless r l o).answer.refusal ≡ 0 → r ≡ 0
unless-zero zero l o e = refl
unless-zero (suc r) l o e = absurd (suc-ne-zero r e)

pub unless_in : (r : ℕ) (l : List (List ℕ)) (o : Outcome) → r ≡ 0 → unless r l o ≡ o
unless_in r l o e = ap (λ (n : ℕ). unless n l o) e

-- a refusal answers its number and changes nothing
pub unless-refused : (r : ℕ) (l : List (List ℕ)) (o : Outcome) → (r ≡ 0 → ⊥) → unless r l o ≡ outcome (refused r) l
unless-refused zero l o f = absurd (f refl)
unless-refused (suc r) l o f = refl

pub checked_refused : (rows : List Row) (lent : List (List ℕ)) (o : Outcome) (r : ℕ) → r ≡ first_refusal rows → (r ≡ 0 → ⊥)
    → outcome (refused r) lent ≡ checked rows lent o
checked_refused rows lent o r q f = sym (unless-refused r lent o f) ∙ ap (λ (k : ℕ). unless k lent o) q

-- ---- one row at a time

pub plane-fits : (a b : ℕ) → a ≡ b → not (eqb a b) ≡ false
plane-fits a b e = ap not (eq-eqb a b e)

pub fits-plane : (a b : ℕ) → not (eqb a b) ≡ false → a ≡ b
fits-plane a b e = eqb-true a b (not-false (eqb a b) e)

-- no length of a call is wrong
abbrev pub NoneWrong : List Bool → Type 0
NoneWrong [] = Unit {0}
NoneWrong (b ∷ wrong) = (b ≡ false) × NoneWrong wrong

-- that is what row 3 shows, and what is enough for it
pub lengths-out : (wrong : List Bool) → (row3 wrong).1 ≡ false → NoneWrong wrong
lengths-out [] e = tt
lengths-out (b ∷ wrong) e = let p = or-out-false b (some_of (λ t. t) wrong) e in (p.0, lengths-out wrong p.1)

pub lengths_in : (wrong : List Bool) → NoneWrong wrong → (row3 wrong).1 ≡ false
lengths_in [] f = refl
lengths_in (b ∷ wrong) f = or_in-false b (some_of (λ t. t) wrong) f.0 (lengths_in wrong f.1)

-- row 3 of three, joined as the code has it
pub lengths-joined : (a b c : Bool) → (a || (b || c)) ≡ some_of (λ t. t) (a ∷ b ∷ c ∷ [])
lengths-joined true b c = refl
lengths-joined false true c = refl
lengths-joined false false true = refl
lengths-joined false false false = refl

-- row 3 of the others where the first is not wrong
pub lengths-rest : (a b c : Bool) (rows : List Row) → a ≡ false → first_refusal ((3, b) ∷ (3, c) ∷ rows) ≡ first_refusal (row3 (a ∷ b ∷ c ∷ []) ∷ rows)
unfolding first_refusal
lengths-rest true b c rows p = absurd (subst T p tt)
lengths-rest false true c rows p = refl
lengths-rest false false true rows p = refl
lengths-rest false false false rows p = refl

-- ---- row 1

pub side_le : (n : ℕ) → T (is_side n) → n ≤ max_side
side_le n t = leb→le n max_side (and_r (leb 1 n) (leb n max_side) t)

-- ---- an image that rows 1, 3 and 4 let pass

pub record Good (W H : ℕ) (image : List ℕ) : Type 0 where
  pub sides : T (is_side W && is_side H)
  pub size : length image ≡ plane_bytes W H
  pub clean : T (is_clean W H image)

pub good : (W H : ℕ) (image : List ℕ) → first_refusal (image_rows W H image) ≡ 0 → Good W H image
good W H image z =
    let c = clear-out (image_rows W H image) tt z in
    record {
      sides = T_of-not (is_side W && is_side H) c.0;
      size = fits-plane (length image) (plane_bytes W H) (lengths-out (not_plane W H image ∷ []) c.1.0).0;
      clean = T_of-not (is_clean W H image) c.1.1.0;
    }

pub image-passes : (W H : ℕ) (image : List ℕ) → Good W H image → first_refusal (image_rows W H image) ≡ 0
image-passes W H image g =
    first_clear (image_rows W H image) (
      not-T-false (is_side W && is_side H) g.sides,
      (lengths_in (not_plane W H image ∷ []) (plane-fits (length image) (plane_bytes W H) g.size, tt), (not-T-false (is_clean W H image) g.clean, tt)),
    )

-- ---- what is enough for a decomposition, a reconstruction and a minimisation

-- sides, an element and lengths that pass leave the rows after theirs
shape-rows : (W H e : ℕ) (wrong : List Bool) (rest : List Row) → T (is_side W && is_side H) → T (is_element e) → NoneWrong wrong
    → first_refusal (row1 W H ∷ row2 e ∷ row3 wrong ∷ rest) ≡ first_refusal rest
shape-rows W H e wrong rest s el l =
    first_miss 1 (not (is_side W && is_side H)) (row2 e ∷ row3 wrong ∷ rest) (not-T-false (is_side W && is_side H) s)
    ∙ first_miss 2 (not (is_element e)) (row3 wrong ∷ rest) (not-T-false (is_element e) el) ∙ first_miss 3 (row3 wrong).1 rest (lengths_in wrong l)

pub decompose-passes : (W H e : ℕ) (image m w : List ℕ) → Good W H image → T (is_element e) → length m ≡ W * H → 3 * plane_bytes W H ≤ length w
    → first_refusal (decompose_rows W H e image m w) ≡ 0
decompose-passes W H e image m w g el hm hw =
    shape-rows W H e (not_plane W H image ∷ not_places W H m ∷ short_work W H w ∷ []) (row4 W H image ∷ []) g.sides el
    (plane-fits (length image) (plane_bytes W H) g.size, (plane-fits (length m) (W * H) hm, (le-ltb (length w) (3 * plane_bytes W H) hw, tt)))
    ∙ first_clear (row4 W H image ∷ []) (not-T-false (is_clean W H image) g.clean, tt)

module _ (W H e : ℕ) (m : List ℕ) (s : T (is_side W && is_side H)) (el : T (is_element e)) (hm : length m ≡ W * H) where
  -- the map is left to test, and the cut
  pub reconstruct-rows : (k : ℕ) (target w : List ℕ) → length target ≡ plane_bytes W H → 3 * plane_bytes W H ≤ length w
      → first_refusal (reconstruct_rows W H e k m target w) ≡ first_refusal (row5 W H (offsets e) m ∷ row7 k ∷ [])
  reconstruct-rows k target w ht hw =
      shape-rows W H e (not_places W H m ∷ not_plane W H target ∷ short_work W H w ∷ []) (row5 W H (offsets e) m ∷ row7 k ∷ []) s el
      (plane-fits (length m) (W * H) hm, (plane-fits (length target) (plane_bytes W H) ht, (le-ltb (length w) (3 * plane_bytes W H) hw, tt)))

  pub minimise-rows : (w c : List ℕ) → 3 * plane_bytes W H ≤ length w → length c ≡ W * H
      → first_refusal (minimise_rows W H e m w c) ≡ first_refusal (row5 W H (offsets e) m ∷ [])
  minimise-rows w c hw hc =
      shape-rows W H e (not_places W H m ∷ short_work W H w ∷ not_places W H c ∷ []) (row5 W H (offsets e) m ∷ []) s el
      (plane-fits (length m) (W * H) hm, (le-ltb (length w) (3 * plane_bytes W H) hw, (plane-fits (length c) (W * H) hc, tt)))

  pub reconstruct-passes : (k : ℕ) (target w : List ℕ) → length target ≡ plane_bytes W H → 3 * plane_bytes W H ≤ length w → is_wild W H (offsets e) m ≡ false
      → k ≤ max_side → first_refusal (reconstruct_rows W H e k m target w) ≡ 0
  reconstruct-passes k target w ht hw tame h =
      reconstruct-rows k target w ht hw ∙ first_clear (row5 W H (offsets e) m ∷ row7 k ∷ []) (tame, (le-ltb max_side k h, tt))
