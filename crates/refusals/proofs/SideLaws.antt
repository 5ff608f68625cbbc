-- The shared tests of the table of refusals, as the code has them.
use mathlib.Core.Bool.{Bool, ◌&&◌, false, not, true}
use mathlib.Core.List.{List, ◌∷◌}
use mathlib.Core.Path.{◌∙◌, ◌≡◌, ap, ap₂, refl, sym}
use Prim.Native.Nat.{◌%◌, ◌*◌, ◌+◌, ◌-◌, ◌/◌, ◌<◌, ◌^◌, ◌≤◌, ℕ}
use native.Mathlib.Decide.{dec_le}
use native.Mathlib.Nat.{mul-le-mul_right}
use native.Mathlib.Omega.{arith}
use borrow.Author.Tests.{eq-eqb, le-leb, le-ltb, lt-leb, lt-ltb, ne_eqb}
use lib.Count.{ones}
use lib.Dec.{T, leb, leb→le, ltb}
use lib.ListN.{length}
use Rattle.morphology.specs.Element.{bit, is_element, offsets}
use Rattle.morphology.specs.Image.{stride}
use Rattle.morphology.specs.Refusals.{Row, first_refusal, is_side, max_side, row1, row2, row3}
use Rattle.morphology.proofs.BitLaws.{odd}
use Rattle.morphology.proofs.ElementLaws.{offsets-count}
use Rattle.morphology.proofs.RefusalLaws.{Clear, NoneWrong, T_of-not, clear-out, lengths-out, numbered}
use Rattle.morphology.proofs.TestLaws.{and_l, and_r}
use Rattle.raster.specs.Frames.{Frame}

-- ---- row 1

-- what row 1 leaves
pub record Sides (w h : ℕ) : Type 0 where
  pub wide : 1 ≤ w
  pub across : w ≤ max_side
  pub high : 1 ≤ h
  pub down : h ≤ max_side

pub sides_of : (w h : ℕ) → (row1 w h).1 ≡ false → Sides w h
sides_of w h e =
    let t = T_of-not (is_side w && is_side h) e in
    let a = and_l (is_side w) (is_side h) t in
    let b = and_r (is_side w) (is_side h) t in
    record {
      wide = leb→le 1 w (and_l (leb 1 w) (leb w max_side) a);
      across = leb→le w max_side (and_r (leb 1 w) (leb w max_side) a);
      high = leb→le 1 h (and_l (leb 1 h) (leb h max_side) b);
      down = leb→le h max_side (and_r (leb 1 h) (leb h max_side) b);
    }

pub sides-frame : {w h : ℕ} → Sides w h → Frame w h ((w + 7) / 8)
unfolding stride
sides-frame {w} {h} s = let a = s.across in let b = s.down in record { wide = s.wide; across = omega arith; down = omega arith; row = refl }

-- ---- rows 1, 2 and 3

-- what they show of a call that is not refused, by the tests of row 3, and the rows after them
pub record Shaped (w h e : ℕ) (wrong : List Bool) (rows : List Row) : Type 0 where
  pub sides : Sides w h
  pub element : T (is_element e)
  pub lengths : NoneWrong wrong
  pub rest : Clear rows

pub shaped : (w h e : ℕ) (wrong : List Bool) (rows : List Row) → T (numbered rows) → 0 ≡ first_refusal (row1 w h ∷ row2 e ∷ row3 wrong ∷ rows) → Shaped w h e wrong rows
shaped w h e wrong rows t q =
    let c = clear-out (row1 w h ∷ row2 e ∷ row3 wrong ∷ rows) t (sym q) in
    record { sides = sides_of w h c.0; element = T_of-not (is_element e) c.1.0; lengths = lengths-out wrong c.1.1.0; rest = c.1.1.1 }

-- ---- row 3, of any sides

pub plane_lt : (w h : ℕ) → w < 2 ^ 32 → h < 2 ^ 32 → h * ((w + 7) / 8) < 2 ^ 61
plane_lt w h p q = let l : h ≤ 2 ^ 32 - 1 = omega arith in omega (arith, mul-le-mul_right ((w + 7) / 8) l)

-- ---- row 2

pub element-high : (e : ℕ) → 2 ^ 25 ≤ e → true ≡ (row2 e).1
unfolding is_element
element-high e h = sym (ap (λ (b : Bool). not (b && (bit e 12 && leb 2 (length (offsets e))))) (le-ltb e (2 ^ 25) h))

pub element-no-origin : (e : ℕ) → e < 2 ^ 25 → e / 4096 % 2 ≡ 0 → true ≡ (row2 e).1
unfolding is_element
element-no-origin e h o =
    sym (ap₂ (λ (a b : Bool). not (a && (b && leb 2 (length (offsets e))))) (lt-ltb e (2 ^ 25) h) (ne_eqb (e / 2 ^ 12 % 2) 1 (λ q. omega arith)))

not-leb : (a b : ℕ) → ltb a b ≡ not (leb b a)
not-leb a b = by (dec_le b a)
  where
    by : Dec (b ≤ a) → ltb a b ≡ not (leb b a)
    by (yes l) = le-ltb a b l ∙ sym (ap not (le-leb b a l))
    by (no l) = lt-ltb a b (omega arith) ∙ sym (ap not (lt-leb b a (omega arith)))

pub element-count : (e : ℕ) → e < 2 ^ 25 → (e / 4096 % 2 ≡ 0 → ⊥) → ltb (ones e) 2 ≡ (row2 e).1
unfolding is_element
element-count e h o =
    not-leb (ones e) 2
    ∙ sym (ap₂ (λ (a b : Bool). not (a && (b && leb 2 (length (offsets e))))) (lt-ltb e (2 ^ 25) h) (eq-eqb (e / 2 ^ 12 % 2) 1 (odd (e / 4096) o))
    ∙ ap (λ (n : ℕ). not (leb 2 n)) (offsets-count e h))
