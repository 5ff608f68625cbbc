-- The formula of 01, and its hits as 02 moves them, with "for all" and "exists", for the claims to say what labels and images are.
-- A set is a property of points.
-- Definitions only; proofs/FormulaLaws.antt shows that they are what the tests of morphology/specs compute.
use Rattle.std.specs.Prelude.{List, ◌≡◌, ◌%◌, ◌*◌, ◌+◌, ◌/◌, ◌<◌, ◌≤◌, suc, zero, ℕ, T, pos, get_or}
use Rattle.std.proofs.Math.IntN.{sub_ℕ}
use Rattle.morphology.specs.Element.{bit}
use Rattle.morphology.specs.Image.{pixel}
use Rattle.morphology.specs.Point.{Point, ◌⊞◌, at, origin}

abbrev pub Set : Type 1
Set = Point → Type 0

-- ---- the sheet and the element

-- the foreground of an image of W by H: a pixel of the frame that is 1
abbrev pub Ink : ℕ → ℕ → List ℕ → Set
Ink W H image z = (x y : ℕ) × (x < W) × (y < H) × T (pixel W image x y) × (z ≡ at (pos x) (pos y))

-- an element's points: bit i = 5(dy + 2) + (dx + 2) stands for (dx, dy)
abbrev pub Offset : ℕ → Set
Offset e b = (i : ℕ) × (i < 25) × T (bit e i) × (b ≡ at (sub_ℕ (i % 5) 2) (sub_ℕ (i / 5) 2))

-- the frame's points
abbrev pub Within : ℕ → ℕ → Set
Within W H z = (x y : ℕ) × (x < W) × (y < H) × (z ≡ at (pos x) (pos y))

-- those of one number of a mask: bit i = 3(dy + 1) + (dx + 1) stands for (dx, dy)
abbrev pub MaskOffset : ℕ → Set
MaskOffset m b = (i : ℕ) × (i < 9) × T (bit m i) × (b ≡ at (sub_ℕ (i % 3) 1) (sub_ℕ (i / 3) 1))

-- ---- the formula

-- erosion: every z with z + b in X for all b in B
abbrev pub Eroded : Set → Set → Set
Eroded B X z = (b : Point) → B b → X (z ⊞ b)

-- dilation: every x + b
abbrev pub Dilated : Set → Set → Set
Dilated B X z = (x b : Point) × X x × B b × (z ≡ x ⊞ b)

-- 0B is the origin alone, (n + 1)B is nB dilated by B
unfoldable pub Fold : Set → ℕ → Set
Fold B zero c = c ≡ origin
Fold B (suc n) c = Dilated B (Fold B n) c

-- a point of size n: one of X(n), which is X eroded by nB, and not one of the opening of X(n) by B
abbrev pub HasSize : Set → Set → ℕ → Set
HasSize B X n z = Eroded (Fold B n) X z × (Dilated B (Eroded B (Eroded (Fold B n) X)) z → ⊥)

-- what a map of W by H covers from cut k on: some place has label n + 1 with n at least k, and z is one of nB moved to it
abbrev pub Covered : ℕ → ℕ → Set → ℕ → List ℕ → Set
Covered W H B k labels z =
    (x y n : ℕ) × (c : Point) × (x < W) × (y < H) × (get_or labels (y * W + x) 0 ≡ suc n) × (k ≤ n) × Fold B n c × (z ≡ at (pos x) (pos y) ⊞ c)

-- a map is wild: some point that it covers from cut 0 on, so by points of whatever size, lies off the frame
abbrev pub Wild : ℕ → ℕ → Set → List ℕ → Type 0
Wild W H B labels = (z : Point) × Covered W H B 0 labels z × (Within W H z → ⊥)

-- ---- hit-or-miss

-- all points of the 3 by 3 neighbourhood, which the mask 511 has, lie on the frame
abbrev pub Judged : ℕ → ℕ → Set
Judged W H z = Eroded (MaskOffset 511) (Within W H) z

-- judged, and all of the mask's foreground falls on X, all of its background beside it
abbrev pub Hit : ℕ → ℕ → ℕ × ℕ → Set → Set
Hit W H m X z = Judged W H z × Eroded (MaskOffset m.0) X z × Eroded (MaskOffset m.1) (λ p. X p → ⊥) z
