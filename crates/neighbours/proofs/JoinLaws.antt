-- Planes to which pixels are joined.
use mathlib.Core.Bool.{Bool, not}
use mathlib.Core.List.{List}
use mathlib.Core.Path.{◌∙◌, ◌≡◌, ap, refl, sym}
use Prim.Native.Nat.{◌*◌, ◌+◌, ◌<◌, ℕ}
use Rattle.raster.specs.Rows.{join, row_bit}
use Rattle.neighbours.specs.Neighbours.{PlaneJoined}
use Rattle.neighbours.proofs.NeighbourLaws.{join_assoc, join_unit}

-- ---- planes

-- a plane to which nothing is joined
pub plane-kept : (t : Bool) (p r h : ℕ) (w : List ℕ) (f : ℕ → ℕ → Bool) → ((y x : ℕ) → y < h → f y x ≡ not t) → PlaneJoined t p r h w w f
plane-kept t p r h w f e = record {
  size = refl;
  before = λ j l. refl;
  after = λ j l. refl;
  pixels = λ y x ly lx. sym (ap (join t (row_bit w (8 * (p + y * r) + x))) (e y x ly) ∙ join_unit t (row_bit w (8 * (p + y * r) + x)));
}

-- f joined, then g
pub plane_more : (t : Bool) (p r h : ℕ) (u v w : List ℕ) (f g : ℕ → ℕ → Bool) → PlaneJoined t p r h u v f → PlaneJoined t p r h v w g
    → PlaneJoined t p r h u w (λ y x. join t (f y x) (g y x))
plane_more t p r h u v w f g a b = record {
  size = b.size ∙ a.size;
  before = λ j l. b.before j l ∙ a.before j l;
  after = λ j l. b.after j l ∙ a.after j l;
  pixels = λ y x l k.
      b.pixels y x l k ∙ ap (λ (c : Bool). join t c (g y x)) (a.pixels y x l k) ∙ join_assoc t (row_bit u (8 * (p + y * r) + x)) (f y x) (g y x);
}
