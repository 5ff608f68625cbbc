-- What a mask asks, and the plane of its hits: asked in the interior.
use mathlib.Core.Bool.{Bool, ◌&&◌, and_assoc, and_comm, cond, false, not, true}
use mathlib.Core.List.{List, ◌∷◌}
use mathlib.Core.Path.{◌∙◌, ◌≡◌, ap, ap₂, refl, sym}
use Prim.Native.Nat.{◌%◌, ◌*◌, ◌+◌, ◌-◌, ◌/◌, ◌<◌, ◌^◌, suc, ℕ}
use native.Mathlib.Omega.{arith}
use lib.Dec.{T, eqb, eqb→eq, leb, ltb, ltb→lt}
use lib.IntN.{pos}
use lib.ListN.{get_or, length}
use Rattle.morphology.specs.Element.{is_mask, mask_offsets, offset, offsets, offsets_below}
use Rattle.morphology.specs.Image.{image_set, is_clean, pack, stride}
use Rattle.morphology.specs.Lists.{every_of}
use Rattle.morphology.specs.Morphology.{erode}
use Rattle.morphology.specs.Point.{Point, ◌⊞◌, at}
use Rattle.morphology.specs.Thinning.{hit}
use Rattle.morphology.proofs.TestLaws.{upto, upto-out}
use Rattle.morphology.proofs.ThinningLaws.{asked, interior_box}
use Rattle.raster.specs.Rows.{PlaneIs, row_bit}
use Rattle.raster.specs.Frames.{Frame}
use Rattle.raster.proofs.PackLaws.{frame-bytes, pack-rows}
use Rattle.neighbours.specs.Neighbours.{PlaneJoined, near_bit, neighbours, source_bit}
use Rattle.planes.proofs.CentreLaws.{near_itself, origin_less}
use Rattle.neighbours.proofs.JoinLaws.{plane_more}
use Rattle.planes.proofs.SetLaws.{near-image, neighbours-set}
use Rattle.thinning.specs.Hits.{hits, inner, widened}
use Rattle.thinning.proofs.MaskLaws.{MaskParts, mask_of}

-- what is asked of the foreground joined, then what is asked of the background
pub both_asked : (r h fg bg : ℕ) (image u v w : List ℕ)
    → PlaneJoined false 0 r h u v (λ y x. neighbours false fg (source_bit false image r h) x y)
    → PlaneJoined false 0 r h v w (λ y x. neighbours false bg (source_bit true image r h) x y)
    → PlaneJoined false 0 r h u w (λ y x. hits fg bg (near_bit image r h) x y)
both_asked r h fg bg image u v w a b =
    plane_more false 0 r h u v w (λ y x. neighbours false fg (near_bit image r h) x y) (λ y x. neighbours false bg (λ X Y. not (near_bit image r h X Y)) x y) a b

-- ---- a mask's number as an element's

-- bit i of the element: bit (i % 5 - 1) of row (i / 5 - 1) of the mask, or none
placed : ℕ → ℕ → ℕ
placed m i = cond (inner (i % 5) && inner (i / 5)) (m / 2 ^ ((i / 5 - 1) * 3 + (i % 5 - 1)) % 2) 0
  where
    inner : ℕ → Bool
    inner k = leb 1 k && leb k 3

digit : (m : ℕ) → m < 512 → (i : ℕ) → T (ltb i 25) → widened m / 2 ^ i % 2 ≡ placed m i
unfolding placed
digit m small i l =
    let right : ℕ → ℕ → Bool = λ m i. eqb (widened m / 2 ^ i % 2) (placed m i) in
    eqb→eq (widened m / 2 ^ i % 2) (placed m i) (upto-out (right m) 25 i (ltb→lt i 25 l) (upto-out (λ m. upto (right m) 25) 512 m small tt))

module _ (m : ℕ) (small : m < 512) where
  -- a bit that no offset of a mask has
  none : (i j : ℕ) → T (ltb i 25) → placed m i ≡ 0 → offsets_below 2 (widened m) i ≡ offsets_below 1 m j → offsets_below 2 (widened m) (suc i) ≡ offsets_below 1 m j
  unfolding offsets_below
  none i j l d h = ap (λ (n : ℕ). cond (eqb n 1) (offset 2 i ∷ offsets_below 2 (widened m) i) (offsets_below 2 (widened m) i)) (digit m small i l ∙ d) ∙ h

  -- bit j of the mask
  one : (i j : ℕ) → T (ltb i 25) → placed m i ≡ m / 2 ^ j % 2 → offset 2 i ≡ offset 1 j → offsets_below 2 (widened m) i ≡ offsets_below 1 m j
      → offsets_below 2 (widened m) (suc i) ≡ offsets_below 1 m (suc j)
  unfolding offsets_below
  one i j l d o h =
      ap (λ (n : ℕ). cond (eqb n 1) (offset 2 i ∷ offsets_below 2 (widened m) i) (offsets_below 2 (widened m) i)) (digit m small i l ∙ d)
      ∙ ap₂ (λ (p : Point) (l : List Point). cond (eqb (m / 2 ^ j % 2) 1) (p ∷ l) l) o h

  pub widened-offsets : offsets (widened m) ≡ mask_offsets m
  unfolding offsets offsets_below offset placed
  widened-offsets =
      let a = none 5 0 tt refl (none 4 0 tt refl (none 3 0 tt refl (none 2 0 tt refl (none 1 0 tt refl (none 0 0 tt refl refl))))) in
      let b = none 10 3 tt refl (none 9 3 tt refl (one 8 2 tt refl refl (one 7 1 tt refl refl (one 6 0 tt refl refl a)))) in
      let c = none 15 6 tt refl (none 14 6 tt refl (one 13 5 tt refl refl (one 12 4 tt refl refl (one 11 3 tt refl refl b)))) in
      let d = none 20 9 tt refl (none 19 9 tt refl (one 18 8 tt refl refl (one 17 7 tt refl refl (one 16 6 tt refl refl c)))) in
      none 24 9 tt refl (none 23 9 tt refl (none 22 9 tt refl (none 21 9 tt refl d)))

-- the element has the origin where the mask has the centre
pub widened_centre : (m : ℕ) → m < 512 → m / 16 % 2 ≡ 1 → widened m / 4096 % 2 ≡ 1
unfolding placed
widened_centre m small c = digit m small 12 tt ∙ c

-- ---- the plane of hits

-- at a point, by the sets
asked-set : (W H r fg bg : ℕ) (image : List ℕ) → r ≡ stride W → MaskParts fg bg → T (is_clean W H image) → (x y : ℕ)
    → hits (widened fg) (widened bg) (near_bit image r H) x y ≡ asked (fg, bg) (image_set W H image) (at (pos x) (pos y))
unfolding erode
asked-set W H r fg bg image q m clean x y =
    ap₂ (λ (a b : Bool). a && b)
    ((λ i. neighbours false (widened fg) (λ X Y. near-image W H r image q clean X Y i) x y) ∙ neighbours-set false (widened fg) S x y
    ∙ ap (λ (B : List Point). every_of (λ b. S (z ⊞ b)) B) (widened-offsets fg m.fg-small))
    ((λ i. neighbours false (widened bg) (λ X Y. not (near-image W H r image q clean X Y i)) x y) ∙ neighbours-set false (widened bg) (λ p. not (S p)) x y
    ∙ ap (λ (B : List Point). every_of (λ b. not (S (z ⊞ b))) B) (widened-offsets bg m.bg-small))
  where
    S : Point → Bool
    S = image_set W H image

    z : Point
    z = at (pos x) (pos y)

-- asked in the interior
asked-hit : (W H fg bg : ℕ) (X : Point → Bool) (x y : ℕ)
    → (asked (fg, bg) X (at (pos x) (pos y)) && (inner W x && inner H y)) ≡ hit W H (fg, bg) X (at (pos x) (pos y))
unfolding hit
asked-hit W H fg bg X x y =
    let z = at (pos x) (pos y) in
    and_comm (asked (fg, bg) X z) (inner W x && inner H y) ∙ ap (λ (b : Bool). b && asked (fg, bg) X z) (sym (interior_box W H z))

-- the image, what the mask asks without its centre, and the edge cleared
pub hits_done : (W H r fg bg e b : ℕ) (image old new edged : List ℕ) → Frame W H r → length image ≡ H * r → T (is_mask (fg, bg)) → T (is_clean W H image)
    → ((i : ℕ) → get_or edged i 0 < 256) → e ≡ widened fg → b ≡ widened bg → old ≡ image
    → PlaneJoined false 0 r H old new (λ y x. hits (e - 4096) b (near_bit image r H) x y)
    → PlaneIs 0 r H new edged (λ y x. row_bit new (8 * (0 + y * r) + x) && (inner W x && inner H y)) → edged ≡ pack W H (hit W H (fg, bg) (image_set W H image))
hits_done W H r fg bg e b image old new edged f len t clean bytes qe qb qo a c =
    sym (pack-rows W H r (hit W H (fg, bg) S) edged f.row (c.size ∙ a.size ∙ ap length qo ∙ len ∙ frame-bytes f) bytes bits)
  where
    S : Point → Bool
    S = image_set W H image

    m : MaskParts fg bg
    m = mask_of fg bg t

    near : ℕ → ℕ → Bool
    near = near_bit image r H

    joined : (y x : ℕ) → y < H → x < 8 * r → row_bit new (8 * (0 + y * r) + x) ≡ asked (fg, bg) S (at (pos x) (pos y))
    joined y x hy hx =
        let z : 8 * (0 + y * r) + x ≡ 8 * (y * r) + x = omega arith in
        let n = neighbours false b (λ X Y. not (near X Y)) x y in
        a.pixels y x hy hx
        ∙ sym (and_assoc (row_bit old (8 * (0 + y * r) + x)) (neighbours false (e - 4096) near x y) n)
        ∙ ap₂ (λ (c : Bool) (k : ℕ). (c && neighbours false (k - 4096) near x y) && n) (ap₂ row_bit qo z ∙ sym (near_itself image r H x y hy hx)) qe
        ∙ ap₂ (λ (c : Bool) (k : ℕ). c && neighbours false k (λ X Y. not (near X Y)) x y)
        (origin_less false (widened fg) near x y (widened_centre fg m.fg-small m.centre)) qb
        ∙ asked-set W H r fg bg image f.row m clean x y

    bits : (y x : ℕ) → y < H → x < 8 * r → row_bit edged (8 * (y * r) + x) ≡ hit W H (fg, bg) S (at (pos x) (pos y))
    bits y x hy hx =
        let z : 8 * (y * r) + x ≡ 8 * (0 + y * r) + x = omega arith in
        ap (row_bit edged) z ∙ c.pixels y x hy hx ∙ ap (λ (b : Bool). b && (inner W x && inner H y)) (joined y x hy hx) ∙ asked-hit W H fg bg S x y
