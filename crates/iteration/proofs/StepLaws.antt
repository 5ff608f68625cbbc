-- Erosions and dilations in the first plane of work, one after the other.
use mathlib.Core.Bool.{Bool, ◌||◌, false, not}
use mathlib.Core.List.{List, [], ◌++◌, ◌∷◌}
use mathlib.Core.Path.{◌∙◌, ◌≡◌, ap, ap₂, refl, sym}
use Prim.Native.Nat.{◌*◌, ◌+◌, ◌-◌, ◌/◌, ◌<◌, ◌^◌, ◌≤◌, suc, zero, ℕ}
use native.Mathlib.Nat.{le_refl, min-le_left, mul-le-mul_right}
use native.Mathlib.Numerals.{add-one}
use native.Mathlib.Omega.{arith}
use borrow.Author.Tests.{ltb-false}
use lib.Dec.{T, eqb}
use lib.ListN.{get_or-append, drop, get_or, length, length-append, length-drop, length-take, replicate, take}
use lib.Seq.{drop_at, drop-drop, get_or-take, length-take-le, take_at}
use Rattle.morphology.specs.Element.{is_element, offsets}
use Rattle.morphology.specs.Falls.{falls_off}
use Rattle.morphology.specs.Image.{clip, image_set, is_clean, on_frame, ones_of, pack, plane_bytes, stride}
use Rattle.morphology.specs.InTurn.{in_turn}
use Rattle.morphology.specs.Lists.{some_of}
use Rattle.morphology.specs.Morphology.{dilate, erode, times}
use Rattle.morphology.specs.Operations.{cleared, cleared_planes}
use Rattle.morphology.specs.Point.{Point}
use Rattle.morphology.specs.Refusals.{not_plane, row4, short_work}
use Rattle.morphology.proofs.DecomposeLaws.{eroded_on}
use Rattle.morphology.proofs.ElementLaws.{element}
use Rattle.morphology.proofs.FallsLaws.{on-falls}
use Rattle.morphology.proofs.FoldTurns.{dilate-empty, eroded_stop, eroded_turn, opened_on}
use Rattle.morphology.proofs.FrameLaws.{OnFrame}
use Rattle.morphology.proofs.ImageLaws.{Agree, clean_agree, clean-pack, image_agree, image-pack, length-pack, pack-image}
use Rattle.morphology.proofs.InTurnLaws.{times_fall, times-whole, turns_on}
use Rattle.morphology.proofs.PlaneLaws.{Empty, area-pack, empty-pack, pack-empty}
use Rattle.morphology.proofs.RefusalLaws.{T_of-not, fits-plane}
use Rattle.morphology.proofs.TestLaws.{and_r}
use Rattle.raster.specs.Frames.{Frame, Sheet}
use Rattle.raster.specs.Rows.{overwrite}
use Rattle.raster.proofs.BandLaws.{zeros-out}
use Rattle.raster.proofs.PartLaws.{drop-overwrite}
use Rattle.raster.proofs.PackLaws.{frame-bytes}
use Rattle.iteration.specs.Steps.{First, HandedOut, Ready, Wrote, dilated}

-- ---- sheets

pub sheet-bytes : {w h r p : ℕ} → Sheet w h r p → p ≡ plane_bytes w h
sheet-bytes s = s.plane ∙ frame-bytes s.frame

pub sheet-small : {w h r p : ℕ} → Sheet w h r p → p < 2 ^ 20
unfolding stride
sheet-small {w} {h} {r} {p} s =
    let a = s.frame.across in
    let b = s.frame.row in
    let c = s.plane in
    omega (arith, mul-le-mul_right r s.frame.down)

pub frame-sheet : {w h r : ℕ} → Frame w h r → Sheet w h r (h * r)
frame-sheet f = record { frame = f; plane = refl }

-- ---- what the first plane holds

module _ {W H p : ℕ} {S : Point → Bool} {w u : List ℕ} (q : p ≡ plane_bytes W H) (on : OnFrame W H S) (a : First W H p S w u) where
  agree-first : Agree W H u (pack W H S)
  agree-first j l = sym (get_or-take p u j 0 (omega arith)) ∙ ap (λ (s : List ℕ). get_or s j 0) a.first

  pub first-image : image_set W H u ≡ S
  first-image = image_agree W H u (pack W H S) agree-first ∙ image-pack W H S on

  pub first-clean : T (is_clean W H u)
  first-clean = clean_agree W H (pack W H S) u (λ j l. sym (agree-first j l)) (clean-pack W H S on)

-- as it is read
pub first-start : (W H p : ℕ) (w : List ℕ) → p ≡ plane_bytes W H → 2 * p ≤ length w → ((i : ℕ) → get_or w i 0 < 256) → T (is_clean W H w)
    → First W H p (image_set W H w) w w
first-start W H p w q h b clean = record { size = refl; first = sym plane; rest = refl }
  where
    agree : Agree W H (take p w) w
    agree j l = get_or-take p w j 0 (omega arith)

    taken : (n : ℕ) (l : List ℕ) → ((i : ℕ) → get_or l i 0 < 256) → (i : ℕ) → get_or (take n l) i 0 < 256
    taken zero l g i = omega arith
    taken (suc n) [] g i = g i
    taken (suc n) (x ∷ l) g zero = g 0
    taken (suc n) (x ∷ l) g (suc i) = taken n l (λ j. g (suc j)) i

    plane : pack W H (image_set W H w) ≡ take p w
    plane =
        ap (pack W H) (sym (image_agree W H (take p w) w agree))
        ∙ pack-image W H (take p w) (length-take-le p w (omega arith) ∙ q) (taken p w b) (clean_agree W H w (take p w) (λ j l. sym (agree j l)) clean)

-- a set in the second plane, copied down
pub step_done : (W H p : ℕ) (S : Point → Bool) (old v new : List ℕ) → p ≡ plane_bytes W H → 2 * p ≤ length old → v ≡ overwrite p (pack W H S) old
    → new ≡ take p (drop p v) ++ drop p v → First W H p S old new
step_done W H p S old v new q h ev en =
    let E = pack W H S in
    let C = drop (p + p) old in
    let size : length E ≡ p = length-pack W H S ∙ sym q in
    let d : drop p v ≡ E ++ C = ap (drop p) ev ∙ drop-overwrite p p old E size (omega arith) in
    let e : new ≡ E ++ (E ++ C) = en ∙ ap₂ (λ (a b : List ℕ). a ++ b) (ap (take p) d ∙ take_at E C p size) d in
    let z : 2 * p ≡ p + p = omega arith in
    record {
      size = ap length e ∙ length-append E (E ++ C) ∙ ap (λ (n : ℕ). length E + n) (length-append E C) ∙ omega (arith, size, length-drop (p + p) old);
      first = ap (take p) e ∙ take_at E (E ++ C) p size;
      rest = ap₂ drop z e ∙ sym (drop-drop p p (E ++ (E ++ C))) ∙ ap (drop p) (drop_at E (E ++ C) p size) ∙ drop_at E C p size
          ∙ ap (λ (n : ℕ). drop n old) (sym z);
    }

-- another set in the first plane, after one before
pub first_next : {W H p : ℕ} {S R : Point → Bool} {w u v : List ℕ} → First W H p S w u → First W H p R u v → First W H p R w v
first_next a b = record { size = b.size ∙ a.size; first = b.first; rest = b.rest ∙ a.rest }

-- the same set otherwise
pub first_as : {W H p : ℕ} {S R : Point → Bool} {w u : List ℕ} → pack W H S ≡ pack W H R → First W H p S w u → First W H p R w u
first_as e a = record { size = a.size; first = a.first ∙ e; rest = a.rest }

-- ---- bytes of 0

-- a first plane without a 1
pub first_zeros : {W H p : ℕ} {S : Point → Bool} {w u : List ℕ} → p ≡ plane_bytes W H → p ≤ length u → First W H p S w u
    → some_of (λ b. not (eqb b 0)) (take p u) ≡ false
    → take p u ≡ replicate (plane_bytes W H) 0
first_zeros {p = p} {u = u} q h a e = zeros-out (take p u) e ∙ ap (λ (n : ℕ). replicate n 0) (length-take-le p u h ∙ q)

-- ---- erosion n times

module _ (W H p e : ℕ) (el : T (is_element e)) (q : p ≡ plane_bytes W H) (X : Point → Bool) (on : OnFrame W H X) (w u : List ℕ) where
  abbrev pub ErodedFirst : ℕ → Type 0
  ErodedFirst i = First W H p (erode (times (offsets e) i) X) w u

  pub eroded-first_on : (i : ℕ) → OnFrame W H (erode (times (offsets e) i) X)
  eroded-first_on i = eroded_on W H (offsets e) (element e el) X on i

  pub eroded-clean : (i : ℕ) → ErodedFirst i → T (is_clean W H u)
  eroded-clean i a = first-clean q (eroded-first_on i) a

  pub eroded_more : (i : ℕ) (v : List ℕ) → ErodedFirst i → First W H p (erode (offsets e) (image_set W H u)) u v
      → First W H p (erode (times (offsets e) (i + 1)) X) w v
  eroded_more i v a b =
      let Y = erode (times (offsets e) i) X in
      first_next a
      (first_as
      (ap (λ (Z : Point → Bool). pack W H (erode (offsets e) Z)) (first-image q (eroded-first_on i) a ∙ sym (image-pack W H Y (eroded-first_on i)))
      ∙ eroded_turn W H (offsets e) (element e el) X on i (pack W H Y) refl) b)

  pub eroded-rest : (i n : ℕ) → i ≤ n → p ≤ length u → ErodedFirst i → some_of (λ b. not (eqb b 0)) (take p u) ≡ false → ErodedFirst n
  eroded-rest i n h l a z =
      first_as (sym a.first ∙ eroded_stop W H (offsets e) (element e el) X on i n (take p u) h a.first (first_zeros q l a z)) a

-- ---- dilation n times

pub dilated_on : (W H : ℕ) (B : List Point) (n : ℕ) (X : Point → Bool) → OnFrame W H X → OnFrame W H (dilated W H B n X)
dilated_on W H B n X on = turns_on W H (replicate n B) X on

pub dilated-start : (W H p : ℕ) (B : List Point) (X : Point → Bool) (w u : List ℕ) → First W H p X w u → First W H p (dilated W H B 0 X) w u
unfolding in_turn
dilated-start W H p B X w u a = a

pub dilated_more : (W H p : ℕ) (B : List Point) (i : ℕ) (X : Point → Bool) (w u v : List ℕ) → p ≡ plane_bytes W H → OnFrame W H X
    → First W H p (dilated W H B i X) w u → First W H p (clip W H (dilate B (image_set W H u))) u v → First W H p (dilated W H B (i + 1) X) w v
unfolding in_turn
dilated_more W H p B i X w u v q on a b =
    first_next a (first_as (ap (λ (Z : Point → Bool). pack W H (clip W H (dilate B Z))) (first-image q (dilated_on W H B i X on) a)
    ∙ ap (λ (k : ℕ). pack W H (dilated W H B k X)) (sym (add-one i))) b)

-- of nothing nothing
pub dilated-empty : (W H : ℕ) (B : List Point) (n : ℕ) (X : Point → Bool) → Empty X → Empty (dilated W H B n X)
unfolding in_turn clip
dilated-empty W H B zero X f z t = f z t
dilated-empty W H B (suc n) X f z t =
    dilate-empty B (dilated W H B n X) (dilated-empty W H B n X f) z (and_r (on_frame W H z) (dilate B (dilated W H B n X) z) t)

-- a first plane without a 1: its set is empty
pub first-none : (W H p : ℕ) (X : Point → Bool) (w u : List ℕ) → p ≡ plane_bytes W H → OnFrame W H X → p ≤ length u → First W H p X w u
    → some_of (λ b. not (eqb b 0)) (take p u) ≡ false → Empty X
first-none W H p X w u q on l a z = empty-pack W H X on (sym a.first ∙ first_zeros q l a z)

pub dilated-rest : (W H p : ℕ) (B : List Point) (n : ℕ) (X : Point → Bool) (w u : List ℕ) → Empty X → First W H p X w u → First W H p (dilated W H B n X) w u
dilated-rest W H p B n X w u f a = first_as (pack-empty W H X f ∙ sym (pack-empty W H (dilated W H B n X) (dilated-empty W H B n X f))) a

-- what fell off before, or falls off now
pub fallen_more : (W H p e i : ℕ) (el : T (is_element e)) (X : Point → Bool) (w u : List ℕ) (c d : Bool) → p ≡ plane_bytes W H → OnFrame W H X
    → First W H p (dilated W H (offsets e) i X) w u → c ≡ falls_off W H (times (offsets e) i) X → d ≡ falls_off W H (offsets e) (image_set W H u)
    → (c || d) ≡ falls_off W H (times (offsets e) (i + 1)) X
fallen_more W H p e i el X w u c d q on a ec ed =
    let B = offsets e in
    ap₂ ◌||◌ ec (ed ∙ ap (falls_off W H B) (first-image q (dilated_on W H B i X on) a))
    ∙ sym (times_fall W H B (element e el).centred X on i) ∙ ap (λ (k : ℕ). falls_off W H (times B k) X) (sym (add-one i))

-- X(n) dilated up to n times stays on the frame
pub folded-stays : (W H e n m : ℕ) (el : T (is_element e)) (X : Point → Bool) → m ≤ n → OnFrame W H X
    → falls_off W H (times (offsets e) m) (erode (times (offsets e) n) X) ≡ false
folded-stays W H e n m el X h on =
    on-falls W H (times (offsets e) m) (erode (times (offsets e) n) X) (opened_on W H (offsets e) (element e el) X on n m h)

-- so that nothing is clipped
pub folded-first : (W H p e n m : ℕ) (el : T (is_element e)) (X : Point → Bool) (w u v : List ℕ) → p ≡ plane_bytes W H → OnFrame W H X
    → falls_off W H (times (offsets e) m) (erode (times (offsets e) n) X) ≡ false
    → First W H p (erode (times (offsets e) n) X) w u → First W H p (dilated W H (offsets e) m (image_set W H u)) u v
    → First W H p (dilate (times (offsets e) m) (erode (times (offsets e) n) X)) w v
folded-first W H p e n m el X w u v q on stays a b =
    let B = offsets e in
    let k = element e el in
    let o = eroded_on W H B k X on n in
    first_next a (first_as (ap (pack W H) (ap (dilated W H B m) (first-image q o a) ∙ times-whole W H B k.centred (erode (times B n) X) o m stays)) b)

-- ---- in and out

-- by the tests of rows 3 and 4
pub ready : (W H : ℕ) (image out work : List ℕ) → Frame W H ((W + 7) / 8) → not_plane W H image ≡ false → not_plane W H out ≡ false → short_work W H work ≡ false
    → (row4 W H image).1 ≡ false → Ready W H image out work
ready W H image out work f i o w c = record {
  frame = f;
  image = fits-plane (length image) (plane_bytes W H) i;
  out = fits-plane (length out) (plane_bytes W H) o;
  work = ltb-false (length work) (3 * plane_bytes W H) w;
  clean = T_of-not (is_clean W H image) c;
}

-- the same image with as much work
pub ready-again : {W H : ℕ} {image out work u : List ℕ} → Ready W H image out work → length u ≡ length work → Ready W H image out u
ready-again d e = record { frame = d.frame; image = d.image; out = d.out; work = omega (arith, d.work, e); clean = d.clean }

pub record Loaded (W H : ℕ) (image work v : List ℕ) : Type 0 where
  pub size : length v ≡ length work
  pub clean : T (is_clean W H v)
  pub set : image_set W H v ≡ image_set W H image

pub loaded : (W H p : ℕ) (image out work ys : List ℕ) → p ≡ plane_bytes W H → Ready W H image out work → ys ≡ image
    → Loaded W H image work (ys ++ drop p work)
loaded W H p image out work ys q d e =
    let agree : Agree W H (ys ++ drop p work) image =
    λ j l. ap (λ (s : List ℕ). get_or (s ++ drop p work) j 0) e ∙ get_or-append image (drop p work) 0 j (omega (arith, d.image)) in
    record {
      size = ap (λ (s : List ℕ). length (s ++ drop p work)) e ∙ length-append image (drop p work) ∙ omega (arith, length-drop p work, d.image, d.work);
      clean = clean_agree W H image (ys ++ drop p work) (λ j l. sym (agree j l)) d.clean;
      set = image_agree W H (ys ++ drop p work) image agree;
    }

-- a part is no longer than what is asked
pub take_lt : (n k : ℕ) (l : List ℕ) → n < k → length (take n l) < k
take_lt n k l h = omega (arith, length-take n l, min-le_left n (length l))

-- three planes cleared
pub three-cleared : (n : ℕ) (old ys : List ℕ) → ys ≡ replicate (length (take n old)) 0 → n ≤ length old
    → ys ++ drop n old ≡ replicate n 0 ++ drop n old
three-cleared n old ys e h = ap (λ (l : List ℕ). l ++ drop n old) (e ∙ ap (λ (k : ℕ). replicate k 0) (length-take-le n old h))

-- what is the same from some byte on is so from a later one
pub drop_later : (k n : ℕ) (u v : List ℕ) → k ≤ n → drop k u ≡ drop k v → drop n u ≡ drop n v
drop_later k n u v h e =
    let d : n ≡ k + (n - k) = omega arith in
    ap (λ (i : ℕ). drop i u) d ∙ sym (drop-drop (n - k) k u) ∙ ap (drop (n - k)) e ∙ drop-drop (n - k) k v ∙ ap (λ (i : ℕ). drop i v) (sym d)

-- work as it is left: three planes cleared, and as it was from some byte of them on
pub work-cleared : (W H p k : ℕ) (work u : List ℕ) → p ≡ plane_bytes W H → k ≤ 3 * p → drop k u ≡ drop k work
    → replicate (3 * p) 0 ++ drop (3 * p) u ≡ cleared W H work
unfolding cleared_planes
work-cleared W H p k work u q h e =
    ap (λ (l : List ℕ). replicate (3 * p) 0 ++ l) (drop_later k (3 * p) u work h e) ∙ ap (λ (n : ℕ). replicate (3 * n) 0 ++ drop (3 * n) work) q

-- after an image was copied in, the rest is as it was
pub loaded-rest : (p n : ℕ) (image work ys : List ℕ) → p ≤ n → length image ≡ p → ys ≡ image → drop n (ys ++ drop p work) ≡ drop n work
loaded-rest p n image work ys h hi ey =
    ap (λ (l : List ℕ). drop n (l ++ drop p work)) ey ∙ drop_later p n (image ++ drop p work) work h (drop_at image (drop p work) p hi)

-- the same before an image was copied in
pub rest-cleared : (W H p : ℕ) (image work ys u : List ℕ) → p ≡ plane_bytes W H → length image ≡ p → ys ≡ image
    → drop (3 * p) u ≡ drop (3 * p) (ys ++ drop p work)
    → replicate (3 * p) 0 ++ drop (3 * p) u ≡ cleared W H work
rest-cleared W H p image work ys u q hi ey m =
    work-cleared W H p (3 * p) work u q (le_refl (3 * p))
    (m ∙ loaded-rest p (3 * p) image work ys (omega arith) hi ey)

-- handed out after an image was copied in
pub wrote : (W H p n : ℕ) (X : Point → Bool) (image work ys u out work' : List ℕ) → p ≡ plane_bytes W H → OnFrame W H X → length image ≡ p → ys ≡ image
    → First W H p X (ys ++ drop p work) u → HandedOut p (take p u) n out u work' → Wrote W H X n out work work'
wrote W H p n X image work ys u out work' q on hi ey m h =
    record {
      answer = h.answer ∙ ap ones_of m.first ∙ sym (area-pack W H X on);
      image = h.image ∙ m.first;
      left = h.left ∙ rest-cleared W H p image work ys u q hi ey (drop_later (2 * p) (3 * p) u (ys ++ drop p work) (omega arith) m.rest);
    }
