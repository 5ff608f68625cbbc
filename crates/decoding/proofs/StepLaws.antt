-- One size read into work: what each of its steps leaves.
use mathlib.Core.Bool.{Bool, ◌||◌, false}
use mathlib.Core.List.{List, ◌++◌}
use mathlib.Core.Option.{none, some}
use mathlib.Core.Path.{◌∙◌, ◌≡◌, ap, refl, subst, sym}
use Prim.Native.Nat.{◌*◌, ◌+◌, ◌≤◌, ℕ}
use native.Mathlib.Omega.{arith}
use lib.Dec.{T}
use lib.ListN.{drop, get_or, length, length-append, length-drop, take}
use lib.Seq.{drop_at, get_or-take, length-take-le, take-add, take_at}
use Rattle.std.specs.Prelude.{None, Some}
use Rattle.coding.specs.Runs.{unmasked}
use Rattle.covers.specs.Grown.{CoverPair, CoverStart, CoverTested}
use Rattle.iteration.specs.Steps.{First}
use Rattle.iteration.proofs.StepLaws.{drop_later, first-clean, first-image, sheet-bytes}
use Rattle.morphology.specs.Element.{offsets}
use Rattle.morphology.specs.Falls.{falls_off}
use Rattle.morphology.specs.Image.{image_set, is_clean, pack, plane_bytes}
use Rattle.morphology.specs.Morphology.{dilate, erode}
use Rattle.morphology.specs.Point.{Point, origin}
use Rattle.morphology.proofs.ElementLaws.{element}
use Rattle.morphology.proofs.FallsLaws.{falls_on}
use Rattle.morphology.proofs.FrameLaws.{OnFrame}
use Rattle.morphology.proofs.ImageLaws.{Agree, clean_agree, clean-pack, image_agree, image_on, image-pack, length-pack}
use Rattle.morphology.proofs.MorphologyLaws.{dilate_in, ⊆_of_eq}
use Rattle.morphology.proofs.PointLaws.{unit}
use Rattle.morphology.proofs.TestLaws.{or_r}
use Rattle.placing.specs.Planes.{SizeRead}
use Rattle.raster.specs.Rows.{overwrite}
use Rattle.raster.proofs.PartLaws.{drop-overwrite, part-drop, part-overwrite, part-take, put_back}
use Rattle.reading.specs.Points.{among}
use Rattle.reading.specs.Taking.{read_size}
use Rattle.reading.proofs.SizesLaws.{joined_on}
use Rattle.decoding.specs.Reads.{KeptFrom, NextRead, joined}

-- ---- the second plane alone is written

pub record SecondIs (p : ℕ) (old ys new : List ℕ) : Type 0 where
  pub size : length new ≡ length old
  pub first : take p new ≡ take p old
  pub second : take p (drop p new) ≡ ys
  pub rest : drop (2 * p) new ≡ drop (2 * p) old

pub second-over : (p : ℕ) (old ys new : List ℕ) → 2 * p ≤ length old → length ys ≡ p → new ≡ overwrite p ys old → SecondIs p old ys new
second-over p old ys new h l e =
    let n : p + p ≤ length old = omega arith in
    let q = part-overwrite p p old ys l n in
    record {
      size = ap length e ∙ q.size;
      first = ap (take p) e ∙ part-take q p (omega arith) (omega arith);
      second = ap (λ (k : List ℕ). take p (drop p k)) e ∙ ap (take p) (drop-overwrite p p old ys l n) ∙ take_at ys (drop (p + p) old) p l;
      rest = ap (drop (2 * p)) e ∙ part-drop q (2 * p) (omega arith);
    }

pub second_on : {p : ℕ} {u xs v ys w : List ℕ} → SecondIs p u xs v → SecondIs p v ys w → SecondIs p u ys w
second_on a b = record { size = b.size ∙ a.size; first = b.first ∙ a.first; second = b.second; rest = b.rest ∙ a.rest }

-- nothing is written past the third plane
pub second-kept : {p : ℕ} {old ys new : List ℕ} → SecondIs p old ys new → KeptFrom 3 p old new
second-kept {p} {old} {ys} {new} a = record { size = a.size; rest = drop_later (2 * p) (3 * p) new old (omega arith) a.rest }

-- the second of two planes
second_of : (p : ℕ) (l : List ℕ) → 2 * p ≤ length l → take p (drop p l) ≡ drop p (take (2 * p) l)
second_of p l h =
    let two : 2 * p ≡ p + p = omega arith in
    sym (ap (λ (n : ℕ). drop p (take n l)) two ∙ ap (drop p) (take-add p p l) ∙ drop_at (take p l) (take p (drop p l)) p (length-take-le p l (omega arith)))

module _ {W H r p e : ℕ} {old : List ℕ} (s : CoverStart W H r p e old) where
  abbrev B : List Point
  B = offsets e

  abbrev A : Point → Bool
  A = image_set W H old

  bytes : p ≡ plane_bytes W H
  bytes = sheet-bytes s.sheet

  two-planes : 2 * p ≤ length old
  two-planes = omega (arith, s.room)

  -- the mask, in the second plane
  pub mask-over : {new : List ℕ} → new ≡ overwrite p (pack W H (dilate B A)) old → SecondIs p old (pack W H (dilate B A)) new
  mask-over {new} q = second-over p old (pack W H (dilate B A)) new two-planes (length-pack W H (dilate B A) ∙ sym bytes) q

  module _ (stays : falls_off W H B A ≡ false) where
    mask_on : OnFrame W H (dilate B A)
    mask_on = falls_on W H B A (image_on W H old) stays

    -- as it is lent
    pub lent-mask : {new : List ℕ} (k : ℕ) → k ≡ p → SecondIs p old (pack W H (dilate B A)) new → take k (drop p new) ≡ pack W H (dilate B A)
    lent-mask {new} k l a = ap (λ (n : ℕ). take n (drop p new)) l ∙ a.second

    pub lent-size : {part : List ℕ} → part ≡ pack W H (dilate B A) → length part ≡ H * r
    lent-size q = ap length q ∙ length-pack W H (dilate B A) ∙ sym bytes ∙ s.sheet.plane

    pub lent-clean : {part : List ℕ} → part ≡ pack W H (dilate B A) → T (is_clean W H part)
    lent-clean q = subst (λ (l : List ℕ). T (is_clean W H l)) (sym q) (clean-pack W H (dilate B A) mask_on)

    pub lent-set : {part : List ℕ} → part ≡ pack W H (dilate B A) → image_set W H part ≡ dilate B A
    lent-set q = ap (image_set W H) q ∙ image-pack W H (dilate B A) mask_on

    -- ---- the points joined to it

    module _ (symbols : List ℕ) (ps : List Point) (rest : List ℕ) (reads : read_size (unmasked W H (dilate B A)) symbols ≡ some (ps, rest)) where
      abbrev J : Point → Bool
      J = joined B ps A

      cover_on : OnFrame W H J
      cover_on = joined_on W H B A symbols ps rest (image_on W H old) stays reads

      -- they are in the second plane, and what was covered is in the first
      pub points-over : {v ys w : List ℕ} (k : ℕ) → k ≡ p → SecondIs p old (pack W H (dilate B A)) v → ys ≡ pack W H J
          → w ≡ take p v ++ (ys ++ drop k (drop p v)) → SecondIs p old (pack W H J) w
      points-over {v} {ys} {w} k l a q f =
          let z : length ys ≡ k = ap length q ∙ length-pack W H J ∙ sym bytes ∙ sym l in
          let h : 2 * p ≤ length v = omega (arith, a.size, s.room) in
          subst (λ (l : List ℕ). SecondIs p old l w) q (second_on a (second-over p v ys w h (z ∙ l) (f ∙ put_back p k v ys z)))

      module _ {w : List ℕ} (a : SecondIs p old (pack W H J) w) where
        same_first : Agree W H w old
        same_first j l =
            sym (get_or-take p w j 0 (omega (arith, bytes))) ∙ ap (λ (k : List ℕ). get_or k j 0) a.first ∙ get_or-take p old j 0 (omega (arith, bytes))

        first-set : image_set W H w ≡ A
        first-set = image_agree W H w old same_first

        second-first : First W H p J (drop p w) (drop p w)
        second-first = record { size = refl; first = a.second; rest = refl }

        second-set : image_set W H (drop p w) ≡ J
        second-set = first-image bytes cover_on second-first

        pub pair_found : CoverPair W H r p e w
        pair_found = record {
          sheet = s.sheet;
          room = omega (arith, a.size, s.room);
          element = s.element;
          clean = clean_agree W H old w (λ j l. sym (same_first j l)) s.clean;
          second = first-clean bytes cover_on second-first;
          within = λ z t. ⊆_of_eq (sym second-set) z (or_r (among ps z) (dilate B A z)
              (subst (λ (y : Point). T (dilate B A y)) (unit z) (dilate_in B A z origin (⊆_of_eq first-set z t) (element e s.element).centred)));
        }

        -- ---- eroded, compared and copied down

        pub step_done : {v new : List ℕ} {same : Bool} (at at' : ℕ) → CoverTested W H p B w v same → new ≡ take p (drop p v) ++ drop p v
            → at' ≤ at + 2 * (W * H) + 2 → (t : List ℕ) → drop at t ≡ symbols → drop at' t ≡ rest
            → KeptFrom 3 p old new × NextRead W H p B t A at at' same new
        step_done {v} {new} {same} at at' c f near t d d' =
            let size : length v ≡ length old = c.size ∙ a.size in
            let h : 2 * p ≤ length v = omega (arith, size, s.room) in
            let two : take p (drop p v) ≡ pack W H J =
            second_of p v h ∙ ap (drop p) c.first ∙ sym (second_of p w (omega (arith, a.size, s.room))) ∙ a.second in
            let few : length (take p (drop p v)) ≡ p = ap length two ∙ length-pack W H J ∙ sym bytes in
            let top : take p new ≡ pack W H J = ap (take p) f ∙ take_at (take p (drop p v)) (drop p v) p few ∙ two in
            let low : drop p new ≡ drop p v = ap (drop p) f ∙ drop_at (take p (drop p v)) (drop p v) p few in (
              record {
                size = ap length f ∙ length-append (take p (drop p v)) (drop p v) ∙ omega (arith, few, length-drop p v, size, h);
                rest = drop_later p (3 * p) new v (omega arith) low ∙ c.rest ∙ (second-kept a).rest;
              },
              record {
                points = ps;
                stays = stays;
                reads = ap (read_size (unmasked W H (dilate B A))) d ∙ reads ∙ ap (λ (l : List ℕ). some (ps, l)) (sym d');
                first = top;
                again = ap (take p) low ∙ two ∙ sym top;
                chain = (λ u. sym (ap (erode B) second-set) ∙ c.answer.0 u ∙ first-set, λ u. c.answer.1 (ap (erode B) second-set ∙ u ∙ sym first-set));
                near = near;
              },
            )

-- ---- the lent plane with the points of a size, and back

-- what is read of a size that ends
pub record Found (W H p : ℕ) (B : List Point) (A : Point → Bool) (s : List ℕ) (at end : ℕ) (old new : List ℕ) : Type 0 where
  pub points : List Point
  pub reads : read_size (unmasked W H (dilate B A)) (drop at s) ≡ some (points, drop end s)
  pub second : SecondIs p old (pack W H (joined B points A)) new
  pub near : end ≤ at + 2 * (W * H) + 2

module _ {W H r p e : ℕ} {old : List ℕ} (start : CoverStart W H r p e old) (stays : falls_off W H (offsets e) (image_set W H old) ≡ false) {v : List ℕ}
    (a : SecondIs p old (pack W H (dilate (offsets e) (image_set W H old))) v) (k : ℕ) (l : k ≡ p) (s ys : List ℕ) (at : ℕ) where
  -- the mask is what the lent plane has
  part_is : take k (drop p v) ≡ pack W H (dilate (offsets e) (image_set W H old))
  part_is = lent-mask start stays k l a

  same_mask : read_size (unmasked W H (image_set W H (take k (drop p v)))) (drop at s) ≡ read_size (unmasked W H (dilate (offsets e) (image_set W H old))) (drop at s)
  same_mask = ap (λ (M : Point → Bool). read_size (unmasked W H M) (drop at s)) (lent-set start stays part_is)

  -- a size that cannot be read
  pub part-unread : SizeRead s W H at (take k (drop p v)) ys None
      → KeptFrom 3 p old (take p v ++ (ys ++ drop k (drop p v))) × (read_size (unmasked W H (dilate (offsets e) (image_set W H old))) (drop at s) ≡ none)
  part-unread q =
      let z : length ys ≡ k = q.0 ∙ ap length part_is ∙ length-pack W H (dilate (offsets e) (image_set W H old)) ∙ sym (sheet-bytes start.sheet) ∙ sym l in
      let h : 2 * p ≤ length v = omega (arith, a.size, start.room) in
      (second-kept (second_on a (second-over p v ys _ h (z ∙ l) (put_back p k v ys z))), sym same_mask ∙ q.1)

  -- a size that ends
  pub part-found : (end : ℕ) → SizeRead s W H at (take k (drop p v)) ys (Some end)
      → Found W H p (offsets e) (image_set W H old) s at end old (take p v ++ (ys ++ drop k (drop p v)))
  part-found end q =
      let reads = sym same_mask ∙ q.1 in
      record {
        points = q.0;
        reads = reads;
        second =
            points-over start stays (drop at s) q.0 (drop end s) reads k l a
            (q.2 ∙ ap (λ (M : Point → Bool). pack W H (λ z. among q.0 z || M z)) (lent-set start stays part_is)) refl;
        near = q.3;
      }
