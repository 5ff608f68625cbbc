-- The sizes of a stream read into work, one after the other: what work holds after some of them.
use mathlib.Core.Bool.{Bool, ◌&&◌, false, not, true}
use mathlib.Core.List.{List, [], ◌++◌, ◌∷◌, append_assoc}
use mathlib.Core.Logic.{◌⊎◌, inl, inr}
use mathlib.Core.Option.{none, some}
use mathlib.Core.Path.{◌∙◌, ◌≡◌, ap, refl, subst, sym}
use Prim.Native.Nat.{◌*◌, ◌+◌, ◌<◌, ◌^◌, ◌≤◌, suc, zero, ℕ}
use native.Mathlib.Nat.{mul-le-mul_right}
use native.Mathlib.Omega.{arith}
use lib.Dec.{T, eqb}
use lib.ListN.{drop, length, length-append, length-drop, length-replicate, replicate, replicate-append-replicate, take}
use lib.Seq.{drop_at, take_at}
use Rattle.coding.specs.Runs.{unmasked}
use Rattle.coding.specs.Symbols.{symbols_of}
use Rattle.iteration.specs.Steps.{First}
use Rattle.raster.specs.Frames.{Sheet}
use Rattle.iteration.proofs.StepLaws.{drop_later, first-clean, first-image, first_zeros, sheet-bytes, three-cleared}
use Rattle.morphology.specs.Element.{is_element, offsets}
use Rattle.morphology.specs.Falls.{falls_off}
use Rattle.morphology.specs.Image.{image_set, is_clean, ones_of, pack, plane_bytes}
use Rattle.morphology.specs.Labels.{area}
use Rattle.morphology.specs.Lists.{some_of}
use Rattle.morphology.specs.Morphology.{dilate}
use Rattle.morphology.specs.Point.{Point}
use Rattle.morphology.specs.Refusals.{first_refusal, max_side}
use Rattle.morphology.proofs.ElementLaws.{element}
use Rattle.morphology.proofs.FrameLaws.{OnFrame}
use Rattle.morphology.proofs.PlaneLaws.{area-pack, empty-pack, none as nowhere, pack-empty, pack-none, some-point}
use Rattle.reading.specs.Maps.{code_rows, code_set}
use Rattle.reading.specs.Splits.{is_padding}
use Rattle.reading.specs.Taking.{read_size}
use Rattle.reading.proofs.SizesLaws.{SizesRead, next_on, sizes_done, sizes-empty, sizes-falls, sizes_next, sizes-start, sizes_unread}
use Rattle.decoding.specs.Reads.{KeptFrom, NextRead, joined}

-- ---- what is kept

-- by one step after the other
pub kept_on : {k p : ℕ} {u v w : List ℕ} → KeptFrom k p u v → KeptFrom k p v w → KeptFrom k p u w
kept_on a b = record { size = b.size ∙ a.size; rest = b.rest ∙ a.rest }

-- from more planes on
pub kept_more : {k m p : ℕ} {u v : List ℕ} → k * p ≤ m * p → KeptFrom k p u v → KeptFrom m p u v
kept_more {k} {m} {p} {u} {v} h a = record { size = a.size; rest = drop_later (k * p) (m * p) v u h a.rest }

-- some planes cleared
pub kept-cleared : {k p : ℕ} (n : ℕ) (old ys : List ℕ) → n ≤ k * p → n ≤ length old → ys ≡ replicate (length (take n old)) 0
    → KeptFrom k p old (ys ++ drop n old)
kept-cleared {k} {p} n old ys h l e =
    let q = three-cleared n old ys e l in
    let z = length-replicate {A = ℕ} n 0 in
    record {
      size = ap length q ∙ length-append (replicate n 0) (drop n old) ∙ omega (arith, z, length-drop n old);
      rest = ap (drop (k * p)) q ∙ drop_later n (k * p) (replicate n 0 ++ drop n old) old h (drop_at (replicate n 0) (drop n old) n z);
    }

-- ---- the sizes so far

-- of the sizes up to N, n are left to read, from symbol j on; their cover is in the first two planes
pub record SizesHeld (W H p : ℕ) (B : List Point) (bytes : List ℕ) (N n j : ℕ) (whole : Bool) (work : List ℕ) : Type 0 where
  pub cover : Point → Bool
  pub read : SizesRead W H B (symbols_of bytes) N n j cover whole
  pub first : take p work ≡ pack W H cover
  pub again : take p (drop p work) ≡ take p work
  -- a size has few symbols
  pub few : j + n * 2 ^ 22 ≤ suc N * 2 ^ 22

-- two planes cleared, one after the other
two-cleared : (p : ℕ) (old ys : List ℕ) → 2 * p ≤ length old → ys ≡ replicate (length (take (2 * p) old)) 0
    → (take p (ys ++ drop (2 * p) old) ≡ replicate p 0) × (take p (drop p (ys ++ drop (2 * p) old)) ≡ replicate p 0)
two-cleared p old ys h e =
    let z : List ℕ = replicate p 0 in
    let rest = drop (2 * p) old in
    let size = length-replicate {A = ℕ} p 0 in
    let d : 2 * p ≡ p + p = omega arith in
    let q : ys ++ rest ≡ z ++ (z ++ rest) =
    three-cleared (2 * p) old ys e h
    ∙ ap (λ (l : List ℕ). l ++ rest) (ap (λ (n : ℕ). replicate n 0) d ∙ sym (replicate-append-replicate p p 0)) ∙ append_assoc z z rest in (
      ap (take p) q ∙ take_at z (z ++ rest) p size,
      ap (λ (l : List ℕ). take p (drop p l)) q ∙ ap (take p) (drop_at z (z ++ rest) p size) ∙ take_at z rest p size,
    )

-- bytes of 0 have no ink
zeros-none : (n : ℕ) → some_of (λ b. not (eqb b 0)) (replicate n 0) ≡ false
zeros-none zero = refl
zeros-none (suc n) = zeros-none n

module _ {W H r p : ℕ} (sheet : Sheet W H r p) where
  -- a frame has few pixels
  frame-few : W * H ≤ 2 ^ 20
  frame-few = let f = sheet.frame in omega (arith, mul-le-mul_right H f.across, f.down)

  -- a set in the first plane
  plane_of : {X : Point → Bool} {work : List ℕ} → take p work ≡ pack W H X → First W H p X work work
  plane_of e = record { size = refl; first = e; rest = refl }

  -- at first two planes of 0
  pub held_none : (B : List Point) (bytes : List ℕ) (N : ℕ) (old ys : List ℕ) → 2 * p ≤ length old → ys ≡ replicate (length (take (2 * p) old)) 0
      → SizesHeld W H p B bytes N (suc N) 0 true (ys ++ drop (2 * p) old)
  held_none B bytes N old ys h e =
      let k = two-cleared p old ys h e in
      record {
        cover = nowhere;
        read = sizes-start W H B (symbols_of bytes) N;
        first = k.0 ∙ ap (λ (n : ℕ). replicate n 0) (sheet-bytes sheet) ∙ sym (pack-none W H);
        again = k.1 ∙ sym k.0;
        few = omega arith;
      }

  module _ {B : List Point} {bytes : List ℕ} {N n j : ℕ} {whole : Bool} {work : List ℕ} (d : SizesHeld W H p B bytes N n j whole work) where
    -- the first plane holds the cover, and is clean
    held-image : image_set W H work ≡ d.cover
    held-image = first-image (sheet-bytes sheet) d.read.on (plane_of d.first)

    pub held-clean : T (is_clean W H work)
    held-clean = first-clean (sheet-bytes sheet) d.read.on (plane_of d.first)

    -- the next symbol is not far
    pub held-near : N < max_side → j < 2 ^ 36
    held-near h = omega (arith, d.few)

    module _ (m : ℕ) (e : n ≡ suc m) where
      -- one size more is left
      next : SizesRead W H B (symbols_of bytes) N (suc m) j d.cover whole
      next = subst (λ (n : ℕ). SizesRead W H B (symbols_of bytes) N n j d.cover whole) e d.read

      module _ {j' : ℕ} {c : Bool} {new : List ℕ} (s : NextRead W H p B (symbols_of bytes) (image_set W H work) j j' c new) where
        -- what is read next, over the cover
        step : NextRead W H p B (symbols_of bytes) d.cover j j' c new
        step = subst (λ (A : Point → Bool). NextRead W H p B (symbols_of bytes) A j j' c new) held-image s

        -- the next cover lies on the frame
        step_on : OnFrame W H (joined B step.points d.cover)
        step_on = next_on W H B next step.points j' step.reads step.stays

        -- it is read, and has ink where it is the largest
        pub held_next : (m ≡ N → some_of (λ b. not (eqb b 0)) (take p new) ≡ true) → SizesHeld W H p B bytes N m j' (whole && c) new
        held_next ink =
            let X = joined B step.points d.cover in
            record {
              cover = X;
              read =
                  sizes_next W H B next step.stays step.points j' step.reads c step.chain
                  (λ q. some-point W H X step_on (λ g.
                  subst T (sym (ink q) ∙ ap (some_of (λ b. not (eqb b 0))) (step.first ∙ pack-empty W H X g) ∙ zeros-none (plane_bytes W H)) tt));
              first = step.first;
              again = step.again;
              few = omega (arith, d.few, step.near, frame-few);
            }

        -- the largest has no ink: refused
        pub held-empty : m ≡ N → p ≤ length new → some_of (λ b. not (eqb b 0)) (take p new) ≡ false → first_refusal (code_rows W H B (some N) bytes) ≡ 9
        held-empty q l z =
            let X = joined B step.points d.cover in
            let r = subst (λ (m : ℕ). SizesRead W H B (symbols_of bytes) N (suc m) j d.cover whole) q next in
            sizes-empty W H B bytes r step.points j' step.reads
            (empty-pack W H X step_on (sym step.first ∙ first_zeros (sheet-bytes sheet) l (plane_of step.first) z))

  module _ (e : ℕ) (el : T (is_element e)) {bytes : List ℕ} {N n j : ℕ} {whole : Bool} {work : List ℕ}
      (d : SizesHeld W H p (offsets e) bytes N n j whole work) where
    -- a size that is refused
    pub held-refused : (m : ℕ) → n ≡ suc m
        → (falls_off W H (offsets e) (image_set W H work) ≡ true)
        ⊎ (read_size (unmasked W H (dilate (offsets e) (image_set W H work))) (drop j (symbols_of bytes)) ≡ none)
        → first_refusal (code_rows W H (offsets e) (some N) bytes) ≡ 9
    held-refused m q (inl f) =
        sizes-falls W H (offsets e) (element e el) bytes (next d m q) (sym (ap (falls_off W H (offsets e)) (held-image d)) ∙ f)
    held-refused m q (inr f) =
        sizes_unread W H (offsets e) bytes (next d m q)
        (sym (ap (λ (A : Point → Bool). read_size (unmasked W H (dilate (offsets e) A)) (drop j (symbols_of bytes))) (held-image d)) ∙ f)

    -- all sizes are read: rows 10 and 11 are left, and the image stands
    pub held_all : n ≡ 0 → N < max_side
        → (first_refusal (code_rows W H (offsets e) (some N) bytes) ≡ first_refusal ((10, not (is_padding (drop j (symbols_of bytes)))) ∷ (11, not whole) ∷ []))
        × (take p work ≡ pack W H (code_set W H (offsets e) (some N) bytes))
        × (ones_of (take p work) ≡ area W H (code_set W H (offsets e) (some N) bytes)) × (j < 2 ^ 40)
    held_all q h =
        let r = subst (λ (n : ℕ). SizesRead W H (offsets e) (symbols_of bytes) N n j d.cover whole) q d.read in
        let k = sizes_done W H (offsets e) (element e el) bytes r h in (
          k.0,
          d.first ∙ ap (pack W H) (sym k.1),
          ap ones_of d.first ∙ sym (area-pack W H d.cover d.read.on) ∙ ap (area W H) (sym k.1),
          omega (arith, held-near d h),
        )
