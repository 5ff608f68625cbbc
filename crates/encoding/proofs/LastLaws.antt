-- The largest size, which nothing masks: its runs are those of the first plane under a third plane that is cleared.
use mathlib.Core.Bool.{Bool}
use mathlib.Core.List.{List, ◌++◌}
use mathlib.Core.Path.{◌∙◌, ◌≡◌, ap, ap₂, subst, sym}
use Prim.Native.Nat.{◌*◌, ◌+◌, ◌-◌, ◌≤◌, suc, ℕ}
use native.Mathlib.Omega.{arith}
use lib.Dec.{T}
use lib.ListN.{drop, get_or, length, length-drop, length-replicate, replicate, take}
use lib.Seq.{ext_get_or, get_or-drop, length-take-le}
use Rattle.coding.specs.Runs.{runs, unmasked}
use Rattle.coding.specs.Writing.{eroded_runs}
use Rattle.raster.specs.Frames.{Sheet}
use Rattle.iteration.proofs.StepLaws.{sheet-bytes}
use Rattle.morphology.specs.Element.{is_element, offsets}
use Rattle.morphology.specs.Image.{image_set, is_clean, pack, plane_bytes}
use Rattle.morphology.specs.Morphology.{dilate, erode, times}
use Rattle.morphology.specs.Point.{Point}
use Rattle.morphology.proofs.FoldTurns.{dilate-empty}
use Rattle.morphology.proofs.FrameLaws.{OnFrame}
use Rattle.morphology.proofs.ImageLaws.{Agree, clean_agree, clean-pack, image_agree, image-pack}
use Rattle.morphology.proofs.PlaneLaws.{empty_eq, none, none_on, pack-none}
use Rattle.raster.proofs.PartLaws.{PartIs, part_back}
use Rattle.sections.specs.Kinds.{kinds_from, runs_of}
use Rattle.sections.proofs.KindLaws.{frame-runs}
use Rattle.encoding.specs.Sizes.{Gone, SizesPassed, ink_runs}
use Rattle.encoding.proofs.SizeLaws.{passed-image}

-- ---- the third plane, lent, cleared, and back

module _ {W H r p : ℕ} (sheet : Sheet W H r p) (old : List ℕ) (h : 3 * p ≤ length old) (k : ℕ) (ek : k ≡ p) (ys : List ℕ)
    (e : ys ≡ replicate (length (take k (drop (p + p) old))) 0) where
  abbrev pub new : List ℕ
  new = take (p + p) old ++ (ys ++ drop k (drop (p + p) old))

  zeros : ys ≡ replicate (plane_bytes W H) 0
  zeros =
      e ∙ ap (λ (n : ℕ). replicate n 0)
      (length-take-le k (drop (p + p) old) (omega (arith, length-drop (p + p) old)) ∙ ek ∙ sheet-bytes sheet)

  part : PartIs (p + p) k old ys new
  part = part_back (p + p) k old ys (omega arith) (ap length zeros ∙ length-replicate (plane_bytes W H) 0 ∙ sym (ek ∙ sheet-bytes sheet))

  agree-first : Agree W H new old
  agree-first j l = part.before j (omega (arith, sheet-bytes sheet))

  agree_third : Agree W H (drop (p + p) new) (pack W H none)
  agree_third j l =
      get_or-drop (p + p) new j 0 ∙ part.within j (omega (arith, sheet-bytes sheet)) ∙ ap (λ (s : List ℕ). get_or s j 0) (zeros ∙ sym (pack-none W H))

  -- the buffer keeps its length, and what comes after the planes
  pub third-size : length new ≡ length old
  third-size = part.size

  pub third-rest : drop (3 * p) new ≡ drop (3 * p) old
  third-rest =
      ext_get_or 0 (drop (3 * p) new) (drop (3 * p) old) (length-drop (3 * p) new ∙ ap (λ (n : ℕ). n - 3 * p) part.size ∙ sym (length-drop (3 * p) old))
      (λ j l. get_or-drop (3 * p) new j 0 ∙ part.after (3 * p + j) (omega arith) ∙ sym (get_or-drop (3 * p) old j 0))

  -- the plane is clean
  pub third-clean : T (is_clean W H (drop (p + p) new))
  third-clean = clean_agree W H (pack W H none) (drop (p + p) new) (λ j l. sym (agree_third j l)) (clean-pack W H none (none_on W H))

  -- and masks nothing of the first
  pub third-runs : runs_of 0 (kinds_from W (image_set W H new) (image_set W H (drop (p + p) new)) 0 (W * H)) ≡ ink_runs W H old
  third-runs =
      let third = image_agree W H (drop (p + p) new) (pack W H none) agree_third ∙ image-pack W H none (none_on W H) in
      ap₂ (λ (S M : Point → Bool). runs_of 0 (kinds_from W S M 0 (W * H))) (image_agree W H new old agree-first) third
      ∙ sym (frame-runs W H (image_set W H old) none)

-- ---- the size

-- where the next size has no ink, all ink is in runs
pub passed_last : {W H r p : ℕ} (e : ℕ) → Sheet W H r p → T (is_element e) → {X : Point → Bool} → OnFrame W H X → {n : ℕ} {w₀ w : List ℕ}
    → SizesPassed W H p (offsets e) X n w₀ w → {m : ℕ} → m ≡ suc n → Gone (offsets e) X m → ink_runs W H w ≡ eroded_runs W H (offsets e) X n
passed_last {W} {H} e sheet el {X} on {n} t q gone =
    let B = offsets e in
    let Z = erode (times B (suc n)) X in
    let empty = empty_eq (dilate B Z) (dilate-empty B Z (subst (Gone B X) q gone)) in
    ap (λ (Y : Point → Bool). runs Y 0 (unmasked W H none)) (passed-image e sheet el on t)
    ∙ ap (λ (M : Point → Bool). runs (erode (times B n) X) 0 (unmasked W H M)) (sym empty)
