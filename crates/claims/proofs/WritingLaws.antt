-- What operations write is an image again: a packed set that lies on the frame, or an image that thinning has left.
use mathlib.Core.Bool.{Bool, ◌&&◌, false, not, true}
use mathlib.Core.List.{List, [], ◌∷◌}
use mathlib.Core.Path.{◌∙◌, ◌≡◌, ap, subst, sym}
use Prim.Native.Nat.{suc, zero, zero-le, ℕ}
use lib.Dec.{T, eqb}
use Rattle.claims.specs.Claims.{Image, Writes}
use Rattle.morphology.specs.Answers.{Outcome, foreground, outcome, output}
use Rattle.morphology.specs.Image.{image_set, pack}
use Rattle.morphology.specs.Labels.{area}
use Rattle.morphology.specs.Morphology.{erode, times}
use Rattle.morphology.specs.Point.{Point}
use Rattle.morphology.specs.Refusals.{is_side}
use Rattle.morphology.specs.Thinning.{Thinned, hit, thin_pass, thin_passes, thin_step}
use Rattle.morphology.proofs.ElementLaws.{Element}
use Rattle.morphology.proofs.FrameLaws.{OnFrame}
use Rattle.morphology.proofs.ImageLaws.{bytes-pack, clean-pack, image_on, image-pack, length-pack}
use Rattle.morphology.proofs.MorphologyLaws.{◌⊆◌, eroded-zero, ⊆_of_eq}
use Rattle.morphology.proofs.PlaneLaws.{on_sub}
use Rattle.morphology.proofs.RefusalLaws.{image-passes}
use Rattle.morphology.proofs.SubsetLaws.{eroded-down}
use Rattle.morphology.proofs.TestLaws.{and_l}
use Rattle.morphology.proofs.ThinningLaws.{ends, pass, passes-suc, points}

module _ (W H : ℕ) (sides : T (is_side W && is_side H)) where
  -- a packed set of the frame
  pub packed-image : (X : Point → Bool) → OnFrame W H X → Image W H (pack W H X)
  packed-image X on = record {
    passes = image-passes W H (pack W H X) (record { sides = sides; size = length-pack W H X; clean = clean-pack W H X on });
    bytes = bytes-pack W H X;
  }

  pub packed-writes : (X : Point → Bool) (rest : List (List ℕ)) (o : Outcome) → OnFrame W H X → o ≡ outcome (foreground (area W H X)) (pack W H X ∷ rest)
      → Writes W H o
  packed-writes X rest o on e = record {
    image = subst (Image W H) (sym (ap output e)) (packed-image X on);
    answer = ap (λ (o : Outcome). o.answer) e
        ∙ ap (λ (Y : Point → Bool). foreground (area W H Y)) (sym (ap (image_set W H) (ap output e) ∙ image-pack W H X on));
  }

  -- ---- thinning

  step-image : (m : ℕ × ℕ) (s : List ℕ) → Image W H (thin_step W H m s)
  unfolding thin_step
  step-image m s =
      let X = image_set W H s in
      let Y : Point → Bool = λ z. X z && not (hit W H m X z) in
      packed-image Y (on_sub W H Y X (λ z t. and_l (X z) (not (hit W H m X z)) t) (image_on W H s))

  pass-image : (m : ℕ × ℕ) (ms : List (ℕ × ℕ)) (s : List ℕ) → Image W H (thin_pass W H (m ∷ ms) s)
  unfolding thin_pass
  pass-image m [] s = step-image m s
  pass-image m (k ∷ ms) s = pass-image k ms (thin_step W H m s)

  ends-image : (s : List ℕ) (r : Thinned) → Image W H r.image → (b : Bool) → Image W H (ends W H s r b).image
  ends-image s r i true = pass-image _ _ s
  ends-image s r i false = i

  passes-image : (n : ℕ) (s : List ℕ) → Image W H (thin_passes n W H (pass W H s)).image → Image W H (thin_passes (suc n) W H s).image
  passes-image n s i =
      subst (λ (t : Thinned). Image W H t.image) (sym (passes-suc W H n s))
      (ends-image s (thin_passes n W H (pass W H s)) i (eqb (points W H s) (points W H (pass W H s))))

  pub thinned-image : (n : ℕ) (s : List ℕ) → Image W H (thin_passes (suc n) W H s).image
  unfolding thin_passes
  thinned-image zero s = passes-image 0 s (pass-image _ _ s)
  thinned-image (suc n) s = passes-image (suc n) s (thinned-image n (pass W H s))

-- ---- sets that lie on the frame

-- an erosion lies in what is eroded
pub erode-part : (B : List Point) → Element B → (n : ℕ) (X : Point → Bool) → erode (times B n) X ⊆ X
erode-part B el n X z t = ⊆_of_eq (eroded-zero B X) z (eroded-down B el.centred X 0 n zero-le z t)
