-- Hit-or-miss and thinning by the house set (001). Definitions only; proofs/ThinningLaws.antt has the laws.
use Rattle.std.specs.Prelude.{Bool, ◌&&◌, false, not, true, List, [], ◌∷◌, suc, zero, ℕ, eqb}
use Rattle.morphology.specs.Element.{mask_offsets}
use Rattle.morphology.specs.Image.{image_set, on_frame, pack}
use Rattle.morphology.specs.Labels.{area}
use Rattle.morphology.specs.Point.{Point, ◌⊞◌}
use Rattle.morphology.specs.Lists.{every_of}

-- the whole 3 by 3 neighbourhood of a point lies on the frame
unfoldable pub interior : ℕ → ℕ → Point → Bool
interior W H z = every_of (λ b. on_frame W H (z ⊞ b)) (mask_offsets 511)

-- of the interior: all foreground offsets fall on the foreground, all background offsets on the background
unfoldable pub hit : ℕ → ℕ → ℕ × ℕ → (Point → Bool) → (Point → Bool)
hit W H m X z =
    interior W H z && (every_of (λ b. X (z ⊞ b)) (mask_offsets m.0) && every_of (λ b. not (X (z ⊞ b))) (mask_offsets m.1))

-- the house set (Golay's L and its turns): foreground, background
abbrev pub golay_l : List (ℕ × ℕ)
golay_l = (464, 7) ∷ (152, 38) ∷ (89, 292) ∷ (26, 416) ∷ (23, 448) ∷ (50, 200) ∷ (308, 73) ∷ (176, 11) ∷ []

-- a step removes all hit points at once, judged on the image before it
unfoldable pub thin_step : ℕ → ℕ → ℕ × ℕ → List ℕ → List ℕ
thin_step W H m s = pack W H (λ z. image_set W H s z && not (hit W H m (image_set W H s) z))

-- masks in turn, each on the result of the last
unfoldable pub thin_pass : ℕ → ℕ → List (ℕ × ℕ) → List ℕ → List ℕ
thin_pass W H [] s = s
thin_pass W H (m ∷ ms) s = thin_pass W H ms (thin_step W H m s)

-- the image after the last pass, and the passes made
pub record Thinned : Type 0 where
  pub image : List ℕ
  pub passes : ℕ

-- passes until one removes nothing, that one included. The first number bounds the passes: a pass that is not idle
-- removes a point, so that one more than the points is enough
unfoldable pub thin_passes : ℕ → ℕ → ℕ → List ℕ → Thinned
thin_passes zero W H s = record { image = s; passes = 0 }
thin_passes (suc f) W H s =
    let t = thin_pass W H golay_l s in
    elim (eqb (area W H (image_set W H s)) (area W H (image_set W H t))) [
      | true ↦ record { image = t; passes = 1 }
      | false ↦ let r = thin_passes f W H t in record { image = r.image; passes = suc r.passes }
    ]
