-- Minimisation whole: what the table of refusals lets pass, how it begins and ends, and the outcome.
use mathlib.Core.List.{List, [], ◌++◌, ◌∷◌}
use mathlib.Core.Path.{◌∙◌, ◌≡◌, ap, ap₂, refl, subst, sym}
use Prim.Native.Nat.{◌*◌, ◌+◌, ◌/◌, ◌<◌, ◌≤◌, ℕ}
use native.Mathlib.Nat.{mul-le-mul}
use native.Mathlib.Omega.{arith}
use borrow.Author.Tests.{ltb-false}
use lib.ListN.{drop, get_or, length, replicate}
use Rattle.morphology.specs.Answers.{minimal, outcome}
use Rattle.morphology.specs.Element.{offsets}
use Rattle.morphology.specs.Image.{plane_bytes}
use Rattle.morphology.specs.Labels.{max_label, place, points_of}
use Rattle.morphology.specs.Lists.{greatest}
use Rattle.morphology.specs.Minimal.{minimal_labels}
use Rattle.morphology.specs.Operations.{cleared, minimise_rows, minimised, shortens}
use Rattle.morphology.specs.Refusals.{first_refusal, max_side, not_places, row5, short_work}
use Rattle.morphology.proofs.ElementLaws.{element}
use Rattle.morphology.proofs.LabelLaws.{label_at-place}
use Rattle.morphology.proofs.ReconstructLaws.{point_on}
use Rattle.morphology.proofs.RefusalLaws.{fits-plane, unless_in}
use Rattle.refusals.proofs.SideLaws.{shaped, sides-frame}
use Rattle.raster.specs.Frames.{Frame, Sheet}
use Rattle.iteration.proofs.StepLaws.{sheet-bytes, work-cleared}
use Rattle.minimal.specs.Minimised.{Passed, Shortened}
use Rattle.minimal.specs.Sizes.{WalkBegun, Left, AllFit}

-- ---- the rows of a call

pub passed : (W H e : ℕ) (m work c : List ℕ) → 0 ≡ first_refusal (minimise_rows W H e m work c) → Passed W H e m work c
passed W H e m work c q =
    let d = shaped W H e (not_places W H m ∷ short_work W H work ∷ not_places W H c ∷ []) (row5 W H (offsets e) m ∷ []) tt q in
    let l = d.lengths in
    record {
      wide = d.sides.wide;
      across = d.sides.across;
      high = d.sides.high;
      down = d.sides.down;
      element = d.element;
      places = fits-plane (length m) (W * H) l.0;
      planes = ltb-false (length work) (3 * plane_bytes W H) l.1.0;
      counters = fits-plane (length c) (W * H) l.1.1.0;
      stays = d.rest.0;
    }

-- ---- how it begins

module _ {W H e : ℕ} {m w c : List ℕ} (d : Passed W H e m w c) where
  pub passed-frame : Frame W H ((W + 7) / 8)
  passed-frame = sides-frame (record { wide = d.wide; across = d.across; high = d.high; down = d.down })

  pub passed-few : W * H ≤ max_side * max_side
  passed-few = mul-le-mul d.across d.down

  passed-tame : AllFit W H (offsets e) m
  passed-tame = record {
    places = d.places;
    few = passed-few;
    stays = λ i n h q b k. point_on W H (offsets e) (element e d.element) m d.stays (place W i) n (label_at-place W H m i h ∙ q) k;
  }

  pub passed_begun : {r p : ℕ} → Sheet W H r p → (a : ℕ) (u : List ℕ) → a < length m → get_or m a 0 ≡ greatest m → get_or m a 0 ≤ max_label → length u ≡ length w
      → WalkBegun W H r p e a (get_or m a 0) m u
  passed_begun s a u h g b l = record {
    sheet = s;
    planes = omega (arith, d.planes, sheet-bytes s);
    element = d.element;
    tame = passed-tame;
    place = subst (λ (n : ℕ). a < n) d.places h;
    label = refl;
    largest = sym g;
    fits = b;
  }

  -- ---- how it ends

  pub passed-planes : {r p : ℕ} → Sheet W H r p → (u v : List ℕ) → Left p w u → Left p u v → 3 * p ≤ length v
  passed-planes s u v f g = omega (arith, d.planes, sheet-bytes s, f.size, g.size)

  pub passed-cleared : {r p : ℕ} → Sheet W H r p → (u v k : List ℕ) → Left p w u → Left p u v → k ≡ replicate (3 * p) 0 ++ drop (3 * p) v → k ≡ cleared W H w
  passed-cleared {p = p} s u v k f g q = q ∙ work-cleared W H p (2 * p) w v (sheet-bytes s) (omega arith) (g.rest ∙ f.rest)

-- ---- the outcome

pub minimise_done : (W H e : ℕ) (m w c : List ℕ) → 0 ≡ first_refusal (minimise_rows W H e m w c) → (n : ℕ) (m' w' c' : List ℕ) → Shortened W H e m w n m' w' c'
    → outcome (minimal n) (m' ∷ w' ∷ c' ∷ []) ≡ minimised W H e m w c
unfolding minimised
minimise_done W H e m w c q n m' w' c' s =
    let o = shortens W H (minimal_labels W H (offsets e) m) w in
    ap₂ (λ (k : ℕ) (l : List ℕ). outcome (minimal k) (l ∷ w' ∷ c' ∷ [])) (s.points ∙ ap points_of s.labels) s.labels
    ∙ ap₂ (λ (u v : List ℕ). outcome (minimal (points_of (minimal_labels W H (offsets e) m))) (minimal_labels W H (offsets e) m ∷ u ∷ v ∷ [])) s.work s.counters
    ∙ sym (unless_in (first_refusal (minimise_rows W H e m w c)) (m ∷ w ∷ c ∷ []) o (sym q))
