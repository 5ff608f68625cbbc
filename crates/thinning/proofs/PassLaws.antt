-- A step and a pass of thinning, in the image and the first plane of work.
use mathlib.Core.Bool.{Bool, ◌&&◌, false, not, true}
use mathlib.Core.List.{List, [], ◌++◌, ◌∷◌, map}
use mathlib.Core.Path.{◌∙◌, ◌≡◌, ap, ap₂, refl, subst, sym}
use Prim.Native.Nat.{◌*◌, ◌+◌, ◌<◌, ◌≤◌, suc, zero, ℕ}
use native.Mathlib.Nat.{le_refl, not-suc-le-zero}
use native.Mathlib.Omega.{arith}
use lib.Dec.{T}
use lib.ListN.{drop, get_or, length, length-append, length-drop, replicate, take}
use lib.Seq.{drop_at, take_at}
use Rattle.raster.specs.Frames.{Sheet}
use Rattle.iteration.proofs.StepLaws.{sheet-bytes}
use Rattle.morphology.specs.Element.{is_mask}
use Rattle.morphology.specs.Image.{image_set, is_clean, pack, plane_bytes, stride}
use Rattle.morphology.specs.Point.{Point}
use Rattle.morphology.specs.Thinning.{golay_l, hit, thin_step}
use Rattle.morphology.proofs.ImageLaws.{length-pack, pixel-pack-wide}
use Rattle.morphology.proofs.PlaneLaws.{Plane}
use Rattle.raster.specs.Rows.{Pixelwise, row_bit}
use Rattle.raster.proofs.RowLaws.{row_in}
use Rattle.raster.proofs.PackLaws.{pack-rows, row-image, row-pixel}
use Rattle.thinning.specs.Passes.{Leaves}
use Rattle.thinning.specs.declared.Mask.{Mask}
use Rattle.thinning.proofs.ThinTurns.{masks-start, masks_turn, masks_below, plane_pass}

-- the hits taken out of a clean image
less-hits : (W H : ℕ) (Y : Point → Bool) (image t : List ℕ) → length image ≡ plane_bytes W H → T (is_clean W H image) → ((i : ℕ) → get_or t i 0 < 256)
    → Pixelwise image t (λ x b. b && not (row_bit (pack W H Y) x)) → t ≡ pack W H (λ z. image_set W H image z && not (Y z))
less-hits W H Y image t len clean bytes a =
    sym (pack-rows W H (stride W) (λ z. image_set W H image z && not (Y z)) t refl (a.size ∙ len) bytes (λ y x hy hx.
    let R = stride W in
    let i = row_in y H R (H * R) hy (le_refl (H * R)) in
    a.pixels (8 * (y * R) + x) (omega (arith, i, len))
    ∙ ap₂ (λ (b c : Bool). b && not c)
    (row-image W H R image refl clean y x hy hx)
    (row-pixel W (pack W H Y) R x y refl ∙ pixel-pack-wide W H Y x y (omega arith) hy)))

-- the plane that the image begins as
pub begun : {W H r p : ℕ} {s : List ℕ} → Sheet W H r p → length s ≡ p → ((i : ℕ) → get_or s i 0 < 256) → T (is_clean W H s) → Plane W H s
begun k e b c = record { size = e ∙ sheet-bytes k; bytes = b; clean = c }

-- a step, with the hits in the first plane of work
pub step-leaves : (W H p : ℕ) (m : ℕ × ℕ) (image t work ys : List ℕ) → p ≡ plane_bytes W H → length image ≡ p → p ≤ length work → T (is_clean W H image)
    → ((i : ℕ) → get_or t i 0 < 256) → ys ≡ pack W H (hit W H m (image_set W H image))
    → Pixelwise image t (λ x b. b && not (row_bit (take p (ys ++ drop p work)) x)) → Leaves p (thin_step W H m image) t work (ys ++ drop p work)
unfolding thin_step
step-leaves W H p m image t work ys q len h clean bytes e a =
    let Y = hit W H m (image_set W H image) in
    let size : length ys ≡ p = ap length e ∙ length-pack W H Y ∙ sym q in
    let src : take p (ys ++ drop p work) ≡ pack W H Y = take_at ys (drop p work) p size ∙ e in
    record {
      image = less-hits W H Y image t (len ∙ q) clean bytes
          (record { size = a.size; pixels = λ x l. a.pixels x l ∙ ap (λ (s : List ℕ). row_bit image x && not (row_bit s x)) src });
      size = length-append ys (drop p work) ∙ omega (arith, size, length-drop p work);
      rest = drop_at ys (drop p work) p size;
    }

-- ---- a pass

module _ (W H p : ℕ) where
  pub pass-start : (s work : List ℕ) → Leaves p (masks_below W H 0 s) s work work
  pass-start s work = record { image = sym (masks-start W H s); size = refl; rest = refl }

  -- one mask more
  pub pass_turn : (k : ℕ) (m : ℕ × ℕ) (s t u work work' work'' : List ℕ) → k < 8 → m ≡ get_or golay_l k (0, 0) → Leaves p (masks_below W H k s) t work work'
      → Leaves p (thin_step W H m t) u work' work'' → Leaves p (masks_below W H (k + 1) s) u work work''
  pass_turn k m s t u work work' work'' h e a b = record {
    image = b.image ∙ ap₂ (thin_step W H) e a.image ∙ sym (masks_turn W H k s h);
    size = b.size ∙ a.size;
    rest = b.rest ∙ a.rest;
  }

  -- the image stays a plane
  pub masks-plane : (k : ℕ) (s t work work' : List ℕ) → Plane W H s → Leaves p (masks_below W H k s) t work work' → Plane W H t
  masks-plane k s t work work' q a = subst (Plane W H) (sym a.image) (plane_pass W H (take k golay_l) s q)

-- ---- the house set as a table of the code

abbrev mask_of_lem : ℕ × ℕ → Mask
mask_of_lem m = record { fg = m.0; bg = m.1 }

-- what stands past a table's end
abbrev no_mask : Mask
no_mask = mask_of_lem (0, 0)

-- its entry k, as the code reads it
abbrev pub entry : ℕ → Mask
entry k = get_or (map mask_of_lem golay_l) k no_mask

pub entry_is : (k : ℕ) → ((entry k).fg, (entry k).bg) ≡ get_or golay_l k (0, 0)
entry_is k = go golay_l k
  where
    go : (ms : List (ℕ × ℕ)) (k : ℕ) → ((get_or (map mask_of_lem ms) k no_mask).fg, (get_or (map mask_of_lem ms) k no_mask).bg) ≡ get_or ms k (0, 0)
    go [] k = refl
    go (m ∷ ms) zero = refl
    go (m ∷ ms) (suc k) = go ms k

-- row 6 takes a mask
abbrev takes : Mask → Bool
takes m = is_mask (m.fg, m.bg)

-- what row 6 says of entry k of any table, computed for all of its entries
pub takes_entry : (ms : List Mask) (k : ℕ) → takes (get_or ms k no_mask) ≡ get_or (map takes ms) k (takes no_mask)
takes_entry [] k = refl
takes_entry (m ∷ ms) zero = refl
takes_entry (m ∷ ms) (suc k) = takes_entry ms k

-- it takes all n
pub takes_all : (n k : ℕ) → k < n → T (get_or (replicate n true) k false)
takes_all zero k h = absurd (not-suc-le-zero h)
takes_all (suc n) zero h = tt
takes_all (suc n) (suc k) h = takes_all n k (omega arith)
