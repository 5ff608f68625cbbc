-- The claims of 01, of bad maps, hits and thinning as 02 moves them, as statements, on the operations as morphology/specs/Operations.antt defines them.
-- Definitions only; proofs/Claims.antt proves each.
use Rattle.std.specs.Prelude.{◌&&◌, false, true, ◌↔◌, ◌≢◌, ◌⊎◌, ◌≡◌, ◌*◌, ◌+◌, ◌-◌, ◌<◌, ◌≤◌, suc, zero, ℕ, T, pos, get_or, length, replicate, set}
use mathlib.Core.List.{List, Memᴰ, [], ◌++◌, ◌∷◌}
use Rattle.std.proofs.Math.Pow.{are_bytes}
use Rattle.claims.specs.Formula.{Covered, HasSize, Hit, Ink, MaskOffset, Offset, Set, Wild, Within}
use Rattle.claims.specs.Sieves.{Sieve, accepted, largest_cut, sieve_all, sieve_refused}
use Rattle.morphology.specs.Answers.{Outcome, foreground, outcome, output, refused, thinned}
use Rattle.morphology.specs.Cases.{Settled}
use Rattle.morphology.specs.Element.{is_element, offsets}
use Rattle.morphology.specs.Image.{image_set, pack, plane_bytes}
use Rattle.morphology.specs.Labels.{area}
use Rattle.morphology.specs.Lists.{greatest}
use Rattle.morphology.specs.Morphology.{opening, times}
use Rattle.morphology.specs.Operations.{
  cleared,
  decompose_rows,
  decomposed,
  eroded,
  fold_rows,
  hit_or_miss,
  hit_rows,
  minimise_rows,
  minimised,
  opened,
  reconstruct_rows,
  reconstructed,
  skeleton_answer,
  thin,
  thin_rows,
}
use Rattle.morphology.specs.Point.{Point, ◌⊞◌, at}
use Rattle.morphology.specs.Refusals.{Row, first_refusal, image_rows, is_side, is_wild, max_side}
use Rattle.morphology.specs.Skeleton.{skeleton_labels, skeleton_subset}
use Rattle.morphology.specs.Thinning.{golay_l, thin_pass, thin_passes}

-- ---- the settled cases

-- A to E and G to I come out as 01 says, J to L as 02 says.
abbrev pub SettledCases : Type 0
SettledCases = Settled

-- ---- demand 1: refusals

-- a row of the table holds for a call, and its number is n
abbrev pub Holds : ℕ → List Row → Type 0
Holds n rows = Memᴰ (n, true) rows

-- What a call answers and leaves, by its rows of the table and the buffers that it is lent.
pub record Refuses (rows : List Row) (lent : List (List ℕ)) (o : Outcome) : Type 0 where
  -- where a row holds the call is refused, and no lower number holds than the one answered
  pub refuses : (n : ℕ) → Holds n rows → (o.answer.refusal ≢ 0) × (o.answer.refusal ≤ n)
  -- it is refused only where a row holds: that of the number answered
  pub holds : o.answer.refusal ≢ 0 → Holds o.answer.refusal rows
  -- a refusal answers its number alone, and no lent byte has changed
  pub unchanged : o.answer.refusal ≢ 0 → o ≡ outcome (refused o.answer.refusal) lent

-- So is each of the seven operations, for all arguments and all bytes.
pub record RefusesExactly : Type 0 where
  pub erosion : (W H e n : ℕ) (image out work : List ℕ)
      → Refuses (fold_rows W H e n image out work) (out ∷ work ∷ []) (eroded W H e n image out work)
  pub opening : (W H e n : ℕ) (image out work : List ℕ)
      → Refuses (fold_rows W H e n image out work) (out ∷ work ∷ []) (opened W H e n image out work)
  pub decomposition : (W H e : ℕ) (image labels work : List ℕ)
      → Refuses (decompose_rows W H e image labels work) (labels ∷ work ∷ []) (decomposed W H e image labels work)
  pub reconstruction : (W H e k : ℕ) (labels image work : List ℕ)
      → Refuses (reconstruct_rows W H e k labels image work) (image ∷ work ∷ []) (reconstructed W H e k labels image work)
  pub minimisation : (W H e : ℕ) (labels work counters : List ℕ)
      → Refuses (minimise_rows W H e labels work counters) (labels ∷ work ∷ counters ∷ []) (minimised W H e labels work counters)
  pub hits : (W H : ℕ) (m : ℕ × ℕ) (image out : List ℕ) → Refuses (hit_rows W H m image out) (out ∷ []) (hit_or_miss W H m image out)
  pub thinning : (W H : ℕ) (image work : List ℕ) → Refuses (thin_rows W H image work) (image ∷ work ∷ []) (thin W H image work)

-- (02) A map is bad at every cut or at none.

-- a frame, an element and labels in order
pub record Map (W H e : ℕ) (m : List ℕ) : Type 0 where
  pub sides : T (is_side W && is_side H)
  pub element : T (is_element e)
  pub places : length m ≡ W * H

-- A bad one is wild. Where image, work and counters have their lengths, with any contents, a reconstruction at whatever cut, above the
-- largest side too, and a minimisation of it are refused with 5.
pub record Bad (W H e : ℕ) (m : List ℕ) : Type 0 where
  pub wild : Wild W H (Offset e) m
  pub reconstruction : (k : ℕ) (image work : List ℕ) → length image ≡ plane_bytes W H → 3 * plane_bytes W H ≤ length work
      → (reconstructed W H e k m image work).answer.refusal ≡ 5
  pub minimisation : (work counters : List ℕ) → 3 * plane_bytes W H ≤ length work → length counters ≡ W * H
      → (minimised W H e m work counters).answer.refusal ≡ 5

-- A sound one is not wild. Where they have their lengths, a reconstruction at whatever cut up to the largest side and a minimisation of it
-- are not refused.
pub record Sound (W H e : ℕ) (m : List ℕ) : Type 0 where
  pub stays : Wild W H (Offset e) m → ⊥
  pub reconstruction : (k : ℕ) (image work : List ℕ) → k ≤ max_side → length image ≡ plane_bytes W H → 3 * plane_bytes W H ≤ length work
      → (reconstructed W H e k m image work).answer.refusal ≡ 0
  pub minimisation : (work counters : List ℕ) → 3 * plane_bytes W H ≤ length work → length counters ≡ W * H
      → (minimised W H e m work counters).answer.refusal ≡ 0

abbrev pub BadAtAnyCut : Type 0
BadAtAnyCut = (W H e : ℕ) (m : List ℕ) → Map W H e m → Bad W H e m ⊎ Sound W H e m

-- ---- demand 2: taking apart and rebuilding

-- an image that rows 1, 3 and 4 of the table let pass; its entries are bytes
pub record Image (W H : ℕ) (image : List ℕ) : Type 0 where
  pub passes : first_refusal (image_rows W H image) ≡ 0
  pub bytes : T (are_bytes image)

-- labels and work of the right lengths, with any contents
pub record Buffers (W H : ℕ) (m w : List ℕ) : Type 0 where
  pub labels : length m ≡ W * H
  pub work : 3 * plane_bytes W H ≤ length w

-- A label for each place: n + 1 exactly at the points of size n, 0 exactly where there is no size; and no point of any size is elsewhere.
pub record Sizes (W H : ℕ) (B X : Set) (m : List ℕ) : Type 0 where
  pub places : length m ≡ W * H
  pub sizes : (x y n : ℕ) → x < W → y < H → (get_or m (y * W + x) 0 ≡ suc n) ↔ HasSize B X n (at (pos x) (pos y))
  pub none : (x y : ℕ) → x < W → y < H → (get_or m (y * W + x) 0 ≡ 0) ↔ ((n : ℕ) → HasSize B X n (at (pos x) (pos y)) → ⊥)
  pub elsewhere : (z : Point) (n : ℕ) → HasSize B X n z → (x y : ℕ) × (x < W) × (y < H) × (z ≡ at (pos x) (pos y))

-- The labels that a decomposition writes are the formula's; its answer counts them, and none is above the largest side.
pub record Decomposes (W H e : ℕ) (image : List ℕ) (o : Outcome) : Type 0 where
  pub labels : Sizes W H (Offset e) (Ink W H image) (output o)
  pub answer : o.answer ≡ skeleton_answer (output o) (greatest (output o))
  pub small : (i : ℕ) → get_or (output o) i 0 ≤ max_side

abbrev pub LabelsAreSizes : Type 0
LabelsAreSizes =
    (W H e : ℕ) (image labels work : List ℕ) → (decomposed W H e image labels work).answer.refusal ≡ 0
    → Decomposes W H e image (decomposed W H e image labels work)

-- What a reconstruction writes is ink exactly where some kept point, dilated to its size, covers it.
abbrev pub RebuildsTheUnion : Type 0
RebuildsTheUnion =
    (W H e k : ℕ) (labels image work : List ℕ) → (reconstructed W H e k labels image work).answer.refusal ≡ 0
    → (z : Point) → Ink W H (output (reconstructed W H e k labels image work)) z ↔ Covered W H (Offset e) k labels z

-- An image is written that can be handed in again, and its area is answered.
pub record Writes (W H : ℕ) (o : Outcome) : Type 0 where
  pub image : Image W H (output o)
  pub answer : o.answer ≡ foreground (area W H (image_set W H (output o)))

-- So does every operation that writes an image and is not refused; what thinning answers is said below.
pub record WritesImages : Type 0 where
  pub erosion : (W H e n : ℕ) (image out work : List ℕ) → let o = eroded W H e n image out work in o.answer.refusal ≡ 0 → Writes W H o
  pub opening : (W H e n : ℕ) (image out work : List ℕ) → let o = opened W H e n image out work in o.answer.refusal ≡ 0 → Writes W H o
  pub reconstruction : (W H e k : ℕ) (labels image work : List ℕ)
      → let o = reconstructed W H e k labels image work in o.answer.refusal ≡ 0 → Writes W H o
  pub hits : (W H : ℕ) (m : ℕ × ℕ) (image out : List ℕ) → let o = hit_or_miss W H m image out in o.answer.refusal ≡ 0 → Writes W H o
  pub thinning : (W H : ℕ) (image work : List ℕ) → let o = thin W H image work in o.answer.refusal ≡ 0 → Image W H (output o)

-- Reconstructing a decomposition at a cut k is never refused, and writes the opening by the k-fold element, byte for byte;
-- target and work' are those of the second call, with any contents.
abbrev pub CutIsOpening : Type 0
CutIsOpening =
    (W H e : ℕ) (image target labels work work' : List ℕ) (k : ℕ) → Image W H image → T (is_element e) → Buffers W H labels work
    → 3 * plane_bytes W H ≤ length work' → length target ≡ plane_bytes W H → k ≤ max_side
    → let m = output (decomposed W H e image labels work) in
    let X = opening (times (offsets e) k) (image_set W H image) in
    reconstructed W H e k m target work' ≡ outcome (foreground (area W H X)) (pack W H X ∷ cleared W H work' ∷ [])

-- At cut 0 it is the image itself, all P bytes and its area; and from the image so rebuilt the labels that it was rebuilt from are found again,
-- with the same answer, in any labels and work of the right lengths.
pub record Exact (W H e : ℕ) (image target labels work work' : List ℕ) : Type 0 where
  pub rebuilt :
      let m = output (decomposed W H e image labels work) in
      reconstructed W H e 0 m target work' ≡ outcome (foreground (area W H (image_set W H image))) (image ∷ cleared W H work' ∷ [])
  pub again : (labels' work'' : List ℕ) → Buffers W H labels' work''
      → let d = decomposed W H e image labels work in
      let t = output (reconstructed W H e 0 (output d) target work') in
      decomposed W H e t labels' work'' ≡ outcome d.answer (output d ∷ cleared W H work'' ∷ [])

abbrev pub RebuildIsExact : Type 0
RebuildIsExact =
    (W H e : ℕ) (image target labels work work' : List ℕ) → Image W H image → T (is_element e) → Buffers W H labels work
    → 3 * plane_bytes W H ≤ length work' → length target ≡ plane_bytes W H → Exact W H e image target labels work work'

-- The labels of an image never meet row 5.
abbrev pub LabelsStay : Type 0
LabelsStay =
    (W H e : ℕ) (image : List ℕ) → T (is_element e)
    → is_wild W H (offsets e) (skeleton_labels W H (offsets e) (image_set W H image)) ≡ false

-- ---- demand 3: a list of sieves

-- A sieve of an accepted image with a frame, element, cut and buffers in order is not refused.
abbrev pub SieveIsAccepted : Type 0
SieveIsAccepted =
    (s : Sieve) (image : List ℕ) → Image s.width s.height image → T (is_element s.element)
    → Buffers s.width s.height s.labels s.first_work
    → 3 * plane_bytes s.width s.height ≤ length s.second_work → s.cut ≤ max_side → sieve_refused s image ≡ false

-- What holds after a list of sieves: done are those not refused, K is their largest cut, or 0.
pub record Sieved (W H e : ℕ) (first : List ℕ) (done : List (Sieve × Outcome)) (K : ℕ) (last : List ℕ) : Type 0 where
  -- all P bytes are those of the opening of the first image by the K-fold element
  pub image : last ≡ pack W H (opening (times (offsets e) K) (image_set W H first))
  -- the last reconstruction that was not refused, if there is one, answered that opening's area
  pub answer : (before : List (Sieve × Outcome)) (a : Sieve × Outcome) → done ≡ before ++ (a ∷ [])
      → a.1.answer ≡ foreground (area W H (opening (times (offsets e) K) (image_set W H first)))
  -- the labels above K of the first image are the formula's
  pub formula : (x y n : ℕ) → x < W → y < H → K ≤ n
      → (get_or (skeleton_labels W H (offsets e) (image_set W H first)) (y * W + x) 0 ≡ suc n)
      ↔ T (skeleton_subset (offsets e) (image_set W H first) n (at (pos x) (pos y)))
  -- and those of the last image are the same at the same places
  pub labels : (x y n : ℕ) → x < W → y < H → K ≤ n
      → (get_or (skeleton_labels W H (offsets e) (image_set W H last)) (y * W + x) 0 ≡ suc n)
      ↔ (get_or (skeleton_labels W H (offsets e) (image_set W H first)) (y * W + x) 0 ≡ suc n)

-- those not refused have this frame and element
abbrev pub OneFrame : ℕ → ℕ → ℕ → List (Sieve × Outcome) → Type 0
OneFrame W H e done = (a : Sieve × Outcome) → Memᴰ a done → (a.0.width ≡ W) × (a.0.height ≡ H) × (a.0.element ≡ e)

-- One claim about the whole list.
abbrev pub SieveList : Type 0
SieveList =
    (W H e : ℕ) (first : List ℕ) (ss : List Sieve) → Image W H first → T (is_element e) → OneFrame W H e (accepted ss first)
    → Sieved W H e first (accepted ss first) (largest_cut (accepted ss first)) (sieve_all ss first)

-- ---- shortening

-- What minimisation leaves of the labels m, by what a reconstruction at cut 0 makes of it into any image and work.
pub record Minimal (W H e : ℕ) (m m' : List ℕ) : Type 0 where
  -- a label is kept or dropped
  pub part : (j : ℕ) → (get_or m' j 0 ≡ get_or m j 0) ⊎ (get_or m' j 0 ≡ 0)
  -- the outcome is the same: the image, its area, the work
  pub unchanged : (image work : List ℕ) → reconstructed W H e 0 m' image work ≡ reconstructed W H e 0 m image work
  -- and no refusal, where image and work have their lengths
  pub accepted : (image work : List ℕ) → length image ≡ plane_bytes W H → 3 * plane_bytes W H ≤ length work
      → (reconstructed W H e 0 m' image work).answer.refusal ≡ 0
  -- dropping any one more point changes the image
  pub irredundant : (image work : List ℕ) → length image ≡ plane_bytes W H → 3 * plane_bytes W H ≤ length work
      → (i : ℕ) → i < W * H → get_or m' i 0 ≢ 0
      → output (reconstructed W H e 0 (set m' i 0) image work) ≢ output (reconstructed W H e 0 m' image work)

-- Of every accepted map, from a scan or not.
abbrev pub ShorteningIsMinimal : Type 0
ShorteningIsMinimal =
    (W H e : ℕ) (labels work counters : List ℕ) → (minimised W H e labels work counters).answer.refusal ≡ 0
    → Minimal W H e labels (output (minimised W H e labels work counters))

-- On the labels of an image, no point of size 0 is dropped.
abbrev pub SizeZeroStays : Type 0
SizeZeroStays =
    (W H e : ℕ) (image labels work work' counters : List ℕ) → (decomposed W H e image labels work).answer.refusal ≡ 0
    → let m = output (decomposed W H e image labels work) in
    (minimised W H e m work' counters).answer.refusal ≡ 0
    → (i : ℕ) → i < W * H → get_or m i 0 ≡ 1 → get_or (output (minimised W H e m work' counters)) i 0 ≡ 1

-- ---- hit-or-miss

-- What hit-or-miss writes is ink exactly at the points that the mask hits, whatever the mask.
abbrev pub HitsExactly : Type 0
HitsExactly =
    (W H : ℕ) (m : ℕ × ℕ) (image out : List ℕ) → (hit_or_miss W H m image out).answer.refusal ≡ 0
    → (z : Point) → Ink W H (output (hit_or_miss W H m image out)) z ↔ Hit W H m (Ink W H image) z

-- ---- thinning

-- A point that is not judged, since one of its nine lies off the frame, is as it was.
abbrev pub EdgeStays : Type 0
EdgeStays =
    (W H : ℕ) (image work : List ℕ) → (thin W H image work).answer.refusal ≡ 0
    → (z b : Point) → MaskOffset 511 b → (Within W H (z ⊞ b) → ⊥) → Ink W H (output (thin W H image work)) z ↔ Ink W H image z

-- Where a side is below 3 nothing is hit, and thinning makes one pass, removes nothing and leaves every byte of the image.
pub record Narrow (W H : ℕ) : Type 0 where
  pub hits : (m : ℕ × ℕ) (image out : List ℕ) → (hit_or_miss W H m image out).answer.refusal ≡ 0
      → hit_or_miss W H m image out ≡ outcome (foreground 0) (replicate (plane_bytes W H) 0 ∷ [])
  pub thinning : (image work : List ℕ) → Image W H image → (thin W H image work).answer.refusal ≡ 0
      → thin W H image work ≡ outcome (thinned 1 0 (area W H (image_set W H image))) (image ∷ cleared W H work ∷ [])

abbrev pub NarrowStays : Type 0
NarrowStays = (W H : ℕ) → (W < 3) ⊎ (H < 3) → Narrow W H

-- the image after n passes, and its points
unfoldable pub after : ℕ → ℕ → ℕ → List ℕ → List ℕ
after zero W H image = image
after (suc n) W H image = after n W H (thin_pass W H golay_l image)

abbrev pub points_after : ℕ → ℕ → ℕ → List ℕ → ℕ
points_after n W H image = area W H (image_set W H (after n W H image))

-- The pass after the first n is the first that removes nothing: it is the last, and counted; the answer has the points removed and those left.
pub record Stops (W H : ℕ) (image : List ℕ) (o : Outcome) (n : ℕ) : Type 0 where
  pub idle : points_after n W H image ≡ points_after (suc n) W H image
  pub busy : (j : ℕ) → j < n → points_after j W H image ≢ points_after (suc j) W H image
  pub left : output o ≡ after (suc n) W H image
  pub answer : let left = points_after (suc n) W H image in o.answer ≡ thinned (suc n) (area W H (image_set W H image) - left) left

abbrev pub ThinningStops : Type 0
ThinningStops = (W H : ℕ) (image work : List ℕ) → (thin W H image work).answer.refusal ≡ 0 → (n : ℕ) × Stops W H image (thin W H image work) n

-- A pass that is not idle leaves fewer points, so that passes past one more than the points change nothing; after the last pass
-- a further one changes no byte.
pub record Ends (W H : ℕ) (image : List ℕ) : Type 0 where
  pub falls :
      let next = thin_pass W H golay_l image in
      area W H (image_set W H image) ≢ area W H (image_set W H next) → area W H (image_set W H next) < area W H (image_set W H image)
  pub enough : (n : ℕ) → area W H (image_set W H image) ≤ n → thin_passes (suc n) W H image ≡ thin_passes (suc (area W H (image_set W H image))) W H image
  pub idle :
      let left = (thin_passes (suc (area W H (image_set W H image))) W H image).image in
      thin_pass W H golay_l left ≡ left

-- Thinning ends, whatever the bytes are.
abbrev pub ThinningEnds : Type 0
ThinningEnds = (W H : ℕ) (image : List ℕ) → Ends W H image
