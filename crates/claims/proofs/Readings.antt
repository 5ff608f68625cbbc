-- The claims of 02 about reading the coded ticket, each proved.
use mathlib.Core.Bool.{Bool, ◌&&◌}
use mathlib.Core.List.{List, [], ◌++◌, ◌∷◌}
use mathlib.Core.Option.{Option, none, some}
use mathlib.Core.Path.{◌∙◌, ◌≡◌, ap, ap₂, refl, sym}
use Prim.Native.Nat.{suc, zero, ℕ}
use lib.Dec.{T}
use lib.ListN.{length, take}
use lib.Pow.{are_bytes}
use Rattle.claims.specs.Claims.{Image}
use Rattle.claims.specs.Readings.{
  OneStream,
  ReadIsImage,
  ReadIsOwn,
  ReaderRefusesExactly,
  ReadingBuffers,
  SettledReadings,
  StreamsAreRead,
  WrittenIsRead,
  largest_of,
  stream_length,
}
use Rattle.claims.proofs.AcceptedLaws.{decoded-accepted, encoded-accepted}
use Rattle.claims.proofs.Claims.{canonical}
use Rattle.claims.proofs.Codes.{writes_the_code}
use Rattle.claims.proofs.RowLaws.{code_rises, refuses_late}
use Rattle.claims.proofs.WritingLaws.{packed-writes}
use Rattle.coding.specs.Codes.{code, code_of, map_code}
use Rattle.coding.specs.Coding.{coded, encode_rows, encoded}
use Rattle.morphology.specs.Answers.{Outcome, foreground, outcome, output}
use Rattle.morphology.specs.Element.{is_element, offsets}
use Rattle.morphology.specs.Image.{image_set, pack}
use Rattle.morphology.specs.Labels.{area}
use Rattle.morphology.specs.Lists.{greatest}
use Rattle.morphology.specs.Operations.{cleared_planes}
use Rattle.morphology.specs.Point.{Point}
use Rattle.morphology.specs.Refusals.{Row, image_rows, is_side, not_plane, row8, short_work}
use Rattle.morphology.specs.Skeleton.{skeleton_labels}
use Rattle.morphology.proofs.ElementLaws.{element}
use Rattle.morphology.proofs.FrameLaws.{OnFrame}
use Rattle.morphology.proofs.ImageLaws.{image_on, image-pack}
use Rattle.morphology.proofs.PlaneLaws.{pack_inj}
use Rattle.morphology.proofs.RefusalLaws.{Clear, T_of-not, first_clear, good, lengths_in, lengths-out}
use Rattle.reading.specs.Decoding.{decode_rows, decoded}
use Rattle.reading.specs.Maps.{code_rows, code_set}
use Rattle.reading.proofs.DecodingLaws.{accepted-decoded}
use Rattle.reading.proofs.OwnLaws.{Accepts, accepts_own, codes_equal, own-accepted, read-sections, sections_read}
use Rattle.reading.proofs.ReadingCases.{settled}

-- ---- the settled cases

pub settled_readings : SettledReadings
settled_readings = settled

-- ---- refusals

pub reader_refuses_exactly : ReaderRefusesExactly
unfolding decoded
reader_refuses_exactly W H e n bytes image work =
    let B = offsets e in
    let X = code_set W H B n bytes in
    let w = cleared_planes 5 W H work in
    refuses_late (decode_rows W H e image work) (code_rows W H B n bytes) (image ∷ work ∷ []) (image ∷ w ∷ [])
    (outcome (foreground (area W H X)) (pack W H X ∷ w ∷ [])) (code_rises W H B n bytes) refl

pub streams_are_read : StreamsAreRead
streams_are_read W H B n bytes m rest = (
  (λ e.
      let r = read-sections W H B n bytes m rest e in
      record { runs = r.0; points = r.1; sizes = r.2; symbols = r.3; placed = r.4; map = r.5 }),
  (λ r.
      sections_read W H B r.runs rest n bytes r.points r.sizes r.symbols r.placed ∙ ap (λ (l : List ℕ). some (l, rest)) (sym r.map)),
)

-- ---- one stream for one scan

-- what a call that is not refused has read: the image of its own code
record HasRead (W H e : ℕ) (n : Option ℕ) (bytes : List ℕ) (X : Point → Bool) (o success : Outcome) : Type 0 where
  sides : T (is_side W && is_side H)
  proper : T (is_element e)
  accepts : Accepts W H (offsets e) n bytes X
  on : OnFrame W H X
  own : code_of W H (offsets e) X ≡ code n bytes
  is : o ≡ success

has_read : (W H e : ℕ) (n : Option ℕ) (bytes target work : List ℕ) → T (are_bytes bytes) → (decoded W H e n bytes target work).answer.refusal ≡ 0
    → let X = code_set W H (offsets e) n bytes in
    HasRead W H e n bytes X (decoded W H e n bytes target work) (outcome (foreground (area W H X)) (pack W H X ∷ cleared_planes 5 W H work ∷ []))
has_read W H e n bytes target work t h =
    let B = offsets e in
    let a = decoded-accepted W H e n bytes target work h in
    let s = T_of-not (is_side W && is_side H) a.clear.0 in
    let el = T_of-not (is_element e) a.clear.1.0 in
    let c : Accepts W H B n bytes (code_set W H B n bytes) = record { passes = first_clear (code_rows W H B n bytes) a.clear.1.1.1; image = refl } in
    let r = (accepts_own W H B s (element e el) n bytes (code_set W H B n bytes) t).0 c in
    record { sides = s; proper = el; accepts = c; on = r.0; own = r.1; is = a.is }

-- a code that is accepted with an image is read as its bytes
image_read : (W H e : ℕ) (n : Option ℕ) (bytes target work image : List ℕ) → Image W H image → T (is_element e) → ReadingBuffers W H target work
    → Accepts W H (offsets e) n bytes (image_set W H image)
    → decoded W H e n bytes target work ≡ outcome (foreground (area W H (image_set W H image))) (image ∷ cleared_planes 5 W H work ∷ [])
image_read W H e n bytes target work image i el l a =
    accepted-decoded W H e target work (good W H image i.passes).sides el l.target l.work n bytes (image_set W H image) a
    ∙ ap (λ (s : List ℕ). outcome (foreground (area W H (image_set W H image))) (s ∷ cleared_planes 5 W H work ∷ [])) (canonical W H image i)

pub read_is_own : ReadIsOwn
read_is_own W H e n bytes target work image i el l t = (
  (λ q.
      let d = has_read W H e n bytes target work t (ap (λ (o : Outcome). o.answer.refusal) q) in
      let X = code_set W H (offsets e) n bytes in
      let same : image_set W H image ≡ X = ap (image_set W H) (ap output (sym q ∙ d.is)) ∙ image-pack W H X d.on in
      ap (code_of W H (offsets e)) same ∙ d.own),
  (λ q.
      let s = (good W H image i.passes).sides in
      image_read W H e n bytes target work image i el l
      ((accepts_own W H (offsets e) s (element e el) n bytes (image_set W H image) t).1 (image_on W H image, q))),
)

-- an image that the writer's rows let pass
clear-image : (W H e : ℕ) (image work : List ℕ) (late : List Row) → Clear (encode_rows W H e image work ++ late) → T (are_bytes image) → Image W H image
clear-image W H e image work late c b = record {
  passes = first_clear (image_rows W H image) (
    c.0,
    (
      lengths_in (not_plane W H image ∷ []) ((lengths-out (not_plane W H image ∷ short_work W H work ∷ []) c.1.1.0).0, tt),
      (c.1.1.1.0, tt),
    ),
  );
  bytes = b;
}

-- the writer's answer tells the largest size, and the bytes of the stream
largest_told : (largest : Option ℕ) (stream : List ℕ) → largest_of (coded (code largest stream)) ≡ largest
largest_told none s = refl
largest_told (some n) s = refl

length_told : (W H : ℕ) (B : List Point) (X : Point → Bool) → stream_length (coded (code_of W H B X)) ≡ length (code_of W H B X).stream
unfolding code_of map_code
length_told W H B X = by (greatest (skeleton_labels W H B X))
  where
    by : (g : ℕ) → let t = map_code W H B (skeleton_labels W H B X) g in stream_length (coded t) ≡ length t.stream
    by zero = refl
    by (suc n) = refl

pub written_is_read : WrittenIsRead
written_is_read W H e image out work target work' b q l =
    let B = offsets e in
    let X = image_set W H image in
    let t = code_of W H B X in
    let o = encoded W H e image out work in
    let a = encoded-accepted W H e image out work q in
    let c = writes_the_code W H e image out work q in
    let s = T_of-not (is_side W && is_side H) a.clear.0 in
    let el = T_of-not (is_element e) a.clear.1.0 in
    let i = clear-image W H e image work (row8 (length t.stream) out ∷ []) a.clear b in
    let n : largest_of o.answer ≡ t.largest = ap largest_of c.answer ∙ largest_told t.largest t.stream in
    let k : stream_length o.answer ≡ length t.stream = ap stream_length c.answer ∙ length_told W H B X in
    ap₂ (λ (m : Option ℕ) (c : List ℕ). decoded W H e m c target work') n (ap (λ (k : ℕ). take k (output o)) k ∙ c.stream)
    ∙ image_read W H e t.largest t.stream target work' image i el l (own-accepted W H B s (element e el) X (image_on W H image))

pub one_stream : OneStream
one_stream W H e n k bytes bits target work target' work' t u p q =
    let B = offsets e in
    let X = code_set W H B n bytes in
    let Y = code_set W H B k bits in
    let c = has_read W H e n bytes target work t p in
    let d = has_read W H e k bits target' work' u q in
    let r = codes_equal W H B c.sides (element e c.proper) n k bytes bits X Y t u c.accepts d.accepts in (
      (λ h. ap output c.is ∙ ap (pack W H) (r.0 h) ∙ sym (ap output d.is)),
      (λ h. r.1 (pack_inj W H X Y c.on d.on (sym (ap output c.is) ∙ h ∙ ap output d.is))),
    )

pub read_is_image : ReadIsImage
read_is_image W H e n bytes target work t q =
    let d = has_read W H e n bytes target work t q in
    packed-writes W H d.sides (code_set W H (offsets e) n bytes) (cleared_planes 5 W H work ∷ []) (decoded W H e n bytes target work) d.on d.is
