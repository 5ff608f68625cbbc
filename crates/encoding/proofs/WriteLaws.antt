-- The stream and the plane of a size at its turn, by the lengths that were measured.
use mathlib.Core.Bool.{Bool, true}
use mathlib.Core.List.{List, map}
use mathlib.Core.Path.{◌∙◌, ◌≡◌, ap, subst, sym}
use Prim.Native.Nat.{◌+◌, ◌-◌, ◌<◌, ◌^◌, ◌≤◌, ℕ}
use native.Mathlib.Omega.{arith}
use lib.Dec.{T}
use lib.ListN.{get_or, length, take}
use lib.Seq.{get_or-take, length-take-le}
use Rattle.coding.specs.Symbols.{numeral, pack_symbols, section}
use Rattle.coding.specs.Writing.{eroded_runs}
use Rattle.iteration.specs.Steps.{First}
use Rattle.raster.specs.Frames.{Sheet}
use Rattle.morphology.specs.Element.{is_element, offsets}
use Rattle.morphology.specs.Image.{image_set, is_clean}
use Rattle.morphology.specs.Morphology.{erode, times}
use Rattle.morphology.specs.Point.{Point}
use Rattle.morphology.proofs.ImageLaws.{image_on}
use Rattle.sections.specs.Pens.{Marked, PenRoom}
use Rattle.encoding.specs.Sizes.{Gone, Lengths, SizesPassed, SizeStepped, ink_runs, open_runs, symbols_below}
use Rattle.encoding.proofs.LastLaws.{passed_last}
use Rattle.encoding.proofs.SizeLaws.{passed-clean, passed_more, passed-runs}
use Rattle.encoding.proofs.StreamLaws.{Streamed, eroded_once, written_all, written-fits, written_last, written-room, written-runs, written_two}

-- place n of the first k lengths
pub length-at : (k n : ℕ) (lengths : List ℕ) → k ≤ length lengths → n < length (take k lengths) → (n < k) × (get_or (take k lengths) n 0 ≡ get_or lengths n 0)
length-at k n lengths h l =
    let i : n < k = omega (arith, length-take-le k lengths h) in
    (i, get_or-take k lengths n 0 i)

-- the sizes below n are written, and the plane of size n stands in work
pub record Written (W H p e : ℕ) (work₀ : List ℕ) (n symbols end : ℕ) (work out : List ℕ) : Type 0 where
  pub plane : SizesPassed W H p (offsets e) (image_set W H work₀) n work₀ work
  pub stream : Streamed (eroded_runs W H (offsets e) (image_set W H work₀)) n symbols end out

module _ {W H r p e : ℕ} {work₀ : List ℕ} {n symbols end : ℕ} {work out : List ℕ} (sheet : Sheet W H r p) (el : T (is_element e))
    (w : Written W H p e work₀ n symbols end work out) where
  abbrev X : Point → Bool
  X = image_set W H work₀

  abbrev f : ℕ → List ℕ
  f = eroded_runs W H (offsets e) X

  pub turn-clean : T (is_clean W H work)
  turn-clean = passed-clean e sheet el (image_on W H work₀) w.plane

  runs_are : open_runs W H (offsets e) work ≡ f n
  runs_are = passed-runs e sheet el (image_on W H work₀) w.plane

  module _ {sizes : ℕ} {lengths : List ℕ} (m : Lengths W H (offsets e) X sizes lengths symbols) (few : n < sizes) where
    measured : get_or lengths n 0 ≡ length (section (map numeral (f n)))
    measured = m.each n few

    -- the v symbols of its section have their place before the end
    module _ {v : ℕ} (read : v ≡ get_or lengths n 0) where
      pub turn-fits : v ≤ end
      turn-fits = omega (arith, read, measured, written-fits w.stream sizes few m.whole)

      next : end ≡ end - v + length (section (map numeral (f n)))
      next = omega (arith, read, measured, turn-fits)

      -- with room for its runs
      pub turn-room : symbols < 2 ^ 40 → PenRoom true out (end - v) (open_runs W H (offsets e) work)
      turn-room h = subst (PenRoom true out (end - v)) (sym runs_are) (written-room w.stream (end - v) next h)

      -- two commas stand already
      pub turn_two : {work' : List ℕ} → v ≡ 2 → First W H p (erode (times (offsets e) 1) (image_set W H work)) work work'
          → Written W H p e work₀ (n + 1) symbols (end - v) work' out
      turn_two {work'} two d = record {
        plane = passed_more e sheet el (image_on W H work₀) w.plane (eroded_once W H p (offsets e) work work' d);
        stream = written_two w.stream (end - v) next (sym (read ∙ measured) ∙ two);
      }

      -- any other section has its runs written
      pub turn-runs : {work' out' : List ℕ} {to : ℕ} → SizeStepped true W H p (offsets e) work work' out out' (end - v) to
          → Written W H p e work₀ (n + 1) symbols (end - v) work' out'
      turn-runs d = record {
        plane = passed_more e sheet el (image_on W H work₀) w.plane d.planes;
        stream = written-runs w.stream (end - v) next runs_are d.runs;
      }

    -- the largest size, at the stream's start
    module _ (last : sizes ≡ n + 1) (gone : Gone (offsets e) X sizes) where
      last_runs : ink_runs W H work ≡ f n
      last_runs = passed_last e sheet el (image_on W H work₀) w.plane (omega (arith, last)) gone

      start : end ≡ 0 + length (section (map numeral (f n)))
      start = written_last w.stream sizes last m.whole

      pub last-room : symbols < 2 ^ 40 → PenRoom true out 0 (ink_runs W H work)
      last-room h = subst (PenRoom true out 0) (sym last_runs) (written-room w.stream 0 start h)

      pub last_all : {out' : List ℕ} {to : ℕ} → ((i : ℕ) → get_or out' i 0 < 256) → Marked true (ink_runs W H work) out out' 0 to
          → out' ≡ pack_symbols (symbols_below f sizes)
      last_all b d =
          let all = written-runs w.stream 0 start last_runs d in
          written_all all b (m.whole ∙ ap (λ (k : ℕ). length (symbols_below f k)) last) ∙ ap (λ (k : ℕ). pack_symbols (symbols_below f k)) (sym last)
