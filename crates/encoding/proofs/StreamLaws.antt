-- A stream written from its end on: the sections of the sizes below n, before them commas, after them the padding of the last byte.
use mathlib.Core.Bool.{true}
use mathlib.Core.List.{List, [], ◌++◌, ◌∷◌, append_assoc, map}
use mathlib.Core.Path.{◌∙◌, ◌≡◌, ap, ap₂, refl, sym}
use Prim.Native.Nat.{◌*◌, ◌+◌, ◌-◌, ◌/◌, ◌<◌, ◌^◌, ◌≤◌, suc, zero, ℕ}
use native.Mathlib.Nat.{add-zero}
use native.Mathlib.Omega.{arith}
use lib.Dec.{T, lt→ltb, ltb}
use lib.ListN.{get_or-append, get_or, get_or-replicate, length, length-append, length-replicate, replicate, replicate-append-replicate}
use lib.Pow.{are_bytes}
use lib.Seq.{drop-append-add, drop_at, sets, sets-eq, take-append_seam}
use Rattle.coding.specs.Symbols.{numeral, pack_symbols, section, symbols_of}
use Rattle.coding.specs.Writing.{ending, runs_symbols}
use Rattle.coding.proofs.PackLaws.{length_symbols, pack_padded, pack-symbols}
use Rattle.coding.proofs.SectionLaws.{section-runs}
use Rattle.iteration.specs.Bands.{PlaneEroded}
use Rattle.iteration.specs.Steps.{First}
use Rattle.iteration.proofs.StepLaws.{drop_later}
use Rattle.morphology.specs.Image.{image_set, pack}
use Rattle.morphology.specs.Morphology.{erode, times}
use Rattle.morphology.specs.Point.{Point}
use Rattle.morphology.proofs.MorphologyLaws.{eroded-suc, eroded-zero}
use Rattle.morphology.proofs.TestLaws.{and_in}
use Rattle.sections.specs.Pens.{Marked, PenRoom}
use Rattle.encoding.specs.Sizes.{symbols_below}
use Rattle.encoding.proofs.SizeLaws.{below_suc, section_parts, section_two}

-- ---- bytes and their symbols

-- a list of bytes, by each of them
bytes_are : (l : List ℕ) → ((i : ℕ) → get_or l i 0 < 256) → T (are_bytes l)
bytes_are [] h = tt
bytes_are (v ∷ l) h = and_in (ltb v 256) (are_bytes l) (lt→ltb v 256 (h 0)) (bytes_are l (λ i. h (suc i)))

-- bytes of 0 are commas
symbols_zeros : (n : ℕ) → symbols_of (replicate n 0) ≡ replicate (4 * n) 0
unfolding symbols_of
symbols_zeros zero = refl
symbols_zeros (suc n) =
    let e : suc (suc (suc (suc (4 * n)))) ≡ 4 * suc n = omega arith in
    ap (λ (l : List ℕ). 0 ∷ 0 ∷ 0 ∷ 0 ∷ l) (symbols_zeros n) ∙ ap (λ (k : ℕ). replicate {A = ℕ} k 0) e

-- ---- stores over commas

-- stores over as many entries
sets_over : (p o q t : List ℕ) → length o ≡ length t → sets (p ++ (o ++ q)) (length p) t ≡ p ++ (t ++ q)
sets_over p o q t e =
    sets-eq t (p ++ (o ++ q)) (length p) (omega (arith, e, length-append p (o ++ q), length-append o q))
    ∙ ap₂ (λ (a b : List ℕ). a ++ t ++ b) (take-append_seam p (o ++ q)) (drop-append-add p (o ++ q) (length t) ∙ drop_at o q (length t) e)
    ∙ append_assoc p t q

-- of as many commas as t and e more, t takes the first
sets-commas : (a e : ℕ) (t rest : List ℕ) → sets (replicate (a + (length t + e)) 0 ++ rest) a t ≡ replicate a 0 ++ (t ++ (replicate e 0 ++ rest))
sets-commas a e t rest =
    let zeros : ℕ → List ℕ = λ k. replicate k 0 in
    let n = length t in
    let more : zeros (n + e) ++ rest ≡ zeros n ++ (zeros e ++ rest) =
    ap (λ (l : List ℕ). l ++ rest) (sym (replicate-append-replicate n e 0)) ∙ append_assoc (zeros n) (zeros e) rest in
    let parts : zeros (a + (n + e)) ++ rest ≡ zeros a ++ (zeros n ++ (zeros e ++ rest)) =
    ap (λ (l : List ℕ). l ++ rest) (sym (replicate-append-replicate a (n + e) 0)) ∙ append_assoc (zeros a) (zeros (n + e)) rest
    ∙ ap (λ (l : List ℕ). zeros a ++ l) more in
    ap₂ (λ (l : List ℕ) (i : ℕ). sets l i t) parts (sym (length-replicate a 0)) ∙ sets_over (zeros a) (zeros n) (zeros e ++ rest) t (length-replicate n 0)

-- ---- sections

-- what ends a section is commas
ending-commas : (rs : List ℕ) → replicate (length (ending rs)) 0 ≡ ending rs
ending-commas [] = refl
ending-commas (r ∷ rs) = refl

-- runs written over as many commas as their section has symbols leave the section
sets-section : (a m : ℕ) (rs rest : List ℕ) → m ≡ a + length (section (map numeral rs))
    → sets (replicate m 0 ++ rest) a (runs_symbols rs) ≡ replicate a 0 ++ (section (map numeral rs) ++ rest)
sets-section a m rs rest e =
    let t = runs_symbols rs in
    ap (λ (k : ℕ). sets (replicate k 0 ++ rest) a t) (e ∙ ap (λ (k : ℕ). a + k) (section_parts rs)) ∙ sets-commas a (length (ending rs)) t rest
    ∙ ap (λ (l : List ℕ). replicate a 0 ++ (t ++ (l ++ rest))) (ending-commas rs)
    ∙ ap (λ (l : List ℕ). replicate a 0 ++ l) (sym (append_assoc t (ending rs) rest) ∙ ap (λ (l : List ℕ). l ++ rest) (sym (section-runs rs)))

-- a section of two symbols is two commas: nothing is written
commas-section : (a m : ℕ) (rs rest : List ℕ) → m ≡ a + length (section (map numeral rs)) → length (section (map numeral rs)) ≡ 2
    → replicate m 0 ++ rest ≡ replicate a 0 ++ (section (map numeral rs) ++ rest)
commas-section a m rs rest e two =
    ap (λ (k : ℕ). replicate k 0 ++ rest) (e ∙ ap (λ (k : ℕ). a + k) two) ∙ ap (λ (l : List ℕ). l ++ rest) (sym (replicate-append-replicate a 2 0))
    ∙ append_assoc (replicate a 0) (0 ∷ 0 ∷ []) rest ∙ ap (λ (l : List ℕ). replicate a 0 ++ (l ++ rest)) (sym (section_two rs two))

-- more sizes have no fewer symbols
below_more : (f : ℕ → List ℕ) (n d : ℕ) → length (symbols_below f n) ≤ length (symbols_below f (n + d))
below_more f n zero = omega (arith, ap (λ (k : ℕ). length (symbols_below f k)) (add-zero n))
below_more f n (suc d) =
    let s = symbols_below f (n + d) in
    let t = section (map numeral (f (n + d))) in
    let e : n + suc d ≡ n + d + 1 = omega arith in
    omega (arith, below_more f n d, ap (λ (k : ℕ). length (symbols_below f k)) e, ap length (below_suc f (n + d)), length-append t s)

-- ---- the stream

-- the commas that fill the last byte
abbrev pub padding : ℕ → List ℕ
padding symbols = replicate (4 * ((symbols + 3) / 4) - symbols) 0

-- the sizes below n are written, from `end` on, in a stream that is to have `symbols`
pub record Streamed (f : ℕ → List ℕ) (n symbols end : ℕ) (out : List ℕ) : Type 0 where
  pub place : end + length (symbols_below f n) ≡ symbols
  pub stream : symbols_of out ≡ replicate end 0 ++ (symbols_below f n ++ padding symbols)

-- none at first
pub written_none : (f : ℕ → List ℕ) (symbols : ℕ) (out : List ℕ) → out ≡ replicate ((symbols + 3) / 4) 0 → Streamed f 0 symbols symbols out
unfolding symbols_below
written_none f symbols out e =
    let k = (symbols + 3) / 4 in
    let pad = 4 * k - symbols in
    let q : 4 * k ≡ symbols + pad = omega arith in
    record {
      place = add-zero symbols;
      stream = ap symbols_of e ∙ symbols_zeros k ∙ ap (λ (n : ℕ). replicate {A = ℕ} n 0) q ∙ sym (replicate-append-replicate symbols pad 0);
    }

module _ {f : ℕ → List ℕ} {n symbols end : ℕ} {out : List ℕ} (w : Streamed f n symbols end out) where
  -- the symbols after the end
  abbrev after : List ℕ
  after = symbols_below f n ++ padding symbols

  -- it keeps its length
  pub written-size : length out ≡ (symbols + 3) / 4
  written-size =
      let pad = 4 * ((symbols + 3) / 4) - symbols in
      let e = sym (length_symbols out) ∙ ap length w.stream ∙ length-append (replicate end 0) after in
      omega (arith, e, w.place, length-append (symbols_below f n) (padding symbols), length-replicate {A = ℕ} end 0, length-replicate {A = ℕ} pad 0)

  -- the next section has its place before
  pub written-fits : (sizes : ℕ) → n < sizes → symbols ≡ length (symbols_below f sizes) → length (section (map numeral (f n))) ≤ end
  written-fits sizes h e =
      let d = sizes - (n + 1) in
      let q : n + 1 + d ≡ sizes = omega arith in
      let one = ap length (below_suc f n) ∙ length-append (section (map numeral (f n))) (symbols_below f n) in
      omega (arith, below_more f (n + 1) d, ap (λ (k : ℕ). length (symbols_below f k)) q, one, w.place, e)

  -- that of the last size at the stream's start
  pub written_last : (sizes : ℕ) → sizes ≡ n + 1 → symbols ≡ length (symbols_below f sizes) → end ≡ 0 + length (section (map numeral (f n)))
  written_last sizes q e =
      let one = ap length (below_suc f n) ∙ length-append (section (map numeral (f n))) (symbols_below f n) in
      omega (arith, w.place, e, ap (λ (k : ℕ). length (symbols_below f k)) q, one)

  module _ (a : ℕ) (next : end ≡ a + length (section (map numeral (f n)))) where
    -- commas, for its runs
    pub written-room : symbols < 2 ^ 40 → PenRoom true out a (f n)
    written-room h = record {
      small = omega (arith, section_parts (f n), next, w.place);
      inside = λ t. omega (arith, section_parts (f n), next, w.place, written-size);
      commas = λ t k l.
          let i : a + k < end = omega (arith, section_parts (f n), next) in
          ap (λ (s : List ℕ). get_or s (a + k) 0) w.stream
          ∙ get_or-append (replicate end 0) after 0 (a + k) (omega (arith, i, length-replicate {A = ℕ} end 0)) ∙ get_or-replicate end (a + k) 0 0 i;
    }

    -- and is one more when it is there
    one_more : (out' : List ℕ) → symbols_of out' ≡ replicate a 0 ++ (section (map numeral (f n)) ++ after) → Streamed f (n + 1) symbols a out'
    one_more out' e =
        let s = section (map numeral (f n)) in
        record {
          place = omega (arith, ap length (below_suc f n), length-append s (symbols_below f n), next, w.place);
          stream = e ∙ ap (λ (l : List ℕ). replicate a 0 ++ l)
              (sym (append_assoc s (symbols_below f n) (padding symbols)) ∙ ap (λ (l : List ℕ). l ++ padding symbols) (sym (below_suc f n)));
        }

    -- by its runs
    pub written-runs : {rs out' : List ℕ} {a' : ℕ} → rs ≡ f n → Marked true rs out out' a a' → Streamed f (n + 1) symbols a out'
    written-runs {rs} {out'} e m =
        one_more out'
        (m.symbols ∙ ap₂ (λ (l ss : List ℕ). sets l a (runs_symbols ss)) w.stream e ∙ sets-section a end (f n) after next)

    -- or as it stands, where it is two commas
    pub written_two : length (section (map numeral (f n))) ≡ 2 → Streamed f (n + 1) symbols a out
    written_two two = one_more out (w.stream ∙ commas-section a end (f n) after next two)

  -- all are written: the bytes of the symbols
  pub written_all : ((i : ℕ) → get_or out i 0 < 256) → symbols ≡ length (symbols_below f n) → out ≡ pack_symbols (symbols_below f n)
  written_all bytes e =
      let z : end ≡ 0 = omega (arith, w.place, e) in
      sym (pack-symbols out (bytes_are out bytes))
      ∙ ap pack_symbols (w.stream ∙ ap (λ (k : ℕ). replicate k 0 ++ after) z)
      ∙ pack_padded (symbols_below f n) (4 * ((symbols + 3) / 4) - symbols) (omega arith) (omega (arith, e))

-- ---- the plane

-- once is an erosion
pub eroded_once : (W H p : ℕ) (B : List Point) (w w' : List ℕ) → First W H p (erode (times B 1) (image_set W H w)) w w' → PlaneEroded W H p B w w'
eroded_once W H p B w w' a =
    let X = image_set W H w in
    record {
      size = a.size;
      first = a.first ∙ ap (pack W H) (eroded-suc B 0 X ∙ ap (erode B) (eroded-zero B X));
      rest = drop_later (2 * p) (3 * p) w' w (omega arith) a.rest;
    }
