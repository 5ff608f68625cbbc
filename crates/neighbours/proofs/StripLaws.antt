-- Rows of a plane loaded into a buffer, moved there, and joined to rows of another plane.
use mathlib.Core.Bool.{Bool, ◌&&◌, and_comm, cond, false, not, true}
use mathlib.Core.List.{List, ◌++◌}
use mathlib.Core.Path.{◌∙◌, ◌≡◌, ap, ap₂, refl, subst, sym}
use Prim.Native.Nat.{◌%◌, ◌*◌, ◌+◌, ◌-◌, ◌/◌, ◌<◌, ◌^◌, ◌≤◌, min, suc, zero, ℕ}
use native.Mathlib.Decide.{dec_le, dec_lt}
use native.Mathlib.Nat.{add_assoc, add_comm, add-mul, div-mul-le_self, div-one, le-div_iff_mul-le, mul-le-mul_right, le_refl, min_comm, min-eq_left, not-suc-le-zero, zero-add}
use native.Mathlib.Omega.{arith}
use borrow.Author.Tests.{le-leb, le-ltb, lt-leb, lt-ltb}
use lib.Dec.{eqb, leb, ltb}
use lib.ListN.{get_or-append, get_or-eq_default, drop, get_or, length, length-drop, length-replicate, replicate, take}
use lib.Pow.{shr-shr}
use lib.Seq.{length-take-le}
use Rattle.morphology.specs.Element.{bit}
use Rattle.raster.specs.Frames.{Frame}
use Rattle.raster.specs.Limits.{max_stride}
use Rattle.raster.proofs.PackLaws.{frame_row}
use Rattle.raster.specs.Rows.{Pixelwise, PlaneIs, RowJoined, join, read_bit, row_bit}
use Rattle.raster.proofs.PartLaws.{PartIs, cut-bit, part_back, part-bit}
use Rattle.raster.proofs.RowLaws.{row_in, row_bit-same, rows_in}
use Rattle.raster.proofs.PlaneLaws.{plane-same, rows_put}
use Rattle.neighbours.specs.Neighbours.{Moved, NearRows, PlaneJoined, column_of, five_of, is_within, joined, near_bit, neighbours, rows_bit, source_bit, strip_bit, turned}
use Rattle.neighbours.proofs.NeighbourLaws.{join_assoc, joined_more, joined_same, joined-swap, joined_unit, row_kept, turned_lt, zeros-bit}
use Rattle.neighbours.proofs.JoinLaws.{plane-kept, plane_more}

-- ---- numbers

pub min_less : (a b : ℕ) → min a b ≡ a - (a - b)
min_less a b = by (dec_le a b)
  where
    by : Dec (a ≤ b) → min a b ≡ a - (a - b)
    by (yes l) = min-eq_left l ∙ omega arith
    by (no l) = min_comm a b ∙ min-eq_left (omega arith) ∙ omega arith

-- bytes of a strip, and of its rows with the two above and the two below
abbrev pub strip_bytes : ℕ
strip_bytes = 2048

abbrev pub near_bytes : ℕ
near_bytes = strip_bytes + 4 * max_stride

-- as many rows as a strip has room for, of q that are left
pub strip-rows : {w h r : ℕ} (q n : ℕ) → Frame w h r → 0 < q → n ≡ min (strip_bytes / r) q → (0 < n) × (n ≤ q) × ((n + 4) * r ≤ near_bytes)
strip-rows {w} {h} {r} q n f l e =
    let k = frame_row f in
    let some : 1 ≤ strip_bytes / r = (le-div_iff_mul-le k.2).1 (omega (arith, k.3)) in
    let most : n ≤ strip_bytes / r = omega arith in
    let u : n * r ≤ strip_bytes / r * r = mul-le-mul_right r most in
    (omega arith, omega arith, omega (arith, add-mul n 4 r, u, div-mul-le_self strip_bytes r, k.3))

-- a pixel of row a + b
rows_at : (a b r x : ℕ) → 8 * (a * r) + (8 * (b * r) + x) ≡ 8 * ((a + b) * r) + x
rows_at a b r x = omega (arith, add-mul a b r)

-- ---- loaded

-- of the rows y - 2 to y + n + 2 the first are blank, then come the rows from on that there are
ends_back : (y blank from : ℕ) → blank ≡ 2 - y → from ≡ y - 2 → y + blank ≡ from + 2
ends_back y blank from eb ef = omega arith

ends-top : (y Y blank : ℕ) → blank ≡ 2 - y → Y < blank → y + Y < 2
ends-top y Y blank eb l = omega arith

ends-sum : (y n h from rows : ℕ) → y + n ≤ h → from ≡ y - 2 → rows ≡ min (y + n + 2) h - from → from + rows ≡ min (y + n + 2) h
ends-sum y n h from rows hy ef er = omega (arith, min_less (y + n + 2) h)

ends_low : (y n h e : ℕ) → e ≡ min (y + n + 2) h → (e ≤ h) × (e ≤ y + n + 2)
ends_low y n h e q = let m = min_less (y + n + 2) h in (omega arith, omega arith)

ends_last : (y n h e Y : ℕ) → e ≡ min (y + n + 2) h → e + 2 ≤ y + Y → Y < n + 4 → h + 2 ≤ y + Y
ends_last y n h e Y q a l = omega (arith, min_less (y + n + 2) h)

ends-room : (y n from rows blank : ℕ) → y + blank ≡ from + 2 → from + rows ≤ y + n + 2 → blank + rows ≤ n + 4
ends-room y n from rows blank q l = omega arith

ends-past : (y from rows blank Y : ℕ) → y + blank ≡ from + 2 → blank + rows ≤ Y → from + rows + 2 ≤ y + Y
ends-past y from rows blank Y q l = omega arith

and_last : (a b : Bool) → (a && (b && false)) ≡ false
and_last true true = refl
and_last true false = refl
and_last false b = refl

-- rows of a plane put into a buffer of zeros
near-placed : (r h y n from rows blank k j m : ℕ) (plane buf ys : List ℕ) → h * r ≤ length plane → (n + 4) * r + 2 ≤ m
    → y + blank ≡ from + 2 → from + rows ≤ h → blank + rows ≤ n + 4
    → ((Y : ℕ) → Y < blank → y + Y < 2) → ((Y : ℕ) → blank + rows ≤ Y → Y < n + 4 → h + 2 ≤ y + Y)
    → k ≡ rows * r → j ≡ rows * r → buf ≡ replicate m 0 → ys ≡ take j (drop (from * r) plane)
    → NearRows plane r h y n (take (blank * r + 1) buf ++ (ys ++ drop k (drop (blank * r + 1) buf)))
unfolding rows_bit near_bit
near-placed r h y n from rows blank k j m plane buf ys hp hb back hf hr top last ek ej z ez X Y l = by (dec_le 8 X) (dec_lt X (8 * r + 8))
  where
    at : ℕ
    at = blank * r + 1

    new : List ℕ
    new = take at buf ++ (ys ++ drop k (drop at buf))

    room : blank * r + rows * r ≤ (n + 4) * r
    room = rows_in blank rows (n + 4) r hr

    fits : from * r + rows * r ≤ h * r
    fits = rows_in from rows h r hf

    cut : length (take j (drop (from * r) plane)) ≡ j
    cut = length-take-le j (drop (from * r) plane) (omega (arith, fits, length-drop (from * r) plane))

    part : PartIs at k buf ys new
    part = part_back at k buf ys (omega (arith, room, ap length z, length-replicate {A = ℕ} m 0)) (ap length ez ∙ cut ∙ ej ∙ sym ek)

    -- a byte outside the part
    blank-bit : (x : ℕ) → get_or new (x / 8) 0 ≡ get_or buf (x / 8) 0 → row_bit new x ≡ false
    blank-bit x e = row_bit-same new buf x e ∙ ap (λ (b : List ℕ). row_bit b x) z ∙ zeros-bit m x

    inside : 8 ≤ X → X < 8 * r + 8 → Dec (Y < blank) → Dec (Y < blank + rows)
        → row_bit new (8 * (Y * r) + X) ≡ (leb 2 (y + Y) && (ltb (y + Y - 2) h && row_bit plane (8 * ((y + Y - 2) * r) + (X - 8))))
    inside p u (yes a) b =
        blank-bit (8 * (Y * r) + X) (part.before ((8 * (Y * r) + X) / 8) (omega (arith, row_in Y blank r (blank * r) a (le_refl (blank * r)))))
        ∙ sym (simp (lt-leb 2 (y + Y) (top Y a)))
    inside p u (no a) (no b) =
        let q : h + 2 ≤ y + Y = last Y (omega arith) l in
        blank-bit (8 * (Y * r) + X) (part.after ((8 * (Y * r) + X) / 8) (omega (arith, rows_in blank rows Y r (omega arith))))
        ∙ sym (simp (le-leb 2 (y + Y) (omega arith), le-ltb (y + Y - 2) h (omega arith)))
    inside p u (no a) (yes b) =
        let x : ℕ = X - 8 in
        let v : ℕ = Y - blank in
        let w : ℕ = 8 * (v * r) + x in
        let i = row_in v rows r (rows * r) (omega arith) (le_refl (rows * r)) in
        let q : blank + v ≡ Y = omega arith in
        let s : from + v ≡ y + Y - 2 = omega arith in
        let e : 8 * (Y * r) + X ≡ 8 * at + w = omega (arith, rows_at blank v r x, ap (λ (a : ℕ). 8 * (a * r) + x) q) in
        ap (row_bit new) e ∙ part-bit part w (omega (arith, i)) ∙ ap (λ (s : List ℕ). row_bit s w) ez ∙ cut-bit (from * r) j plane w (omega (arith, i))
        ∙ ap (row_bit plane) (rows_at from v r x ∙ ap (λ (a : ℕ). 8 * (a * r) + x) s)
        ∙ sym (simp (le-leb 2 (y + Y) (omega arith), lt-ltb (y + Y - 2) h (omega arith)))

    by : Dec (8 ≤ X) → Dec (X < 8 * r + 8)
        → ((leb 8 X && ltb X (8 * r + 8)) && row_bit new (8 * (Y * r) + X))
        ≡ (leb 2 (y + Y) && (ltb (y + Y - 2) h && (leb 8 X && (ltb X (8 * r + 8) && row_bit plane (8 * ((y + Y - 2) * r) + (X - 8))))))
    by (no p) u = simp (lt-leb 8 X (omega arith)) (sym (and_last (leb 2 (y + Y)) (ltb (y + Y - 2) h)))
    by (yes p) (no u) = simp (le-leb 8 X p, le-ltb X (8 * r + 8) (omega arith)) (sym (and_last (leb 2 (y + Y)) (ltb (y + Y - 2) h)))
    by (yes p) (yes u) = simp (le-leb 8 X p, lt-ltb X (8 * r + 8) u) (inside p u (dec_lt Y blank) (dec_lt Y (blank + rows)))

pub near_loaded : (r h y n from rows blank k j m : ℕ) (plane buf ys : List ℕ) → h * r ≤ length plane → y + n ≤ h → (n + 4) * r + 2 ≤ m
    → blank ≡ 2 - y → from ≡ y - 2 → rows ≡ min (y + n + 2) h - from → k ≡ rows * r → j ≡ rows * r → buf ≡ replicate m 0
    → ys ≡ take j (drop (from * r) plane)
    → NearRows plane r h y n (take (blank * r + 1) buf ++ (ys ++ drop k (drop (blank * r + 1) buf)))
near_loaded r h y n from rows blank k j m plane buf ys hp hy hb eb ef er =
    let back = ends_back y blank from eb ef in
    let sum = ends-sum y n h from rows hy ef er in
    let low = ends_low y n h (from + rows) sum in
    near-placed r h y n from rows blank k j m plane buf ys hp hb back low.0 (ends-room y n from rows blank back low.1) (λ Y l. ends-top y Y blank eb l)
    (λ Y l m. ends_last y n h (from + rows) Y sum (ends-past y from rows blank Y back l) m)

-- the bytes of those rows
pub load_fits : (r h y n from rows blank : ℕ) → y + n ≤ h → blank ≡ 2 - y → from ≡ y - 2 → rows ≡ min (y + n + 2) h - from
    → (blank * r + rows * r ≤ (n + 4) * r) × (from * r + rows * r ≤ h * r)
load_fits r h y n from rows blank hy eb ef er =
    let sum = ends-sum y n h from rows hy ef er in
    let low = ends_low y n h (from + rows) sum in
    (rows_in blank rows (n + 4) r (ends-room y n from rows blank (ends_back y blank from eb ef) low.1), rows_in from rows h r low.0)

-- ---- moved

-- one row more with its ends cleared
pub rows-cleared : (r m s k : ℕ) (u v ys : List ℕ) → k ≡ r → m * r + r ≤ length v → PlaneIs 0 r m u v (λ y x. row_bit u (8 * (0 + y * r) + x) && is_within r (x + s))
    → Pixelwise (take k (drop (m * r) v)) ys (λ x b. b && is_within (length (take k (drop (m * r) v))) (x + s))
    → PlaneIs 0 r (m + 1) u (take (m * r) v ++ (ys ++ drop k (drop (m * r) v))) (λ y x. row_bit u (8 * (0 + y * r) + x) && is_within r (x + s))
rows-cleared r m s k u v ys ek h a b =
    let cut : length (take k (drop (m * r) v)) ≡ k = length-take-le k (drop (m * r) v) (omega (arith, length-drop (m * r) v)) in
    let b' : Pixelwise (take k (drop (m * r) v)) ys (λ x b. b && is_within r (x + s)) =
    subst (λ (n : ℕ). Pixelwise (take k (drop (m * r) v)) ys (λ x b. b && is_within n (x + s))) (cut ∙ ek) b in
    rows_put 0 r m k (m * r) u v ys (λ y x b. b && is_within r (x + s)) (sym (zero-add (m * r))) ek h a b'

-- the first k bytes of a strip moved
pub strip-first : (k s : ℕ) (buf old ys : List ℕ) → k ≤ length old → Pixelwise (take k old) ys (λ x b. row_bit buf (x + s))
    → (x : ℕ) → x < 8 * k → row_bit (ys ++ drop k old) x ≡ row_bit buf (x + s)
strip-first k s buf old ys h m x l =
    let cut : length (take k old) ≡ k = length-take-le k old h in
    row_bit-same (ys ++ drop k old) ys x (get_or-append ys (drop k old) 0 (x / 8) (omega (arith, cut, m.size))) ∙ m.pixels x (omega arith)

-- all bytes moved, then each row's ends cleared
module _ (buf mid : List ℕ) (s r m : ℕ) (moved : (x : ℕ) → x < 8 * (m * r) → row_bit mid x ≡ row_bit buf (x + s)) where
  moved_at_lem : (y x : ℕ) → y < m → x < 8 * r → row_bit mid (8 * (y * r) + x) ≡ row_bit buf (8 * (y * r) + (x + s))
  moved_at_lem y x ly lx =
      let i = row_in y m r (m * r) ly (le_refl (m * r)) in
      let e : 8 * (y * r) + x + s ≡ 8 * (y * r) + (x + s) = omega arith in
      moved (8 * (y * r) + x) (omega (arith, i)) ∙ ap (row_bit buf) e

  pub strip-cleared : (new : List ℕ) → PlaneIs 0 r m mid new (λ y x. row_bit mid (8 * (0 + y * r) + x) && is_within r (x + s)) → Moved buf s r m new
  unfolding rows_bit
  strip-cleared new c y x ly lx =
      let e : 8 * (0 + y * r) + x ≡ 8 * (y * r) + x = omega arith in
      ap (row_bit new) (sym e) ∙ c.pixels y x ly lx ∙ ap (λ (n : ℕ). row_bit mid n && is_within r (x + s)) e ∙ ap (λ (b : Bool). b && is_within r (x + s)) (moved_at_lem y x ly lx)
      ∙ and_comm (row_bit buf (8 * (y * r) + (x + s))) (is_within r (x + s))

  -- a move by 8 takes nothing from beyond a row's ends
  pub strip-whole : s ≡ 8 → Moved buf s r m mid
  unfolding rows_bit
  strip-whole e y x ly lx =
      moved_at_lem y x ly lx ∙ sym (simp (le-leb 8 (x + s) (omega arith), lt-ltb (x + s) (8 * r + 8) (omega arith)))

-- ---- a column of the element

-- what bit k of a column asks
abbrev pub bit_asks : Bool → ℕ → (ℕ → Bool) → ℕ → Bool
bit_asks t column rows k = cond (bit column (k * 5)) (rows (turned t k)) (not t)

pub column-none : (t : Bool) (column : ℕ) (rows : ℕ → ℕ → Bool) (a : List ℕ) → RowJoined t a a (λ x. joined t 0 (bit_asks t column (λ k. rows k x)))
unfolding joined
column-none t column rows a = row_kept t a (λ x. not t) (λ x. refl)

pub column_more : (t i : Bool) (column rest k r at n : ℕ) (strip a b c : List ℕ) → rest ≡ column / 2 ^ (k * 5) → at ≡ turned t k * r → length a ≤ n
    → RowJoined t a b (λ x. joined t k (bit_asks t column (λ k. read_bit i strip (8 * (k * r) + x))))
    → RowJoined t b c (λ x. cond (eqb (rest % 2) 1) (read_bit i (take n (drop at strip)) x) (not t))
    → RowJoined t a c (λ x. joined t (k + 1) (bit_asks t column (λ k. read_bit i strip (8 * (k * r) + x))))
column_more t i column rest k r at n strip a b c e ea hn p q = record {
  size = q.size ∙ p.size;
  pixels = λ x l.
      let asks : ℕ → Bool = bit_asks t column (λ k. read_bit i strip (8 * (k * r) + x)) in
      let g : Bool = cond (eqb (rest % 2) 1) (read_bit i (take n (drop at strip)) x) (not t) in
      q.pixels x (omega (arith, p.size)) ∙ ap (λ (m : Bool). join t m g) (p.pixels x l) ∙ join_assoc t (row_bit a x) (joined t k asks) g
      ∙ ap (λ (m : Bool). join t (row_bit a x) (join t (joined t k asks) m))
      (ap₂ (λ (u : ℕ) (v : Bool). cond (eqb (u % 2) 1) (cond i (not v) v) (not t)) e
      (cut-bit at n strip x (omega arith) ∙ ap (λ (m : ℕ). row_bit strip (8 * m + x)) ea))
      ∙ ap (join t (row_bit a x)) (sym (joined_more t k asks));
}

pub column_done : (t : Bool) (column k : ℕ) (rows : ℕ → ℕ → Bool) (a b : List ℕ) → k ≡ 5 → RowJoined t a b (λ x. joined t k (bit_asks t column (λ k. rows k x)))
    → RowJoined t a b (λ x. column_of t column (λ k. rows k x))
unfolding column_of
column_done t column k rows a b e p = subst (λ (n : ℕ). RowJoined t a b (λ x. joined t n (bit_asks t column (λ k. rows k x)))) e p

column-same : (t : Bool) (column : ℕ) (f g : ℕ → Bool) → ((k : ℕ) → k < 5 → f k ≡ g k) → column_of t column f ≡ column_of t column g
unfolding column_of
column-same t column f g e =
    joined_same t 5 (bit_asks t column f) (bit_asks t column g)
    (λ k l. ap (λ (b : Bool). cond (bit column (k * 5)) b (not t)) (e (turned t k) (turned_lt t k l)))

not5 : {k : ℕ} → suc (suc (suc (suc (suc k)))) < 5 → ⊥
not5 {k} l = omega arith

five-zero : (a b c d e : ℕ) → a + b + c + d + e ≡ 0 → (a ≡ 0) × (b ≡ 0) × (c ≡ 0) × (d ≡ 0) × (e ≡ 0)
five-zero a b c d e q = (omega arith, omega arith, omega arith, omega arith, omega arith)

-- an empty column asks nothing
column-idle : (t : Bool) (column : ℕ) (rows : ℕ → Bool)
    → column % 2 + column / 32 % 2 + column / 1024 % 2 + column / 32768 % 2 + column / 1048576 % 2 ≡ 0 → column_of t column rows ≡ not t
unfolding column_of
column-idle t column rows e = joined_unit t 5 (bit_asks t column rows) (λ k l. ap (λ (n : ℕ). cond (eqb n 1) (rows (turned t k)) (not t)) (digit k l))
  where
    none : (column % 2 ≡ 0) × (column / 32 % 2 ≡ 0) × (column / 1024 % 2 ≡ 0) × (column / 32768 % 2 ≡ 0) × (column / 1048576 % 2 ≡ 0)
    none = five-zero (column % 2) (column / 32 % 2) (column / 1024 % 2) (column / 32768 % 2) (column / 1048576 % 2) e

    digit : (k : ℕ) → k < 5 → column / 2 ^ (k * 5) % 2 ≡ 0
    digit zero l = ap (λ (n : ℕ). n % 2) (div-one column) ∙ none.0
    digit (suc zero) l = none.1
    digit (suc (suc zero)) l = none.2
    digit (suc (suc (suc zero))) l = none.3
    digit (suc (suc (suc (suc zero)))) l = none.4
    digit (suc (suc (suc (suc (suc k))))) l = absurd (not5 l)

pub strip-idle : (t : Bool) (r n column : ℕ) (w : List ℕ) (rows : ℕ → ℕ → ℕ → Bool)
    → column % 2 + column / 32 % 2 + column / 1024 % 2 + column / 32768 % 2 + column / 1048576 % 2 ≡ 0
    → PlaneJoined t 0 r n w w (λ y x. column_of t column (rows y x))
strip-idle t r n column w rows e = plane-kept t 0 r n w (λ y x. column_of t column (rows y x)) (λ y x l. column-idle t column (rows y x) e)

-- a column asks of the moved rows what it asks of the rows in the buffer
pub strip_column : (t i : Bool) (r n column s s' : ℕ) (buf strip old new : List ℕ) → length old ≡ n * r → s ≡ s' → Moved buf s r (n + 4) strip
    → RowJoined t old new (λ X. column_of t column (λ k. read_bit i strip (8 * (k * r) + X)))
    → PlaneJoined t 0 r n old new (λ y x. column_of t column (λ k. strip_bit i buf r (x + s') (y + k)))
strip_column t i r n column s s' buf strip old new len es moved m = record {
  size = m.size;
  before = λ j l. absurd (not-suc-le-zero l);
  after = λ j l. get_or-eq_default new 0 (omega (arith, m.size)) ∙ sym (get_or-eq_default old 0 (omega arith));
  pixels = λ y x ly lx.
      let z : 8 * (0 + y * r) + x ≡ 8 * (y * r) + x = omega arith in
      let i = row_in y n r (n * r) ly (le_refl (n * r)) in
      ap (row_bit new) z ∙ m.pixels (8 * (y * r) + x) (omega (arith, i))
      ∙ ap₂ (join t) (ap (row_bit old) (sym z)) (same y x ly lx);
}
  where
    same : (y x : ℕ) → y < n → x < 8 * r
        → column_of t column (λ k. read_bit i strip (8 * (k * r) + (8 * (y * r) + x))) ≡ column_of t column (λ k. strip_bit i buf r (x + s') (y + k))
    same y x ly lx =
        column-same t column (λ k. read_bit i strip (8 * (k * r) + (8 * (y * r) + x))) (λ k. strip_bit i buf r (x + s') (y + k))
        (λ k lk. ap (λ (b : Bool). cond i (not b) b)
        (ap (row_bit strip) (rows_at k y r x) ∙ moved (k + y) x (omega arith) lx ∙ ap₂ (λ (a b : ℕ). rows_bit buf r (x + a) b) es (add_comm k y)))

-- ---- all columns

-- what column j of an element asks at (x, y)
abbrev pub column_asks : Bool → ℕ → (ℕ → ℕ → Bool) → ℕ → ℕ → ℕ → Bool
column_asks t e near y x j = column_of t (e / 2 ^ j) (λ k. near (x + (turned t j + 6)) (y + k))

pub strip-none : (t : Bool) (r n : ℕ) (w : List ℕ) (f : ℕ → ℕ → ℕ → Bool) → PlaneJoined t 0 r n w w (λ y x. joined t 0 (f y x))
unfolding joined
strip-none t r n w f = plane-kept t 0 r n w (λ y x. not t) (λ y x l. refl)

pub strip_more : (t : Bool) (r n e rest j : ℕ) (near : ℕ → ℕ → Bool) (u v w : List ℕ) → rest ≡ e / 2 ^ j
    → PlaneJoined t 0 r n u v (λ y x. joined t j (column_asks t e near y x))
    → PlaneJoined t 0 r n v w (λ y x. column_of t rest (λ k. near (x + (turned t j + 6)) (y + k)))
    → PlaneJoined t 0 r n u w (λ y x. joined t (j + 1) (column_asks t e near y x))
strip_more t r n e rest j near u v w z a b =
    plane-same
    (plane_more t 0 r n u v w (λ y x. joined t j (column_asks t e near y x)) (λ y x. column_of t rest (λ k. near (x + (turned t j + 6)) (y + k))) a b)
    (λ y x l. ap (join t (row_bit u (8 * (0 + y * r) + x)))
    (ap (λ (m : ℕ). join t (joined t j (column_asks t e near y x)) (column_of t m (λ k. near (x + (turned t j + 6)) (y + k)))) z
    ∙ sym (joined_more t j (column_asks t e near y x))))

-- column by column is row by row
columns-rows : (t : Bool) (e : ℕ) (near : ℕ → ℕ → Bool) (x y : ℕ) → joined t 5 (column_asks t e near y x) ≡ neighbours t e near x y
unfolding column_of neighbours five_of
columns-rows t e near x y =
    joined-swap t 5 5 (λ j k. cond (bit (e / 2 ^ j) (k * 5)) (near (x + (turned t j + 6)) (y + turned t k)) (not t))
    ∙ joined_same t 5 (λ k. joined t 5 (λ j. cond (bit (e / 2 ^ j) (k * 5)) (near (x + (turned t j + 6)) (y + turned t k)) (not t)))
    (λ k. joined t 5 (λ j. cond (bit (e / 2 ^ (k * 5)) j) (near (x + (turned t j + 6)) (y + turned t k)) (not t)))
    (λ k lk. joined_same t 5 (λ j. cond (bit (e / 2 ^ j) (k * 5)) (near (x + (turned t j + 6)) (y + turned t k)) (not t))
    (λ j. cond (bit (e / 2 ^ (k * 5)) j) (near (x + (turned t j + 6)) (y + turned t k)) (not t))
    (λ j lj. ap (λ (n : ℕ). cond (eqb (n % 2) 1) (near (x + (turned t j + 6)) (y + turned t k)) (not t))
    (shr-shr e j (k * 5) ∙ ap (λ (n : ℕ). e / 2 ^ n) (add_comm j (k * 5)) ∙ sym (shr-shr e (k * 5) j))))

pub strip_done : (t : Bool) (r n e j : ℕ) (near : ℕ → ℕ → Bool) (u v : List ℕ) → j ≡ 5 → PlaneJoined t 0 r n u v (λ y x. joined t j (column_asks t e near y x))
    → PlaneJoined t 0 r n u v (λ y x. neighbours t e near x y)
strip_done t r n e j near u v z a =
    plane-same a (λ y x l. ap (join t (row_bit u (8 * (0 + y * r) + x))) (ap (λ (m : ℕ). joined t m (column_asks t e near y x)) z ∙ columns-rows t e near x y))

-- ---- strips of a plane

neighbours-same : (t : Bool) (e x y y' : ℕ) (f g : ℕ → ℕ → Bool) → ((X k : ℕ) → k < 5 → f X (y + k) ≡ g X (y' + k)) → neighbours t e f x y ≡ neighbours t e g x y'
unfolding neighbours five_of
neighbours-same t e x y y' f g q =
    joined_same t 5 (λ k. joined t 5 (λ j. cond (bit (e / 2 ^ (k * 5)) j) (f (x + (turned t j + 6)) (y + turned t k)) (not t)))
    (λ k. joined t 5 (λ j. cond (bit (e / 2 ^ (k * 5)) j) (g (x + (turned t j + 6)) (y' + turned t k)) (not t)))
    (λ k lk. joined_same t 5 (λ j. cond (bit (e / 2 ^ (k * 5)) j) (f (x + (turned t j + 6)) (y + turned t k)) (not t))
    (λ j. cond (bit (e / 2 ^ (k * 5)) j) (g (x + (turned t j + 6)) (y' + turned t k)) (not t))
    (λ j lj. ap (λ (b : Bool). cond (bit (e / 2 ^ (k * 5)) j) b (not t)) (q (x + (turned t j + 6)) (turned t k) (turned_lt t k lk))))

-- n rows of a plane at d, lent as a part of k bytes and back; the buffer has the rows of the source about row y
pub strip-part : (t i : Bool) (d r h y n k e : ℕ) (plane buf old ys : List ℕ) → k ≡ n * r → d + n * r ≤ length old → NearRows plane r h y n buf
    → PlaneJoined t 0 r n (take k (drop d old)) ys (λ Y x. neighbours t e (strip_bit i buf r) x Y)
    → PlaneJoined t d r n old (take d old ++ (ys ++ drop k (drop d old))) (λ Y x. neighbours t e (source_bit i plane r h) x (y + Y))
strip-part t i d r h y n k e plane buf old ys ek hd near m = record {
  size = part.size;
  before = part.before;
  after = λ j l. part.after j (omega arith);
  pixels = λ Y x ly lx.
      let v = row_in Y n r (n * r) ly (le_refl (n * r)) in
      let z : 8 * (d + Y * r) + x ≡ 8 * d + (8 * (Y * r) + x) = omega arith in
      let o : 8 * (Y * r) + x ≡ 8 * (0 + Y * r) + x = omega arith in
      ap (row_bit new) z ∙ part-bit part (8 * (Y * r) + x) (omega (arith, v)) ∙ ap (row_bit ys) o ∙ m.pixels Y x ly lx
      ∙ ap₂ (join t) (ap (row_bit (take k (drop d old))) (sym o) ∙ cut-bit d k old (8 * (Y * r) + x) (omega (arith, v)) ∙ ap (row_bit old) (sym z))
      (neighbours-same t e x Y (y + Y) (strip_bit i buf r) (source_bit i plane r h)
      (λ X q lq. ap (λ (b : Bool). cond i (not b) b) (near X (Y + q) (omega arith) ∙ ap (near_bit plane r h X) (sym (add_assoc y Y q)))));
}
  where
    cut : length (take k (drop d old)) ≡ k
    cut = length-take-le k (drop d old) (omega (arith, length-drop d old))

    new : List ℕ
    new = take d old ++ (ys ++ drop k (drop d old))

    part : PartIs d k old ys new
    part = part_back d k old ys (omega arith) (m.size ∙ cut)

-- m rows of a plane, then n more
pub plane-rows : (t : Bool) (p r m n : ℕ) (u v w : List ℕ) (f : ℕ → ℕ → Bool) → PlaneJoined t p r m u v f → PlaneJoined t (p + m * r) r n v w (λ Y x. f (m + Y) x)
    → PlaneJoined t p r (m + n) u w f
plane-rows t p r m n u v w f a b = record {
  size = b.size ∙ a.size;
  before = λ j l. b.before j (omega arith) ∙ a.before j l;
  after = λ j l. let q = add-mul m n r in b.after j (omega arith) ∙ a.after j (omega arith);
  pixels = λ y x ly lx. by y x lx ly (dec_lt y m);
}
  where
    by : (y x : ℕ) → x < 8 * r → y < m + n → Dec (y < m) → row_bit w (8 * (p + y * r) + x) ≡ join t (row_bit u (8 * (p + y * r) + x)) (f y x)
    by y x lx l (yes c) =
        let i = row_in y m r (m * r) c (le_refl (m * r)) in
        row_bit-same w v (8 * (p + y * r) + x) (b.before ((8 * (p + y * r) + x) / 8) (omega (arith, i))) ∙ a.pixels y x c lx
    by y x lx l (no c) =
        let Y : ℕ = y - m in
        let q : m + Y ≡ y = omega arith in
        let z : 8 * (p + y * r) + x ≡ 8 * (p + m * r + Y * r) + x = omega (arith, add-mul m Y r, ap (λ (n : ℕ). n * r) q) in
        ap (row_bit w) z ∙ b.pixels Y x (omega arith) lx
        ∙ ap₂ (join t) (ap (row_bit v) (sym z) ∙ row_bit-same v u (8 * (p + y * r) + x) (a.after ((8 * (p + y * r) + x) / 8) (omega (arith, z)))) (ap (λ (n : ℕ). f n x) q)
