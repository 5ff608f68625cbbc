-- An element without its origin, and what the origin asks; a plane begun, joined and cut off.
use mathlib.Core.Bool.{Bool, ◌&&◌, cond, false, not, true}
use mathlib.Core.List.{List}
use mathlib.Core.Path.{◌∙◌, ◌≡◌, ap, ap₂, refl, sym}
use Prim.Native.Nat.{◌%◌, ◌*◌, ◌+◌, ◌-◌, ◌/◌, ◌<◌, ◌^◌, ◌≤◌, suc, zero, ℕ}
use native.Mathlib.Decide.{dec_lt}
use native.Mathlib.Nat.{le_refl}
use mathlib.Core.List.{append-nil, ◌++◌}
use mathlib.Core.Path.{subst}
use lib.ListN.{drop, get_or, length, length-drop, take}
use Rattle.std.proofs.Math.ListN.{drop_of_length-le}
use Rattle.std.proofs.lemmas.List.{get_or-drop, get_or-take}
use Rattle.morphology.specs.Image.{bit_of}
use native.Mathlib.Omega.{arith}
use borrow.Author.Tests.{le-leb, lt-ltb}
use lib.Dec.{T, eqb, eqb→eq, ltb}
use Rattle.morphology.specs.Element.{bit}
use Rattle.raster.specs.Rows.{PlaneIs, RowIs, join, row_bit}
use Rattle.raster.proofs.PartLaws.{PartIs, part_back, part-bit}
use Rattle.raster.proofs.RowLaws.{row_in}
use Rattle.neighbours.specs.Neighbours.{PlaneJoined, five_of, joined, near_bit, neighbours, turned}
use Rattle.planes.specs.Begun.{Begun}
use Rattle.neighbours.proofs.NeighbourLaws.{below5, join_assoc, join_comm, join_unit, joined_same, near_same}

-- v joined at q alone
joined_add : (t : Bool) (n q : ℕ) (v : Bool) (f g : ℕ → Bool) → q < n → ((i : ℕ) → i < n → (i ≡ q → ⊥) → f i ≡ g i) → f q ≡ join t v (g q)
    → joined t n f ≡ join t v (joined t n g)
unfolding joined
joined_add t zero q v f g l e h = absurd (omega arith)
joined_add t (suc n) q v f g l e h = by (dec_lt q n) (λ m. joined_add t n q v f g m (λ i li ne. e i (omega arith) ne) h)
  where
    by : Dec (q < n) → (q < n → joined t n f ≡ join t v (joined t n g)) → join t (joined t n f) (f n) ≡ join t v (join t (joined t n g) (g n))
    by (yes m) less = ap₂ (join t) (less m) (e n (omega arith) (λ z. omega arith)) ∙ join_assoc t v (joined t n g) (g n)
    by (no m) less =
        let z : n ≡ q = omega arith in
        ap₂ (join t) (joined_same t n f g (λ i li. e i (omega arith) (λ y. omega arith))) (ap f z ∙ h ∙ ap (λ (i : ℕ). join t v (g i)) (sym z))
        ∙ sym (join_assoc t (joined t n g) v (g n)) ∙ ap (λ (b : Bool). join t b (g n)) (join_comm t (joined t n g) v) ∙ join_assoc t v (joined t n g) (g n)

-- the same digit where the halves differ by the half
same_digit : (m n c : ℕ) → m ≡ n + 2 * c → m / 2 ≡ n / 2 + c → m % 2 ≡ n % 2
same_digit m n c e h = omega arith

digit-bit : (m n j : ℕ) → m / 2 ^ j % 2 ≡ n / 2 ^ j % 2 → bit m j ≡ bit n j
digit-bit m n j e = ap (λ (i : ℕ). eqb i 1) e

-- what lies above the lowest five bits is not asked
low_bits : (n c j : ℕ) → j < 5 → bit (n + 32 * c) j ≡ bit n j
low_bits n c j l =
    digit-bit (n + 32 * c) n j
    (below5 (λ (j : ℕ). (n + 32 * c) / 2 ^ j % 2 ≡ n / 2 ^ j % 2)
    (same_digit ((n + 32 * c) / 2 ^ 0) (n / 2 ^ 0) (16 * c) (omega arith) (omega arith))
    (same_digit ((n + 32 * c) / 2 ^ 1) (n / 2 ^ 1) (8 * c) (omega arith) (omega arith))
    (same_digit ((n + 32 * c) / 2 ^ 2) (n / 2 ^ 2) (4 * c) (omega arith) (omega arith))
    (same_digit ((n + 32 * c) / 2 ^ 3) (n / 2 ^ 3) (2 * c) (omega arith) (omega arith))
    (same_digit ((n + 32 * c) / 2 ^ 4) (n / 2 ^ 4) c (omega arith) (omega arith)) j l)

five-same : (t : Bool) (m n : ℕ) (row : ℕ → Bool) (x : ℕ) → ((j : ℕ) → j < 5 → bit m j ≡ bit n j) → five_of t m row x ≡ five_of t n row x
unfolding five_of
five-same t m n row x e =
    joined_same t 5 (λ j. cond (bit m j) (row (x + (turned t j + 6))) (not t)) (λ j. cond (bit n j) (row (x + (turned t j + 6))) (not t))
    (λ j l. ap (λ (b : Bool). cond b (row (x + (turned t j + 6))) (not t)) (e j l))

turned_two : (t : Bool) → turned t 2 ≡ 2
turned_two true = refl
turned_two false = refl

-- a row of the element with its middle bit, and without
five_less : (t : Bool) (m n : ℕ) (row : ℕ → Bool) (x : ℕ) → m ≡ n + 4 → m / 4 % 2 ≡ 1 → five_of t m row x ≡ join t (row (x + 8)) (five_of t n row x)
unfolding five_of
five_less t m n row x e o =
    joined_add t 5 2 (row (x + 8)) (λ j. cond (bit m j) (row (x + (turned t j + 6))) (not t)) (λ j. cond (bit n j) (row (x + (turned t j + 6))) (not t)) (omega arith)
    (λ j l ne. ap (λ (b : Bool). cond b (row (x + (turned t j + 6))) (not t)) (digit-bit m n j (other j l ne)))
    (ap₂ (λ (b : Bool) (i : ℕ). cond b (row (x + (i + 6))) (not t)) (ap (λ (i : ℕ). eqb i 1) o) (turned_two t)
    ∙ sym (ap (join t (row (x + 8))) (ap (λ (i : ℕ). cond (eqb i 1) (row (x + (turned t 2 + 6))) (not t)) even) ∙ join_unit t (row (x + 8))))
  where
    even : n / 2 ^ 2 % 2 ≡ 0
    even = let q : n / 4 + 1 ≡ m / 4 = omega arith in omega arith

    eighth : m / 8 ≡ n / 8
    eighth = let q : n / 4 + 1 ≡ m / 4 = omega arith in omega arith

    other : (j : ℕ) → j < 5 → (j ≡ 2 → ⊥) → m / 2 ^ j % 2 ≡ n / 2 ^ j % 2
    other j l ne =
        below5 (λ (j : ℕ). (j ≡ 2 → ⊥) → m / 2 ^ j % 2 ≡ n / 2 ^ j % 2)
        (λ z. same_digit (m / 2 ^ 0) (n / 2 ^ 0) 2 (omega arith) (omega arith))
        (λ z. same_digit (m / 2 ^ 1) (n / 2 ^ 1) 1 (omega arith) (omega arith))
        (λ z. absurd (z refl))
        (λ z. ap (λ (i : ℕ). i % 2) eighth)
        (λ z. let q : m / 16 ≡ n / 16 = omega (arith, eighth) in ap (λ (i : ℕ). i % 2) q) j l ne

-- the element with its origin, and without
pub origin_less : (t : Bool) (e : ℕ) (near : ℕ → ℕ → Bool) (x y : ℕ) → e / 4096 % 2 ≡ 1
    → join t (near (x + 8) (y + 2)) (neighbours t (e - 4096) near x y) ≡ neighbours t e near x y
unfolding neighbours
origin_less t e near x y o =
    sym (joined_add t 5 2 (near (x + 8) (y + 2)) (asks e) (asks a) (omega arith) other
    (five_less t (e / 2 ^ 10) (a / 2 ^ 10) (λ X. near X (y + turned t 2)) x (omega arith) (omega arith)
    ∙ ap (λ (i : ℕ). join t (near (x + 8) (y + i)) (asks a 2)) (turned_two t)))
  where
    a : ℕ
    a = e - 4096

    asks : ℕ → ℕ → Bool
    asks e k = five_of t (e / 2 ^ (k * 5)) (λ X. near X (y + turned t k)) x

    same : (k : ℕ) → e / 2 ^ (k * 5) ≡ a / 2 ^ (k * 5) → asks e k ≡ asks a k
    same k q = ap (λ (n : ℕ). five_of t n (λ X. near X (y + turned t k)) x) q

    above : (k c : ℕ) → e / 2 ^ (k * 5) ≡ a / 2 ^ (k * 5) + 32 * c → asks e k ≡ asks a k
    above k c q =
        ap (λ (n : ℕ). five_of t n (λ X. near X (y + turned t k)) x) q
        ∙ five-same t (a / 2 ^ (k * 5) + 32 * c) (a / 2 ^ (k * 5)) (λ X. near X (y + turned t k)) x (λ j l. low_bits (a / 2 ^ (k * 5)) c j l)

    big : 4096 ≤ e
    big = omega arith

    eighth : e / 8192 ≡ a / 8192
    eighth = let q : a / 4096 + 1 ≡ e / 4096 = omega (arith, big) in omega arith

    other : (k : ℕ) → k < 5 → (k ≡ 2 → ⊥) → asks e k ≡ asks a k
    other k l ne =
        below5 (λ (k : ℕ). (k ≡ 2 → ⊥) → asks e k ≡ asks a k)
        (λ z. above 0 128 (omega (arith, big)))
        (λ z. above 1 4 (omega (arith, big)))
        (λ z. absurd (z refl))
        (λ z. same 3 (omega (arith, eighth)))
        (λ z. same 4 (omega (arith, eighth))) k l ne

-- the origin asks for the pixel itself
pub near_itself : (plane : List ℕ) (r h x y : ℕ) → y < h → x < 8 * r → near_bit plane r h (x + 8) (y + 2) ≡ row_bit plane (8 * (y * r) + x)
unfolding near_bit
near_itself plane r h x y ly lx =
    let ey : y + 2 - 2 ≡ y = omega arith in
    let ex : x + 8 - 8 ≡ x = omega arith in
    simp (le-leb 2 (y + 2) (omega arith), ey, lt-ltb y h ly, le-leb 8 (x + 8) (omega arith), lt-ltb (x + 8) (8 * r + 8) (omega arith), ex)

-- the origin's bit
pub origin-bit : (e : ℕ) → T (bit e 12) → e / 4096 % 2 ≡ 1
origin-bit e t = eqb→eq (e / 2 ^ 12 % 2) 1 t

-- a plane begun with the first one
pub begun_copy : (t : Bool) (p r h e n : ℕ) (old new : List ℕ) → n ≡ h * r → e / 4096 % 2 ≡ 1 → RowIs p n old new (row_bit old)
    → Begun t p r h e (e - 4096) old new
begun_copy t p r h e n old new en o m = record {
  size = m.size;
  before = m.before;
  after = λ j l. m.after j (omega arith);
  pixels = λ y x ly lx.
      let i = row_in y h r (h * r) ly (le_refl (h * r)) in
      let z : 8 * (p + y * r) + x ≡ 8 * p + (8 * (y * r) + x) = omega arith in
      ap (λ (b : Bool). join t b (neighbours t (e - 4096) (near_bit old r h) x y))
      (ap (row_bit new) z ∙ m.pixels (8 * (y * r) + x) (omega (arith, i)) ∙ sym (near_itself old r h x y ly lx))
      ∙ origin_less t e (near_bit old r h) x y o;
}

-- a plane begun and joined
pub plane-joined : (t : Bool) (p r h e rest : ℕ) (v₀ v₁ v₂ : List ℕ) → h * r ≤ p → Begun t p r h e rest v₀ v₁
    → PlaneJoined t p r h v₁ v₂ (λ y x. neighbours t rest (near_bit v₁ r h) x y)
    → PlaneIs p r h v₀ v₂ (λ y x. neighbours t e (near_bit v₀ r h) x y)
plane-joined t p r h e rest v₀ v₁ v₂ hp a b = record {
  size = b.size ∙ a.size;
  before = λ j z. b.before j z ∙ a.before j z;
  after = λ j z. b.after j z ∙ a.after j z;
  pixels = λ y x l k.
      b.pixels y x l k
      ∙ (λ i. join t (row_bit v₁ (8 * (p + y * r) + x)) (neighbours t rest (λ X Y. near_same v₁ v₀ r h (λ j z. a.before j (omega arith)) X Y i) x y))
      ∙ a.pixels y x l k;
}

-- and its padding cleared
pub plane-cleared : (w : ℕ) {p r h : ℕ} {g : ℕ → ℕ → Bool} {v₀ v₂ v₃ : List ℕ} → PlaneIs p r h v₀ v₂ g
    → PlaneIs p r h v₂ v₃ (λ y x. row_bit v₂ (8 * (p + y * r) + x) && ltb x w)
    → PlaneIs p r h v₀ v₃ (λ y x. g y x && ltb x w)
plane-cleared w b c = record {
  size = c.size ∙ b.size;
  before = λ j z. c.before j z ∙ b.before j z;
  after = λ j z. c.after j z ∙ b.after j z;
  pixels = λ y x l k. c.pixels y x l k ∙ ap (λ (n : Bool). n && ltb x w) (b.pixels y x l k);
}

-- a pixel of what stands from byte q on
drop-bit : (q : ℕ) (v : List ℕ) (x : ℕ) → row_bit (drop q v) x ≡ row_bit v (8 * q + x)
unfolding row_bit
drop-bit q v x =
    let e : q + x / 8 ≡ (8 * q + x) / 8 = omega arith in
    let m : x % 8 ≡ (8 * q + x) % 8 = omega arith in
    ap (λ (b : ℕ). bit_of b (x % 8)) (get_or-drop q v (x / 8) 0) ∙ ap₂ (λ (i k : ℕ). bit_of (get_or v i 0) k) e m

-- a plane joined, lent as what stands from it on, and back
pub plane-lent : (t : Bool) (q r h e : ℕ) (v ys new : List ℕ) → h * r ≤ q → q + h * r ≤ length v → new ≡ take q v ++ ys
    → PlaneJoined t 0 r h (drop q v) ys (λ y x. neighbours t e (near_bit (take q v) r h) x y)
    → PlaneJoined t q r h v new (λ y x. neighbours t e (near_bit v r h) x y)
plane-lent t q r h e v ys new hq hv en m = record {
  size = part.size;
  before = part.before;
  after = λ j l. by j l (dec_lt j (length v));
  pixels = λ y x ly lx.
      let i = row_in y h r (h * r) ly (le_refl (h * r)) in
      let z : 8 * (q + y * r) + x ≡ 8 * q + (8 * (y * r) + x) = omega arith in
      let o : 8 * (y * r) + x ≡ 8 * (0 + y * r) + x = omega arith in
      ap (row_bit new) z ∙ part-bit part (8 * (y * r) + x) (omega (arith, i)) ∙ ap (row_bit ys) o ∙ m.pixels y x ly lx
      ∙ ap₂ (join t) (ap (row_bit (drop q v)) (sym o) ∙ drop-bit q v (8 * (y * r) + x) ∙ ap (row_bit v) (sym z))
      (λ i. neighbours t e (λ X Y. near_same (take q v) v r h (λ j l. get_or-take q v j 0 (omega arith)) X Y i) x y);
}
  where
    part : PartIs q (length v - q) v ys new
    part = subst (PartIs q (length v - q) v ys)
        (sym (en ∙ ap (λ (l : List ℕ). take q v ++ l) (sym (append-nil ys) ∙ ap (λ (l : List ℕ). ys ++ l) (sym (drop_of_length-le (drop q v) (omega (arith, length-drop q v)))))))
        (part_back q (length v - q) v ys (omega arith) (m.size ∙ length-drop q v))

    by : (j : ℕ) → q + h * r ≤ j → Dec (j < length v) → get_or new j 0 ≡ get_or v j 0
    by j l (yes k) =
        let z : q + (j - q) ≡ j = omega arith in
        ap (λ (i : ℕ). get_or new i 0) (sym z) ∙ part.within (j - q) (omega arith) ∙ m.after (j - q) (omega arith) ∙ get_or-drop q v (j - q) 0
        ∙ ap (λ (i : ℕ). get_or v i 0) z
    by j l (no k) = part.after j (omega arith)
