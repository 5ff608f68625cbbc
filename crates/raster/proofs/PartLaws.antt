-- A whole whose part, lent, has come back.
use mathlib.Core.Path.{◌∙◌, ◌≡◌, ap, ap₂, refl, subst, sym}
use mathlib.Core.Bool.{Bool, ◌&&◌, and-true}
use mathlib.Core.List.{List, [], ◌++◌, append_assoc, append-nil}
use Prim.Native.Nat.{◌%◌, ◌*◌, ◌+◌, ◌-◌, ◌/◌, ◌<◌, ◌^◌, ◌≤◌, ℕ}
use native.Mathlib.Decide.{dec_lt}
use native.Mathlib.Nat.{add_assoc, not-suc-le-zero, zero-add}
use borrow.Author.Count.{below_more}
use native.Mathlib.Omega.{arith}
use borrow.Author.Tests.{le-leb, le-ltb, lt-ltb}
use lib.Dec.{leb, lit<, ltb}
use lib.ListN.{get_or-append, get_or-eq_default, drop, get_or, length, length-append, length-drop, length-set, set, take}
use lib.Seq.{drop_at, drop-drop, drop-length, ext_get_or, get_or-append-add, get_or-drop, get_or-set_other, get_or-set_same, get_or-take, length-take-le, take-add, take_all}
use Rattle.morphology.specs.Image.{bit_of}
use Rattle.raster.specs.Rows.{Pixelwise, RowIs, overwrite, row_bit}
use Rattle.raster.proofs.ByteLaws.{cleared-bit, started-bit}
use Rattle.raster.proofs.RowLaws.{row_bit-same}

-- new is old but for the k elements from a, which are ys
pub record PartIs (a k : ℕ) (old ys new : List ℕ) : Type 0 where
  pub size : length new ≡ length old
  pub within : (j : ℕ) → j < k → get_or new (a + j) 0 ≡ get_or ys j 0
  pub before : (j : ℕ) → j < a → get_or new j 0 ≡ get_or old j 0
  pub after : (j : ℕ) → a + k ≤ j → get_or new j 0 ≡ get_or old j 0

-- an element of a list after another
get_or_right : (xs ys : List ℕ) (n : ℕ) → length xs ≤ n → get_or (xs ++ ys) n 0 ≡ get_or ys (n - length xs) 0
get_or_right xs ys n h = ap (λ (m : ℕ). get_or (xs ++ ys) m 0) (omega arith) ∙ get_or-append-add xs ys (n - length xs) 0

pub part_back : (a k : ℕ) (old ys : List ℕ) → a + k ≤ length old → length ys ≡ k → PartIs a k old ys (take a old ++ (ys ++ drop k (drop a old)))
part_back a k old ys h e =
    let ht : length (take a old) ≡ a = length-take-le a old (omega arith) in
    let rest : List ℕ = ys ++ drop k (drop a old) in
    let right : (n : ℕ) → a ≤ n → get_or (take a old ++ rest) n 0 ≡ get_or rest (n - a) 0 =
    (λ n l. get_or_right (take a old) rest n (omega arith) ∙ ap (λ (m : ℕ). get_or rest (n - m) 0) ht) in
    record {
      size = simp (length-append, length-drop) (omega (arith, ht, e));
      within = λ j l. right (a + j) (omega arith) ∙ ap (λ (m : ℕ). get_or rest m 0) (omega arith) ∙ get_or-append ys (drop k (drop a old)) 0 j (omega arith);
      before = λ j l. get_or-append (take a old) rest 0 j (omega arith) ∙ get_or-take a old j 0 l;
      after = λ j l.
          right j (omega arith) ∙ get_or_right ys (drop k (drop a old)) (j - a) (omega arith)
          ∙ get_or-drop k (drop a old) (j - a - length ys) 0 ∙ get_or-drop a old (k + (j - a - length ys)) 0
          ∙ ap (λ (m : ℕ). get_or old m 0) (omega arith);
    }

-- no element of the part, and one more
pub part_none : (a : ℕ) (old ys : List ℕ) → PartIs a 0 old ys old
part_none a old ys = record { size = refl; within = λ j l. absurd (not-suc-le-zero l); before = λ j l. refl; after = λ j l. refl }

pub part_more : (a k v : ℕ) (old ys new : List ℕ) → a + k < length old → v ≡ get_or ys k 0 → PartIs a k old ys new
    → PartIs a (k + 1) old ys (set new (a + k) v)
part_more a k v old ys new h e m =
    let hl : a + k < length new = omega (arith, m.size) in
    record {
      size = length-set new (a + k) v ∙ m.size;
      within = below_more (λ (j : ℕ). get_or (set new (a + k) v) (a + j) 0 ≡ get_or ys j 0) k
          (λ j lt. get_or-set_other new (a + k) (a + j) v 0 (λ p. omega arith) ∙ m.within j lt)
          (get_or-set_same new (a + k) v 0 hl ∙ e);
      before = λ j lt. get_or-set_other new (a + k) j v 0 (λ p. omega arith) ∙ m.before j lt;
      after = λ j le. get_or-set_other new (a + k) j v 0 (λ p. omega arith) ∙ m.after j (omega arith);
    }

-- what is before a part, and after it
pub part-take : {a k : ℕ} {old ys new : List ℕ} → PartIs a k old ys new → (m : ℕ) → m ≤ a → m ≤ length old → take m new ≡ take m old
part-take {old = old} {new = new} p m l h =
    let e = length-take-le m new (omega (arith, p.size)) in
    ext_get_or 0 (take m new) (take m old) (e ∙ sym (length-take-le m old h)) (λ j g.
    get_or-take m new j 0 (omega arith) ∙ p.before j (omega arith) ∙ sym (get_or-take m old j 0 (omega arith)))

pub part-drop : {a k : ℕ} {old ys new : List ℕ} → PartIs a k old ys new → (m : ℕ) → a + k ≤ m → drop m new ≡ drop m old
part-drop {old = old} {new = new} p m l =
    ext_get_or 0 (drop m new) (drop m old) (length-drop m new ∙ ap (λ (n : ℕ). n - m) p.size ∙ sym (length-drop m old)) (λ j g.
    get_or-drop m new j 0 ∙ p.after (m + j) (omega arith) ∙ sym (get_or-drop m old j 0))

-- ---- written over

-- a part of k elements, lent and back
pub put_back : (a k : ℕ) (old ys : List ℕ) → length ys ≡ k → take a old ++ (ys ++ drop k (drop a old)) ≡ overwrite a ys old
unfolding overwrite
put_back a k old ys e =
    ap (λ (l : List ℕ). take a old ++ (ys ++ l)) (drop-drop k a old ∙ ap (λ (n : ℕ). drop (a + n) old) (sym e))

pub part-overwrite : (a k : ℕ) (old ys : List ℕ) → length ys ≡ k → a + k ≤ length old → PartIs a k old ys (overwrite a ys old)
part-overwrite a k old ys e h = subst (PartIs a k old ys) (put_back a k old ys e) (part_back a k old ys h e)

pub overwrite_is : (a k : ℕ) (old ys new : List ℕ) → length ys ≡ k → a + k ≤ length old → PartIs a k old ys new → new ≡ overwrite a ys old
overwrite_is a k old ys new e h p =
    ext_get_or 0 new (overwrite a ys old) (p.size ∙ sym q.size) (λ j l. by j (dec_lt j a) (dec_lt j (a + k)))
  where
    q : PartIs a k old ys (overwrite a ys old)
    q = part-overwrite a k old ys e h

    by : (j : ℕ) → Dec (j < a) → Dec (j < a + k) → get_or new j 0 ≡ get_or (overwrite a ys old) j 0
    by j (yes u) v = p.before j u ∙ sym (q.before j u)
    by j (no u) (yes v) =
        let z : a + (j - a) ≡ j = omega arith in
        ap (λ (i : ℕ). get_or new i 0) (sym z) ∙ p.within (j - a) (omega arith) ∙ sym (q.within (j - a) (omega arith)) ∙ ap (λ (i : ℕ). get_or (overwrite a ys old) i 0) z
    by j (no u) (no v) = p.after j (omega arith) ∙ sym (q.after j (omega arith))

pub length-overwrite : (a k : ℕ) (old ys : List ℕ) → length ys ≡ k → a + k ≤ length old → length (overwrite a ys old) ≡ length old
length-overwrite a k old ys e h = (part-overwrite a k old ys e h).size

-- a list written over whole
pub overwrite_all : (ys old : List ℕ) → length ys ≡ length old → overwrite 0 ys old ≡ ys
unfolding overwrite
overwrite_all ys old e = ap (λ (l : List ℕ). ys ++ l) (ap (λ (n : ℕ). drop n old) (zero-add (length ys) ∙ e) ∙ drop-length old) ∙ append-nil ys

pub drop-overwrite : (a k : ℕ) (old ys : List ℕ) → length ys ≡ k → a + k ≤ length old → drop a (overwrite a ys old) ≡ ys ++ drop (a + k) old
unfolding overwrite
drop-overwrite a k old ys e h =
    drop_at (take a old) (ys ++ drop (a + length ys) old) a (length-take-le a old (omega arith)) ∙ ap (λ (n : ℕ). ys ++ drop (a + n) old) e

-- the rest of a list from p on, lent, written over at a, and back
pub overwrite-rest : (p j a k : ℕ) (old ys : List ℕ) → p ≤ length old → j ≡ length old - p → length ys ≡ k → p + a + k ≤ length old
    → take p old ++ (overwrite a ys (take j (drop p old)) ++ drop j (drop p old)) ≡ overwrite (p + a) ys old
unfolding overwrite
overwrite-rest p j a k old ys hp ej e h =
    let u = drop p old in
    let lu : length u ≡ length old - p = length-drop p old in
    let w : take j u ≡ u = take_all j u (omega arith) in
    let d : drop j u ≡ [] = ap (λ (n : ℕ). drop n u) (ej ∙ sym lu) ∙ drop-length u in
    ap₂ (λ (x y : List ℕ). take p old ++ ((take a x ++ (ys ++ drop (a + length ys) x)) ++ y)) w d
    ∙ ap (λ (l : List ℕ). take p old ++ l) (append-nil (take a u ++ (ys ++ drop (a + length ys) u)))
    ∙ sym (append_assoc (take p old) (take a u) (ys ++ drop (a + length ys) u))
    ∙ ap₂ (λ (x y : List ℕ). x ++ (ys ++ y)) (sym (take-add p a old)) (drop-drop (a + length ys) p old ∙ ap (λ (n : ℕ). drop n old) (sym (add_assoc p a (length ys))))

-- pixels of a part
pub part-bit : {a k : ℕ} {old ys new : List ℕ} → PartIs a k old ys new → (x : ℕ) → x < 8 * k → row_bit new (8 * a + x) ≡ row_bit ys x
unfolding row_bit
part-bit {a} {k} {old} {ys} {new} p x h =
    let e : (8 * a + x) / 8 ≡ a + x / 8 = omega arith in
    let m : (8 * a + x) % 8 ≡ x % 8 = omega arith in
    ap₂ (λ (q k : ℕ). bit_of (get_or new q 0) k) e m ∙ ap (λ (n : ℕ). bit_of n (x % 8)) (p.within (x / 8) (omega arith))

pub cut-bit : (a k : ℕ) (l : List ℕ) (x : ℕ) → x < 8 * k → row_bit (take k (drop a l)) x ≡ row_bit l (8 * a + x)
unfolding row_bit
cut-bit a k l x h =
    let e : (8 * a + x) / 8 ≡ a + x / 8 = omega arith in
    let m : (8 * a + x) % 8 ≡ x % 8 = omega arith in
    ap (λ (n : ℕ). bit_of n (x % 8)) (get_or-take k (drop a l) (x / 8) 0 (omega arith) ∙ get_or-drop a l (x / 8) 0)
    ∙ sym (ap₂ (λ (q k : ℕ). bit_of (get_or l q 0) k) e m)

pub row_same : {d r : ℕ} {old new : List ℕ} {g g' : ℕ → Bool} → RowIs d r old new g → ((x : ℕ) → x < 8 * r → g x ≡ g' x) → RowIs d r old new g'
row_same p e = record { size = p.size; before = p.before; after = p.after; pixels = λ x l. p.pixels x l ∙ e x l }

-- the pixels of a row, lent as a part of k = r bytes and back
pub row-part : (d r k : ℕ) (old ys : List ℕ) (g : ℕ → Bool) → k ≡ r → d + r ≤ length old → length ys ≡ k → ((x : ℕ) → x < 8 * r → row_bit ys x ≡ g x)
    → RowIs d r old (take d old ++ (ys ++ drop k (drop d old))) g
row-part d r k old ys g e h len m =
    let p : PartIs d k old ys (take d old ++ (ys ++ drop k (drop d old))) = part_back d k old ys (omega arith) len in
    record {
      size = p.size;
      before = p.before;
      after = λ j l. p.after j (omega arith);
      pixels = λ x l. part-bit p x (omega arith) ∙ m x l;
    }

-- the first r bytes copied to d
pub row_copied : (d r : ℕ) (old new : List ℕ) → PartIs d r old old new → RowIs d r old new (row_bit old)
row_copied d r old new p = record { size = p.size; before = p.before; after = p.after; pixels = λ x l. part-bit p x l }

-- a row changed pixel by pixel, lent as a part of k = r bytes and back
pub pixelwise-part : (d r k : ℕ) (old ys : List ℕ) (g : ℕ → Bool → Bool) → k ≡ r → d + r ≤ length old → Pixelwise (take k (drop d old)) ys g
    → RowIs d r old (take d old ++ (ys ++ drop k (drop d old))) (λ x. g x (row_bit old (8 * d + x)))
pixelwise-part d r k old ys g e h m =
    let cut : length (take k (drop d old)) ≡ k = length-take-le k (drop d old) (omega (arith, length-drop d old)) in
    row-part d r k old ys (λ x. g x (row_bit old (8 * d + x))) e h (m.size ∙ cut) (λ x l. m.pixels x (omega arith) ∙ ap (g x) (cut-bit d k old x (omega arith)))

-- a part of bytes
pub part_bytes : (a k : ℕ) (l : List ℕ) → ((i : ℕ) → get_or l i 0 < 256) → a + k ≤ length l → (i : ℕ) → get_or (take k (drop a l)) i 0 < 256
part_bytes a k l h hl i = by (dec_lt i k)
  where
    by : Dec (i < k) → get_or (take k (drop a l)) i 0 < 256
    by (yes z) = subst (λ (n : ℕ). n < 256) (sym (get_or-take k (drop a l) i 0 z ∙ get_or-drop a l i 0)) (h (a + i))
    by (no z) =
        let c = length-take-le k (drop a l) (omega (arith, length-drop a l)) in
        subst (λ (n : ℕ). n < 256) (sym (get_or-eq_default (take k (drop a l)) 0 (omega arith))) (lit< tt)

-- ---- padding

ltb_iff : (a b c d : ℕ) → (a < b → c < d) → (c < d → a < b) → ltb a b ≡ ltb c d
ltb_iff a b c d f g = by (dec_lt a b)
  where
    by : Dec (a < b) → ltb a b ≡ ltb c d
    by (yes l) = lt-ltb a b l ∙ sym (lt-ltb c d (f l))
    by (no l) = let m : d ≤ c = not-below (λ h. l (g h)) in le-ltb a b (omega arith) ∙ sym (le-ltb c d m)
      where
        not-below : (c < d → ⊥) → d ≤ c
        not-below n = go (dec_lt c d)
          where
            go : Dec (c < d) → d ≤ c
            go (yes h) = absurd (n h)
            go (no h) = omega arith

-- the last byte of a row with its lowest 8 r - w bits cleared
pub padding-row : (w k : ℕ) (old : List ℕ) → k ≡ length old * 8 - w → w ≤ 8 * length old → 8 * length old ≤ w + 8 → 0 < length old
    → get_or old (length old - 1) 0 < 256
    → Pixelwise old (set old (length old - 1) ((get_or old (length old - 1) 0 / 2 ^ k * 2 ^ k) % 2 ^ 32)) (λ x b. b && ltb x w)
unfolding row_bit
padding-row w k old ek hw hr h0 hv = record { size = length-set old last v; pixels = λ x l. by x l (dec_lt (x / 8) last) }
  where
    last : ℕ
    last = length old - 1

    v : ℕ
    v = (get_or old last 0 / 2 ^ k * 2 ^ k) % 2 ^ 32

    by : (x : ℕ) → x < 8 * length old → Dec (x / 8 < last) → row_bit (set old last v) x ≡ (row_bit old x && ltb x w)
    by x l (yes m) =
        row_bit-same (set old last v) old x (get_or-set_other old last (x / 8) v 0 (λ e. omega arith))
        ∙ sym (and-true (row_bit old x)) ∙ ap (λ (b : Bool). row_bit old x && b) (sym (lt-ltb x w (omega arith)))
    by x l (no m) =
        let q : x / 8 ≡ last = omega arith in
        ap (λ (i : ℕ). bit_of (get_or (set old last v) i 0) (x % 8)) q
        ∙ ap (λ (n : ℕ). bit_of n (x % 8)) (get_or-set_same old last v 0 (omega arith))
        ∙ cleared-bit (get_or old last 0) k (x % 8) hv (omega arith) (omega arith)
        ∙ ap₂ ◌&&◌ (sym (ap (λ (i : ℕ). bit_of (get_or old i 0) (x % 8)) q)) (ltb_iff (x % 8) (8 - k) x w (λ z. omega arith) (λ z. omega arith))

-- the first byte of a row with its highest k bits cleared
pub started-row : (k : ℕ) (old : List ℕ) → k < 8 → 0 < length old
    → Pixelwise old (set old 0 ((get_or old 0 0 * 2 ^ k) % 2 ^ 8 / 2 ^ k)) (λ x b. b && leb k x)
unfolding row_bit
started-row k old hk h0 = record { size = length-set old 0 v; pixels = λ x l. by x (dec_lt x 8) }
  where
    v : ℕ
    v = (get_or old 0 0 * 2 ^ k) % 2 ^ 8 / 2 ^ k

    by : (x : ℕ) → Dec (x < 8) → row_bit (set old 0 v) x ≡ (row_bit old x && leb k x)
    by x (no m) =
        row_bit-same (set old 0 v) old x (get_or-set_other old 0 (x / 8) v 0 (λ e. omega arith))
        ∙ sym (and-true (row_bit old x)) ∙ ap (λ (b : Bool). row_bit old x && b) (sym (le-leb k x (omega arith)))
    by x (yes m) =
        let q : x / 8 ≡ 0 = omega arith in
        let z : x % 8 ≡ x = omega arith in
        ap (λ (i : ℕ). bit_of (get_or (set old 0 v) i 0) (x % 8)) q
        ∙ ap (λ (n : ℕ). bit_of n (x % 8)) (get_or-set_same old 0 v 0 h0)
        ∙ started-bit (get_or old 0 0) k (x % 8) hk (omega arith)
        ∙ ap₂ ◌&&◌ (sym (ap (λ (i : ℕ). bit_of (get_or old i 0) (x % 8)) q)) (ap (leb k) z)
