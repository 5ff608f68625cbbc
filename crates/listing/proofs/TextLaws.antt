-- Numbers, words, lines and maps as text.
use mathlib.Core.Bool.{Bool, cond}
use mathlib.Core.List.{List, [], ◌++◌, ◌∷◌, append_assoc, append-nil, map}
use mathlib.Core.Path.{◌∙◌, ◌≡◌, ap, ap₂, refl, sym}
use Prim.Native.Nat.{◌%◌, ◌*◌, ◌+◌, ◌/◌, ◌<◌, ◌≤◌, suc, zero, ℕ}
use native.Mathlib.Decide.{dec_lt}
use native.Mathlib.Nat.{mul_comm, not-suc-le-zero, suc-mul, zero-mul}
use native.Mathlib.Numerals.{add-one}
use native.Mathlib.Omega.{arith}
use borrow.Author.Tests.{eq-eqb, le-ltb, lt-ltb, ne_eqb}
use lib.ListN.{get_or-map, drop, get_or, length, length-append, length-map, take, take-append-drop}
use lib.Seq.{drop-drop, length-take-le, take_all, take-suc}
use Rattle.raster.proofs.RowLaws.{row_in}
use Rattle.listing.specs.Appended.{Appended}
use Rattle.listing.specs.Text.{after, decimal, digits, line, line_feed, map_text, space, spaced, word_at}

-- ---- numbers

-- a number below 10 is one digit; another is that of its tens, and its last digit
digits-small : (k n : ℕ) → n < 10 → digits (suc k) n ≡ (48 + n) ∷ []
unfolding digits
digits-small k n l =
    ap (λ (b : Bool). cond b [] (digits k (n / 10)) ++ ((48 + n % 10) ∷ [])) (lt-ltb n 10 l)
    ∙ ap (λ (d : ℕ). (48 + d) ∷ []) (omega arith)

digits_large : (k n : ℕ) → 10 ≤ n → digits (suc k) n ≡ digits k (n / 10) ++ ((48 + n % 10) ∷ [])
unfolding digits
digits_large k n l = ap (λ (b : Bool). cond b [] (digits k (n / 10)) ++ ((48 + n % 10) ∷ [])) (le-ltb n 10 l)

-- more digits than there are change nothing
digits-enough : (k j n : ℕ) → n < k → n < j → digits k n ≡ digits j n
digits-enough zero j n l m = absurd (not-suc-le-zero l)
digits-enough (suc k) zero n l m = absurd (not-suc-le-zero m)
digits-enough (suc k) (suc j) n l m = by (dec_lt n 10) (λ a b. digits-enough k j (n / 10) a b)
  where
    by : Dec (n < 10) → (n / 10 < k → n / 10 < j → digits k (n / 10) ≡ digits j (n / 10)) → digits (suc k) n ≡ digits (suc j) n
    by (yes d) f = digits-small k n d ∙ sym (digits-small j n d)
    by (no d) f =
        let h : 10 ≤ n = omega arith in
        digits_large k n h ∙ ap (λ (s : List ℕ). s ++ ((48 + n % 10) ∷ [])) (f (omega arith) (omega arith)) ∙ sym (digits_large j n h)

pub decimal-small : (n : ℕ) → n < 10 → decimal n ≡ (48 + n) ∷ []
unfolding decimal
decimal-small n l = digits-small n n l

pub decimal_large : (n : ℕ) → 10 ≤ n → decimal n ≡ decimal (n / 10) ++ ((48 + n % 10) ∷ [])
unfolding decimal
decimal_large n l =
    digits_large n n l ∙ ap (λ (s : List ℕ). s ++ ((48 + n % 10) ∷ [])) (digits-enough n (suc (n / 10)) (n / 10) (omega arith) (omega arith))

-- ---- words

pub word_first : (i : ℕ) (w : List ℕ) → i ≡ 0 → word_at i w ≡ w
word_first i w e = ap (λ (b : Bool). cond b w (space ∷ w)) (eq-eqb i 0 e)

pub word_next : (i : ℕ) (w : List ℕ) → (i ≡ 0 → ⊥) → word_at i w ≡ (space ∷ []) ++ w
word_next i w f = ap (λ (b : Bool). cond b w (space ∷ w)) (ne_eqb i 0 f)

after_append : (xs ys : List (List ℕ)) → after (xs ++ ys) ≡ after xs ++ after ys
unfolding after
after_append [] ys = refl
after_append (x ∷ xs) ys =
    ap (λ (s : List ℕ). space ∷ (x ++ s)) (after_append xs ys) ∙ ap (λ (s : List ℕ). space ∷ s) (sym (append_assoc x (after xs) (after ys)))

-- no word, and one more
pub spaced-none : (ws : List (List ℕ)) {at next : ℕ} {out out' : List ℕ} → Appended [] at next out out' → Appended (spaced (take 0 ws)) at next out out'
unfolding spaced
spaced-none ws a = a

pub spaced_more : (ws : List (List ℕ)) (w : List ℕ) → spaced (ws ++ (w ∷ [])) ≡ spaced ws ++ word_at (length ws) w
unfolding after spaced
spaced_more [] w = append-nil w
spaced_more (v ∷ ws) w =
    ap (λ (s : List ℕ). v ++ s) (after_append ws (w ∷ []))
    ∙ ap (λ (s : List ℕ). v ++ (after ws ++ (space ∷ s))) (append-nil w)
    ∙ sym (append_assoc v (after ws) (space ∷ w))
    ∙ ap (λ (s : List ℕ). (v ++ after ws) ++ s) (sym (word_next (length (v ∷ ws)) w (λ e. omega arith)))

spaced_le : (xs ys : List (List ℕ)) → length (spaced xs) ≤ length (spaced (xs ++ ys))
unfolding spaced
spaced_le [] ys = omega arith
spaced_le (x ∷ xs) ys =
    omega (
      arith,
      ap (λ (s : List ℕ). length (x ++ s)) (after_append xs ys),
      length-append x (after xs),
      length-append x (after xs ++ after ys),
      length-append (after xs) (after ys),
    )

-- ---- a line, label by label

abbrev pub words : List ℕ → List (List ℕ)
words row = map decimal row

pub line_more : (row : List ℕ) (i : ℕ) → i < length row → spaced (take (i + 1) (words row)) ≡ spaced (take i (words row)) ++ word_at i (decimal (get_or row i 0))
line_more row i l =
    let ws = words row in
    let h : i < length ws = omega (arith, length-map row decimal) in
    ap (λ (n : ℕ). spaced (take n ws)) (add-one i)
    ∙ ap spaced (take-suc ws i (decimal 0) h)
    ∙ spaced_more (take i ws) (get_or ws i (decimal 0))
    ∙ ap₂ (λ (n : ℕ) (w : List ℕ). spaced (take i ws) ++ word_at n w) (length-take-le i ws (omega arith)) (get_or-map decimal row i 0)

pub line_le : (row : List ℕ) (i : ℕ) → length (spaced (take i (words row))) ≤ length (line (words row))
unfolding line
line_le row i =
    let ws = words row in
    omega (
      arith,
      spaced_le (take i ws) (drop i ws),
      ap (λ (l : List (List ℕ)). length (spaced l)) (take-append-drop i ws),
      length-append (spaced ws) (line_feed ∷ []),
    )

pub line-end : (row : List ℕ) (i : ℕ) → length row ≤ i → line (words row) ≡ spaced (take i (words row)) ++ (line_feed ∷ [])
unfolding line
line-end row i h =
    ap (λ (l : List (List ℕ)). spaced l ++ (line_feed ∷ [])) (sym (take_all i (words row) (omega (arith, length-map row decimal))))

-- ---- a map, row by row

map-suc : (W y : ℕ) (m : List ℕ) → map_text W (suc y) m ≡ map_text W y m ++ line (words (take W (drop (y * W) m)))
unfolding map_text
map-suc W zero m = append-nil (line (words (take W m))) ∙ ap (λ (n : ℕ). line (words (take W (drop n m)))) (sym (zero-mul W))
map-suc W (suc y) m =
    let t = line (words (take W m)) in
    let n : W + y * W ≡ suc y * W = omega (arith, suc-mul y W) in
    ap (λ (s : List ℕ). t ++ s) (map-suc W y (drop W m))
    ∙ sym (append_assoc t (map_text W y (drop W m)) (line (words (take W (drop (y * W) (drop W m))))))
    ∙ ap (λ (l : List ℕ). (t ++ map_text W y (drop W m)) ++ line (words (take W l)))
    (drop-drop (y * W) W m ∙ ap (λ (i : ℕ). drop i m) n)

-- no row, and one more, lent as a part of k labels
pub map-none : (W : ℕ) (m : List ℕ) {at next : ℕ} {out out' : List ℕ} → Appended [] at next out out' → Appended (map_text W 0 m) at next out out'
unfolding map_text
map-none W m a = a

pub map_more : (W y k : ℕ) (m : List ℕ) → k ≡ W → map_text W (y + 1) m ≡ map_text W y m ++ line (words (take k (drop (y * W) m)))
map_more W y k m e =
    ap (λ (n : ℕ). map_text W n m) (add-one y) ∙ map-suc W y m ∙ ap (λ (n : ℕ). map_text W y m ++ line (words (take n (drop (y * W) m)))) (sym e)

pub map_le : (W y H : ℕ) (m : List ℕ) → y ≤ H → length (map_text W y m) ≤ length (map_text W H m)
unfolding map_text
map_le W zero H m h = omega arith
map_le W (suc y) zero m h = absurd (not-suc-le-zero h)
map_le W (suc y) (suc H) m h =
    let t = line (words (take W m)) in
    omega (arith, map_le W y H (drop W m) (omega arith), length-append t (map_text W y (drop W m)), length-append t (map_text W H (drop W m)))

pub map_row : (W y H : ℕ) (m : List ℕ) → y < H → length m ≡ W * H → y * W + W ≤ length m
map_row W y H m l e = row_in y H W (length m) l (omega (arith, mul_comm W H))
