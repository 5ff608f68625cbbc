-- Counts and largest members, as a loop's running numbers meet them.
use mathlib.Core.Bool.{Bool, ◌&&◌, ◌||◌, and_assoc, and-true, cond, false, or_assoc, or-false, true}
use mathlib.Core.List.{List, Memᴰ, [], ◌∷◌}
use mathlib.Core.Path.{◌∙◌, ◌≡◌, ap, ap₂, refl, subst, sym}
use Prim.Native.Nat.{◌+◌, ◌<◌, ◌≤◌, max, suc, zero, zero-le, ℕ}
use native.Mathlib.Nat.{add-suc, add-zero, le_of_suc-le-suc, le_refl, not-suc-le-zero, suc-add}
use native.Mathlib.Numerals.{add-one}
use native.Mathlib.Omega.{arith}
use lib.Dec.{T}
use lib.ListN.{get_or, length, take}
use Rattle.morphology.specs.Lists.{count_of, every_of, greatest, some_of, tabulate}

-- a test as a number
abbrev pub digit : Bool → ℕ
digit b = cond b 1 0

pub digit_le : (b : Bool) → digit b ≤ 1
digit_le true = le_refl 1
digit_le false = zero-le

pub digit-none : (b : Bool) → (T b → ⊥) → digit b ≡ 0
digit-none true f = absurd (f tt)
digit-none false f = refl

pub digit-some : (b : Bool) → T b → digit b ≡ 1
digit-some true t = refl
digit-some false t = absurd t

-- ---- counts

pub count_none : {A : Type 0} (p : A → Bool) (l : List A) → ((a : A) → Memᴰ a l → T (p a) → ⊥) → count_of p l ≡ 0
unfolding count_of
count_none p [] f = refl
count_none p (a ∷ l) f = ap₂ (λ (m n : ℕ). m + n) (digit-none (p a) (f a (Memᴰ.head refl))) (count_none p l (λ b m. f b (Memᴰ.tail m)))

pub count-some : {A : Type 0} (p : A → Bool) {a : A} {l : List A} → Memᴰ a l → T (p a) → 0 < count_of p l
unfolding count_of
count-some p {a} (Memᴰ.head {x} {xs} e) t = omega (arith, digit-some (p x) (subst (λ (b : _). T (p b)) e t))
count-some p (Memᴰ.tail {x} {xs} m) t = omega (arith, count-some p m t)

pub count_le : {A : Type 0} (p : A → Bool) (l : List A) → count_of p l ≤ length l
unfolding count_of
count_le p [] = zero-le
count_le p (a ∷ l) = omega (arith, digit_le (p a), count_le p l)

-- two counts that add up at every index
pub count-sum : {A B C : Type 0} (p : A → Bool) (q : B → Bool) (r : C → Bool) (f : ℕ → A) (g : ℕ → B) (h : ℕ → C) (i n : ℕ)
    → ((k : ℕ) → digit (p (f k)) ≡ digit (q (g k)) + digit (r (h k))) → count_of p (tabulate f i n) ≡ count_of q (tabulate g i n) + count_of r (tabulate h i n)
unfolding count_of tabulate
count-sum p q r f g h i zero e = refl
count-sum p q r f g h i (suc n) e = omega (arith, e i, count-sum p q r f g h (suc i) n e)

-- one more index
pub count-suc : {A : Type 0} (p : A → Bool) (f : ℕ → A) (i n : ℕ) → count_of p (tabulate f i (suc n)) ≡ count_of p (tabulate f i n) + digit (p (f (i + n)))
unfolding count_of tabulate
count-suc p f i zero = ap (λ (k : ℕ). digit (p (f k)) + 0) (sym (add-zero i)) ∙ omega arith
count-suc p f i (suc n) =
    let q = count-suc p f (suc i) n in
    let e = ap (λ (k : ℕ). digit (p (f k))) (suc-add i n ∙ sym (add-suc i n)) in
    omega arith

-- ---- largest members

pub greatest_in : {k : ℕ} {l : List ℕ} → Memᴰ k l → k ≤ greatest l
unfolding greatest
greatest_in (Memᴰ.head {x} {xs} e) = omega arith
greatest_in (Memᴰ.tail {x} {xs} m) = omega (arith, greatest_in m)

pub greatest_le : (N : ℕ) (l : List ℕ) → ((k : ℕ) → Memᴰ k l → k ≤ N) → greatest l ≤ N
unfolding greatest
greatest_le N [] f = zero-le
greatest_le N (k ∷ l) f = omega (arith, f k (Memᴰ.head refl), greatest_le N l (λ j m. f j (Memᴰ.tail m)))

pub get_or-greatest : (l : List ℕ) (i : ℕ) → get_or l i 0 ≤ greatest l
unfolding greatest
get_or-greatest [] i = zero-le
get_or-greatest (k ∷ l) zero = omega arith
get_or-greatest (k ∷ l) (suc i) = omega (arith, get_or-greatest l i)

-- ---- buffers, entry by entry

take_count : (p : ℕ → Bool) (l : List ℕ) (i : ℕ) → i < length l → count_of p (take (suc i) l) ≡ count_of p (take i l) + digit (p (get_or l i 0))
unfolding count_of
take_count p [] i h = absurd (not-suc-le-zero h)
take_count p (v ∷ l) zero h = omega arith
take_count p (v ∷ l) (suc i) h = omega (arith, take_count p l i (le_of_suc-le-suc h))

pub count-take : (p : ℕ → Bool) (l : List ℕ) (i : ℕ) → i < length l → count_of p (take (i + 1) l) ≡ count_of p (take i l) + digit (p (get_or l i 0))
count-take p l i h = ap (λ (k : ℕ). count_of p (take k l)) (add-one i) ∙ take_count p l i h

take-greatest : (l : List ℕ) (i : ℕ) → i < length l → greatest (take (suc i) l) ≡ max (greatest (take i l)) (get_or l i 0)
unfolding greatest
take-greatest [] i h = absurd (not-suc-le-zero h)
take-greatest (v ∷ l) zero h = refl
take-greatest (v ∷ l) (suc i) h = omega (arith, take-greatest l i (le_of_suc-le-suc h))

-- ---- tests, index by index

pub any-suc : {A : Type 0} (p : A → Bool) (f : ℕ → A) (i n : ℕ) → some_of p (tabulate f i (suc n)) ≡ (some_of p (tabulate f i n) || p (f (i + n)))
unfolding tabulate
any-suc p f i zero = or-false (p (f i)) ∙ ap (λ (k : ℕ). p (f k)) (sym (add-zero i))
any-suc p f i (suc n) =
    ap (λ (b : Bool). p (f i) || b) (any-suc p f (suc i) n ∙ ap (λ (k : ℕ). some_of p (tabulate f (suc i) n) || p (f k)) (suc-add i n ∙ sym (add-suc i n)))
    ∙ sym (or_assoc (p (f i)) (some_of p (tabulate f (suc i) n)) (p (f (i + suc n))))

pub all-suc : {A : Type 0} (p : A → Bool) (f : ℕ → A) (i n : ℕ) → every_of p (tabulate f i (suc n)) ≡ (every_of p (tabulate f i n) && p (f (i + n)))
unfolding tabulate
all-suc p f i zero = and-true (p (f i)) ∙ ap (λ (k : ℕ). p (f k)) (sym (add-zero i))
all-suc p f i (suc n) =
    ap (λ (b : Bool). p (f i) && b) (all-suc p f (suc i) n ∙ ap (λ (k : ℕ). every_of p (tabulate f (suc i) n) && p (f k)) (suc-add i n ∙ sym (add-suc i n)))
    ∙ sym (and_assoc (p (f i)) (every_of p (tabulate f (suc i) n)) (p (f (i + suc n))))
