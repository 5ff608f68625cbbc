-- Points and runs over a list of pixels: there and back.
use mathlib.Core.Bool.{Bool, ◌||◌, cond, false, not, true}
use mathlib.Core.List.Memᴰ
use mathlib.Core.List.{List, Memᴰ, [], ◌∷◌}
use mathlib.Core.Option.{Option, none-ne-some, some-injective, none, some}
use mathlib.Core.Path.{◌∙◌, ◌≡◌, ap, refl, subst, sym}
use Prim.Native.Nat.{◌*◌, ◌+◌, suc, zero, ℕ}
use native.Mathlib.Nat.{add-zero}
use native.Mathlib.Omega.{arith}
use lib.Dec.{T, T_not, not_T}
use Rattle.coding.specs.Runs.{keep, runs, unmasked}
use Rattle.coding.proofs.RunLaws.{keep_out, runs_agree}
use Rattle.reading.specs.Points.{among, and_point, placed}
use Rattle.morphology.specs.Labels.{place, places}
use Rattle.morphology.specs.Lists.{some_of, tabulate}
use Rattle.morphology.specs.Point.{Point, same_point}
use Rattle.morphology.proofs.ElementLaws.{Distinct}
use Rattle.morphology.proofs.ImageLaws.{row_mem}
use Rattle.morphology.proofs.LabelLaws.{place_inj}
use Rattle.morphology.proofs.MorphologyLaws.{set_ext}
use Rattle.morphology.proofs.PointLaws.{same_eq, same_refl}
use Rattle.morphology.proofs.RefusalLaws.{false_of}
use Rattle.morphology.proofs.TestLaws.{any_in, any_out}

-- ---- choices

-- a choice whose test holds is its first branch
pub cond-true : {A : Type 0} (b : Bool) (x y : A) → T b → cond b x y ≡ x
cond-true true x y t = refl
cond-true false x y t = absurd t

-- and one whose test fails is its second
pub cond-false : {A : Type 0} (b : Bool) (x y : A) → (T b → ⊥) → cond b x y ≡ y
cond-false true x y f = absurd (f tt)
cond-false false x y f = refl

-- ---- the set of a list

-- a point of the list is in its set
pub among_in : {z : Point} {ps : List Point} → Memᴰ z ps → T (among ps z)
unfolding among
among_in {z} m = any_in (λ p. same_point z p) m (same_refl z)

-- and only such a point is
pub among-out : (z : Point) (ps : List Point) → T (among ps z) → Memᴰ z ps
unfolding among
among-out z ps t = let r = any_out (λ p. same_point z p) ps t in subst (λ (y : Point). Memᴰ y ps) (sym (same_eq z r.0 r.2)) r.1

-- ---- the members that pass

-- a member that passes is kept
pub keep_in : (p : Point → Bool) {z : Point} {l : List Point} → Memᴰ z l → T (p z) → Memᴰ z (keep p l)
unfolding keep
keep_in p {z} (Memᴰ.head {x} {xs} e) t =
    subst (Memᴰ z) (sym (cond-true (p x) (x ∷ keep p xs) (keep p xs) (subst (λ (y : Point). T (p y)) e t))) (Memᴰ.head e)
keep_in p {z} (Memᴰ.tail {x} {xs} m) t = go (p x) (keep_in p m t)
  where
    go : (b : Bool) → Memᴰ z (keep p xs) → Memᴰ z (cond b (x ∷ keep p xs) (keep p xs))
    go true k = Memᴰ.tail k
    go false k = k

-- what is kept of a list with no member twice has none twice
keep_distinct : (p : Point → Bool) (l : List Point) → Distinct l → Distinct (keep p l)
unfolding keep
keep_distinct p [] d = tt
keep_distinct p (x ∷ l) d = go (p x) (keep_distinct p l d.1)
  where
    go : (b : Bool) → Distinct (keep p l) → Distinct (cond b (x ∷ keep p l) (keep p l))
    go true k = ((λ m. d.0 (keep_out p l m).0), k)
    go false k = k

-- a set whose points all stand in the list is kept whole
pub among-keep : (S : Point → Bool) (l : List Point) → ((z : Point) → T (S z) → Memᴰ z l) → among (keep S l) ≡ S
among-keep S l f = set_ext (λ z t. (keep_out S l (among-out z (keep S l) t)).1) (λ z t. among_in (keep_in S (f z t) t))

-- ---- no place stands twice

-- a row of a function that takes no value twice has none twice
row_distinct : (f : ℕ → Point) → ((a b : ℕ) → f a ≡ f b → a ≡ b) → (i n : ℕ) → Distinct (tabulate f i n)
unfolding tabulate
row_distinct f inj i zero = tt
row_distinct f inj i (suc n) =
    ((λ m. let r = row_mem f (suc i) n m in let e = inj i (suc i + r.0) r.2 in omega arith), row_distinct f inj (suc i) n)

-- no pixel outside a mask is listed twice
pub unmasked_distinct : (W H : ℕ) (M : Point → Bool) → Distinct (unmasked W H M)
unfolding unmasked places
unmasked_distinct W H M = keep_distinct (λ z. not (M z)) (tabulate (place W) 0 (W * H)) (row_distinct (place W) (place_inj W) 0 (W * H))

-- a place outside the mask is listed
pub unmasked_in : (W H : ℕ) (M : Point → Bool) {z : Point} → Memᴰ z (places W H) → (T (M z) → ⊥) → Memᴰ z (unmasked W H M)
unfolding unmasked
unmasked_in W H M {z} m f = keep_in (λ z. not (M z)) m (not_T (M z) f)

-- and only such a place is
pub unmasked-out : (W H : ℕ) (M : Point → Bool) {z : Point} → Memᴰ z (unmasked W H M) → Memᴰ z (places W H) × (T (M z) → ⊥)
unfolding unmasked
unmasked-out W H M {z} m = let r = keep_out (λ z. not (M z)) (places W H) m in (r.0, T_not (M z) r.1)

-- ---- runs

-- the first run with k pixels more
longer : ℕ → List ℕ → List ℕ
longer k [] = []
longer k (r ∷ rs) = (k + r) ∷ rs

-- one pixel more
longer_one : (r : ℕ) (rs : List ℕ) → longer 1 (r ∷ rs) ≡ suc r ∷ rs
unfolding longer
longer_one r rs = let e : 1 + r ≡ suc r = omega arith in ap (λ (n : ℕ). n ∷ rs) e

-- k + 1 pixels more are one more, then k more
longer_twice : (k : ℕ) (rs : List ℕ) → longer (suc k) rs ≡ longer k (longer 1 rs)
unfolding longer
longer_twice k [] = refl
longer_twice k (r ∷ rs) = let e : suc k + r ≡ k + (1 + r) = omega arith in ap (λ (n : ℕ). n ∷ rs) e

-- k pixels before the list lengthen the first run by k
runs_longer : (S : Point → Bool) (k : ℕ) (l : List Point) → runs S k l ≡ longer k (runs S 0 l)
unfolding runs longer
runs_longer S k [] = refl
runs_longer S k (z ∷ l) = go (S z) (runs_longer S (suc k) l) (runs_longer S 1 l)
  where
    go : (b : Bool) → runs S (suc k) l ≡ longer (suc k) (runs S 0 l) → runs S 1 l ≡ longer 1 (runs S 0 l)
        → cond b (k ∷ runs S 0 l) (runs S (suc k) l) ≡ longer k (cond b (0 ∷ runs S 0 l) (runs S 1 l))
    go true p q = ap (λ (n : ℕ). n ∷ runs S 0 l) (sym (add-zero k))
    go false p q = p ∙ longer_twice k (runs S 0 l) ∙ ap (longer k) (sym q)

-- a set with no point has no run
runs_none : (S : Point → Bool) (k : ℕ) (l : List Point) → ((z : Point) → T (S z) → ⊥) → runs S k l ≡ []
unfolding runs
runs_none S k [] f = refl
runs_none S k (z ∷ l) f = cond-false (S z) (k ∷ runs S 0 l) (runs S (suc k) l) (f z) ∙ runs_none S (suc k) l f

-- ---- the points at the ends of a set's runs are the set's

-- no run, no point
pub placed-none : (l : List Point) → placed l [] ≡ some []
unfolding placed
placed-none [] = refl
placed-none (z ∷ l) = refl

-- a pixel before the list is passed over by a first run that is one longer
placed_longer : (z : Point) (l : List Point) (rs : List ℕ) → placed (z ∷ l) (longer 1 rs) ≡ placed l rs
unfolding placed longer
placed_longer z l [] = sym (placed-none l)
placed_longer z l (r ∷ rs) = ap (placed (z ∷ l)) (longer_one r rs)

-- the runs of a set end at its points in the list
pub placed-runs : (S : Point → Bool) (l : List Point) → placed l (runs S 0 l) ≡ some (keep S l)
unfolding placed runs keep
placed-runs S [] = refl
placed-runs S (z ∷ l) = go (S z) (placed-runs S l)
  where
    go : (b : Bool) → placed l (runs S 0 l) ≡ some (keep S l) → placed (z ∷ l) (cond b (0 ∷ runs S 0 l) (runs S 1 l)) ≡ some (cond b (z ∷ keep S l) (keep S l))
    go true e = ap (and_point z) e
    go false e = ap (placed (z ∷ l)) (runs_longer S 1 l) ∙ placed_longer z l (runs S 0 l) ∙ e

-- ---- the runs of the points at the ends of runs are those runs

-- what is found with a point before it is that point before what is found
and_point-out : (z : Point) (o : Option (List Point)) (ps : List Point) → and_point z o ≡ some ps → (qs : List Point) × (o ≡ some qs) × (ps ≡ z ∷ qs)
and_point-out z none ps e = absurd (none-ne-some ps e)
and_point-out z (some qs) ps e = (qs, refl, sym (some-injective (z ∷ qs) ps e))

-- a run ends in the list
pub placed_in : (l : List Point) (rs : List ℕ) (ps : List Point) → placed l rs ≡ some ps → (p : Point) → Memᴰ p ps → Memᴰ p l
unfolding placed
placed_in [] [] ps e p m = subst (Memᴰ p) (sym (some-injective [] ps e)) m
placed_in [] (r ∷ rs) ps e p m = absurd (none-ne-some ps e)
placed_in (z ∷ l) [] ps e p m = absurd (Memᴰ.not-nil (subst (Memᴰ p) (sym (some-injective [] ps e)) m))
placed_in (z ∷ l) (zero ∷ rs) ps e p m = let o = and_point-out z (placed l rs) ps e in go o.0 (placed_in l rs o.0 o.1 p) (subst (Memᴰ p) o.2 m)
  where
    go : (qs : List Point) → (Memᴰ p qs → Memᴰ p l) → Memᴰ p (z ∷ qs) → Memᴰ p (z ∷ l)
    go qs f (Memᴰ.head q) = Memᴰ.head q
    go qs f (Memᴰ.tail k) = Memᴰ.tail (f k)
placed_in (z ∷ l) (suc r ∷ rs) ps e p m = Memᴰ.tail (placed_in l (r ∷ rs) ps e p m)

-- the set of no points has none
among_none : (z : Point) → among [] z ≡ false
unfolding among
among_none z = refl

-- a point more changes the set at that point alone
among_cons : (y z : Point) (ps : List Point) → (y ≡ z → ⊥) → among (z ∷ ps) y ≡ among ps y
unfolding among
among_cons y z ps f = ap (λ (b : Bool). b || some_of (λ p. same_point y p) ps) (false_of (same_point y z) (λ t. f (same_eq y z t)))

-- the points at the ends of runs have those runs, where no pixel is listed twice
pub runs-placed : (l : List Point) (rs : List ℕ) (ps : List Point) → Distinct l → placed l rs ≡ some ps → runs (among ps) 0 l ≡ rs
unfolding placed runs
runs-placed [] [] ps d e = refl
runs-placed [] (r ∷ rs) ps d e = absurd (none-ne-some ps e)
runs-placed (z ∷ l) [] ps d e =
    ap (λ (qs : List Point). runs (among qs) 0 (z ∷ l)) (sym (some-injective [] ps e)) ∙ runs_none (among []) 0 (z ∷ l) (λ y t. subst T (among_none y) t)
runs-placed (z ∷ l) (zero ∷ rs) ps d e =
    let o = and_point-out z (placed l rs) ps e in
    let qs = o.0 in
    ap (λ (qs : List Point). runs (among qs) 0 (z ∷ l)) o.2
    ∙ cond-true (among (z ∷ qs) z) (0 ∷ runs (among (z ∷ qs)) 0 l) (runs (among (z ∷ qs)) 1 l) (among_in (Memᴰ.head refl))
    ∙ ap (λ (a : List ℕ). 0 ∷ a)
    (runs_agree (among (z ∷ qs)) (among qs) 0 l (λ y m. among_cons y z qs (λ q. d.0 (subst (λ (x : Point). Memᴰ x l) q m)))
    ∙ runs-placed l rs qs d.1 o.1)
runs-placed (z ∷ l) (suc r ∷ rs) ps d e =
    cond-false (among ps z) (0 ∷ runs (among ps) 0 l) (runs (among ps) 1 l) (λ t. d.0 (placed_in l (r ∷ rs) ps e z (among-out z ps t)))
    ∙ runs_longer (among ps) 1 l ∙ ap (longer 1) (runs-placed l (r ∷ rs) ps d.1 e) ∙ longer_one r rs
