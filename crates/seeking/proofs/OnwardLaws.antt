-- Walks over the pixels of a word, point by point: the pixels of a word in parts, and steps from one point to the next.
use mathlib.Core.Bool.{Bool, false, true}
use mathlib.Core.List.{List, ◌++◌, ◌∷◌}
use mathlib.Core.Path.{◌∙◌, ◌≡◌, ap, ap₂, refl, subst, sym}
use Prim.Native.Nat.{◌%◌, ◌*◌, ◌+◌, ◌-◌, ◌/◌, ◌<◌, ◌^◌, ◌≤◌, suc, zero, ℕ}
use native.Mathlib.Nat.{add-zero, div-eq_of_lt}
use native.Mathlib.Omega.{arith}
use lib.Dec.{eqb}
use lib.ListN.{drop, length, length-replicate, replicate, replicate-append-replicate}
use lib.Pow.{high, low, pow_mono, pow_pos}
use Rattle.std.specs.Prelude.{None, Option, Some}
use Rattle.morphology.specs.Element.{bit}
use Rattle.morphology.specs.Lists.{count_of}
use Rattle.reading.specs.Nexts.{next_of}
use Rattle.reading.specs.Seeking.{Seek, next_run, seek, sought_all, sought_points}
use Rattle.reading.specs.declared.Next.{Next}
use Rattle.reading.specs.declared.Next.TheVariants.{Ended, Run}
use Rattle.reading.proofs.SeekLaws.{ended_all, free_of, lost_all, point_at, skip_all}
use Rattle.sections.proofs.WordLaws.{bit_high, bit_low, bit-zero}
use Rattle.seeking.specs.Words.{Onward, WordSought, word_bits}

-- ---- the pixels of a word

-- no pixel of 0 is set
pub word-bits-zero : (n : ℕ) → word_bits n 0 ≡ replicate n false
unfolding word_bits
word-bits-zero zero = refl
word-bits-zero (suc n) = ap₂ (λ (b : Bool) (l : List Bool). b ∷ l) (bit-zero n) (word-bits-zero n)

-- as many as are asked for
pub length_word-bits : (n v : ℕ) → length (word_bits n v) ≡ n
unfolding word_bits
length_word-bits zero v = refl
length_word-bits (suc n) v = ap suc (length_word-bits n v)

-- equal where the bits are
pub word-bits_agree : (n v w : ℕ) → ((i : ℕ) → i < n → bit v i ≡ bit w i) → word_bits n v ≡ word_bits n w
unfolding word_bits
word-bits_agree zero v w h = refl
word-bits_agree (suc n) v w h =
    ap₂ (λ (b : Bool) (l : List Bool). b ∷ l) (h n (omega arith)) (word-bits_agree n v w (λ i l. h i (omega arith)))

-- the n highest of n + j, and the others
pub word-bits_parts : (n j v : ℕ) → word_bits (n + j) v ≡ word_bits n (v / 2 ^ j) ++ word_bits j v
unfolding word_bits
word-bits_parts zero j v = let e : 0 + j ≡ j = omega arith in ap (λ (n : ℕ). word_bits n v) e
word-bits_parts (suc n) j v =
    let e : suc n + j ≡ suc (n + j) = omega arith in
    ap (λ (i : ℕ). word_bits i v) e ∙ ap₂ (λ (b : Bool) (l : List Bool). b ∷ l) (sym (bit_high v j n)) (word-bits_parts n j v)

-- the highest pixel that is set, and those below it
pub word-bits_add : (k n q : ℕ) → q < 2 ^ n → word_bits (k + suc n) (2 ^ n + q) ≡ replicate k false ++ (true ∷ word_bits n q)
unfolding word_bits
word-bits_add k n q h =
    let v = 2 ^ n + q in
    let e : v ≡ 1 * 2 ^ n + q = omega arith in
    let above : v / 2 ^ suc n ≡ 0 = div-eq_of_lt (omega arith) in
    let here : bit v n ≡ true = ap (λ (x : ℕ). eqb (x % 2) 1) (ap (λ (x : ℕ). x / 2 ^ n) e ∙ high 1 n h) in
    let below : v % 2 ^ n ≡ q = ap (λ (x : ℕ). x % 2 ^ n) e ∙ low 1 n h in
    let rest : word_bits n v ≡ word_bits n q = word-bits_agree n v q (λ i l. sym (bit_low v n i l) ∙ ap (λ (x : ℕ). bit x i) below) in
    word-bits_parts k (suc n) v
    ∙ ap₂ (λ (l r : List Bool). l ++ r) (ap (word_bits k) above ∙ word-bits-zero k) (ap₂ (λ (b : Bool) (l : List Bool). b ∷ l) here rest)

-- ---- steps of a walk

-- none
pub onward-none : (limit n : ℕ) (l : List Bool) (t : Seek) → Onward limit n l t 0 n l t
onward-none limit n l t = record {
  stands = refl;
  room = omega arith;
  marks = λ q h e. let z : 0 + q ≡ q = omega arith in ap (word_bits n) z ∙ e;
}

-- one after the other
pub onward_on : {limit n : ℕ} {l : List Bool} {t : Seek} {v n' : ℕ} {l' : List Bool} {t' : Seek} {v' n'' : ℕ} {l'' : List Bool} {t'' : Seek}
    → Onward limit n l t v n' l' t' → Onward limit n' l' t' v' n'' l'' t'' → Onward limit n l t (v + v') n'' l'' t''
onward_on {limit} {n} {l} {t} {v} {n'} {l'} {t'} {v'} {n''} {l''} {t''} o p = record {
  stands = o.stands ∙ p.stands;
  room = omega (arith, o.room, p.room);
  marks = λ q h e.
      let a : v + v' + q ≡ v + (v' + q) = omega arith in
      ap (word_bits n) a ∙ o.marks (v' + q) (omega (arith, p.room)) (p.marks q h e);
}

-- to the point that ends a run
pub onward-point : (limit n k : ℕ) (a b : List Bool) (s : List ℕ) → n ≡ length a + suc (length b) → free_of a ≡ k
    → Onward limit n (a ++ (false ∷ b)) (seek k s) (2 ^ length b) (length b) b (next_run limit s)
onward-point limit n k a b s e f =
    let p = point_at limit k a b s f in
    let r = pow_mono {i = suc (length b)} {j = n} (omega arith) in
    record {
      stands = p.0;
      room = omega arith;
      marks = λ q h g.
          ap (λ (x : ℕ). word_bits x (2 ^ length b + q)) e ∙ word-bits_add (length a) (length b) q h
          ∙ ap (λ (l : List Bool). replicate (length a) false ++ (true ∷ l)) g ∙ sym p.1;
    }

-- all of n pixels are free where no mask is
pub free_open : (n : ℕ) → free_of (replicate n false) ≡ n
unfolding count_of
free_open zero = refl
free_open (suc n) = omega (arith, free_open n)

-- to the point that ends a run, where no mask is
pub onward_open : (limit n k : ℕ) (s : List ℕ) → k < n
    → Onward limit n (replicate n false) (seek k s) (2 ^ (n - k - 1)) (n - k - 1) (replicate (n - k - 1) false) (next_run limit s)
onward_open limit n k s h =
    let m = n - k - 1 in
    let a = replicate k false in
    let b = replicate m false in
    let c : length a ≡ k = length-replicate k false in
    let d : length b ≡ m = length-replicate m false in
    let e : k + suc m ≡ n = omega arith in
    let whole : a ++ (false ∷ b) ≡ replicate n false =
    replicate-append-replicate k (suc m) false ∙ ap (λ (x : ℕ). replicate x false) e in
    subst (λ (x : ℕ). Onward limit n (replicate n false) (seek k s) (2 ^ x) x b (next_run limit s)) d
    (subst (λ (l : List Bool). Onward limit n l (seek k s) (2 ^ length b) (length b) b (next_run limit s)) whole
    (onward-point limit n k a b s (omega arith) (free_open k)))

-- ---- the end of a walk

-- a run follows: so many pixels are to be passed before its point, and the symbol after its comma
abbrev pub run_of : ℕ → ℕ → Next
run_of left at = Run (record { left = left; at = at })

-- where no point is in what is left
pub onward-end : {limit n : ℕ} {l : List Bool} {t : Seek} {v n' : ℕ} {l' : List Bool} {t' : Seek} (s : List ℕ) (next : Option Next)
    → Onward limit n l t v n' l' t' → sought_points limit l' t' ≡ replicate n' false → next_of s next ≡ sought_all limit l' t' → WordSought s limit n l t v next
onward-end {limit} {n} {l} {t} {v} {n'} {l'} {t'} s next o p e = record {
  small = omega (arith, o.room, pow_pos n');
  marks = ap (word_bits n) (sym (add-zero v)) ∙ o.marks 0 (pow_pos n') (word-bits-zero n' ∙ sym p);
  stands = e ∙ sym o.stands;
}

-- no run follows
abbrev pub Over : Option Next → Type 0
Over None = Unit {0}
Over (Some (Ended end)) = Unit {0}
Over (Some (Run run)) = ⊥

-- so there is no point, and no run follows later
over_rest : (limit : ℕ) (l : List Bool) (s : List ℕ) (next : Option Next) → Over next
    → (sought_points limit l (next_of s next) ≡ replicate (length l) false) × (next_of s next ≡ sought_all limit l (next_of s next))
over_rest limit l s None o = let r = lost_all limit l in (r.1, sym r.0)
over_rest limit l s (Some (Ended end)) o = let r = ended_all limit l (drop end s) in (r.1, sym r.0)
over_rest limit l s (Some (Run run)) o = absurd o

-- since the size has ended, or the symbols cannot be read
pub onward-over : {limit n : ℕ} {l : List Bool} {t : Seek} {v n' : ℕ} {l' : List Bool} {t' : Seek} (s : List ℕ) (next : Option Next) → Over next
    → Onward limit n l t v n' l' t' → next_of s next ≡ t' → length l' ≡ n' → WordSought s limit n l t v next
onward-over {limit} {n} {l} {t} {v} {n'} {l'} {t'} s next o w h g =
    let r = over_rest limit l' s next o in
    onward-end s next w (ap (sought_points limit l') (sym h) ∙ r.0 ∙ ap (λ (x : ℕ). replicate x false) g) (r.1 ∙ ap (sought_all limit l') h)

-- since the run goes on
pub onward-skipped : {limit n : ℕ} {l : List Bool} {t : Seek} {v n' : ℕ} {l' : List Bool} {t' : Seek} (s : List ℕ) (k j : ℕ)
    → Onward limit n l t v n' l' t' → t' ≡ seek k (drop j s) → length l' ≡ n' → free_of l' ≤ k
    → WordSought s limit n l t v (Some (run_of (k - free_of l') j))
onward-skipped {limit} {n} {l} {t} {v} {n'} {l'} {t'} s k j o h g f =
    let r = skip_all limit k l' (drop j s) f in
    onward-end s (Some (run_of (k - free_of l') j)) o (ap (sought_points limit l') h ∙ r.1 ∙ ap (λ (x : ℕ). replicate x false) g)
    (sym (ap (sought_all limit l') h ∙ r.0))
