-- A pen: runs one after the other, and room for the next.
use mathlib.Core.Bool.{Bool, false, true}
use mathlib.Core.List.{List, [], ◌++◌, ◌∷◌}
use mathlib.Core.Path.{◌∙◌, ◌≡◌, ap, ap₂, refl, subst, sym}
use Prim.Native.Nat.{◌*◌, ◌+◌, ◌-◌, ◌<◌, ◌≤◌, suc, zero, ℕ}
use native.Mathlib.Nat.{add-suc, add-zero, suc-add}
use native.Mathlib.Omega.{arith}
use lib.ListN.{get_or, length, length-append, length-map, replicate, replicate-append-replicate, set}
use lib.Seq.{get_or-set_other, set-get_or, sets}
use Rattle.coding.specs.Symbols.{comma, digit_symbols, numeral, symbols_of}
use Rattle.coding.specs.Writing.{runs_symbols}
use Rattle.coding.proofs.NumeralLaws.{length-small, numeral-small}
use Rattle.coding.proofs.SectionLaws.{runs_append}
use Rattle.coding.proofs.StoreLaws.{symbols-size}
use Rattle.sections.specs.Kinds.{Kind, count_after, runs_of}
use Rattle.sections.specs.Pens.{Marked, PenRoom, PenWalked, marks}
use Rattle.sections.proofs.KindLaws.{count_parts_lem, runs_parts}

-- ---- stores

pub sets_append : (xs ys l : List ℕ) (i : ℕ) → sets l i (xs ++ ys) ≡ sets (sets l i xs) (i + length xs) ys
sets_append [] ys l i = ap (λ (k : ℕ). sets l k ys) (sym (add-zero i))
sets_append (x ∷ xs) ys l i =
    sets_append xs ys (set l i x) (suc i) ∙ ap (λ (k : ℕ). sets (sets (set l i x) (suc i) xs) k ys) (suc-add i (length xs) ∙ sym (add-suc i (length xs)))

-- what lies after them stays
pub get_d_after : (vs l : List ℕ) (i m : ℕ) → i + length vs ≤ m → get_or (sets l i vs) m 0 ≡ get_or l m 0
get_d_after [] l i m h = refl
get_d_after (v ∷ vs) l i m h = get_d_after vs (set l i v) (suc i) m (omega arith) ∙ get_or-set_other l i m v 0 (λ e. omega arith)

-- a comma over a comma
set-comma : (l : List ℕ) (i : ℕ) → get_or l i 0 ≡ 0 → set l i 0 ≡ l
set-comma l i e = ap (λ (v : ℕ). set l i v) (sym e) ∙ set-get_or l i 0

marks_append : (down : Bool) (s : List ℕ) (at : ℕ) (xs ys : List ℕ) → marks down s at (xs ++ ys) ≡ marks down (marks down s at xs) (at + length xs) ys
marks_append true s at xs ys = sets_append xs ys s at
marks_append false s at xs ys = refl

marks-after : (down : Bool) (s : List ℕ) (at : ℕ) (xs : List ℕ) (m : ℕ) → at + length xs ≤ m → get_or (marks down s at xs) m 0 ≡ get_or s m 0
marks-after true s at xs m h = get_d_after xs s at m h
marks-after false s at xs m h = refl

-- ---- runs one after the other

both : (rs ss : List ℕ) → length (runs_symbols (rs ++ ss)) ≡ length (runs_symbols rs) + length (runs_symbols ss)
both rs ss = ap length (runs_append rs ss) ∙ length-append (runs_symbols rs) (runs_symbols ss)

pub marked-none : (down : Bool) (old : List ℕ) (at : ℕ) → Marked down [] old old at at
unfolding runs_symbols
marked-none true old at = record { size = refl; symbols = refl; pen = sym (add-zero at) }
marked-none false old at = record { size = refl; symbols = refl; pen = sym (add-zero at) }

pub marked_append : {down : Bool} {rs ss old mid new : List ℕ} {at a at' : ℕ} → Marked down rs old mid at a → Marked down ss mid new a at'
    → Marked down (rs ++ ss) old new at at'
marked_append {down} {rs} {ss} {old} {mid} {new} {at} {a} {at'} p q = record {
  size = q.size ∙ p.size;
  symbols = q.symbols ∙ ap₂ (λ (s : List ℕ) (i : ℕ). marks down s i (runs_symbols ss)) p.symbols p.pen
      ∙ sym (ap (marks down (symbols_of old) at) (runs_append rs ss) ∙ marks_append down (symbols_of old) at (runs_symbols rs) (runs_symbols ss));
  pen = omega (arith, p.pen, q.pen, both rs ss);
}

pub marked_as : {down : Bool} {rs ss old new : List ℕ} {at at' : ℕ} → rs ≡ ss → Marked down rs old new at at' → Marked down ss old new at at'
marked_as {down} {old = old} {new} {at} {at'} e m = subst (λ (rs : List ℕ). Marked down rs old new at at') e m

-- ---- room

-- for the first runs
pub room_front : {down : Bool} {s : List ℕ} {at : ℕ} (rs ss : List ℕ) → PenRoom down s at (rs ++ ss) → PenRoom down s at rs
room_front {down} {s} {at} rs ss r = record {
  small = omega (arith, r.small, both rs ss);
  inside = λ t. omega (arith, r.inside t, both rs ss);
  commas = λ t k l. r.commas t k (omega (arith, both rs ss));
}

-- for those after them
pub room_next : {down : Bool} {rs old new : List ℕ} {at at' : ℕ} (ss : List ℕ) → PenRoom down old at (rs ++ ss) → Marked down rs old new at at' → PenRoom down new at' ss
room_next {down} {rs} {old} {new} {at} {at'} ss r p = record {
  small = omega (arith, r.small, both rs ss, p.pen);
  inside = λ t. omega (arith, r.inside t, both rs ss, p.pen, p.size);
  commas = λ t k l.
      let n = length (runs_symbols rs) in
      let e : at' + k ≡ at + (n + k) = omega (arith, p.pen) in
      ap₂ (λ (s : List ℕ) (i : ℕ). get_or s i 0) p.symbols e ∙ marks-after down (symbols_of old) at (runs_symbols rs) (at + (n + k)) (omega arith)
      ∙ r.commas t (n + k) (omega (arith, both rs ss));
}

-- ---- one run

-- its digits and a comma
pub length_one : (run : ℕ) → length (runs_symbols (run ∷ [])) ≡ length (numeral run) + 1
unfolding runs_symbols
length_one run = length-append (digit_symbols (numeral run)) (comma ∷ []) ∙ ap (λ (n : ℕ). n + 1) (length-map (numeral run) suc)

module _ (run : ℕ) (old : List ℕ) (at at' : ℕ) (next : at' ≡ at + length (numeral run) + 1) where
  -- up, only the place moves
  pub up_one : Marked false (run ∷ []) old old at at'
  up_one = record { size = refl; symbols = refl; pen = omega (arith, length_one run, next) }

  -- down, its digits are written: the comma after them stands already
  pub down_one : (new : List ℕ) → PenRoom true old at (run ∷ []) → symbols_of new ≡ sets (symbols_of old) at (digit_symbols (numeral run))
      → Marked true (run ∷ []) old new at at'
  unfolding runs_symbols
  down_one new r e =
      let D = digit_symbols (numeral run) in
      let d : length D ≡ length (numeral run) = length-map (numeral run) suc in
      let c = r.commas tt (length D) (omega (arith, length_one run, d)) in
      record {
        size = symbols-size old new at run e;
        symbols = e ∙ sym (sets_append D (comma ∷ []) (symbols_of old) at
            ∙ set-comma (sets (symbols_of old) at D) (at + length D) (get_d_after D (symbols_of old) at (at + length D) (omega arith) ∙ c));
        pen = omega (arith, length_one run, next);
      }

-- ---- empty runs

-- two symbols each
pub length-empty : (n : ℕ) → length (runs_symbols (replicate n 0)) ≡ 2 * n
unfolding runs_symbols
length-empty zero = refl
length-empty (suc n) =
    let e = length-append (digit_symbols (numeral 0)) (comma ∷ runs_symbols (replicate n 0)) in
    omega (arith, e, length-map (numeral 0) suc, length-small 0 (omega arith), length-empty n)

-- up, only the place moves
pub up-empty : (n : ℕ) (old : List ℕ) (at : ℕ) → Marked false (replicate n 0) old old at (at + 2 * n)
up-empty n old at = record { size = refl; symbols = refl; pen = ap (λ (k : ℕ). at + k) (sym (length-empty n)) }

-- where there is room for one, a comma stands
pub empty-comma : {s : List ℕ} {j : ℕ} → PenRoom true s j (0 ∷ []) → (j < 4 * length s) × (get_or (symbols_of s) j 0 ≡ 0)
empty-comma {s} {j} r =
    (omega (arith, r.inside tt, length_one 0), ap (λ (i : ℕ). get_or (symbols_of s) i 0) (sym (add-zero j)) ∙ r.commas tt 0 (omega (arith, length_one 0)))

-- none at first
pub emptied-none : (old : List ℕ) (at : ℕ) → Marked true (replicate 0 0) old old at (at + 2 * 0)
emptied-none old at = subst (λ (j : ℕ). Marked true [] old old at j) (sym (add-zero at)) (marked-none true old at)

-- k of n empty runs are written
module _ (n k : ℕ) (old new : List ℕ) (at : ℕ) (some : k < n) (room : PenRoom true old at (replicate n 0))
    (done : Marked true (replicate k 0) old new at (at + 2 * k)) where
  -- the next has its commas
  pub emptied-room : PenRoom true new (at + 2 * k) (0 ∷ [])
  emptied-room =
      let m = n - k - 1 in
      let e : n ≡ k + suc m = omega arith in
      let parts : replicate {A = ℕ} n 0 ≡ replicate k 0 ++ replicate (suc m) 0 =
      ap (λ (i : ℕ). replicate {A = ℕ} i 0) e ∙ sym (replicate-append-replicate {A = ℕ} k (suc m) 0) in
      room_front (0 ∷ []) (replicate m 0) (room_next (replicate (suc m) 0) (subst (PenRoom true old at) parts room) done)

  -- and is written by its digit
  pub emptied_more : (next : List ℕ) → symbols_of next ≡ set (symbols_of new) (at + 2 * k) 1
      → Marked true (replicate (k + 1) 0) old next at (at + 2 * (k + 1))
  emptied_more next e =
      let d : symbols_of next ≡ sets (symbols_of new) (at + 2 * k) (digit_symbols (numeral 0)) =
      e ∙ ap (λ (ds : List ℕ). sets (symbols_of new) (at + 2 * k) (digit_symbols ds)) (sym (numeral-small 0 (omega arith))) in
      let q = down_one 0 new (at + 2 * k) (at + 2 * (k + 1)) (omega (arith, length-small 0 (omega arith))) next emptied-room d in
      subst (λ (rs : List ℕ). Marked true rs old next at (at + 2 * (k + 1))) (replicate-append-replicate k 1 0) (marked_append done q)

-- ---- walks

pub walked_none : (down : Bool) (old : List ℕ) (at k : ℕ) → PenWalked down [] old old at k at k
unfolding runs_of count_after
walked_none down old at k = record { runs = marked-none down old at; count = refl }

pub walked_append : {down : Bool} {l m : List Kind} {old mid new : List ℕ} {at a at' k c k' : ℕ} → PenWalked down l old mid at k a c → PenWalked down m mid new a c at' k'
    → PenWalked down (l ++ m) old new at k at' k'
walked_append {down} {l} {m} {old} {mid} {new} {at} {a} {at'} {k} {c} {k'} p q = record {
  runs = subst (λ (rs : List ℕ). Marked down rs old new at at') (sym (runs_parts k l m))
      (marked_append p.runs (subst (λ (i : ℕ). Marked down (runs_of i m) mid new a at') p.count q.runs));
  count = q.count ∙ ap (λ (i : ℕ). count_after i m) p.count ∙ sym (count_parts_lem k l m);
}

pub walk_front : {down : Bool} {s : List ℕ} {at : ℕ} (k : ℕ) (l m : List Kind) → PenRoom down s at (runs_of k (l ++ m)) → PenRoom down s at (runs_of k l)
walk_front {down} {s} {at} k l m r = room_front (runs_of k l) (runs_of (count_after k l) m) (subst (PenRoom down s at) (runs_parts k l m) r)

pub walk_next : {down : Bool} {old new : List ℕ} {at k at' k' : ℕ} {l : List Kind} (m : List Kind) → PenRoom down old at (runs_of k (l ++ m))
    → PenWalked down l old new at k at' k' → PenRoom down new at' (runs_of k' m)
walk_next {down} {old} {new} {at} {k} {at'} {k'} {l} m r p =
    subst (λ (i : ℕ). PenRoom down new at' (runs_of i m)) (sym p.count) (room_next (runs_of (count_after k l) m) (subst (PenRoom down old at) (runs_parts k l m) r) p.runs)
