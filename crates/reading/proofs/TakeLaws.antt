-- What follows in a stream, symbol by symbol; a run taken digit by digit: what is read and what is left give the whole run.
use mathlib.Core.Bool.{Bool, ◌&&◌, and-false, cond, false, true}
use mathlib.Core.List.{List, [], ◌++◌, ◌∷◌, append_assoc, append-nil}
use mathlib.Core.Option.{Option, none, some}
use mathlib.Core.Path.{◌∙◌, ◌≡◌, ap, ap₂, refl, subst, sym}
use Prim.Native.Nat.{◌*◌, ◌+◌, ◌-◌, ◌<◌, ◌^◌, ◌≤◌, suc, zero, ℕ}
use native.Mathlib.Numerals.{add-one}
use native.Mathlib.Omega.{arith}
use borrow.Author.Tests.{le-ltb, lt-ltb}
use lib.Dec.{T, ltb}
use lib.ListN.{drop, drop_of_length-le, get_or, length}
use lib.Seq.{drop-cons}
use Rattle.reading.specs.Seeking.{ended, first_run, found_run, lost, next_run, seek}
use Rattle.reading.specs.Splits.{is_numeral, value, value_after}
use Rattle.reading.specs.Taking.{digit_then, short_run, take_run}
use Rattle.reading.proofs.ReadLaws.{value_grows}
use Rattle.morphology.proofs.TestLaws.{T_ext}

-- ---- a run, symbol by symbol

-- digits before a run
abbrev pub digits_then : List ℕ → Option (List ℕ × List ℕ) → Option (List ℕ × List ℕ)
digits_then ds none = none
digits_then ds (some q) = some (ds ++ q.0, q.1)

-- one digit alone; one more
digit_alone : (d : ℕ) (o : Option (List ℕ × List ℕ)) → digit_then d o ≡ digits_then (d ∷ []) o
digit_alone d none = refl
digit_alone d (some q) = refl

digits_digit : (ds : List ℕ) (d : ℕ) (o : Option (List ℕ × List ℕ)) → digits_then ds (digit_then d o) ≡ digits_then (ds ++ (d ∷ [])) o
digits_digit ds d none = refl
digits_digit ds d (some q) = ap (λ (l : List ℕ). some (l, q.1)) (sym (append_assoc ds (d ∷ []) q.0))

-- a run ends at a comma
take-comma : (s : List ℕ) → take_run (0 ∷ s) ≡ some ([], s)
unfolding take_run
take-comma s = refl

-- a digit more
take_digit : (d : ℕ) (s : List ℕ) → take_run (suc d ∷ s) ≡ digit_then d (take_run s)
unfolding take_run
take_digit d s = refl

-- the symbols end within a run
take-end : take_run [] ≡ none
unfolding take_run
take-end = refl

-- ---- digits, and one more

-- the number that they stand for
value_append : (ds : List ℕ) (n : ℕ) (es : List ℕ) → value_after n (ds ++ es) ≡ value_after (value_after n ds) es
unfolding value_after
value_append [] n es = refl
value_append (x ∷ ds) n es = value_append ds (n * 3 + x) es

-- a numeral that stands for 0 is the digit 0 alone: with more digits it has a leading zero
zero_lead : (ds : List ℕ) → T (is_numeral ds) → value ds ≡ 0 → (d : ℕ) (es : List ℕ) → is_numeral (ds ++ (d ∷ es)) ≡ false
unfolding value_after
zero_lead [] t e d es = absurd t
zero_lead (zero ∷ []) t e d es = refl
zero_lead (suc x ∷ []) t e d es = absurd (omega arith)
zero_lead (zero ∷ y ∷ ds) t e d es = absurd t
zero_lead (suc x ∷ y ∷ ds) t e d es = let h = value_grows (y ∷ ds) (0 * 3 + suc x) in absurd (omega arith)

-- a numeral that does not stand for 0 goes on as one
numeral_on : (ds : List ℕ) (d : ℕ) → T (is_numeral ds) → (value ds ≡ 0 → ⊥) → T (is_numeral (ds ++ (d ∷ [])))
unfolding value_after
numeral_on [] d t f = absurd t
numeral_on (zero ∷ []) d t f = absurd (f refl)
numeral_on (suc x ∷ []) d t f = tt
numeral_on (zero ∷ y ∷ ds) d t f = absurd t
numeral_on (suc x ∷ y ∷ ds) d t f = tt

-- ---- where a run may begin: symbol by symbol

-- the place of a symbol in its byte
pub symbol-place : (k : ℕ) → k < 4 → 2 ^ (6 - 2 * k) ≡ 4 ^ (3 - k)
symbol-place zero h = refl
symbol-place (suc zero) h = refl
symbol-place (suc (suc zero)) h = refl
symbol-place (suc (suc (suc zero))) h = refl
symbol-place (suc (suc (suc (suc k)))) h = absurd (omega arith)

-- the symbol a that was read is a digit
pub digit_read : (a b : ℕ) → a ≡ b → (a ≡ 0 → ⊥) → b ≡ suc (a - 1)
digit_read zero b e f = absurd (f refl)
digit_read (suc d) b e f = omega arith

-- the symbols from j on
on : (s : List ℕ) (j a : ℕ) → j < length s → get_or s j 0 ≡ a → drop j s ≡ a ∷ drop (j + 1) s
on s j a h e = drop-cons s j 0 h ∙ ap₂ (λ (a k : ℕ). a ∷ drop k s) e (sym (add-one j))

module _ (s : List ℕ) (at limit : ℕ) where
  -- after a run: the symbols end, or a comma ends the size
  pub next-none : length s ≤ at → lost ≡ next_run limit (drop at s)
  unfolding next_run
  next-none h = sym (ap (next_run limit) (drop_of_length-le s h))

  pub next-comma : at < length s → get_or s at 0 ≡ 0 → ended (drop (at + 1) s) ≡ next_run limit (drop at s)
  unfolding next_run
  next-comma h e = sym (ap (next_run limit) (on s at 0 h e))

  -- at the start of a size: the symbols end
  pub first-none : length s ≤ at → lost ≡ first_run limit (drop at s)
  unfolding first_run
  first-none h = sym (ap (first_run limit) (drop_of_length-le s h))

  module _ (h : at < length s) where
    -- a digit
    pub first_digit : (d : ℕ) → get_or s at 0 ≡ suc d → next_run limit (drop at s) ≡ first_run limit (drop at s)
    unfolding first_run
    first_digit d e = let p = on s at (suc d) h e in ap (next_run limit) p ∙ sym (ap (first_run limit) p)

    module _ (e : get_or s at 0 ≡ 0) where
      -- a comma, and the symbols end
      pub first_one : length s ≤ at + 1 → lost ≡ first_run limit (drop at s)
      unfolding first_run
      first_one k = sym (ap (first_run limit) (on s at 0 h e ∙ ap (λ (l : List ℕ). 0 ∷ l) (drop_of_length-le s k)))

      -- a comma, and another symbol
      two : (a : ℕ) → at + 1 < length s → get_or s (at + 1) 0 ≡ a → drop at s ≡ 0 ∷ a ∷ drop (at + 2) s
      two a k q =
          let m : at + 1 + 1 ≡ at + 2 = omega arith in
          on s at 0 h e ∙ ap (λ (l : List ℕ). 0 ∷ l) (on s (at + 1) a k q) ∙ ap (λ (n : ℕ). 0 ∷ a ∷ drop n s) m

      pub first-lost : (d : ℕ) → at + 1 < length s → get_or s (at + 1) 0 ≡ suc d → lost ≡ first_run limit (drop at s)
      unfolding first_run
      first-lost d k q = sym (ap (first_run limit) (two (suc d) k q))

      pub first_ended : at + 1 < length s → get_or s (at + 1) 0 ≡ 0 → ended (drop (at + 2) s) ≡ first_run limit (drop at s)
      unfolding first_run
      first_ended k q = sym (ap (first_run limit) (two 0 k q))

-- ---- the state of a loop over the symbols of a run

-- from symbol `at` of s to j the digits of a numeral were read, and they stand for v; there are no more of them than v and one
pub record Taken (s : List ℕ) (at limit v j : ℕ) : Type 0 where
  pub digits : List ℕ
  pub whole : next_run limit (drop at s) ≡ found_run (short_run limit (digits_then digits (take_run (drop j s))))
  pub number : v ≡ value digits
  pub good : T (is_numeral digits)
  pub near : j ≤ at + v + 1

-- after the first digit
pub taken-first : (s : List ℕ) (at limit d : ℕ) → at < length s → get_or s at 0 ≡ suc d → Taken s at limit d (at + 1)
unfolding next_run value_after
taken-first s at limit d h e = record {
  digits = d ∷ [];
  whole =
      ap (next_run limit) (on s at (suc d) h e)
      ∙ ap (λ (o : Option (List ℕ × List ℕ)). found_run (short_run limit o))
      (take_digit d (drop (at + 1) s) ∙ digit_alone d (take_run (drop (at + 1) s)));
  number = omega arith;
  good = tt;
  near = omega arith;
}

module _ (s : List ℕ) (at limit v j : ℕ) (t : Taken s at limit v j) where
  -- what follows the digits read, if it is taken as o
  goes : (o : Option (List ℕ × List ℕ)) → take_run (drop j s) ≡ o → found_run (short_run limit (digits_then t.digits o)) ≡ next_run limit (drop at s)
  goes o e = sym (t.whole ∙ ap (λ (o : Option (List ℕ × List ℕ)). found_run (short_run limit (digits_then t.digits o))) e)

  -- the symbols end
  pub taken_early : length s ≤ j → lost ≡ next_run limit (drop at s)
  taken_early h = goes none (ap take_run (drop_of_length-le s h) ∙ take-end)

  -- digits with which no run is one, whatever follows
  refused : (ds : List ℕ) → ((es : List ℕ) → (is_numeral (ds ++ es) && ltb (value (ds ++ es)) limit) ≡ false)
      → (o : Option (List ℕ × List ℕ)) → lost ≡ found_run (short_run limit (digits_then ds o))
  refused ds f none = refl
  refused ds f (some q) = sym (ap (λ (x : Bool). found_run (cond x (some (value (ds ++ q.0), q.1)) none)) (f q.0))

  -- a run that is too long already
  pub taken_long : limit ≤ v → lost ≡ next_run limit (drop at s)
  taken_long l = refused t.digits by (take_run (drop j s)) ∙ sym t.whole
    where
      by : (es : List ℕ) → (is_numeral (t.digits ++ es) && ltb (value (t.digits ++ es)) limit) ≡ false
      by es =
          let g = value_grows es (value t.digits) in
          let n = t.number in
          let m : limit ≤ value (t.digits ++ es) = subst (λ (k : ℕ). limit ≤ k) (sym (value_append t.digits 0 es)) (omega arith) in
          ap (λ (x : Bool). is_numeral (t.digits ++ es) && x) (le-ltb (value (t.digits ++ es)) limit m) ∙ and-false (is_numeral (t.digits ++ es))

  module _ (h : j < length s) where
    -- a comma ends the run
    pub taken-run : get_or s j 0 ≡ 0 → v < limit → seek v (drop (j + 1) s) ≡ next_run limit (drop at s)
    taken-run e l =
        let ds = t.digits in
        let a : is_numeral ds ≡ true = T_ext (λ x. tt) (λ x. t.good) in
        let b = lt-ltb (value ds) limit (subst (λ (n : ℕ). n < limit) t.number l) in
        ap (λ (n : ℕ). seek n (drop (j + 1) s)) t.number
        ∙ sym (ap₂ (λ (a b : Bool). found_run (cond (a && b) (some (value ds, drop (j + 1) s)) none)) a b)
        ∙ ap (λ (l : List ℕ). found_run (short_run limit (some (l, drop (j + 1) s)))) (sym (append-nil ds))
        ∙ goes (some ([], drop (j + 1) s)) (ap take_run (on s j 0 h e) ∙ take-comma (drop (j + 1) s))

    module _ (d : ℕ) (e : get_or s j 0 ≡ suc d) where
      -- one digit more
      further : found_run (short_run limit (digits_then (t.digits ++ (d ∷ [])) (take_run (drop (j + 1) s)))) ≡ next_run limit (drop at s)
      further =
          let o = take_run (drop (j + 1) s) in
          ap (λ (o : Option (List ℕ × List ℕ)). found_run (short_run limit o)) (sym (digits_digit t.digits d o))
          ∙ goes (digit_then d o) (ap take_run (on s j (suc d) h e) ∙ take_digit d (drop (j + 1) s))

      -- a digit after the digit 0
      pub taken_lead : v ≡ 0 → lost ≡ next_run limit (drop at s)
      taken_lead z = refused (t.digits ++ (d ∷ [])) by (take_run (drop (j + 1) s)) ∙ further
        where
          by : (es : List ℕ) → (is_numeral ((t.digits ++ (d ∷ [])) ++ es) && ltb (value ((t.digits ++ (d ∷ [])) ++ es)) limit) ≡ false
          by es =
              ap (λ (x : Bool). x && ltb (value ((t.digits ++ (d ∷ [])) ++ es)) limit)
              (ap is_numeral (append_assoc t.digits (d ∷ []) es) ∙ zero_lead t.digits t.good (sym t.number ∙ z) d es)

      -- the state with it
      pub taken_more : (v ≡ 0 → ⊥) → Taken s at limit (v * 3 + d) (j + 1)
      unfolding value_after
      taken_more f = record {
        digits = t.digits ++ (d ∷ []);
        whole = sym further;
        number = ap (λ (n : ℕ). n * 3 + d) t.number ∙ sym (value_append t.digits 0 (d ∷ []));
        good = numeral_on t.digits d t.good (λ z. f (t.number ∙ z));
        near = by v f t.near;
      }
        where
          by : (v : ℕ) → (v ≡ 0 → ⊥) → j ≤ at + v + 1 → j + 1 ≤ at + (v * 3 + d) + 1
          by zero f n = absurd (f refl)
          by (suc v) f n = omega arith
