-- Splitting and symbols: what is written is read back, and what is read was written so.
use mathlib.Core.Bool.{Bool}
use mathlib.Core.List.{List, [], ◌++◌, ◌∷◌, append_assoc}
use mathlib.Core.Option.{Option, none-ne-some, some-injective, none, some}
use mathlib.Core.Path.{◌∙◌, ◌≡◌, ap, refl, subst, sym}
use Prim.Native.Nat.{suc, zero, ℕ}
use native.Mathlib.Omega.{arith}
use lib.Dec.{T, ltb, ltb→lt, lt→ltb}
use lib.ListN.{length}
use Rattle.coding.specs.Symbols.{comma, digit_symbols, parted, section, sections}
use Rattle.reading.specs.Splits.{Splitting, Stand, between, empty, inside, is_numeral, on_sizes, split, start, with_digit, with_run, with_size}
use Rattle.reading.proofs.ValueLaws.{are_digits}
use Rattle.morphology.specs.Lists.{every_of}
use Rattle.morphology.proofs.TestLaws.{and_in, and_l, and_r}

-- ---- a size, run by run

-- what follows a run and its comma: more runs, each with a comma, then one comma more
unfoldable pub ended : List (List ℕ) → List ℕ
ended [] = comma ∷ []
ended (w ∷ ws) = digit_symbols w ++ comma ∷ ended ws

pub section-none : section [] ≡ comma ∷ comma ∷ []
unfolding section parted
section-none = refl

pub section_cons : (w : List ℕ) (ws : List (List ℕ)) → section (w ∷ ws) ≡ digit_symbols w ++ comma ∷ ended ws
unfolding section parted ended
section_cons w [] = refl
section_cons w (v ∷ ws) =
    append_assoc (digit_symbols w) (comma ∷ parted (v ∷ ws)) (comma ∷ comma ∷ [])
    ∙ ap (λ (l : List ℕ). digit_symbols w ++ comma ∷ l) (section_cons v ws)

-- ---- what is written is read back

module _ (n : ℕ) (tail : List ℕ) (sizes : List (List (List ℕ))) (rest : List ℕ) (more : split tail start n ≡ some (sizes, rest)) where
  read-inside : (ws : List (List ℕ)) → split (ended ws ++ tail) between n ≡ some (ws ∷ sizes, rest) → (ds : List ℕ)
      → split (digit_symbols ds ++ comma ∷ (ended ws ++ tail)) inside n ≡ some ((ds ∷ ws) ∷ sizes, rest)
  unfolding split
  read-inside ws b [] = ap (on_sizes with_run) b
  read-inside ws b (d ∷ ds) = ap (on_sizes (with_digit d)) (read-inside ws b ds)

  read_between : (ws : List (List ℕ)) → T (every_of is_numeral ws) → split (ended ws ++ tail) between n ≡ some (ws ∷ sizes, rest)
  unfolding split ended
  read_between [] t = ap (on_sizes with_size) more
  read_between ([] ∷ ws) t = absurd t
  read_between ((d ∷ ds) ∷ ws) t =
      ap (λ (l : List ℕ). on_sizes (with_digit d) (split l inside n)) (append_assoc (digit_symbols ds) (comma ∷ ended ws) tail)
      ∙ ap (on_sizes (with_digit d)) (read-inside ws (read_between ws (and_r (is_numeral (d ∷ ds)) (every_of is_numeral ws) t)) ds)

  read-section : (ws : List (List ℕ)) → T (every_of is_numeral ws) → split (section ws ++ tail) start (suc n) ≡ some (ws ∷ sizes, rest)
  unfolding split
  read-section [] t = ap (λ (l : List ℕ). split (l ++ tail) start (suc n)) section-none ∙ ap (on_sizes with_size) more
  read-section ([] ∷ ws) t = absurd t
  read-section ((d ∷ ds) ∷ ws) t =
      ap (λ (l : List ℕ). split (l ++ tail) start (suc n)) (section_cons (d ∷ ds) ws)
      ∙ ap (λ (l : List ℕ). on_sizes (with_digit d) (split l inside n)) (append_assoc (digit_symbols ds) (comma ∷ ended ws) tail)
      ∙ ap (on_sizes (with_digit d)) (read-inside ws (read_between ws (and_r (is_numeral (d ∷ ds)) (every_of is_numeral ws) t)) ds)

pub read_none : (rest : List ℕ) → split rest start 0 ≡ some ([], rest)
unfolding split
read_none [] = refl
read_none (a ∷ s) = refl

pub split-sections : (sizes : List (List (List ℕ))) (rest : List ℕ) → T (every_of (every_of is_numeral) sizes)
    → split (sections sizes ++ rest) start (length sizes) ≡ some (sizes, rest)
unfolding sections
split-sections [] rest t = read_none rest
split-sections (ws ∷ sizes) rest t =
    ap (λ (l : List ℕ). split l start (suc (length sizes))) (append_assoc (section ws) (sections sizes) rest)
    ∙ read-section (length sizes) (sections sizes ++ rest) sizes rest (split-sections sizes rest (and_r (every_of is_numeral ws) (every_of (every_of is_numeral) sizes) t)) ws
    (and_l (every_of is_numeral ws) (every_of (every_of is_numeral) sizes) t)

-- ---- what is read was written so

on_sizes-out : (f : List (List (List ℕ)) → List (List (List ℕ))) (o : Option Splitting) (r : Splitting) → on_sizes f o ≡ some r
    → (q : Splitting) × (o ≡ some q) × (r ≡ (f q.0, q.1))
on_sizes-out f none r e = absurd (none-ne-some r e)
on_sizes-out f (some q) r e = (q, refl, sym (some-injective (f q.0, q.1) r e))

-- the symbols s, read from a stand with n sizes to follow, gave r
abbrev pub Written : Stand → ℕ → List ℕ → Splitting → Type 0
Written start n s r = (s ≡ sections r.0 ++ r.1) × (length r.0 ≡ n)
Written empty n s r = (tail : List (List (List ℕ))) × (r.0 ≡ [] ∷ tail) × (s ≡ comma ∷ (sections tail ++ r.1)) × (length tail ≡ n)
Written inside n s r = (w : List ℕ) × (ws : List (List ℕ)) × (tail : List (List (List ℕ))) × (r.0 ≡ (w ∷ ws) ∷ tail)
    × (s ≡ digit_symbols w ++ comma ∷ (ended ws ++ (sections tail ++ r.1))) × (length tail ≡ n)
Written between n s r = (ws : List (List ℕ)) × (tail : List (List (List ℕ))) × (r.0 ≡ ws ∷ tail) × (s ≡ ended ws ++ (sections tail ++ r.1)) × (length tail ≡ n)

sections-none : (tail : List (List (List ℕ))) (rest : List ℕ) → sections ([] ∷ tail) ++ rest ≡ comma ∷ comma ∷ (sections tail ++ rest)
unfolding sections section parted
sections-none tail rest = refl

-- a size that begins with a run
sections-run : (w : List ℕ) (ws : List (List ℕ)) (tail : List (List (List ℕ))) (rest : List ℕ)
    → sections ((w ∷ ws) ∷ tail) ++ rest ≡ digit_symbols w ++ comma ∷ (ended ws ++ (sections tail ++ rest))
unfolding sections
sections-run w ws tail rest =
    append_assoc (section (w ∷ ws)) (sections tail) rest ∙ ap (λ (l : List ℕ). l ++ (sections tail ++ rest)) (section_cons w ws)
    ∙ append_assoc (digit_symbols w) (comma ∷ ended ws) (sections tail ++ rest)

-- a digit, a run's end and a size's end
more_digit : (d n : ℕ) (s : List ℕ) (q r : Splitting) → r ≡ (with_digit d q.0, q.1) → Written inside n s q
    → (w : List ℕ) × (ws : List (List ℕ)) × (tail : List (List (List ℕ))) × (r ≡ (((d ∷ w) ∷ ws) ∷ tail, q.1))
    × (suc d ∷ s ≡ digit_symbols (d ∷ w) ++ comma ∷ (ended ws ++ (sections tail ++ q.1))) × (length tail ≡ n)
more_digit d n s q r e h =
    (h.0, h.1, h.2, e ∙ ap (λ (l : List (List (List ℕ))). (with_digit d l, q.1)) h.3, ap (λ (l : List ℕ). suc d ∷ l) h.4, h.5)

-- the end of a size
more-size : (n : ℕ) (s : List ℕ) (q r : Splitting) → r ≡ (with_size q.0, q.1) → Written start n s q
    → (tail : List (List (List ℕ))) × (r ≡ ([] ∷ tail, q.1)) × (comma ∷ s ≡ comma ∷ (sections tail ++ q.1)) × (length tail ≡ n)
more-size n s q r e h = (q.0, e, ap (λ (l : List ℕ). comma ∷ l) h.0, h.1)

nothing_read : (s : List ℕ) → Written start 0 s ([], s)
unfolding sections
nothing_read s = (refl, refl)

pub written : (s : List ℕ) (st : Stand) (n : ℕ) (r : Splitting) → split s st n ≡ some r → Written st n s r
unfolding split ended
written [] start zero r e = subst (Written start 0 []) (some-injective ([], []) r e) (nothing_read [])
written [] start (suc n) r e = absurd (none-ne-some r e)
written [] empty n r e = absurd (none-ne-some r e)
written [] inside n r e = absurd (none-ne-some r e)
written [] between n r e = absurd (none-ne-some r e)
written (a ∷ s) start zero r e = subst (Written start 0 (a ∷ s)) (some-injective ([], a ∷ s) r e) (nothing_read (a ∷ s))
written (zero ∷ s) start (suc n) r e =
    let h = written s empty n r e in (
      ap (λ (l : List ℕ). comma ∷ l) h.2 ∙ sym (sections-none h.0 r.1) ∙ ap (λ (l : List (List (List ℕ))). sections l ++ r.1) (sym h.1),
      ap length h.1 ∙ ap suc h.3,
    )
written (suc d ∷ s) start (suc n) r e =
    let o = on_sizes-out (with_digit d) (split s inside n) r e in
    let h = more_digit d n s o.0 r o.2 (written s inside n o.0 o.1) in
    subst (Written start (suc n) (suc d ∷ s)) (sym h.3) (h.4 ∙ sym (sections-run (d ∷ h.0) h.1 h.2 o.0.1), ap suc h.5)
written (zero ∷ s) empty n r e =
    let o = on_sizes-out with_size (split s start n) r e in
    let h = more-size n s o.0 r o.2 (written s start n o.0 o.1) in
    subst (Written empty n (comma ∷ s)) (sym h.1) (h.0, refl, h.2, h.3)
written (suc d ∷ s) empty n r e = absurd (none-ne-some r e)
written (zero ∷ s) inside n r e =
    let o = on_sizes-out with_run (split s between n) r e in
    let h = written s between n o.0 o.1 in
    subst (Written inside n (comma ∷ s)) (sym (o.2 ∙ ap (λ (l : List (List (List ℕ))). (with_run l, o.0.1)) h.2))
    ([], h.0, h.1, refl, ap (λ (l : List ℕ). comma ∷ l) h.3, h.4)
written (suc d ∷ s) inside n r e =
    let o = on_sizes-out (with_digit d) (split s inside n) r e in
    let h = more_digit d n s o.0 r o.2 (written s inside n o.0 o.1) in
    subst (Written inside n (suc d ∷ s)) (sym h.3) (d ∷ h.0, h.1, h.2, refl, h.4, h.5)
written (zero ∷ s) between n r e =
    let o = on_sizes-out with_size (split s start n) r e in
    let h = more-size n s o.0 r o.2 (written s start n o.0 o.1) in
    subst (Written between n (comma ∷ s)) (sym h.1) ([], h.0, refl, h.2, h.3)
written (suc d ∷ s) between n r e =
    let o = on_sizes-out (with_digit d) (split s inside n) r e in
    let h = more_digit d n s o.0 r o.2 (written s inside n o.0 o.1) in
    subst (Written between n (suc d ∷ s)) (sym h.3)
    ((d ∷ h.0) ∷ h.1, h.2, refl, h.4 ∙ sym (append_assoc (digit_symbols (d ∷ h.0)) (comma ∷ ended h.1) (sections h.2 ++ o.0.1)), h.5)

-- the sizes read, written again, and what is left are the symbols
pub sections-split : (s : List ℕ) (n : ℕ) (r : Splitting) → split s start n ≡ some r → (s ≡ sections r.0 ++ r.1) × (length r.0 ≡ n)
sections-split s n r e = written s start n r e

-- ---- symbols below 4 are digits below 3

abbrev pub are_symbols : List ℕ → Bool
are_symbols s = every_of (λ a. ltb a 4) s

pub all_append : {A : Type 0} (p : A → Bool) (s t : List A) → T (every_of p s) → T (every_of p t) → T (every_of p (s ++ t))
all_append p [] t a b = b
all_append p (x ∷ s) t a b = and_in (p x) (every_of p (s ++ t)) (and_l (p x) (every_of p s) a) (all_append p s t (and_r (p x) (every_of p s) a) b)

pub all_left : {A : Type 0} (p : A → Bool) (s t : List A) → T (every_of p (s ++ t)) → T (every_of p s)
all_left p [] t a = tt
all_left p (x ∷ s) t a = and_in (p x) (every_of p s) (and_l (p x) (every_of p (s ++ t)) a) (all_left p s t (and_r (p x) (every_of p (s ++ t)) a))

pub all_right : {A : Type 0} (p : A → Bool) (s t : List A) → T (every_of p (s ++ t)) → T (every_of p t)
all_right p [] t a = a
all_right p (x ∷ s) t a = all_right p s t (and_r (p x) (every_of p (s ++ t)) a)

run-symbols : (w : List ℕ) → T (are_digits w) → T (are_symbols (digit_symbols w))
run-symbols [] t = tt
run-symbols (d ∷ w) t =
    let h = ltb→lt d 3 (and_l (ltb d 3) (are_digits w) t) in
    and_in (ltb (suc d) 4) (are_symbols (digit_symbols w)) (lt→ltb (suc d) 4 (omega arith)) (run-symbols w (and_r (ltb d 3) (are_digits w) t))

run-digits : (w : List ℕ) → T (are_symbols (digit_symbols w)) → T (are_digits w)
run-digits [] t = tt
run-digits (d ∷ w) t =
    let h = ltb→lt (suc d) 4 (and_l (ltb (suc d) 4) (are_symbols (digit_symbols w)) t) in
    and_in (ltb d 3) (are_digits w) (lt→ltb d 3 (omega arith)) (run-digits w (and_r (ltb (suc d) 4) (are_symbols (digit_symbols w)) t))

ended-symbols : (ws : List (List ℕ)) → T (every_of are_digits ws) → T (are_symbols (ended ws))
unfolding ended
ended-symbols [] t = tt
ended-symbols (w ∷ ws) t =
    all_append (λ a. ltb a 4) (digit_symbols w) (comma ∷ ended ws) (run-symbols w (and_l (are_digits w) (every_of are_digits ws) t)) (ended-symbols ws (and_r (are_digits w) (every_of are_digits ws) t))

ended-digits : (ws : List (List ℕ)) → T (are_symbols (ended ws)) → T (every_of are_digits ws)
unfolding ended
ended-digits [] t = tt
ended-digits (w ∷ ws) t =
    and_in (are_digits w) (every_of are_digits ws) (run-digits w (all_left (λ a. ltb a 4) (digit_symbols w) (comma ∷ ended ws) t))
    (ended-digits ws (all_right (λ a. ltb a 4) (digit_symbols w) (comma ∷ ended ws) t))

section-symbols : (ws : List (List ℕ)) → T (every_of are_digits ws) → T (are_symbols (section ws))
unfolding ended
section-symbols [] t = subst (λ (l : List ℕ). T (are_symbols l)) (sym section-none) tt
section-symbols (w ∷ ws) t = subst (λ (l : List ℕ). T (are_symbols l)) (sym (section_cons w ws)) (ended-symbols (w ∷ ws) t)

section-digits : (ws : List (List ℕ)) → T (are_symbols (section ws)) → T (every_of are_digits ws)
unfolding ended
section-digits [] t = tt
section-digits (w ∷ ws) t = ended-digits (w ∷ ws) (subst (λ (l : List ℕ). T (are_symbols l)) (section_cons w ws) t)

pub sections-symbols : (sizes : List (List (List ℕ))) → T (every_of (every_of are_digits) sizes) → T (are_symbols (sections sizes))
unfolding sections
sections-symbols [] t = tt
sections-symbols (ws ∷ sizes) t =
    all_append (λ a. ltb a 4) (section ws) (sections sizes) (section-symbols ws (and_l (every_of are_digits ws) (every_of (every_of are_digits) sizes) t))
    (sections-symbols sizes (and_r (every_of are_digits ws) (every_of (every_of are_digits) sizes) t))

pub sections-digits : (sizes : List (List (List ℕ))) → T (are_symbols (sections sizes)) → T (every_of (every_of are_digits) sizes)
unfolding sections
sections-digits [] t = tt
sections-digits (ws ∷ sizes) t =
    and_in (every_of are_digits ws) (every_of (every_of are_digits) sizes) (section-digits ws (all_left (λ a. ltb a 4) (section ws) (sections sizes) t))
    (sections-digits sizes (all_right (λ a. ltb a 4) (section ws) (sections sizes) t))
