-- Counters moved, or tested, where pixels are foreground. Definitions only; proofs/MoveLaws.antt has the laws.
use Rattle.std.specs.Prelude.{Bool, ◌&&◌, cond, false, true, List, ◌≡◌, ◌+◌, ◌-◌, ◌<◌, ◌≤◌, ℕ, T, leb, ltb, get_or, length}

-- the first n of f
abbrev pub below : ℕ → (ℕ → Bool) → (ℕ → Bool)
below n f k = ltb k n && f k

-- f moved from a to at: x + a is at + k for a k of f
abbrev pub hits : (ℕ → Bool) → ℕ → ℕ → (ℕ → Bool)
hits f at a x = leb at (x + a) && f (x + a - at)

-- each k of f, moved, is one of n places
abbrev pub Within : (ℕ → Bool) → ℕ → ℕ → ℕ → Type 0
Within f at a n = (k : ℕ) → T (f k) → (a ≤ at + k) × (at + k < a + n)

-- a counter after one count up (true) or down (false), where it is hit
abbrev pub counted : Bool → Bool → ℕ → ℕ
counted true b v = v + cond b 1 0
counted false b v = v - cond b 1 0

-- the largest number of the counters' type
abbrev pub max_count : ℕ
max_count = 65535

-- a counter that can take one
abbrev pub Free : Bool → ℕ → Type 0
Free true v = v < max_count
Free false v = 0 < v

-- each k of f, moved, is a counter that can take a count
pub record Open (up : Bool) (f : ℕ → Bool) (at a : ℕ) (c : List ℕ) : Type 0 where
  pub within : Within f at a (length c)
  pub free : (k : ℕ) → T (f k) → Free up (get_or c (at + k - a) 0)

-- c with the counters of p counted up or down
pub record CoverMoved (up : Bool) (p : ℕ → Bool) (c c' : List ℕ) : Type 0 where
  pub size : length c' ≡ length c
  pub places : (x : ℕ) → x < length c → get_or c' x 0 ≡ counted up (p x) (get_or c x 0)

-- each k of f, moved, counts two or more
abbrev pub Twice : (ℕ → Bool) → ℕ → ℕ → List ℕ → Type 0
Twice f at a c = (k : ℕ) → T (f k) → 2 ≤ get_or c (at + k - a) 0

-- t tells whether P
pub record Tells (t : Bool) (P : Type 0) : Type 0 where
  pub yes : t ≡ true → P
  pub no : t ≡ false → P → ⊥

-- ---- what is done at each counter

-- one more (true) or less, or a test whether it is two or more
pub data Task : Type 0 where
  count : Bool → Task
  test : Task

-- a counter that it can be done at
abbrev pub Takes : Task → ℕ → Type 0
Takes (count up) v = Free up v
Takes test v = Unit {0}

-- the one that a pixel at `at` is moved to
pub record Slot (k : Task) (at a : ℕ) (c : List ℕ) : Type 0 where
  pub lower : a ≤ at
  pub inside : at - a < length c
  pub takes : Takes k (get_or c (at - a) 0)

-- the counter after it
abbrev pub after : Task → ℕ → ℕ
after (count up) v = counted up true v
after test v = v

-- whether the counter passes
abbrev pub passes : Task → ℕ → Bool
passes (count up) v = true
passes test v = leb 2 v

-- each k of f, moved, is such a counter
abbrev pub Ready : Task → (ℕ → Bool) → ℕ → ℕ → List ℕ → Type 0
Ready (count up) f at a c = Open up f at a c
Ready test f at a c = Within f at a (length c)

-- c with it done there, as far as all pass; t tells whether all do
abbrev pub Done : Task → (ℕ → Bool) → ℕ → ℕ → List ℕ → List ℕ → Bool → Type 0
Done (count up) f at a c c' t = (t ≡ true) × CoverMoved up (hits f at a) c c'
Done test f at a c c' t = (c' ≡ c) × Tells t (Twice f at a c)
