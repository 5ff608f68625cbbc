-- Text appended piece by piece.
use mathlib.Core.List.{List, [], ◌++◌, append_assoc, append-nil}
use mathlib.Core.Path.{◌∙◌, ◌≡◌, ap, refl, subst, sym}
use Prim.Native.Nat.{◌+◌, ◌-◌, ◌≤◌, ℕ}
use native.Mathlib.Omega.{arith}
use lib.ListN.{drop, length, length-append, length-drop, take, take-append-drop}
use lib.Seq.{drop-drop, drop_at, length-take-le, take_at}
use Rattle.listing.specs.Appended.{Appended, Listed, TextFits}

pub appended-none : (at : ℕ) (out : List ℕ) → Appended [] at at out out
appended-none at out = record { size = refl; ends = omega arith; text = sym (append-nil (take at out)); rest = refl }

pub appended_as : {s t : List ℕ} {at next : ℕ} {out out' : List ℕ} → s ≡ t → Appended s at next out out' → Appended t at next out out'
appended_as {s} {t} {at} {next} {out} {out'} e = subst (λ (u : List ℕ). Appended u at next out out') e

pub room_as : {s t : List ℕ} {at : ℕ} {out : List ℕ} → s ≡ t → TextFits s at out → TextFits t at out
room_as {s} {t} {at} {out} e = subst (λ (u : List ℕ). TextFits u at out) e

pub room_less : {s t : List ℕ} {at : ℕ} {out : List ℕ} → length s ≤ length t → TextFits t at out → TextFits s at out
room_less h r = record { fits = omega arith }

drop_more : (m n : ℕ) (l k : List ℕ) → m ≤ n → drop m l ≡ drop m k → drop n l ≡ drop n k
drop_more m n l k h e =
    let q : m + (n - m) ≡ n = omega arith in
    ap (λ (i : ℕ). drop i l) (sym q) ∙ sym (drop-drop (n - m) m l) ∙ ap (drop (n - m)) e ∙ drop-drop (n - m) m k ∙ ap (λ (i : ℕ). drop i k) q

-- ---- a text t of two pieces s and u

module _ (s u : List ℕ) {t : List ℕ} (e : t ≡ s ++ u) where
  pub size_of : length t ≡ length s + length u
  size_of = ap length e ∙ length-append s u

  pub room-first : {at : ℕ} {out : List ℕ} → TextFits t at out → TextFits s at out
  room-first r = record { fits = omega (arith, size_of) }

  pub room_next : {at mid : ℕ} {out out' : List ℕ} → TextFits t at out → Appended s at mid out out' → TextFits u mid out'
  room_next r a = record { fits = omega (arith, size_of) }

  pub appended_then : {at mid next : ℕ} {out out' out'' : List ℕ} → Appended s at mid out out' → Appended u mid next out' out'' → Appended t at next out out''
  appended_then {at} {mid} {next} {out} {out'} {out''} a b = record {
    size = b.size ∙ a.size;
    ends = omega (arith, size_of);
    text = b.text ∙ ap (λ (l : List ℕ). l ++ u) a.text ∙ append_assoc (take at out) s u ∙ ap (λ (l : List ℕ). take at out ++ l) (sym e);
    rest = b.rest ∙ drop_more mid next out' out (omega (arith, b.ends)) a.rest;
  }

-- ---- a text at once

-- ys, which is the text, over n bytes
pub appended-over : (s ys : List ℕ) (at n : ℕ) (out : List ℕ) → ys ≡ s → n ≡ length s → TextFits s at out
    → Appended s at (at + length s) out (take at out ++ (ys ++ drop n (drop at out)))
appended-over s ys at n out e m r =
    let rest = drop n (drop at out) in
    let front : length (take at out) ≡ at = length-take-le at out (omega arith) in
    let done : take at out ++ (ys ++ rest) ≡ (take at out ++ s) ++ rest =
    ap (λ (l : List ℕ). take at out ++ (l ++ rest)) e ∙ sym (append_assoc (take at out) s rest) in
    let long : length (take at out ++ s) ≡ at + length s = length-append (take at out) s ∙ ap (λ (i : ℕ). i + length s) front in
    record {
      size = omega (arith, ap length done, length-append (take at out ++ s) rest, long, length-drop n (drop at out), length-drop at out);
      ends = refl;
      text = ap (take (at + length s)) done ∙ take_at (take at out ++ s) rest (at + length s) long;
      rest = ap (drop (at + length s)) done ∙ drop_at (take at out ++ s) rest (at + length s) long ∙ drop-drop n at out
          ∙ ap (λ (i : ℕ). drop (at + i) out) m;
    }

-- ---- a text from the start of the buffer

pub appended-whole : {s : List ℕ} {n : ℕ} {out out' : List ℕ} → Appended s 0 n out out' → Listed s n out out'
appended-whole {s} {n} {out} {out'} a = record {
  count = omega (arith, a.ends);
  text = sym (take-append-drop n out') ∙ ap (λ (l : List ℕ). l ++ drop n out') a.text ∙ ap (λ (l : List ℕ). s ++ l) a.rest;
}

-- it lies within the buffer
pub listed-within : {s : List ℕ} {n : ℕ} {out out' : List ℕ} → Listed s n out out' → n ≤ length out'
listed-within {s} {n} {out} {out'} l = omega (arith, l.count, ap length l.text, length-append s (drop n out))
