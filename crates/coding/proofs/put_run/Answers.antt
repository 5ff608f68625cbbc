-- `coding::put_run` meets its contract: a run of one digit is one symbol, of two digits two, side by side; a longer one is written digit by digit.
use mathlib.Core.Path.{◌∙◌, ap, sym}
use Prim.Native.Nat.{ℕ}
use native.Mathlib.Nat.{add-zero}
use native.Mathlib.Omega.{arith}
use lib.ListN.{get_or}
use Rattle.coding.specs.Symbols.{symbols_of}
use Rattle.coding.proofs.NumeralLaws.{length-small, length_two}
use Rattle.coding.proofs.StoreLaws.{short_one, short_two}
use Rattle.coding.proofs.put_run.Goals as goal

pub put-requires : goal.put-requires
put-requires c =
    let a = c.args in
    let d = length-small a.n c.if-n-lt3.true in (
      omega (arith, c.requires.1),
      omega arith,
      ap (λ (i : ℕ). get_or (symbols_of a.stream.now) i 0) (sym (add-zero a.j)) ∙ c.requires.2 0 (omega arith),
    )

pub returns-then-n-lt3 : goal.returns-then-n-lt3
returns-then-n-lt3 c =
    let a = c.args in
    let p = c.put in
    let l = c.if-n-lt3.true in
    record { symbols = short_one a.stream.now p.new.stream a.j a.n l p.ensures; next = omega (arith, length-small a.n l) }

pub put_two-requires : goal.put_two-requires
put_two-requires c =
    let a = c.args in
    let d = length_two a.n c.if-n-lt3.false c.if-n-lt9.true in (
      c.requires.0,
      omega (arith, c.requires.1),
      omega arith,
      omega arith,
      ap (λ (i : ℕ). get_or (symbols_of a.stream.now) i 0) (sym (add-zero a.j)) ∙ c.requires.2 0 (omega arith),
      c.requires.2 1 (omega arith),
    )

pub returns-then-n-lt9 : goal.returns-then-n-lt9
returns-then-n-lt9 c =
    let a = c.args in
    let p = c.put_two in
    let m = c.if-n-lt3.false in
    let l = c.if-n-lt9.true in
    record { symbols = short_two a.stream.now p.new.stream a.j a.n m l p.ensures; next = omega (arith, length_two a.n m l) }
