-- `reading::symbol` meets its contract.
use mathlib.Core.Path.{◌∙◌, ap, sym}
use Prim.Native.Nat.{◌%◌, ◌/◌, ◌^◌, ◌-◌, ◌*◌, ℕ}
use native.Mathlib.Nat.{mod-lt, zero-lt-suc}
use native.Mathlib.Omega.{arith}
use borrow.Author.Tests.{ltb-false, ltb-true}
use lib.ListN.{get_or, length}
use Rattle.std.proofs.lemmas.List.{get_or_read}
use Rattle.coding.proofs.PackLaws.{length_symbols, symbols-at}
use Rattle.reading.proofs.TakeLaws.{symbol-place}
use Rattle.reading.proofs.symbol.Goals as goal

pub returns-in_err-byte : goal.returns-in_err-byte
returns-in_err-byte c =
    let a = c.args in
    let b = a.stream.now in
    rw c.from_residual.ensures (omega (arith, length_symbols b, ltb-false (a.j / 4) (length b) (sym c.in_err-byte.ensures.lookup.0)))

pub returns : goal.returns
returns c =
    let a = c.args in
    let b = a.stream.now in
    let e = c.in_ok-byte.ensures.lookup in
    let h = ltb-true (a.j / 4) (length b) (sym e.0) in (
      omega (arith, length_symbols b, h),
      ap (λ (n : ℕ). n / 2 ^ (6 - 2 * (a.j % 4)) % 4) (get_or_read b (a.j / 4) _ h e.1 0)
          ∙ ap (λ (n : ℕ). get_or b (a.j / 4) 0 / n % 4) (symbol-place (a.j % 4) (mod-lt a.j (zero-lt-suc 3))) ∙ sym (symbols-at b a.j),
    )
