-- The decimal digits of a number are those that std's definition gives.
use mathlib.Core.Path.{◌≡◌, sym}
use mathlib.Core.List.{[], ◌∷◌, ◌++◌}
use Prim.Native.Nat.{ℕ, suc, ◌+◌, ◌/◌, ◌%◌, ◌^◌, ◌≤◌, ◌<◌}
use native.Mathlib.Omega.{arith}
use borrow.Author.Tests.{lt-ltb, le-ltb}
use Rattle.std.specs.Fmt as Std
use Rattle.std.proofs.lemmas.Fmt.{AppendsLastDigit, decimal_from_appends, length-decimal-le}
use Rattle.report_text.specs.Words.{decimal_within, decimal}

module _ (fuel n : ℕ) where
  one-digit : n < 10 → decimal_within (suc fuel) n ≡ (48 + n) ∷ []
  unfolding decimal_within
  one-digit h = rw lt-ltb

  last-digit : 10 ≤ n → decimal_within (suc fuel) n ≡ decimal_within fuel (n / 10) ++ (48 + n % 10) ∷ []
  unfolding decimal_within
  last-digit h = rw le-ltb

by-last-digit : AppendsLastDigit decimal_within
by-last-digit = record { one = one-digit; more = last-digit }

pub decimal-is : (n : ℕ) → n < 2 ^ 64 → Std.decimal n ≡ decimal n
unfolding decimal
decimal-is n h = sym (decimal_from_appends decimal_within by-last-digit 20 n h (length-decimal-le 20 n (omega arith) (omega arith) h))
