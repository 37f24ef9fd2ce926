-- The counts: of no words, with one more, how large they get, and what they add up to.
use mathlib.Core.Path.{◌≡◌, refl}
use mathlib.Core.Bool.{cond}
use Prim.Native.Nat.{ℕ, zero, suc, ◌+◌, ◌≤◌}
use native.Mathlib.Nat.{le_trans}
use native.Mathlib.Omega.{arith}
use Rattle.general.specs.Below.{count_below}
use Rattle.general.proofs.Sums.{count_next, count-bounded}
use Rattle.values.specs.Room.{word_bound}
use Rattle.counting.specs.declared.Class.{Class}
use Rattle.counting.specs.Count.{is_class, count_of, counts_below}
use Rattle.counting.specs.Inputs.{Few, with_class}

module _ (classes : ℕ → Class) where
  pub counts-none : record { outside = 0; nearest = 0; faithful = 0; low = 0; high = 0 } ≡ counts_below 0 classes
  unfolding counts_below count_of count_below
  counts-none = refl

  pub counts-next : (n : ℕ) → with_class (counts_below n classes) (classes n) ≡ counts_below (n + 1) classes
  unfolding counts_below count_of with_class
  counts-next n = simp count_next

  count-few : (class : Class) (n : ℕ) → n ≤ word_bound → count_of class n classes ≤ word_bound
  unfolding count_of
  count-few class n h = le_trans (count-bounded n (λ x. is_class (classes x) class)) h

  pub counts-few : (n : ℕ) → n ≤ word_bound → Few (counts_below n classes)
  unfolding counts_below
  counts-few n h =
      record {
        outside-few = count-few Class.Outside n h;
        nearest-few = count-few Class.Nearest n h;
        faithful-few = count-few Class.Faithful n h;
        low-few = count-few Class.Low n h;
        high-few = count-few Class.High n h;
      }

  -- Each word is in one class,
  once : (class : Class) →
      let counted : Class → ℕ = λ other. cond (is_class class other) 1 0 in
      counted Class.Outside + counted Class.Nearest + counted Class.Faithful + counted Class.Low + counted Class.High ≡ 1
  once Class.Outside = refl
  once Class.Nearest = refl
  once Class.Faithful = refl
  once Class.Low = refl
  once Class.High = refl

  -- so that the counts add up to how many words there are.
  pub adds-up : (n : ℕ)
      → count_of Class.Outside n classes + count_of Class.Nearest n classes + count_of Class.Faithful n classes + count_of Class.Low n classes
      + count_of Class.High n classes ≡ n
  unfolding count_of count_below
  adds-up zero = refl
  adds-up (suc n) = omega (arith, adds-up n, once (classes n))
