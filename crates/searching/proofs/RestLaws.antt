-- What later tables add to the budget at least: with them it is no smaller, and it grows with b.
use mathlib.Core.Path.{◌≡◌, sym, ◌∙◌}
use Prim.Native.Nat.{ℕ, zero, suc, ◌+◌, ◌-◌, ◌*◌, ◌^◌, ◌≤◌, ◌<◌}
use native.Mathlib.Nat.{add_comm, add-zero, le_trans, mul-le-mul_left}
use native.Mathlib.Omega.{arith}
use lib.Pow.{pow-add, pow_mono, pow_pos}
use Rattle.general.specs.Below.{sum_below}
use Rattle.general.proofs.Sums.{sum-next}
use Rattle.values.specs.Slopes.{largest_spread}
use Rattle.design.specs.declared.Design.{Design}
use Rattle.design.specs.Cut.{a_of, b_of, row, fraction_bits, position}
use Rattle.design.specs.Budget.{reach, table_budget, budget}
use Rattle.design.proofs.LegalLaws.{Limits, bits-end}
use Rattle.searching.specs.Search.{budget_before, rest_from, Least}
use Rattle.searching.proofs.TableLaws.{budget-whole}

-- D is the distance from 2^p to 2^(p+b).
spans : (p b : ℕ) → (2 ^ b - 1) * 2 ^ p + 2 ^ p ≡ 2 ^ (p + b)
spans p b =
    let whole : 2 ^ b - 1 + 1 ≡ 2 ^ b = omega (arith, pow_pos b) in
    rw whole at (one_more (2 ^ b - 1) (2 ^ p)) ∙ sym (rw (add_comm p b) (pow-add 2 b p)) where
      one_more : (n q : ℕ) → n * q + q ≡ (n + 1) * q
      one_more n q = omega arith

-- Of what lies between, the nearer part counts as much, and the farther one no less.
farther : (u v t s l : ℕ) → l ≤ s → u * s + (v + t) * l ≤ (u + v) * s + t * l
farther u v t s l h = omega (arith, mul-le-mul_left v h)

-- in powers: from 2^p over 2^(p+b) and 2^(p+b') to 2^n
module _ (p n s l : ℕ) (flatter : l ≤ s) where
  pub with_rest : (b b' : ℕ) → b ≤ b' → p + b' ≤ n
      → (2 ^ b - 1) * 2 ^ p * s + (2 ^ n - 2 ^ (p + b)) * l ≤ (2 ^ b' - 1) * 2 ^ p * s + (2 ^ n - 2 ^ (p + b')) * l
  with_rest b b' more within =
      let u = (2 ^ b - 1) * 2 ^ p in
      let u' = (2 ^ b' - 1) * 2 ^ p in
      let near = spans p b in
      let far = spans p b' in
      let up : 2 ^ (p + b) ≤ 2 ^ (p + b') = pow_mono (omega arith) in
      let end : 2 ^ (p + b') ≤ 2 ^ n = pow_mono within in
      let v = 2 ^ (p + b') - 2 ^ (p + b) in
      let t = 2 ^ n - 2 ^ (p + b') in
      let between : u + v ≡ u' = omega arith in
      let all : v + t ≡ 2 ^ n - 2 ^ (p + b) = omega arith in
      rw (between, all) at (farther u v t s l flatter)

-- One table more
module _ (d : Design) (l : Limits d) (least : ℕ) (none_below : Least d least) where
  one_table : (i : ℕ) → i < d.m
      → budget_before d i + rest_from d least (position d i) ≤ budget_before d (i + 1) + rest_from d least (position d (i + 1))
  unfolding budget_before rest_from table_budget reach position
  one_table i h =
      let p = position d i in
      let b = b_of d i in
      let spread = largest_spread (row d) d.w (fraction_bits d) (a_of d i) in
      let table = l.table i h in
      let flatter : least ≤ spread
      = none_below (a_of d i) table.a-low table.a-high (omega (arith, table.b-low, table.sum-high)) in
      let next : sum_below (i + 1) (b_of d) ≡ p + b = sum-next i (b_of d) in
      let grown = rw (add-zero p) at (with_rest p (d.w - d.alpha) spread least flatter 0 b (omega arith) (bits-end d l i h)) in
      rw (next, sum-next i (table_budget d))
      (combine (sum_below i (table_budget d)) ((d.m + 2) * 2 ^ 17) _ _ _ grown) where
        combine : (sum rest part before after : ℕ)
            → (1 - 1) * 2 ^ position d i * largest_spread (row d) d.w (fraction_bits d) (a_of d i) + before ≤ part + after
            → sum + rest + before ≤ sum + part + rest + after
        combine sum rest part before after h = omega arith

  rest-from : (i k : ℕ) → i + k ≡ d.m → budget_before d i + rest_from d least (position d i) ≤ budget d
  unfolding rest_from
  rest-from i zero all =
      let last : i ≡ d.m = omega arith in
      let none : 2 ^ (d.w - d.alpha) - 2 ^ (d.w - d.alpha) ≡ 0 = omega arith in
      rw (last, l.cut, none, budget-whole d) (omega arith)
  rest-from i (suc k) all = le_trans (one_table i (omega arith)) (rest-from (i + 1) k (omega arith))

  pub rest-within : (i : ℕ) → i ≤ d.m → budget_before d i + rest_from d least (position d i) ≤ budget d
  rest-within i h = rest-from i (d.m - i) (omega arith)
