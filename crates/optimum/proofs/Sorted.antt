-- The list is in the document's order.
use mathlib.Core.Path.{◌≡◌, refl, sym, ap, ◌∙◌}
use Prim.Native.Nat.{ℕ, zero, suc, ◌+◌, ◌-◌, ◌≤◌, ◌<◌}
use native.Mathlib.Nat.{le_trans}
use native.Mathlib.Omega.{arith}
use lib.ListN.{length, length-set}
use Rattle.general.specs.Below.{for_each}
use Rattle.general.specs.Lists.{All}
use Rattle.general.proofs.JoinedLaws.{Ordered, all_weaker, all-joined, ordered-joined}
use Rattle.values.specs.Widths.{limits_of}
use Rattle.design.specs.declared.Pair.{Pair}
use Rattle.design.specs.declared.Design.{Design}
use Rattle.design.specs.Limits.{least_initial_bits, most_initial_bits, most_tables, most_offset_bits}
use Rattle.design.specs.Cut.{pair_at, a_of, b_of}
use Rattle.searching.specs.Designs.{bare, with_pair, continued, designs}
use Rattle.searching.proofs.PrefixLaws.{Agrees, with-agrees, pair-chosen, continued-agrees}
use Rattle.optimum.specs.Order.{SameBefore, Before, by-g, by-alpha, by-m, by-a, by-b}
use Rattle.optimum.proofs.Listed as listed

-- Two designs that d is continued to have its numbers and its first i pairs.
both-same : (d x y : Design) (i : ℕ) → Agrees d x i → Agrees d y i → SameBefore x y i
both-same d x y i sx sy =
    record {
      g = sym sx.g ∙ sy.g;
      alpha = sym sx.alpha ∙ sy.alpha;
      m = sym sx.m ∙ sy.m;
      pairs = λ j h. sym (sx.pairs j h) ∙ sy.pairs j h;
    }

-- By a of table i, and by its b
module _ (d : Design) (i : ℕ) (h : i < d.m) (places : length d.pairs ≡ most_tables) (few : d.m ≤ most_tables) where
  record With (a : ℕ) (x : Design) : Type 0 where
    same : Agrees d x i
    a-is : a_of x i ≡ a

  record WithBoth (a b : ℕ) (x : Design) : Type 0 where
    with : With a x
    b-is : b_of x i ≡ b

  chosen : (a b : ℕ) (x : Design) → Agrees (with_pair d i a b) x (i + 1) → WithBoth a b x
  chosen a b x s =
      let pair_is : pair_at x i ≡ record { a = a; b = b }
      = sym (s.pairs i (omega arith)) ∙ pair-chosen d i a b h (rw places (le_trans h few)) in
      record {
        with = record { same = with-agrees d i a b x s; a-is = ap (λ (pair : Pair). pair.a) pair_is };
        b-is = ap (λ (pair : Pair). pair.b) pair_is;
      }

  all-chosen : (n a b : ℕ) → All (WithBoth a b) (continued n (with_pair d i a b) (i + 1))
  all-chosen n a b = all_weaker (chosen a b) (continued n (with_pair d i a b) (i + 1)) (continued-agrees n (with_pair d i a b) (i + 1))

  a-apart : (a a' : ℕ) (x y : Design) → a < a' → With a x → With a' y → Before x y
  a-apart a a' x y less wx wy =
      by-a i (rw (← wx.same.m) h) (both-same d x y i wx.same wy.same) (rw (wx.a-is, wy.a-is) less)

  b-apart : (a b b' : ℕ) (x y : Design) → b < b' → WithBoth a b x → WithBoth a b' y → Before x y
  b-apart a b b' x y less wx wy =
      by-b i (rw (← wx.with.same.m) h) (both-same d x y i wx.with.same wy.with.same) (wx.with.a-is ∙ sym wy.with.a-is)
      (rw (wx.b-is, wy.b-is) less)

  -- The list by a is in order, if those by a and b are.
  in_order : (n : ℕ) → ((a b : ℕ) → Ordered Before (continued n (with_pair d i a b) (i + 1)))
      → Ordered Before (for_each 1 d.alpha (λ a. for_each 1 most_offset_bits (λ b. continued n (with_pair d i a b) (i + 1))))
  in_order n each =
      ordered-joined Before With a-apart 1 (λ a. for_each 1 most_offset_bits (λ b. continued n (with_pair d i a b) (i + 1))) (d.alpha + 1 - 1)
      (λ j below. all-joined (With (1 + j)) 1 (λ b. continued n (with_pair d i (1 + j) b) (i + 1)) most_offset_bits
      (λ k below'. all_weaker (λ x both. both.with) (continued n (with_pair d i (1 + j) (1 + k)) (i + 1)) (all-chosen n (1 + j) (1 + k))))
      (λ j below. ordered-joined Before (WithBoth (1 + j)) (b-apart (1 + j)) 1 (λ b. continued n (with_pair d i (1 + j) b)
      (i + 1)) most_offset_bits
      (λ k below'. all-chosen n (1 + j) (1 + k)) (λ k below'. each (1 + j) (1 + k)))

continued-sorted : (n : ℕ) (d : Design) (i : ℕ) → i + n ≡ d.m → length d.pairs ≡ most_tables → d.m ≤ most_tables
    → Ordered Before (continued n d i)
unfolding continued with_pair
continued-sorted zero d i all places few = (tt, tt)
continued-sorted (suc n) d i all places few =
    in_order d i (omega arith) places few n
    (λ a b. continued-sorted n (with_pair d i a b) (i + 1) (omega arith) (length-set d.pairs i _ ∙ places) few)

-- By m, by alpha and by g
module _ (kind w q : ℕ) where
  record Numbers (g alpha m : ℕ) (x : Design) : Type 0 where
    g-is : x.g ≡ g
    alpha-is : x.alpha ≡ alpha
    m-is : x.m ≡ m

  numbers : (g alpha m : ℕ) → All (Numbers g alpha m) (listed.by-m kind w q g alpha m)
  unfolding bare
  numbers g alpha m =
      all_weaker (λ x s. record { g-is = sym s.g; alpha-is = sym s.alpha; m-is = sym s.m }) (listed.by-m kind w q g alpha m)
      (continued-agrees m (bare kind w q g alpha m) 0)

  -- by m
  m-sorted : (g alpha : ℕ) → Ordered Before (listed.by-alpha kind w q g alpha)
  unfolding bare
  m-sorted g alpha =
      ordered-joined Before (Numbers g alpha)
      (λ m m' x y less nx ny. by-m (nx.g-is ∙ sym ny.g-is) (nx.alpha-is ∙ sym ny.alpha-is) (rw (nx.m-is, ny.m-is) less)) 1
      (listed.by-m kind w q g alpha) most_tables (λ j below. numbers g alpha (1 + j))
      (λ j below. continued-sorted (1 + j) (bare kind w q g alpha (1 + j)) 0 (omega arith) refl (omega (arith, below)))

  -- by alpha
  record Initial (g alpha : ℕ) (x : Design) : Type 0 where
    g-is : x.g ≡ g
    alpha-is : x.alpha ≡ alpha

  initial : (g alpha : ℕ) → All (Initial g alpha) (listed.by-alpha kind w q g alpha)
  initial g alpha =
      all-joined (Initial g alpha) 1 (listed.by-m kind w q g alpha) most_tables
      (λ j below. all_weaker (λ x n. record { g-is = n.g-is; alpha-is = n.alpha-is }) (listed.by-m kind w q g alpha (1 + j))
      (numbers g alpha (1 + j)))

  alpha-sorted : (g : ℕ) → Ordered Before (listed.by-g kind w q g)
  alpha-sorted g =
      ordered-joined Before (Initial g)
      (λ alpha alpha' x y less nx ny. by-alpha (nx.g-is ∙ sym ny.g-is) (rw (nx.alpha-is, ny.alpha-is) less)) least_initial_bits
      (listed.by-alpha kind w q g) (most_initial_bits + 1 - least_initial_bits) (λ j below. initial g (least_initial_bits + j))
      (λ j below. m-sorted g (least_initial_bits + j))

  -- and by g
  guards : (g : ℕ) → All (λ x. x.g ≡ g) (listed.by-g kind w q g)
  guards g =
      all-joined (λ x. x.g ≡ g) least_initial_bits (listed.by-alpha kind w q g) (most_initial_bits + 1 - least_initial_bits)
      (λ j below. all_weaker (λ x n. n.g-is) (listed.by-alpha kind w q g (least_initial_bits + j)) (initial g (least_initial_bits + j)))

  pub sorted : Ordered Before (designs kind w q)
  unfolding designs
  sorted =
      ordered-joined Before (λ g x. x.g ≡ g) (λ g g' x y less nx ny. by-g (rw (nx, ny) less)) (limits_of kind).g.0 (listed.by-g kind w q)
      ((limits_of kind).g.1 + 1 - (limits_of kind).g.0) (λ j below. guards ((limits_of kind).g.0 + j))
      (λ j below. alpha-sorted ((limits_of kind).g.0 + j))
