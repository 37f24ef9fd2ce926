-- A design whose first tables are chosen, and those that it is continued to: they agree in these tables, and so in size and budget so far.
use mathlib.Core.Path.{◌≡◌, refl, sym, ap, ◌∙◌}
use mathlib.Core.List.{List}
use Prim.Native.Nat.{ℕ, zero, suc, ◌+◌, ◌-◌, ◌*◌, ◌^◌, ◌≤◌, ◌<◌}
use native.Mathlib.Nat.{le_of_lt, lt_of_lt_of_le}
use native.Mathlib.Decide.{dec_lt}
use native.Mathlib.Omega.{arith}
use lib.ListN.{length, get_or, take, length-take, get_or-eq_default}
use lib.Seq.{get_or-set_same, get_or-set_other, get_or-take}
use Rattle.general.specs.Below.{sum_below, for_each}
use Rattle.general.specs.Lists.{All}
use Rattle.general.proofs.Sums.{sum-congruence, sum_mono}
use Rattle.general.proofs.JoinedLaws.{all_weaker, all-joined}
use Rattle.values.specs.Slopes.{largest_spread}
use Rattle.design.specs.declared.Pair.{Pair}
use Rattle.design.specs.declared.Design.{Design}
use Rattle.design.specs.Limits.{most_offset_bits}
use Rattle.design.specs.Cut.{no_pair, tables, pair_at, b_of, row, fraction_bits, position}
use Rattle.design.specs.Stored.{initial_count}
use Rattle.design.specs.Budget.{reach, table_budget, budget, limit}
use Rattle.sizing.specs.Size.{initial_size, table_size, size}
use Rattle.sizing.proofs.SizeLaws.{table-size-same}
use Rattle.searching.specs.Designs.{with_pair, continued}
use Rattle.searching.specs.Search.{size_before, budget_before}

-- Two designs with the same numbers, and the same first i pairs
pub record Agrees (d e : Design) (i : ℕ) : Type 0 where
  pub kind : d.kind ≡ e.kind
  pub w : d.w ≡ e.w
  pub q : d.q ≡ e.q
  pub g : d.g ≡ e.g
  pub alpha : d.alpha ≡ e.alpha
  pub m : d.m ≡ e.m
  pub pairs : (j : ℕ) → j < i → pair_at d j ≡ pair_at e j

pub agrees-itself : (d : Design) (i : ℕ) → Agrees d d i
agrees-itself d i = record { kind = refl; w = refl; q = refl; g = refl; alpha = refl; m = refl; pairs = λ j h. refl }

none-beyond : (pairs : List Pair) (m j : ℕ) → m ≤ j → get_or (take m pairs) j no_pair ≡ no_pair
none-beyond pairs m j h = get_or-eq_default (take m pairs) no_pair (omega (arith, length-take m pairs))

-- The pair that is chosen, and those before it
module _ (d : Design) (i a b : ℕ) where
  pub pair-others : (j : ℕ) → j < i → pair_at (with_pair d i a b) j ≡ pair_at d j
  unfolding with_pair pair_at tables
  pair-others j h =
      elim (dec_lt j d.m) [
        | yes within ↦ get_or-take d.m _ j no_pair within ∙ get_or-set_other d.pairs i j _ no_pair (omega arith)
            ∙ sym (get_or-take d.m d.pairs j no_pair within)
        | no beyond ↦ none-beyond _ d.m j (omega arith) ∙ sym (none-beyond d.pairs d.m j (omega arith))
      ]

  pub pair-chosen : i < d.m → i < length d.pairs → pair_at (with_pair d i a b) i ≡ record { a = a; b = b }
  unfolding with_pair pair_at tables
  pair-chosen within there = get_or-take d.m _ i no_pair within ∙ get_or-set_same d.pairs i _ no_pair there

  pub with-agrees : (e : Design) → Agrees (with_pair d i a b) e (i + 1) → Agrees d e i
  unfolding with_pair
  with-agrees e same =
      record {
        kind = same.kind;
        w = same.w;
        q = same.q;
        g = same.g;
        alpha = same.alpha;
        m = same.m;
        pairs = λ j h. sym (pair-others j h) ∙ same.pairs j (omega arith);
      }

pub continued-agrees : (n : ℕ) (d : Design) (i : ℕ) → All (λ e. Agrees d e i) (continued n d i)
unfolding continued
continued-agrees zero d i = (agrees-itself d i, tt)
continued-agrees (suc n) d i =
    all-joined (λ e. Agrees d e i) 1 (λ a. for_each 1 most_offset_bits (λ b. continued n (with_pair d i a b) (i + 1))) (d.alpha + 1 - 1)
    (λ j h. all-joined (λ e. Agrees d e i) 1 (λ b. continued n (with_pair d i (1 + j) b) (i + 1)) most_offset_bits
    (λ k h'. all_weaker (with-agrees d i (1 + j) (1 + k)) (continued n (with_pair d i (1 + j) (1 + k)) (i + 1))
    (continued-agrees n (with_pair d i (1 + j) (1 + k)) (i + 1))))

-- So what is counted of the first i tables is the same,
module _ (d e : Design) (i : ℕ) (same : Agrees d e i) where
  pub position-same : (j : ℕ) → j ≤ i → position d j ≡ position e j
  unfolding position
  position-same j h = sum-congruence j (b_of d) (b_of e) (λ k below. ap (λ (pair : Pair). pair.b) (same.pairs k (lt_of_lt_of_le below h)))

  pub size-before-same : size_before d i ≡ size_before e i
  unfolding size_before initial_size initial_count
  size-before-same =
      let tables = sum-congruence i (table_size d) (table_size e) (λ k below.
      table-size-same d e k same.kind same.w same.q same.g (same.pairs k below) (position-same k (le_of_lt below))) in
      rw (tables, same.alpha, same.q, same.g)

  share-same : (k : ℕ) → k < i → table_budget d k ≡ table_budget e k
  unfolding table_budget reach
  share-same k below =
      ap (λ (pair : Pair). (2 ^ pair.b - 1) * 2 ^ position d k * largest_spread (row d) d.w (fraction_bits d) pair.a)
      (same.pairs k below)
      ∙ rw (position-same k (le_of_lt below), same.kind, same.w, same.q, same.g)

  pub budget-before-same : budget_before d i ≡ budget_before e i
  unfolding budget_before
  budget-before-same = rw (sum-congruence i (table_budget d) (table_budget e) share-same, same.m)

  pub limit-same : limit d ≡ limit e
  unfolding limit
  limit-same = rw same.g

-- and no more than what is counted of all. With all tables it is the size.
pub size-whole : (d : Design) → size_before d d.m ≡ size d
unfolding size_before size
size-whole d = refl

pub size-before-mono : (d : Design) (i : ℕ) → i ≤ d.m → size_before d i ≤ size d
unfolding size_before
size-before-mono d i h = omega (arith, size-whole d, sum_mono (table_size d) i d.m h)

pub budget-before-mono : (d : Design) (i : ℕ) → i ≤ d.m → budget_before d i ≤ budget d
unfolding budget_before budget
budget-before-mono d i h = omega (arith, sum_mono (table_budget d) i d.m h)

-- Before the first table
pub position_first : (d : Design) → position d 0 ≡ 0
unfolding position sum_below
position_first d = refl

pub size-first : (d : Design) → size_before d 0 ≡ 2 ^ d.alpha * (fraction_bits d + 2)
unfolding size_before initial_size initial_count sum_below
size-first d = omega arith

pub budget-first : (d : Design) → budget_before d 0 ≡ (d.m + 2) * 2 ^ 17
unfolding budget_before sum_below
budget-first d = omega arith
