-- Every legal design is in the list, but for its pairs beyond m, and those in the list have none there.
use mathlib.Core.Path.{◌≡◌, refl, sym, ap, ◌∙◌}
use mathlib.Core.Logic.{inl}
use mathlib.Core.List.{List}
use Prim.Native.Nat.{ℕ, zero, suc, ◌+◌, ◌-◌, ◌≤◌, ◌<◌}
use native.Mathlib.Nat.{add-zero, le_trans, not-suc-le-zero}
use native.Mathlib.Decide.{dec_lt}
use native.Mathlib.Numerals.{add-one}
use native.Mathlib.Omega.{arith}
use lib.ListN.{length, get_or, take, length-set, length-take, get_or-eq_default}
use lib.Seq.{get_or-set_other, ext_get_or}
use Rattle.general.specs.Below.{for_each}
use Rattle.general.specs.Lists.{All}
use Rattle.general.proofs.Sums.{below_suc}
use Rattle.general.proofs.JoinedLaws.{Some, all_weaker, some-weaker, all-joined, some-joined}
use Rattle.values.specs.Widths.{limits_of}
use Rattle.design.specs.declared.Pair.{Pair}
use Rattle.design.specs.declared.Design.{Design}
use Rattle.design.specs.Limits.{least_initial_bits, most_initial_bits, most_tables, most_offset_bits}
use Rattle.design.specs.Cut.{no_pair, tables, pair_at, a_of, b_of}
use Rattle.design.specs.Same.{Same}
use Rattle.design.proofs.LegalLaws.{Limits}
use Rattle.searching.specs.Designs.{bare, with_pair, continued, designs}
use Rattle.searching.proofs.PrefixLaws.{Agrees, pair-others, pair-chosen}
use Rattle.optimum.specs.Optimum.{Of}

-- What a design that d is continued to has from d
pub record From (d e : Design) (n : ℕ) : Type 0 where
  pub kind : e.kind ≡ d.kind
  pub w : e.w ≡ d.w
  pub q : e.q ≡ d.q
  pub g : e.g ≡ d.g
  pub alpha : e.alpha ≡ d.alpha
  pub m : e.m ≡ d.m
  pub places : length e.pairs ≡ length d.pairs
  pub beyond : (j : ℕ) → n ≤ j → get_or e.pairs j no_pair ≡ get_or d.pairs j no_pair

from_itself : (d : Design) (n : ℕ) → From d d n
from_itself d n =
    record { kind = refl; w = refl; q = refl; g = refl; alpha = refl; m = refl; places = refl; beyond = λ j h. refl }

from_next : (d : Design) (i a b : ℕ) (e : Design) (n : ℕ) → i < n → From (with_pair d i a b) e n → From d e n
unfolding with_pair
from_next d i a b e n before f =
    record {
      kind = f.kind;
      w = f.w;
      q = f.q;
      g = f.g;
      alpha = f.alpha;
      m = f.m;
      places = f.places ∙ length-set d.pairs i _;
      beyond = λ j h. f.beyond j h ∙ get_or-set_other d.pairs i j _ no_pair (omega arith);
    }

pub continued-from : (n : ℕ) (d : Design) (i : ℕ) → All (λ e. From d e (i + n)) (continued n d i)
unfolding continued
continued-from zero d i = (from_itself d (i + zero), tt)
continued-from (suc n) d i =
    let more : i + 1 + n ≡ i + suc n = omega arith in
    all-joined (λ e. From d e (i + suc n)) 1 (λ a. for_each 1 most_offset_bits (λ b. continued n (with_pair d i a b) (i + 1)))
    (d.alpha + 1 - 1)
    (λ j h. all-joined (λ e. From d e (i + suc n)) 1 (λ b. continued n (with_pair d i (1 + j) b) (i + 1)) most_offset_bits
    (λ k h'. all_weaker (λ e f. from_next d i (1 + j) (1 + k) e (i + suc n) (omega arith) (rw more at f))
    (continued n (with_pair d i (1 + j) (1 + k)) (i + 1)) (continued-from n (with_pair d i (1 + j) (1 + k)) (i + 1))))

-- In the list: of the kind, w and q, with no pairs beyond m
pub record Listed (kind w q : ℕ) (d : Design) : Type 0 where
  pub of : Of kind w q d
  pub zeros : (i : ℕ) → d.m ≤ i → get_or d.pairs i no_pair ≡ no_pair

no_pairs : (i : ℕ) → get_or (bare 0 0 0 0 0 0).pairs i no_pair ≡ no_pair
unfolding bare
no_pairs zero = refl
no_pairs (suc zero) = refl
no_pairs (suc (suc zero)) = refl
no_pairs (suc (suc (suc zero))) = refl
no_pairs (suc (suc (suc (suc i)))) = refl

listed : (kind w q g alpha m : ℕ) (e : Design) → From (bare kind w q g alpha m) e (0 + m) → Listed kind w q e
unfolding bare
listed kind w q g alpha m e f =
    let all : 0 + m ≡ e.m = omega (arith, f.m) in
    record {
      of = record { kind-is = f.kind; w-is = f.w; q-is = f.q };
      zeros = λ i h. f.beyond i (rw all h) ∙ no_pairs i;
    }

-- by m, by alpha and by g
abbrev pub by-m : ℕ → ℕ → ℕ → ℕ → ℕ → ℕ → List Design
by-m kind w q g alpha m = continued m (bare kind w q g alpha m) 0

abbrev pub by-alpha : ℕ → ℕ → ℕ → ℕ → ℕ → List Design
by-alpha kind w q g alpha = for_each 1 most_tables (by-m kind w q g alpha)

abbrev pub by-g : ℕ → ℕ → ℕ → ℕ → List Design
by-g kind w q g = for_each least_initial_bits most_initial_bits (by-alpha kind w q g)

pub all_listed : (kind w q : ℕ) → All (Listed kind w q) (designs kind w q)
unfolding designs
all_listed kind w q =
    all-joined (Listed kind w q) (limits_of kind).g.0 (by-g kind w q) ((limits_of kind).g.1 + 1 - (limits_of kind).g.0)
    (λ j h. let g = (limits_of kind).g.0 + j in
    all-joined (Listed kind w q) least_initial_bits (by-alpha kind w q g) (most_initial_bits + 1 - least_initial_bits)
    (λ k h'. let alpha = least_initial_bits + k in
    all-joined (Listed kind w q) 1 (by-m kind w q g alpha) most_tables
    (λ l h''. all_weaker (listed kind w q g alpha (1 + l)) (by-m kind w q g alpha (1 + l))
    (continued-from (1 + l) (bare kind w q g alpha (1 + l)) 0))))

-- A legal design e is found by taking its pairs one after another.
module _ (e : Design) (l : Limits e) where
  -- what has e's numbers and its first i pairs, with room for all
  record Towards (d : Design) (i : ℕ) : Type 0 where
    same : Agrees d e i
    places : length d.pairs ≡ most_tables

  one_more : (d : Design) (i : ℕ) → Towards d i → i < e.m → Towards (with_pair d i (a_of e i) (b_of e i)) (i + 1)
  unfolding with_pair
  one_more d i t h =
      let s = t.same in
      record {
        same = record {
          kind = s.kind;
          w = s.w;
          q = s.q;
          g = s.g;
          alpha = s.alpha;
          m = s.m;
          pairs = λ j before. below_suc (rw add-one at before)
              (λ here. rw here (pair-chosen d i (a_of e i) (b_of e i) (rw s.m h) (rw t.places (le_trans h l.m-high))))
              (λ earlier. pair-others d i (a_of e i) (b_of e i) j earlier ∙ s.pairs j earlier);
        };
        places = length-set d.pairs i _ ∙ t.places;
      }

  reached : (n : ℕ) (d : Design) (i : ℕ) → Towards d i → i + n ≡ e.m → Some (λ c. Towards c e.m) (continued n d i)
  unfolding continued
  reached zero d i t all = inl (rw (sym (add-zero i) ∙ all) at t)
  reached (suc n) d i t all =
      let h : i < e.m = omega arith in
      let table = l.table i h in
      let a-place : 1 + (a_of e i - 1) ≡ a_of e i = omega (arith, table.a-low) in
      let b-place : 1 + (b_of e i - 1) ≡ b_of e i = omega (arith, table.b-low) in
      let within : a_of e i ≤ d.alpha = rw t.same.alpha table.a-high in
      some-joined (λ c. Towards c e.m) 1 (λ a. for_each 1 most_offset_bits (λ b. continued n (with_pair d i a b) (i + 1))) (d.alpha + 1 - 1)
      (a_of e i - 1) (omega (arith, table.a-low, within))
      (some-joined (λ c. Towards c e.m) 1 (λ b. continued n (with_pair d i (1 + (a_of e i - 1)) b) (i + 1)) most_offset_bits (b_of e i - 1)
      (omega (arith, table.b-low, table.b-high))
      (rw (a-place, b-place) (reached n (with_pair d i (a_of e i) (b_of e i)) (i + 1) (one_more d i t h) (omega arith))))

  -- It has as many pairs as tables, for a table's a is not 0,
  enough : e.m ≤ length e.pairs
  unfolding pair_at tables
  enough = elim (dec_lt (length e.pairs) e.m) [
    | no all ↦ omega arith
    | yes few ↦
        let none : pair_at e (length e.pairs) ≡ no_pair
        = get_or-eq_default (take e.m e.pairs) no_pair (omega (arith, length-take e.m e.pairs)) in
        absurd (not-suc-le-zero (rw (ap (λ (pair : Pair). pair.a) none) at (l.table (length e.pairs) few).a-low))
  ]

  -- so what is found is the same.
  found : (c : Design) → Towards c e.m → Same c e
  unfolding pair_at tables
  found c t =
      let s = t.same in
      let c-few : length (take c.m c.pairs) ≡ e.m
      = omega (arith, length-take c.m c.pairs, t.places, s.m, l.m-high) in
      let e-few : length (take e.m e.pairs) ≡ e.m = omega (arith, length-take e.m e.pairs, enough) in
      record {
        kind = s.kind;
        w = s.w;
        q = s.q;
        g = s.g;
        alpha = s.alpha;
        m = s.m;
        tables = ext_get_or no_pair (tables c) (tables e) (c-few ∙ sym e-few) (λ i h. s.pairs i (rw c-few at h));
      }

  begun : (kind w q : ℕ) → Of kind w q e → Towards (bare kind w q e.g e.alpha e.m) 0
  unfolding bare
  begun kind w q of =
      record {
        same = record {
          kind = sym of.kind-is;
          w = sym of.w-is;
          q = sym of.q-is;
          g = refl;
          alpha = refl;
          m = refl;
          pairs = λ j none. absurd (not-suc-le-zero none);
        };
        places = refl;
      }

  pub in_list : (kind w q : ℕ) → Of kind w q e → Some (λ c. Same c e) (designs kind w q)
  unfolding designs
  in_list kind w q of =
      let within = rw of.kind-is at l.widths.within in
      let low = (limits_of kind).g.0 in
      let g-place : low + (e.g - low) ≡ e.g = omega (arith, within.g-low) in
      let alpha-place : least_initial_bits + (e.alpha - least_initial_bits) ≡ e.alpha = omega (arith, l.alpha-low) in
      let m-place : 1 + (e.m - 1) ≡ e.m = omega (arith, l.m-low) in
      some-joined (λ c. Same c e) low (by-g kind w q) ((limits_of kind).g.1 + 1 - low) (e.g - low) (omega
      (arith, within.g-low, within.g-high))
      (some-joined (λ c. Same c e) least_initial_bits (by-alpha kind w q (low + (e.g - low))) (most_initial_bits + 1 - least_initial_bits)
      (e.alpha - least_initial_bits) (omega (arith, l.alpha-low, l.alpha-high))
      (some-joined (λ c. Same c e) 1 (by-m kind w q (low + (e.g - low)) (least_initial_bits + (e.alpha - least_initial_bits))) most_tables
      (e.m - 1)
      (omega (arith, l.m-low, l.m-high))
      (rw (g-place, alpha-place, m-place)
      (some-weaker found (by-m kind w q e.g e.alpha e.m) (reached e.m (bare kind w q e.g e.alpha e.m) 0
      (begun kind w q of) (omega arith))))))
