-- The frame 01 of a design: how many tables a legal design has, how many bytes they take, and the frame while its pairs are written.
use mathlib.Core.Path.{◌≡◌, refl, ap, ◌∙◌}
use mathlib.Core.List.{List, [], ◌∷◌, ◌++◌, append-nil}
use Prim.Native.Nat.{ℕ, ◌+◌, ◌*◌, ◌≤◌, ◌<◌}
use native.Mathlib.Numerals.{add-one}
use native.Mathlib.Omega.{arith}
use lib.ListN.{length, drop, length-take, drop_of_length-le, get_or-eq_default}
use lib.Seq.{drop-cons, append_snoc}
use Rattle.design.specs.declared.Pair.{Pair}
use Rattle.design.specs.declared.Design.{Design}
use Rattle.design.specs.Cut.{tables, pair_at, no_pair}
use Rattle.design.specs.Legal.{Legal}
use Rattle.design.proofs.LegalLaws.{limits}
use Rattle.encoding.specs.declared.Frame.{Frame}
use Rattle.encoding.specs.DesignBytes.{pair_bytes, design_bytes}
use Rattle.encoding.specs.Inputs.{held}
use Rattle.encoding.proofs.NumberBytes.{Longer, one_byte}

-- A design has no more tables than its m says.
no_more : (d : Design) → length (tables d) ≤ d.m
unfolding tables
no_more d = omega (arith, length-take d.m d.pairs)

-- The pair past the last table is zeros, which no table of a legal design is,
past_the_end : (d : Design) → (pair_at d (length (tables d))).a ≡ 0
unfolding pair_at
past_the_end d = ap (λ (pair : Pair). pair.a) (get_or-eq_default (tables d) no_pair (omega arith))

-- so a legal design has as many tables as its m says.
pub tables-length : (d : Design) → Legal d → length (tables d) ≡ d.m
tables-length d legal = omega (arith, no_more d, no-fewer)
  where
    no-fewer : length (tables d) < d.m → ⊥
    no-fewer h = omega (arith, past_the_end d, ((limits d legal).table (length (tables d)) h).a-low)

-- A pair takes two bytes, and a design seven more.
pub pair-bytes-length : (pairs : List Pair) → length (pair_bytes pairs) ≡ 2 * length pairs
unfolding pair_bytes
pair-bytes-length [] = refl
pair-bytes-length (pair ∷ pairs) = omega (arith, pair-bytes-length pairs)

pub design-bytes-length : (d : Design) → length (design_bytes d) ≡ 7 + 2 * length (tables d)
unfolding design_bytes
design-bytes-length d = omega (arith, pair-bytes-length (tables d))

-- The next pair is the first of those that are left.
pairs_next : (d : Design) (i : ℕ) → i < length (tables d)
    → pair_bytes (drop i (tables d)) ≡ (pair_at d i).a ∷ (pair_at d i).b ∷ pair_bytes (drop (i + 1) (tables d))
unfolding pair_at pair_bytes
pairs_next d i h = rw (add-one, drop-cons (tables d) i no_pair h)

two-more : (front rest : List ℕ) (first second : ℕ) → front ++ (first ∷ []) ++ (second ∷ []) ++ rest ≡ front ++ (first ∷ second ∷ rest)
two-more front rest first second = append_snoc (front ++ (first ∷ [])) second rest ∙ append_snoc front first (second ∷ rest)

-- The frame while its pairs are written: the first i are there, and with the others behind them it is whole.
pub record Paired (d : Design) (frame : Frame) (i : ℕ) : Type 0 where
  pub legal : Legal d
  pub within : i ≤ d.m
  pub counted : frame.count ≡ 7 + 2 * i
  pub so_far : held frame ++ pair_bytes (drop i (tables d)) ≡ design_bytes d

module _ {d : Design} {frame : Frame} {i : ℕ} (part : Paired d frame i) where
  -- One pair more
  pub paired-more : (first second : Frame) (pair : Pair) → pair ≡ pair_at d i → i < d.m
      → Longer first frame 1 pair.a → Longer second first 1 pair.b → Paired d second (i + 1)
  paired-more first second pair pair_is more longer even-longer =
      let table = (limits d part.legal).table i more in
      let a-is : pair.a ≡ (pair_at d i).a = ap (λ (p : Pair). p.a) pair_is in
      let b-is : pair.b ≡ (pair_at d i).b = ap (λ (p : Pair). p.b) pair_is in
      let a_small : (pair_at d i).a < 256 = omega (arith, table) in
      let b-small : (pair_at d i).b < 256 = omega (arith, table) in
      record {
        legal = part.legal;
        within = omega arith;
        counted = omega arith;
        so_far =
            rw (even-longer.0, longer.0, a-is, b-is, one_byte (pair_at d i).a a_small, one_byte (pair_at d i).b b-small)
            (two-more (held frame) (pair_bytes (drop (i + 1) (tables d))) (pair_at d i).a (pair_at d i).b
            ∙ rw (pairs_next d i (omega (arith, tables-length d part.legal))) at part.so_far);
      }

  pub paired-all : d.m ≤ i → (held frame ≡ design_bytes d) × (frame.count ≡ length (design_bytes d))
  unfolding pair_bytes
  paired-all end =
      let none = drop_of_length-le (tables d) {i = i} (omega (arith, tables-length d part.legal)) in
      (rw (none, append-nil) at part.so_far, omega (arith, design-bytes-length d, tables-length d part.legal))
