-- A design and its frame 01: each is got back from the other.
use Rattle.std.specs.Prelude.{Ok}
use mathlib.Core.Path.{◌≡◌, refl, sym, ap, ◌∙◌}
use mathlib.Core.Bool.{false}
use mathlib.Core.List.{List, [], ◌∷◌}
use Prim.Native.Nat.{ℕ, zero, suc, ◌+◌, ◌*◌, ◌≤◌, ◌<◌}
use native.Mathlib.Omega.{arith}
use lib.ListN.{length, get_or, drop, length-drop, get_or-append}
use lib.Seq.{ext_get_or, length-take-le, get_or-take, get_or-drop, drop-cons}
use borrow.Author.Tests.{eqb-true, eq-eqb, lt-ltb, not-false}
use Rattle.general.proofs.Tests.{neither}
use Rattle.refusal.specs.Checks.{verdict}
use Rattle.design.specs.declared.Pair.{Pair}
use Rattle.design.specs.declared.Design.{Design}
use Rattle.design.specs.Limits.{most_tables}
use Rattle.design.specs.Cut.{tables, pair_at, no_pair}
use Rattle.design.specs.Legal.{Legal}
use Rattle.design.specs.Same.{Same}
use Rattle.design.proofs.LegalLaws.{limits}
use Rattle.frames.specs.DesignFrame.{frame_fails, frame_pair, frame_design, first_checks}
use Rattle.frames.proofs.FrameLaws.{first_frame, first-frame-passes}
use Rattle.encoding.specs.Encode.{sum_byte, with_sum}
use Rattle.encoding.specs.DesignBytes.{pair_bytes, design_bytes}
use Rattle.encoding.proofs.HexBack.{Bytes, bytes-append}
use Rattle.encoding.proofs.LineBack.{Short, with-sum-length}
use Rattle.encoding.proofs.DesignLaws.{tables-length, pair-bytes-length}

-- What is read past the last pair
abbrev none : Pair
none = no_pair

-- The numbers of small pairs are bytes.
record Small (pair : Pair) : Type 0 where
  first : pair.a < 256
  second : pair.b < 256

pair_small : (ps : List Pair) → ((i : ℕ) → i < length ps → Small (get_or ps i none)) → Bytes (pair_bytes ps)
unfolding pair_bytes
pair_small [] small = tt
pair_small (p ∷ ps) small =
    let this = small zero (omega arith) in
    (this.first, (this.second, pair_small ps (λ i h. small (suc i) (omega arith))))

-- The pairs that bytes hold, two bytes a pair
pairs_in : List ℕ → List Pair
pairs_in [] = []
pairs_in (a ∷ []) = []
pairs_in (a ∷ b ∷ rest) = record { a = a; b = b } ∷ pairs_in rest

-- Pairs that are written are read again, and bytes that are read as pairs, two a pair, are written again.
pairs-back : (ps : List Pair) → pairs_in (pair_bytes ps) ≡ ps
unfolding pairs_in pair_bytes
pairs-back [] = refl
pairs-back (p ∷ ps) = ap (λ (rest : List Pair). p ∷ rest) (pairs-back ps)

pairs-again : (n : ℕ) (bs : List ℕ) → length bs ≡ 2 * n → pair_bytes (pairs_in bs) ≡ bs
unfolding pairs_in pair_bytes
pairs-again n [] e = refl
pairs-again n (a ∷ []) e = absurd (omega arith)
pairs-again zero (a ∷ b ∷ rest) e = absurd (omega arith)
pairs-again (suc n) (a ∷ b ∷ rest) e = rw (pairs-again n rest (omega arith))

-- Bytes hold half as many pairs, and pair i at byte 2i.
pairs-length : (n : ℕ) (bs : List ℕ) → length bs ≡ 2 * n → length (pairs_in bs) ≡ n
pairs-length n bs e = omega (arith, pair-bytes-length (pairs_in bs), ap length (pairs-again n bs e))

pair-in : (bs : List ℕ) (i : ℕ) → 2 * i + 1 < length bs
    → get_or (pairs_in bs) i none ≡ record { a = get_or bs (2 * i) 0; b = get_or bs (1 + 2 * i) 0 }
unfolding pairs_in
pair-in [] i h = absurd (omega arith)
pair-in (a ∷ []) i h = absurd (omega arith)
pair-in (a ∷ b ∷ rest) zero h = refl
pair-in (a ∷ b ∷ rest) (suc i) h =
    let two-more : 2 * suc i ≡ suc (suc (2 * i)) = omega arith in
    let three-more : 1 + 2 * suc i ≡ suc (suc (1 + 2 * i)) = omega arith in
    rw (three-more, two-more) (pair-in rest i (omega arith))

-- The pairs of the design that bytes hold: m of them, each at its place.
module _ (bytes : List ℕ) (few : get_or bytes 6 0 ≤ most_tables) where
  read_length : length (tables (frame_design bytes)) ≡ get_or bytes 6 0
  unfolding tables frame_design
  read_length = length-take-le (get_or bytes 6 0) _ few

  one-of-four : (i : ℕ) → i < most_tables → get_or (frame_design bytes).pairs i none ≡ frame_pair bytes i
  unfolding frame_design
  one-of-four zero h = refl
  one-of-four (suc zero) h = refl
  one-of-four (suc (suc zero)) h = refl
  one-of-four (suc (suc (suc zero))) h = refl
  one-of-four (suc (suc (suc (suc i)))) h = absurd (omega arith)

  read-pair : (i : ℕ) → i < get_or bytes 6 0
      → get_or (tables (frame_design bytes)) i none ≡ record { a = get_or bytes (7 + 2 * i) 0; b = get_or bytes (8 + 2 * i) 0 }
  unfolding tables frame_design frame_pair
  read-pair i h = get_or-take (get_or bytes 6 0) _ i none h ∙ one-of-four i (omega arith) ∙ rw (lt-ltb i (get_or bytes 6 0) h)

-- The sum byte hides no byte of the frame.
frame_byte : (f : List ℕ) (k : ℕ) → k < length f → get_or (with_sum f) k 0 ≡ get_or f k 0
unfolding with_sum
frame_byte f k h = get_or-append f (sum_byte f ∷ []) 0 k h

-- What a frame that passes for a design's is like
record Passing (f : List ℕ) : Type 0 where
  first : get_or (with_sum f) 0 0 ≡ 1
  count : length f ≡ 7 + 2 * get_or (with_sum f) 6 0

passing : (f : List ℕ) → frame_fails (with_sum f) (length (with_sum f)) ≡ false → Passing f
unfolding frame_fails
passing f e =
    let parts = neither _ _ e in
    let count : length (with_sum f) ≡ 8 + 2 * get_or (with_sum f) 6 0 = eqb-true _ _ (not-false _ parts.1) in
    record { first = eqb-true _ _ (not-false _ parts.0); count = omega (arith, count, with-sum-length f) }

-- The pairs of a frame that passes are what its bytes hold from byte 7 on.
module _ (f : List ℕ) (passed : Passing f) (short : Short f) where
  few : get_or (with_sum f) 6 0 ≤ most_tables
  few = omega (arith, passed.count)

  twice : length (drop 7 f) ≡ 2 * get_or (with_sum f) 6 0
  twice = omega (arith, length-drop 7 f, passed.count)

  pair_read : (i : ℕ) → i < get_or (with_sum f) 6 0
      → get_or (tables (frame_design (with_sum f))) i none ≡ get_or (pairs_in (drop 7 f)) i none
  pair_read i h =
      let next : 7 + (1 + 2 * i) ≡ 8 + 2 * i = omega arith in
      rw (
        read-pair (with_sum f) few i h,
        pair-in (drop 7 f) i (omega (arith, twice)),
        get_or-drop 7 f (2 * i) 0,
        get_or-drop 7 f (1 + 2 * i) 0,
        next,
        frame_byte f (7 + 2 * i) (omega (arith, passed.count)),
        frame_byte f (8 + 2 * i) (omega (arith, passed.count)),
      )

  tables-read : tables (frame_design (with_sum f)) ≡ pairs_in (drop 7 f)
  tables-read =
      let count = read_length (with_sum f) few in
      ext_get_or none _ _ (count ∙ sym (pairs-length _ (drop 7 f) twice)) (λ i h. pair_read i (omega (arith, count)))

-- A frame of seven bytes or more begins with its first seven.
module _ (f : List ℕ) where
  next : (k : ℕ) → k < length f → get_or (with_sum f) k 0 ∷ drop (suc k) f ≡ drop k f
  next k h = rw (frame_byte f k h) (sym (drop-cons f k 0 h))

  fields : 7 ≤ length f
      → get_or (with_sum f) 0 0
      ∷ get_or (with_sum f) 1 0
      ∷ get_or (with_sum f) 2 0
      ∷ get_or (with_sum f) 3 0
      ∷ get_or (with_sum f) 4 0
      ∷ get_or (with_sum f) 5 0
      ∷ get_or (with_sum f) 6 0
      ∷ drop 7 f
      ≡ f
  fields h =
      rw (
        next 6 (omega arith),
        next 5 (omega arith),
        next 4 (omega arith),
        next 3 (omega arith),
        next 2 (omega arith),
        next 1 (omega arith),
        next 0 (omega arith),
      )

-- A frame that passes for the first of a set is the frame of the design that it holds.
pub design-again : (f : List ℕ) → Short f → verdict (first_checks (with_sum f) (length (with_sum f))) ≡ (Ok tt)
    → design_bytes (frame_design (with_sum f)) ≡ f
unfolding design_bytes frame_design
design-again f short passes =
    let passed = passing f (first_frame _ _ passes).due in
    rw (tables-read f passed short, pairs-again _ (drop 7 f) (twice f passed short))
    (rw passed.first at (fields f (omega (arith, passed.count))))

module _ (d : Design) (legal : Legal d) where
  -- The frame of a legal design has 7 bytes and two for each pair.
  pub design-length : length (design_bytes d) ≡ 7 + 2 * d.m
  unfolding design_bytes
  design-length = omega (arith, pair-bytes-length (tables d), tables-length d legal)

  -- Each pair of a legal design is small.
  table-small : (i : ℕ) → i < length (tables d) → Small (get_or (tables d) i none)
  unfolding pair_at
  table-small i h =
      let l = limits d legal in
      let t = l.table i (omega (arith, tables-length d legal)) in
      record { first = omega (arith, l.alpha-high, t.a-high); second = omega (arith, t.b-high) }

  -- Each number of a legal design fits its byte.
  pub design-small : Bytes (design_bytes d)
  unfolding design_bytes
  design-small =
      let l = limits d legal in
      bytes-append (1 ∷ d.kind ∷ d.w ∷ d.q ∷ d.g ∷ d.alpha ∷ d.m ∷ []) (pair_bytes (tables d)) (omega (arith, l))
      (pair_small (tables d) table-small)

  -- It passes for the first of a set,
  design-due : frame_fails (with_sum (design_bytes d)) (length (with_sum (design_bytes d))) ≡ false
  unfolding frame_fails with_sum design_bytes
  design-due =
      let count : length (with_sum (design_bytes d)) ≡ 8 + 2 * d.m = omega (arith, design-length, with-sum-length (design_bytes d)) in
      rw (eq-eqb _ _ count)

  pub design-passes : let bytes = with_sum (design_bytes d) in
      Legal (frame_design bytes) → verdict (first_checks bytes (length bytes)) ≡ (Ok tt)
  design-passes read = first-frame-passes _ _ (record { due = design-due; legal = read })

  -- and the design is read from it again.
  pub design-back : Same (frame_design (with_sum (design_bytes d))) d
  unfolding frame_design with_sum design_bytes
  design-back =
      let passed = passing (design_bytes d) design-due in
      let short : Short (design_bytes d) = omega (arith, design-length, (limits d legal).m-high) in
      record {
        kind = refl;
        w = refl;
        q = refl;
        g = refl;
        alpha = refl;
        m = refl;
        tables = tables-read (design_bytes d) passed short ∙ pairs-back (tables d);
      }
