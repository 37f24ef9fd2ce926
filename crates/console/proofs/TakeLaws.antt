-- Bytes that are taken one after another.
use Rattle.std.specs.Prelude.{Option, Some, None, is_some}
use mathlib.Core.Path.{◌≡◌, refl, sym, ap, ◌∙◌}
use mathlib.Core.Bool.{Bool, true, false, ◌&&◌, true≢false}
use mathlib.Core.List.{List, [], ◌∷◌, ◌++◌, append_assoc, append-nil}
use mathlib.Core.Logic.{◌⊎◌, inl, inr}
use Prim.Native.Nat.{ℕ, ◌+◌, ◌≤◌, ◌<◌, min}
use native.Mathlib.Decide.{dec_lt}
use native.Mathlib.Numerals.{add-one}
use native.Mathlib.Omega.{arith}
use lib.Dec.{ltb}
use lib.ListN.{length, get_or, take, drop, set, length-take, drop_of_length-le}
use lib.Seq.{take-suc-set, drop-cons, get_or-take, length-take-le}
use borrow.Author.Tests.{lt-ltb, ltb-true, eq-eqb}
use Rattle.general.proofs.Tests.{both}
use Rattle.console.specs.Blocks.{Blocks}
use Rattle.console.specs.Reading.{in_block, Fresh, NextRead, left_in, CameIn, Takes}

pub takes_none : (c : Blocks) → Takes c [] c
takes_none c = record { came = []; whole = append-nil (left_in c); blocks = inl (refl, refl, refl); over = λ e. e }

-- Some bytes behind others
module _ (c mid end : Blocks) where
  came-more : (first rest : List ℕ) → CameIn c first mid → CameIn mid rest end → CameIn c (first ++ rest) end
  came-more first rest (inl (e, b, n)) (inl (e', b', n')) = inl (rw (e, e'), b' ∙ b, n' ∙ n)
  came-more first rest (inr more) (inl (e', b', n')) =
      inr (record { earlier = more.earlier; whole = rw (e', b', n', append-nil first) more.whole })
  came-more first rest came (inr more) =
      inr
      (record {
        earlier = first ++ more.earlier;
        whole = ap (◌++◌ first) more.whole ∙ sym (append_assoc first more.earlier (take end.count end.input));
      })

  pub takes-more : (t u : List ℕ) → Takes c t mid → Takes mid u end → Takes c (t ++ u) end
  takes-more t u first rest =
      record {
        came = first.came ++ rest.came;
        whole =
            sym (append_assoc (left_in c) first.came rest.came)
            ∙ ap (λ (l : List ℕ). l ++ rest.came) first.whole
            ∙ append_assoc t (left_in mid) rest.came
            ∙ ap (◌++◌ t) rest.whole
            ∙ sym (append_assoc t u (left_in end));
        blocks = came-more first.came rest.came first.blocks rest.blocks;
        over = λ e. rest.over (first.over e);
      }

-- A byte that is left in a block, and a block in which none is
module _ (c : Blocks) where
  abbrev rest : List ℕ
  rest = take c.count c.input

  some_left : c.at < c.count → c.at < length c.input → left_in c ≡ get_or c.input c.at 0 ∷ drop (c.at + 1) rest
  some_left h k =
      drop-cons rest c.at 0 (rw (length-take c.count c.input) (omega arith)) ∙ rw (add-one c.at, get_or-take c.count c.input c.at 0 h)

  all-used : (ltb c.at c.count && ltb c.at (length c.input)) ≡ false → min c.count (length c.input) ≤ c.at
  all-used is =
      elim (dec_lt c.at c.count) [
        | yes h ↦
            elim (dec_lt c.at (length c.input)) [
              | yes k ↦ absurd (true≢false (rw (lt-ltb _ _ h, lt-ltb _ _ k) at is))
              | no k ↦ omega arith
            ]
        | no h ↦ omega arith
      ]

-- What comes of a block: a byte that is left, behind which the rest is, or none; the block stands.
pub record Left (c : Blocks) (byte : Option ℕ) (next : Blocks) : Type 0 where
  pub some : (b : ℕ) → byte ≡ Some b → left_in c ≡ b ∷ left_in next
  pub none : byte ≡ None → (left_in c ≡ []) × (next ≡ c)
  pub input : next.input ≡ c.input
  pub count : next.count ≡ c.count
  pub ended : next.ended ≡ c.ended

pub left_of : (c : Blocks) (byte : Option ℕ) (next : Blocks) → (byte, next) ≡ in_block c → Left c byte next
unfolding in_block
left_of c byte next e = go (ltb c.at c.count && ltb c.at (length c.input)) refl
  where
    go : (some : Bool) → (ltb c.at c.count && ltb c.at (length c.input)) ≡ some → Left c byte next
    go true is =
        let f : ◌≡◌ {A = Option ℕ × Blocks} (byte, next) (Some (get_or c.input c.at 0), record c { at = c.at + 1 }) = rw is at e in
        let byte-is : byte ≡ Some (get_or c.input c.at 0) = ap (λ (p : Option ℕ × Blocks). p.0) f in
        let next-is : next ≡ record c { at = c.at + 1 } = ap (λ (p : Option ℕ × Blocks). p.1) f in
        let parts = both (ltb c.at c.count) (ltb c.at (length c.input)) is in
        record {
          some = λ b b-is.
              let same : get_or c.input c.at 0 ≡ b = cc in
              rw (next-is, ← same) (some_left c (ltb-true c.at c.count parts.0) (ltb-true c.at (length c.input) parts.1));
          none = λ none. let z : ◌≡◌ {A = ℕ} 0 1 = cc in absurd (omega arith);
          input = rw next-is;
          count = rw next-is;
          ended = rw next-is;
        }
    go false is =
        let f : ◌≡◌ {A = Option ℕ × Blocks} (byte, next) (None, c) = rw is at e in
        let byte-is : byte ≡ None = ap (λ (p : Option ℕ × Blocks). p.0) f in
        let next-is : next ≡ c = ap (λ (p : Option ℕ × Blocks). p.1) f in
        record {
          some = λ b b-is. let z : ◌≡◌ {A = ℕ} 0 1 = cc in absurd (omega arith);
          none = λ none. (drop_of_length-le (rest c) {i = c.at} (rw (length-take c.count c.input) (all-used c is)), next-is);
          input = rw next-is;
          count = rw next-is;
          ended = rw next-is;
        }

-- Of a new block all are left.
all_left : (c : Blocks) → c.at ≡ 0 → left_in c ≡ take c.count c.input
all_left c e = rw e

-- The next byte of the input is taken, or the input has ended.
module _ (c next : Blocks) (byte : Option ℕ) (read : NextRead c byte next) where
  -- It comes from the block that is there,
  record Here : Type 0 where
    left : Left c byte next
    over : byte ≡ None → c.ended ≡ true

  -- or from a new one.
  record There : Type 0 where
    begun : Blocks
    fresh : Fresh begun
    left : Left begun byte next
    used : left_in c ≡ []
    more : c.ended ≡ false

  from : Here ⊎ There
  from = go (in_block c).0 refl c.ended refl
    where
      go : (first : Option ℕ) → (in_block c).0 ≡ first → (ended : Bool) → c.ended ≡ ended → Here ⊎ There
      go (Some b) is ended e =
          let told = read.left (ap is_some is) in
          inl (record {
            left = left_of c byte next told;
            over = λ none.
                let z : ◌≡◌ {A = Option ℕ} None (Some b) = sym none ∙ ap (λ (p : Option ℕ × Blocks). p.0) told ∙ is in
                absurd (true≢false (sym (ap is_some z)));
          })
      go None is true e = inl (record { left = left_of c byte next (read.over e); over = λ none. e })
      go None is false e =
          let told = read.from_start is e in
          inr (record {
            begun = read.begun;
            fresh = told.0;
            left = left_of read.begun byte next told.1;
            used = ((left_of c (in_block c).0 (in_block c).1 refl).none is).0;
            more = e;
          })

  pub takes-byte : (b : ℕ) → byte ≡ Some b → Takes c (b ∷ []) next
  takes-byte b is = elim from [ inl here ↦ same here | inr there ↦ new there ]
    where
      same : Here → Takes c (b ∷ []) next
      same here =
          record {
            came = [];
            whole = append-nil (left_in c) ∙ here.left.some b is;
            blocks = inl (refl, here.left.input, here.left.count);
            over = λ e. here.left.ended ∙ e;
          }

      new : There → Takes c (b ∷ []) next
      new there =
          record {
            came = left_in there.begun;
            whole = rw there.used (there.left.some b is);
            blocks =
                inr
                (record {
                  earlier = [];
                  whole = all_left there.begun there.fresh.at-start ∙ rw (there.left.input, there.left.count);
                });
            over = λ e. absurd (true≢false (sym e ∙ there.more));
          }

  pub takes-end : byte ≡ None → Takes c [] next
  takes-end is = elim from [ inl here ↦ same here | inr there ↦ new there ]
    where
      same : Here → Takes c [] next
      same here = rw (here.left.none is).1 (takes_none c)

      new : There → Takes c [] next
      new there =
          let none = there.left.none is in
          record {
            came = [];
            whole = rw (there.used, none.1, none.0);
            blocks = inr (record { earlier = []; whole = rw none.1 (sym none.0 ∙ all_left there.begun there.fresh.at-start) });
            over = λ e. absurd (true≢false (sym e ∙ there.more));
          }

  -- and then that is remembered.
  pub end_kept : byte ≡ None → next.ended ≡ true
  end_kept is = elim from [ inl here ↦ here.left.ended ∙ here.over is | inr there ↦ new there ]
    where
      new : There → next.ended ≡ true
      new there =
          let begun = there.begun in
          let none = there.left.none is in
          let empty : length (take begun.count begun.input) ≡ 0 = ap length (sym (all_left begun there.fresh.at-start) ∙ none.0) in
          let zero-count : begun.count ≡ 0 = omega (arith, empty, length-take-le begun.count begun.input there.fresh.within) in
          rw none.1 (there.fresh.by_count ∙ eq-eqb begun.count 0 zero-count)

-- A line so far: one byte more of it, its newline, or the end of the input behind it
module _ (c mid end : Blocks) where
  pub line-more : (bytes : List ℕ) (n byte : ℕ) → n < length bytes → Takes c (take n bytes) mid
      → Takes mid (byte ∷ []) end → Takes c (take (n + 1) (set bytes n byte)) end
  line-more bytes n byte h first next =
      rw (add-one n, take-suc-set bytes n byte h) (takes-more c mid end (take n bytes) (byte ∷ []) first next)

  pub line-newline : (line : List ℕ) (byte : ℕ) → Takes c line mid → Takes mid (byte ∷ []) end → byte ≡ 10 → Takes c (line ++ 10 ∷ []) end
  line-newline line byte first next e = takes-more c mid end line (10 ∷ []) first (rw e at next)

  pub line-end : (line : List ℕ) → Takes c line mid → Takes mid [] end → Takes c line end
  line-end line first next = rw (append-nil line) at (takes-more c mid end line [] first next)
