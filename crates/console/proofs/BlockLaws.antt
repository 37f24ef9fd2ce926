-- A byte that is left in a block of the input, and what is pending in a block of the output.
use Rattle.std.specs.Prelude.{Option, Some, None, is_some}
use mathlib.Core.Path.{◌≡◌, refl, sym, ap, ◌∙◌}
use mathlib.Core.Bool.{Bool, true, false, cond, true≢false}
use mathlib.Core.List.{List, [], ◌++◌, append_assoc}
use Prim.Native.Nat.{ℕ, ◌+◌, ◌-◌, ◌≤◌, ◌<◌}
use native.Mathlib.Decide.{dec_le}
use native.Mathlib.Omega.{arith}
use lib.Dec.{ltb, leb}
use lib.ListN.{length, get_or, take, drop, length-append}
use lib.Seq.{take_at, length-take-le, drop-drop}
use borrow.Author.Tests.{lt-ltb, le-ltb, le-leb, lt-leb}
use borrow.Rule.Slice.PartMut.{put_mid}
use Rattle.general.specs.Lists.{over}
use Rattle.general.proofs.WritingLaws.{over-length}
use Rattle.console.specs.Blocks.{Blocks}
use Rattle.console.specs.Reading.{in_block, Fresh, NextRead}
use Rattle.console.specs.Writing.{flushed, with_room, pending_with}
use Rattle.console.proofs.TakeLaws.{left_of}

module _ (c : Blocks) where
  pub byte_left : c.at < c.count → ltb c.at (length c.input) ≡ true → (Some (get_or c.input c.at 0), record c { at = c.at + 1 }) ≡ in_block c
  unfolding in_block
  byte_left h k = rw (lt-ltb c.at c.count h, k)

  pub used-up : c.count ≤ c.at → (None, c) ≡ in_block c
  unfolding in_block
  used-up h = rw (le-ltb c.at c.count h)

  pub beyond : c.at < c.count → ltb c.at (length c.input) ≡ false → (None, c) ≡ in_block c
  unfolding in_block
  beyond h k = rw (lt-ltb c.at c.count h, k)

-- The byte that is left, the end of the input, or the first of the next block
module _ (c next : Blocks) (byte : Option ℕ) (next-is : (byte, next) ≡ in_block c) where
  told : (in_block c).0 ≡ byte
  told = sym (ap (λ (p : Option ℕ × Blocks). p.0) next-is)

  same : next.ended ≡ c.ended
  same = (left_of c byte next next-is).ended

  pub from_block : is_some byte ≡ true → NextRead c byte next
  from_block some =
      record {
        left = λ e. next-is;
        over = λ e. next-is;
        begun = c;
        from_start = λ none more. absurd (true≢false (sym some ∙ ap is_some (sym told ∙ none)));
      }

  pub at-end : next.ended ≡ true → NextRead c byte next
  at-end ended =
      record {
        left = λ e. next-is;
        over = λ e. next-is;
        begun = c;
        from_start = λ none more. absurd (true≢false (sym ended ∙ same ∙ more));
      }

  pub from_next : is_some byte ≡ false → next.ended ≡ false → (begun after : Blocks) (first : Option ℕ)
      → Fresh begun → (first, after) ≡ in_block begun → NextRead c first after
  from_next none more begun after first fresh first-is =
      record {
        left = λ some. absurd (true≢false (sym some ∙ ap is_some told ∙ none));
        over = λ ended. absurd (true≢false (sym ended ∙ sym same ∙ more));
        begun = begun;
        from_start = λ e still. (fresh, first-is);
      }

-- A text that is put into a block once there is room for it, and one that no block holds
module _ (c next : Blocks) (text : List ℕ) (next-is : next ≡ with_room c (length text) next.failed) where
  -- where the text begins
  room-kept : c.pending + length text ≤ length c.output → next.pending ≡ c.pending
  room-kept h =
      let e : with_room c (length text) next.failed ≡ c = rw (le-leb (c.pending + length text) (length c.output) h) in
      ap (λ (n : Blocks). n.pending) (next-is ∙ e)

  room-made : length c.output < c.pending + length text → next.pending ≡ 0
  room-made h =
      let e : with_room c (length text) next.failed ≡ flushed c next.failed = rw (lt-leb (c.pending + length text) (length c.output) h) in
      ap (λ (n : Blocks). n.pending) (next-is ∙ e)

  pub stands : (next.output ≡ c.output) × (next.input ≡ c.input) × (next.at ≡ c.at) × (next.count ≡ c.count) × (next.ended ≡ c.ended)
  stands = rw next-is (go (leb (c.pending + length text) (length c.output)))
    where
      go : (room : Bool) → let r = cond room c (flushed c next.failed) in
          (r.output ≡ c.output) × (r.input ≡ c.input) × (r.at ≡ c.at) × (r.count ≡ c.count) × (r.ended ≡ c.ended)
      go true = (refl, refl, refl, refl, refl)
      go false = (refl, refl, refl, refl, refl)

  -- What is pending once the text went out by itself, or stands in the block
  pub put-out : (pending : ℕ) (output : List ℕ) → pending ≡ next.pending → output ≡ next.output → length output - pending < length text
      → cond (leb pending (length output)) (take pending output) [] ≡ pending_with c text
  unfolding pending_with
  put-out pending output pending-is output-is long =
      rw (pending-is, output-is, stands.0)
      (elim (dec_le (c.pending + length text) (length c.output)) [
        | yes h ↦ absurd (omega (arith, room-kept h, ap length output-is, ap length stands.0))
        | no h ↦
            let none = room-made (omega arith) in
            rw (
              none,
              le-leb 0 (length c.output) (omega arith),
              lt-leb (c.pending + length text) (length c.output) (omega arith),
              lt-leb (length text) (length c.output) (omega (arith, ap length output-is, ap length stands.0)),
            )
      ])

  module _ (fits : next.pending + length text ≤ length c.output) where
    front : take (next.pending + length text) (over c.output next.pending text) ≡ take next.pending c.output ++ text
    unfolding over
    front =
        take_at (take next.pending c.output ++ text) (drop (next.pending + length text) c.output) (next.pending + length text)
        (length-append (take next.pending c.output) text ∙ rw (length-take-le next.pending c.output (omega arith)))

    within : leb (next.pending + length text) (length (over c.output next.pending text)) ≡ true
    within =
        le-leb (next.pending + length text) (length (over c.output next.pending text))
        (omega (arith, fits, over-length c.output next.pending text fits))

    pub put_in : (pending : ℕ) (output : List ℕ) → pending ≡ next.pending + length text → output ≡ over c.output next.pending text
        → cond (leb pending (length output)) (take pending output) [] ≡ pending_with c text
    unfolding pending_with
    put_in pending output pending-is output-is =
        rw (pending-is, output-is, within)
        (elim (dec_le (c.pending + length text) (length c.output)) [
          | yes h ↦
              front
              ∙ rw (room-kept h, le-leb (c.pending + length text) (length c.output) h, le-leb c.pending (length c.output) (omega arith))
          | no h ↦
              let none = room-made (omega arith) in
              front
              ∙ rw (
                none,
                lt-leb (c.pending + length text) (length c.output) (omega arith),
                le-leb (length text) (length c.output) (omega arith),
              )
        ])

-- A part of a block that a text was copied into
pub part-over : (block text part : List ℕ) (n k : ℕ) → part ≡ text → k ≡ length text → put_mid n k block part ≡ over block n text
unfolding over
part-over block text part n k e f = rw (e, f, drop-drop, append_assoc)
