-- The one law of lines: a line that is accepted and not empty is the writer's line for the design and for the tables with the entry that it stores.
use Rattle.std.specs.Prelude.{Ok}
use mathlib.Core.Path.{◌≡◌, refl, sym, ap, ◌∙◌}
use mathlib.Core.Bool.{false, not}
use mathlib.Core.List.{List, [], ◌∷◌, ◌++◌, append-nil}
use Prim.Native.Nat.{ℕ, ◌+◌, ◌*◌, ◌^◌, ◌<◌}
use native.Mathlib.Decide.{dec_lt}
use native.Mathlib.Omega.{arith}
use lib.Dec.{eqb}
use lib.ListN.{length, take, drop, length-append}
use lib.Seq.{take_at, take-add}
use lib.IntN.{ℤ}
use borrow.Author.Tests.{eqb-true, not-false}
use Rattle.general.proofs.Tests.{neither}
use Rattle.design.specs.declared.Design.{Design}
use Rattle.tables.specs.Inputs.{Usable}
use Rattle.tables.proofs.SetLaws.{usable, set-lengths}
use Rattle.frames.specs.Hex.{bytes_of}
use Rattle.frames.specs.Line.{is_empty}
use Rattle.frames.specs.DesignFrame.{frame_design}
use Rattle.encoding.specs.Bytes.{big_endian}
use Rattle.encoding.specs.Encode.{sum_byte, with_sum, line_of}
use Rattle.encoding.specs.DesignBytes.{design_bytes}
use Rattle.encoding.proofs.HexBack.{Bytes, bytes-parts}
use Rattle.encoding.proofs.NumberBack.{number_lt, number-again}
use Rattle.encoding.proofs.LineBack.{Front, front, with-sum-length}
use Rattle.encoding.proofs.DesignBack.{design-again}
use Rattle.lines.specs.declared.Slot.{Slot}
use Rattle.lines.specs.Slots.{line_count, slot_of}
use Rattle.lines.specs.Lines.{frame_head, entry_width, entry_over, frame_of, line_at}
use Rattle.lines.specs.Inputs.{SlotIn}
use Rattle.lines.proofs.SlotLaws.{slot-first, slot-in}
use Rattle.writing.proofs.WriteLaws.{Carried}
use Rattle.reading.specs.ReadLine.{
  Session,
  begins,
  head_fails,
  design_after,
  entry_in,
  initial_stored,
  offsets_stored,
  session,
  verdict_on,
  after,
}
use Rattle.reading.proofs.BeginsLaws.{begins-split}
use Rattle.reading.proofs.ReadLaws.{Passing, passing, first-design, later-design, first-passing, later-passing, begun}
use Rattle.storage.proofs.Entries.{stored-number, stored-fits}

-- A frame that begins as it should and has the right number of bytes: the head, then the entry
module _ (d : Design) (slot : Slot) (f : List ℕ) where
  -- the entry's bytes
  abbrev entry : List ℕ
  entry = take (entry_width slot) (drop (length (frame_head d slot)) (with_sum f))

  pub record Parts : Type 0 where
    pub whole : f ≡ frame_head d slot ++ entry
    pub long : length entry ≡ entry_width slot

  module _ (small : Bytes f) (parts : Parts) where
    entry-small : Bytes entry
    entry-small = (bytes-parts (frame_head d slot) entry (rw parts.whole at small)).1

    pub entry-in-lt : entry_in d slot (with_sum f) < 2 ^ (8 * entry_width slot)
    unfolding entry_in
    entry-in-lt = rw parts.long at (number_lt entry entry-small)

    entry-again : big_endian (entry_width slot) (entry_in d slot (with_sum f)) ≡ entry
    unfolding entry_in
    entry-again = rw parts.long at (number-again entry entry-small)

    -- It is the frame of the tables with the entry stored.
    pub frame-again : (initial : List ℕ) (offsets : List ℤ) → SlotIn slot (length initial) (length offsets)
        → let v = entry_in d slot (with_sum f) in
        frame_of d slot (initial_stored slot v initial) (offsets_stored slot v offsets) ≡ f
    unfolding frame_of
    frame-again initial offsets within =
        let v = entry_in d slot (with_sum f) in
        rw (stored-number slot v initial offsets within entry-in-lt)
        (ap (λ (bytes : List ℕ). frame_head d slot ++ bytes) entry-again ∙ sym parts.whole)

-- A frame that is the one due has these parts,
due-parts : (d : Design) (slot : Slot) (f : List ℕ)
    → head_fails (frame_head d slot) (entry_width slot) (with_sum f) (length (with_sum f)) ≡ false → Parts d slot f
unfolding head_fails with_sum
due-parts d slot f due =
    let head = frame_head d slot in
    let bytes = with_sum f in
    let tests = neither (not (eqb (length bytes) (length head + entry_width slot + 1))) (not (begins bytes head)) due in
    let counted = eqb-true (length bytes) (length head + entry_width slot + 1) (not-false _ tests.0) in
    let count : length f ≡ length head + entry_width slot = omega (arith, counted, with-sum-length f) in
    let split = begins-split bytes head (not-false _ tests.1) in
    let front : take (length head) bytes ≡ head =
    ap (take (length head)) split ∙ take_at head (drop (length head) bytes) (length head) refl in
    let all : f ≡ take (length head + entry_width slot) bytes = sym (rw count at (take_at f (sum_byte f ∷ []) (length f) refl)) in
    let whole : f ≡ head ++ entry d slot f = all ∙ take-add (length head) (entry_width slot) bytes ∙ rw front in
    record {
      whole = whole;
      long = omega (arith, ap length whole, length-append head (entry d slot f));
    }

-- and so has the frame of a design.
first-parts : (d : Design) (f : List ℕ) → design_bytes d ≡ f → Parts d Slot.Design f
unfolding frame_head entry_width
first-parts d f e = record { whole = sym e ∙ sym (append-nil (design_bytes d)); long = refl }

-- What an accepted line tells of the reading before and after it
pub record Accepted (s : Session) (line : List ℕ) (design : Design) (number : ℕ) : Type 0 where
  -- the reading after it
  pub moved : after s line ≡ session (record { design = design; taken = s.state.taken + 1 })
      (initial_stored (slot_of design s.state.taken) number s.initial)
      (offsets_stored (slot_of design s.state.taken) number s.offsets)
  pub kept : 0 < s.state.taken → design ≡ s.state.design
  pub tables : Usable design (length s.initial) (length s.offsets)
  pub within : s.state.taken < line_count design
  -- the writer's line
  pub written : line_at design (initial_stored (slot_of design s.state.taken) number s.initial)
      (offsets_stored (slot_of design s.state.taken) number s.offsets) s.state.taken ≡ line
  -- and the entry that it carries
  pub entry : Carried design (slot_of design s.state.taken)
      (initial_stored (slot_of design s.state.taken) number s.initial)
      (offsets_stored (slot_of design s.state.taken) number s.offsets)

-- A line that passes, the frame it is the line of, and the design that counts after it
module _ (s : Session) (line f : List ℕ) (d : Design) (small : Bytes f) (is-line : line_of f ≡ line) (bytes : bytes_of line ≡ with_sum f)
    (not-empty : is_empty line ≡ false) (passes : verdict_on s line ≡ Ok tt) (counts : design_after s.state (with_sum f) ≡ d)
    (tables : Usable d (length s.initial) (length s.offsets)) (within : s.state.taken < line_count d) where
  abbrev slot : Slot
  slot = slot_of d s.state.taken

  in_tables : SlotIn slot (length s.initial) (length s.offsets)
  in_tables = slot-in d _ _ s.state.taken tables within

  stepped : after s line ≡ session (record { design = d; taken = s.state.taken + 1 })
      (initial_stored slot (entry_in d slot (with_sum f)) s.initial) (offsets_stored slot (entry_in d slot (with_sum f)) s.offsets)
  unfolding after
  stepped = rw (passes, not-empty, bytes, counts)

  as-accepted : Parts d slot f → entry_over d slot (entry_in d slot (with_sum f)) ≡ false → (0 < s.state.taken → d ≡ s.state.design)
      → Accepted s line d (entry_in d slot (with_sum f))
  unfolding line_at
  as-accepted parts below kept =
      let v = entry_in d slot (with_sum f) in
      let small-entry = entry-in-lt d slot f small parts in
      record {
        moved = stepped;
        kept = kept;
        tables = tables;
        within = within;
        written = rw (frame-again d slot f small parts s.initial s.offsets in_tables) is-line;
        entry =
            record {
              fits = stored-fits slot v s.initial s.offsets in_tables small-entry;
              below = rw (stored-number slot v s.initial s.offsets in_tables small-entry) below;
            };
      }

-- The first line has no entry.
first_below : (d : Design) (n number : ℕ) → n ≡ 0 → entry_over d (slot_of d n) number ≡ false
unfolding entry_over
first_below d n number none = rw (none, slot-first d) refl

some-lines : (d : Design) → 0 < line_count d
unfolding line_count
some-lines d = omega arith

-- So an accepted line that is not empty is the writer's, whether it is the first or a later one.
pub record SomeAccepted (s : Session) (line : List ℕ) : Type 0 where
  pub design : Design
  pub number : ℕ
  pub accepted : Accepted s line design number

module _ (s : Session) (line : List ℕ) (not-empty : is_empty line ≡ false) (passes : verdict_on s line ≡ Ok tt) where
  tried : Passing s.state (length s.initial) (length s.offsets) line
  unfolding verdict_on
  tried = passing s.state (length s.initial) (length s.offsets) line not-empty passes

  first-accepted : (w : Front line) → s.state.taken ≡ 0 → SomeAccepted s line
  first-accepted w none =
      let bytes = with_sum w.frame in
      let p = first-passing s.state (length s.initial) (length s.offsets) bytes none (rw w.bytes at tried.frame-passed) in
      let d = frame_design bytes in
      let whole = design-again w.frame w.short p.frame in
      let parts : Parts d (slot_of d s.state.taken) w.frame = rw (none, slot-first d) (first-parts d w.frame whole) in
      record {
        design = d;
        number = entry_in d (slot_of d s.state.taken) bytes;
        accepted =
            as-accepted s line w.frame d w.small w.line w.bytes not-empty passes (first-design s.state bytes none) p.tables
            (omega (arith, some-lines d)) parts (first_below d s.state.taken _ none) (λ some. absurd (omega arith));
      }

  later-accepted : (w : Front line) → 0 < s.state.taken → SomeAccepted s line
  later-accepted w some =
      let bytes = with_sum w.frame in
      let d = s.state.design in
      let p = later-passing s.state (length s.initial) (length s.offsets) bytes some (rw w.bytes at tried.frame-passed) in
      let legal = (begun s.state some tried.state-possible).legal in
      let tables = usable d (length s.initial) (length s.offsets) (set-lengths d _ _ false legal p.tables) in
      record {
        design = d;
        number = entry_in d (slot_of d s.state.taken) bytes;
        accepted =
            as-accepted s line w.frame d w.small w.line w.bytes not-empty passes (later-design s.state bytes some) tables
            p.within (due-parts d (slot_of d s.state.taken) w.frame p.head) p.below (λ h. refl);
      }

  pub accepted-line : SomeAccepted s line
  accepted-line =
      let w = front line tried.line-sound in
      elim (dec_lt 0 s.state.taken) [
        | yes some ↦ later-accepted w some
        | no none ↦ first-accepted w (omega arith)
      ]
