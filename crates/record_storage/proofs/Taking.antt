-- The one law of records: a record that is accepted is the text of the head that is due and of as many bytes as are due, and every such
-- record is accepted.
use Rattle.std.specs.Prelude.{Ok}
use mathlib.Core.Path.{◌≡◌, refl, sym, ap, ◌∙◌}
use mathlib.Core.Bool.{true, false, not}
use mathlib.Core.List.{List, [], ◌∷◌, ◌++◌, append_assoc}
use Prim.Native.Nat.{ℕ, ◌+◌, ◌≤◌, ◌<◌}
use native.Mathlib.Decide.{dec_lt}
use native.Mathlib.Omega.{arith}
use lib.Dec.{leb, eqb}
use lib.ListN.{length, take, drop, get_or, length-append, get_or-append}
use lib.Seq.{take_at, drop_at, take-add}
use borrow.Author.Tests.{ltb-false, leb-false, lt-leb, le-ltb, eqb-true, eq-eqb, not-false}
use Rattle.general.proofs.Tests.{neither}
use Rattle.refusal.specs.Checks.{verdict}
use Rattle.refusal.proofs.Checks.{verdict-append, passed-append, none-fails}
use Rattle.design.specs.declared.Design.{Design}
use Rattle.tables.specs.Inputs.{Usable}
use Rattle.tables.specs.Set.{set_checks}
use Rattle.tables.proofs.SetLaws.{usable, set-passed}
use Rattle.encoding.specs.Bytes.{big_endian}
use Rattle.encoding.specs.Encode.{sum_byte, with_sum, line_of}
use Rattle.encoding.proofs.HexBack.{Bytes, bytes-append, bytes-parts}
use Rattle.encoding.proofs.NumberBack.{big-endian-bytes}
use Rattle.encoding.proofs.LineBack.{with-sum-length}
use Rattle.reading.specs.ReadLine.{begins, head_fails}
use Rattle.reading.proofs.BeginsLaws.{begins-append, begins-split}
use Rattle.records.specs.IntelHex.{data_count, record_count, length_at, head_of, record_head, record_text}
use Rattle.records.specs.SetBytes.{byte_count, most_bytes, bytes_check, record_set_checks}
use Rattle.records.specs.Record.{bytes_in, record_fails, record_check}
use Rattle.records.proofs.CountLaws.{length-small, data_head, end-head, end_none}
use Rattle.records.proofs.BytesLaws.{head-length}
use Rattle.record_reading.specs.ReadRecord.{
  hex_possible,
  hex_state_check,
  record_due_check,
  hex_checks,
  HexSession,
  hex_verdict_on,
  data_of,
}
use Rattle.record_storage.proofs.RecordBack.{frame_back, frame-sound, RecordFront, record-front}

-- What the two kinds of records begin with are bytes, of which the first says how many bytes of data there are.
of-bytes : (size address type : ℕ) → size < 256 → type < 256 → Bytes (head_of size address type)
unfolding head_of
of-bytes size address type h k = (h, bytes-append (big_endian 2 address) (type ∷ []) (big-endian-bytes 2 address) (k, tt))

of-first : (size address type : ℕ) → get_or (head_of size address type) 0 0 ≡ size
unfolding head_of
of-first size address type = refl

module _ (total n : ℕ) where
  head_bytes : Bytes (record_head total n)
  head_bytes =
      elim (dec_lt n (data_count total)) [
        | yes within ↦ rw (data_head total n within) (of-bytes _ _ 0 (omega (arith, length-small total n)) (omega arith))
        | no last ↦ rw (end-head total n (omega arith)) (of-bytes 0 0 1 (omega arith) (omega arith))
      ]

  head_first : get_or (record_head total n) 0 0 ≡ length_at total n
  head_first =
      elim (dec_lt n (data_count total)) [
        | yes within ↦ rw (data_head total n within) (of-first _ _ _)
        | no last ↦ rw (end-head total n (omega arith)) (of-first 0 0 1 ∙ sym (end_none total n (omega arith)))
      ]

-- As many bytes as record n holds
pub record PieceOf (total n : ℕ) (piece : List ℕ) : Type 0 where
  pub small : Bytes piece
  pub size : length piece ≡ length_at total n

-- The record that holds them is sound, is the one due, and they are its data.
module _ (total n : ℕ) (piece : List ℕ) (fits : PieceOf total n piece) where
  abbrev frame : List ℕ
  frame = record_head total n ++ piece

  abbrev pub piece_text : List ℕ
  piece_text = record_text (record_head total n) piece

  frame-length : length frame ≡ length_at total n + 4
  frame-length = omega (arith, length-append (record_head total n) piece, head-length total n, fits.size)

  frame-first : get_or frame 0 0 ≡ length_at total n
  frame-first =
      get_or-append (record_head total n) piece 0 0 (omega (arith, head-length total n)) ∙ head_first total n

  frame_small : Bytes frame
  frame_small = bytes-append (record_head total n) piece (head_bytes total n) fits.small

  piece-sound : record_fails piece_text ≡ false
  unfolding record_text
  piece-sound = frame-sound frame frame_small (omega (arith, frame-length, frame-first))

  piece_bytes : bytes_in piece_text ≡ with_sum frame
  unfolding record_text
  piece_bytes = frame_back frame frame_small

  parts : with_sum frame ≡ record_head total n ++ (piece ++ (sum_byte frame ∷ []))
  unfolding with_sum
  parts = append_assoc (record_head total n) piece (sum_byte frame ∷ [])

  piece-due : head_fails (record_head total n) (length_at total n) (with_sum frame) (length (with_sum frame)) ≡ false
  unfolding head_fails
  piece-due =
      let count : length (with_sum frame) ≡ length (record_head total n) + length_at total n + 1 =
      omega (arith, with-sum-length frame, frame-length, head-length total n) in
      let head : begins (with_sum frame) (record_head total n) ≡ true = rw parts (begins-append (record_head total n) _) in
      rw (eq-eqb _ _ count, head)

  pub piece-data : data_of total n (bytes_in piece_text) ≡ piece
  unfolding data_of
  piece-data =
      rw (
        piece_bytes,
        parts,
        drop_at (record_head total n) (piece ++ (sum_byte frame ∷ [])) 4 (head-length total n),
      )
      (take_at piece (sum_byte frame ∷ []) (length_at total n) fits.size)

-- A frame that is the one due is the head and as many bytes as are due.
module _ (total n : ℕ) (f : List ℕ) (small : Bytes f)
    (due : head_fails (record_head total n) (length_at total n) (with_sum f) (length (with_sum f)) ≡ false) where
  due-tests : (length f ≡ 4 + length_at total n) × (begins (with_sum f) (record_head total n) ≡ true)
  unfolding head_fails
  due-tests =
      let bytes = with_sum f in
      let count = length (record_head total n) + length_at total n + 1 in
      let tests = neither (not (eqb (length bytes) count)) (not (begins bytes (record_head total n))) due in
      let counted = eqb-true (length bytes) count (not-false _ tests.0) in
      (omega (arith, counted, with-sum-length f, head-length total n), not-false _ tests.1)

  due-parts : f ≡ record_head total n ++ data_of total n (with_sum f)
  unfolding with_sum data_of
  due-parts =
      let head = record_head total n in
      let bytes = with_sum f in
      let size = length_at total n in
      let front : take 4 bytes ≡ head =
      ap (take 4) (begins-split bytes head due-tests.1) ∙ take_at head (drop (length head) bytes) 4 (head-length total n) in
      let all : f ≡ take (4 + size) bytes = sym (take_at f (sum_byte f ∷ []) (4 + size) due-tests.0) in
      all ∙ take-add 4 size bytes ∙ rw front

  due-piece : PieceOf total n (data_of total n (with_sum f))
  due-piece =
      let head = record_head total n in
      let held = data_of total n (with_sum f) in
      record {
        small = (bytes-parts head held (rw due-parts at small)).1;
        size = omega (arith, due-tests.0, ap length due-parts, length-append head held, head-length total n);
      }

-- A reading to which a record is due
pub record Ready (d : Design) (s : HexSession) : Type 0 where
  pub tables : Usable d (length s.initial) (length s.offsets)
  pub addressed : byte_count d ≤ most_bytes
  pub possible : hex_possible (byte_count d) s.state ≡ true
  pub within : s.state.taken < record_count (byte_count d)

-- What an accepted record tells: the bytes that it holds
pub record Came (d : Design) (s : HexSession) (text : List ℕ) : Type 0 where
  pub ready : Ready d s
  pub piece : List ℕ
  pub fits : PieceOf (byte_count d) s.state.taken piece
  pub is-text : text ≡ record_text (record_head (byte_count d) s.state.taken) piece

module _ (d : Design) (s : HexSession) where
  abbrev initial : ℕ
  initial = length s.initial

  abbrev offsets : ℕ
  offsets = length s.offsets

  abbrev total : ℕ
  total = byte_count d

  abbrev n : ℕ
  n = s.state.taken

  set-passes : Ready d s → verdict (record_set_checks d initial offsets) ≡ Ok tt
  unfolding record_set_checks bytes_check
  set-passes ready = rw (verdict-append, set-passed d initial offsets ready.tables, le-ltb _ _ ready.addressed)

  -- The record that is due is accepted, whatever bytes it holds.
  pub piece-passes : Ready d s → (piece : List ℕ) → PieceOf total n piece
      → hex_verdict_on d s (record_text (record_head total n) piece) ≡ Ok tt
  unfolding hex_verdict_on hex_checks hex_state_check record_check record_due_check
  piece-passes ready piece fits =
      rw (
        verdict-append,
        set-passes ready,
        ready.possible,
        piece-sound total n piece fits,
        piece_bytes total n piece fits,
        lt-leb _ _ ready.within,
        piece-due total n piece fits,
      )

  module _ (text : List ℕ) (passes : hex_verdict_on d s text ≡ Ok tt) where
    -- What 1 to 10 and 20 tell, and what 17, 21 and 22 do
    set-tried : Usable d initial offsets × (byte_count d ≤ most_bytes)
    unfolding hex_verdict_on record_set_checks bytes_check
    set-tried =
        let lists = passed-append (record_set_checks d initial offsets) (hex_checks total s.state text) passes in
        let parts = passed-append (set_checks d initial offsets) (bytes_check d ∷ []) lists.0 in
        (usable d initial offsets parts.0, ltb-false _ _ (none-fails (bytes_check d ∷ []) parts.1).0)

    record Tried : Type 0 where
      possible : hex_possible total s.state ≡ true
      sound : record_fails text ≡ false
      within : n < record_count total
      due : head_fails (record_head total n) (length_at total n) (bytes_in text) (length (bytes_in text)) ≡ false

    record-tried : Tried
    unfolding hex_verdict_on hex_checks hex_state_check record_check record_due_check
    record-tried =
        let later = hex_checks total s.state text in
        let tests = none-fails later (passed-append (record_set_checks d initial offsets) later passes).1 in
        let last = neither (leb (record_count total) n) _ tests.1.1.0 in
        record {
          possible = not-false _ tests.0;
          sound = tests.1.0;
          within = leb-false _ _ last.0;
          due = last.1;
        }

    came-front : (front : RecordFront text) → Came d s text
    unfolding record_text
    came-front front =
        let f = front.frame in
        let due = rw front.bytes at record-tried.due in
        record {
          ready =
              record {
                tables = set-tried.0;
                addressed = set-tried.1;
                possible = record-tried.possible;
                within = record-tried.within;
              };
          piece = data_of total n (with_sum f);
          fits = due-piece total n f front.small due;
          is-text = sym front.is-text ∙ ap (λ (g : List ℕ). 58 ∷ line_of g) (due-parts total n f front.small due);
        }

    pub accepted-record : Came d s text
    accepted-record = came-front (record-front text record-tried.sound)
