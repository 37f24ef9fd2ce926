-- Worked examples beside the starred list, of the definitions that the calls promise to equal. The numbers, lines and texts are document
-- 01's or document 02's, or were worked out from them apart from the definitions. The wrong definitions that docs/PROMISES.md lists fail
-- here, even where their code is wrong alike.
use Rattle.std.specs.Prelude.{Result, Ok, Err, Some, None}
use mathlib.Core.Path.{◌≡◌, refl}
use mathlib.Core.Bool.{true, false}
use mathlib.Core.List.{List, [], ◌∷◌, map}
use Prim.Native.Nat.{ℕ, ◌+◌, ◌^◌}
use Prim.Native.String.{String}
use lib.IntN.{pos, negsuc}
use lib.ListN.{take, replicate, set}
use Rattle.general.specs.Lists as Lists
use Rattle.refusal.specs.declared.Cause.{Cause}
use Rattle.refusal.specs.Numbers.{number_of, verdict_number}
use Rattle.values.specs.Rows.{row_of}
use Rattle.values.specs.Slopes.{hi}
use Rattle.values.specs.Faithful.{is_faithful, is_nearest, is_too_low}
use Rattle.values.specs.Value.{value_of}
use Rattle.design.specs.declared.Pair.{Pair}
use Rattle.design.specs.declared.Design.{Design}
use Rattle.design.specs.Legal.{design_verdict}
use Rattle.design.specs.Budget.{within_limit}
use Rattle.design.specs.Answers.{budget_answer}
use Rattle.sizing.specs.Width.{holds, offset_bits}
use Rattle.sizing.specs.Size.{size_answer}
use Rattle.entries.specs.Entries.{odd_number, offset_at}
use Rattle.entries.specs.Signs.{sign_of, magnitude_at}
use Rattle.filling.specs.Fill.{initial_entries, offset_entries}
use Rattle.evaluating.specs.Batch.{refused_at, batch_answer}
use Rattle.checking.specs.Check.{Finding, check_answer}
use Rattle.counting.specs.declared.Class.{Class}
use Rattle.counting.specs.declared.Counts.{Counts}
use Rattle.counting.specs.Count.{class_of, count_answer}
use Rattle.frames.specs.Hex as Hex
use Rattle.frames.specs.Line as Line
use Rattle.frames.specs.DesignFrame as DesignFrame
use Rattle.frames.specs.DesignText as DesignText
use Rattle.encoding.specs.Bytes as Bytes
use Rattle.encoding.specs.Encode as Encode
use Rattle.encoding.specs.DesignBytes as DesignBytes
use Rattle.lines.specs.Slots as Slots
use Rattle.lines.specs.Lines as Lines
use Rattle.lines.specs.Lines.{line_at}
use Rattle.writing.specs.Write as Write
use Rattle.writing.specs.Write.{write_answer}
use Rattle.reading.specs.declared.Reading.{Reading}
use Rattle.reading.specs.ReadLine as ReadLine
use Rattle.reading.specs.ReadLine.{session, verdict_on, read_answer}
use Rattle.records.specs.IntelHex as IntelHex
use Rattle.records.specs.IntelHex.{record_count}
use Rattle.records.specs.SetBytes as SetBytes
use Rattle.records.specs.SetBytes.{byte_count, set_record}
use Rattle.records.specs.Record as Record
use Rattle.record_writing.specs.WriteRecord as WriteRecord
use Rattle.record_writing.specs.WriteRecord.{hex_write_answer}
use Rattle.record_reading.specs.declared.HexReading.{HexReading}
use Rattle.record_reading.specs.Storing as Storing
use Rattle.record_reading.specs.ReadRecord as ReadRecord
use Rattle.record_reading.specs.ReadRecord.{HexSession, hex_session, hex_verdict_on, hex_after}
use Rattle.report_text.specs.Words as Words
use Rattle.report_text.specs.Words.{ascii, text_of}
use Rattle.report_text.specs.Report as Report
use Rattle.report_text.specs.Report.{report_of}
use Rattle.word_text.specs.Decimal as Decimal
use Rattle.word_text.specs.Decimal.{word_in}
use Rattle.starred.proofs.Opened.{calls-opened}
use Rattle.starred.proofs.Starred.{G, G-with, value-is}

abbrev pair : ℕ → ℕ → Pair
pair a b = record { a = a; b = b }

-- Two tables: kind 4, w 8, q 8, g 4, alpha 4, m 2, (4,2), (3,2)
abbrev two-tables : Design
two-tables =
    record { kind = 4; w = 8; q = 8; g = 4; alpha = 4; m = 2; pairs = pair 4 2 ∷ pair 3 2 ∷ pair 0 0 ∷ pair 0 0 ∷ [] }

-- Widths as large as they may be: kind 0, w 16, q 16, g 4, alpha 13, m 1, (9,3)
abbrev widest : Design
widest =
    record { kind = 0; w = 16; q = 16; g = 4; alpha = 13; m = 1; pairs = pair 9 3 ∷ pair 0 0 ∷ pair 0 0 ∷ pair 0 0 ∷ [] }

-- The smallest designs of kinds 0 and 1 for w 8 and q 8
abbrev three-tables : Design
three-tables =
    record { kind = 0; w = 8; q = 8; g = 5; alpha = 5; m = 3; pairs = pair 2 1 ∷ pair 3 1 ∷ pair 3 1 ∷ pair 0 0 ∷ [] }

abbrev of-root-tables : ℕ → ℕ → ℕ → ℕ → Design
of-root-tables w q g alpha =
    record { kind = 1; w = w; q = q; g = g; alpha = alpha; m = 3; pairs = pair 1 1 ∷ pair 1 1 ∷ pair 1 2 ∷ pair 0 0 ∷ [] }

abbrev root-tables : Design
root-tables = of-root-tables 8 8 4 4

-- One whose first table has the narrowest offsets
abbrev narrow-tables : Design
narrow-tables = of-root-tables 7 6 3 3

-- The table with the largest T: kind 0, w 10, q 16, g 4, alpha 2, m 1, (2,8)
abbrev largest-offsets : Design
largest-offsets =
    record { kind = 0; w = 10; q = 16; g = 4; alpha = 2; m = 1; pairs = pair 2 8 ∷ pair 0 0 ∷ pair 0 0 ∷ pair 0 0 ∷ [] }

-- Segments of 64 words: kind 0, w 9, q 6, g 3, alpha 4, m 1, (3,5)
abbrev long-segments : Design
long-segments =
    record { kind = 0; w = 9; q = 6; g = 3; alpha = 4; m = 1; pairs = pair 3 5 ∷ pair 0 0 ∷ pair 0 0 ∷ pair 0 0 ∷ [] }

-- Twenty entries: kind 0, w 6, q 6, g 2, alpha 2, m 4, (1,1) four times
abbrev twenty : Design
twenty =
    record { kind = 0; w = 6; q = 6; g = 2; alpha = 2; m = 4; pairs = pair 1 1 ∷ pair 1 1 ∷ pair 1 1 ∷ pair 1 1 ∷ [] }

-- All causes, in the order of their numbers
abbrev causes : List Cause
causes =
    Cause.Kind ∷ Cause.InputWidth ∷ Cause.OutputWidth ∷ Cause.GuardBits ∷ Cause.InitialBits ∷ Cause.TableCount ∷ Cause.SegmentBits
    ∷ Cause.OffsetBits ∷ Cause.CutSum ∷ Cause.TablesShort ∷ Cause.NotAdmitted ∷ Cause.WordRange ∷ Cause.SumRange ∷ Cause.OutputShort
    ∷ Cause.Line ∷ Cause.Frame ∷ Cause.State ∷ Cause.EntryWidth ∷ Cause.LineNumber ∷ Cause.AddressRange ∷ Cause.Record ∷ Cause.RecordDue
    ∷ Cause.InitialRange ∷ Cause.NoneAdmitted ∷ []

-- G's first line
abbrev G-line : String
G-line = "010008080405010303DF"

-- The report on a line is the text.
abbrev Reports : String → String → Type 0
Reports line text = report_of (ascii line) ≡ text_of (ascii text)

-- Line n of G's set as it is filled
abbrev Line-of-G : ℕ → String → Type 0
Line-of-G n line = line_at G (initial_entries G) (offset_entries G) n ≡ ascii line

-- The check of G's set with initial entry 0 changed
abbrev check-with : ℕ → Result Finding Cause
check-with entry = check_answer G (set (initial_entries G) 0 entry) (offset_entries G)

-- Its five counts
abbrev counts_with : ℕ → Result Counts Cause
counts_with entry = count_answer G (set (initial_entries G) 0 entry) (offset_entries G)

abbrev five : ℕ → ℕ → ℕ → ℕ → ℕ → Result Counts Cause
five outside nearest faithful low high =
    Ok (record { outside = outside; nearest = nearest; faithful = faithful; low = low; high = high })

-- Record n of G's set as it is filled
abbrev Record-of-G : ℕ → String → Type 0
Record-of-G n text = set_record G (initial_entries G) (offset_entries G) n ≡ ascii text

-- Its records 0 and 1, and the end record
abbrev G-record-0 : String
G-record-0 = ":10000000000FD2000F59000EE7000E7B000E160005"

abbrev G-record-1 : String
G-record-1 = ":100010000DB6000D5B000D04000CB2000C64000C6A"

abbrev end-record : String
end-record = ":00000001FF"

-- A state of a reading of records
abbrev held : ℕ → ℕ → ℕ → HexReading
held taken first second = record { taken = taken; first = first; second = second }

-- A reading of G's records into tables of zeros, and what it answers to a record
abbrev into-zeros : HexReading → HexSession
into-zeros state = hex_session state (replicate 32 0) (replicate 64 (pos 0))

abbrev number-on : HexReading → String → ℕ
number-on state text = verdict_number (hex_verdict_on G (into-zeros state) (ascii text))

-- The reading after G's first record and after the first two, of which none was taken before
abbrev after_one : HexSession
after_one = hex_after G (into-zeros (held 0 0 0)) (ascii G-record-0)

abbrev after_two : HexSession
after_two = hex_after G after_one (ascii G-record-1)

-- and after record 6, with six taken before it
abbrev after-seven : HexSession
after-seven = hex_after G (into-zeros (held 6 0 0)) (ascii ":10006000000032000023000015000007FFFFF8FF2A")

-- Record n of G's set with initial entry 5 changed to 2^24, for a record buffer of length 43. Its bytes, 15 to 17 of the set, lie in the
-- records 0 and 1.
abbrev entry-5-changed : ℕ → Result ℕ Cause
entry-5-changed n = hex_write_answer G (set (initial_entries G) 5 (2 ^ 24)) (offset_entries G) n 43

-- Line n of G's set with initial entry 0 changed, for a line buffer of this length
abbrev entry-0-changed : ℕ → ℕ → ℕ → Result ℕ Cause
entry-0-changed entry n buffer = write_answer G (set (initial_entries G) 0 entry) (offset_entries G) n buffer

-- Record 0 with this entry as 16384
abbrev G-record-0-over : String
G-record-0-over = ":10000000004000000F59000EE7000E7B000E1600A6"

-- A state of a reading
abbrev at : Design → ℕ → Reading
at design taken = record { design = design; taken = taken }

-- G with another pair at m, and a design of a kind that there is not
abbrev behind-m : Design
behind-m = record { kind = 0; w = 8; q = 8; g = 4; alpha = 5; m = 1; pairs = pair 3 3 ∷ pair 9 9 ∷ pair 0 0 ∷ pair 0 0 ∷ [] }

abbrev no_kind : Design
no_kind = record { kind = 9; w = 8; q = 8; g = 4; alpha = 5; m = 1; pairs = pair 3 3 ∷ pair 0 0 ∷ pair 0 0 ∷ pair 0 0 ∷ [] }

-- What a reading of G's lines with so many taken answers to a line: into tables of zeros, and into tables of no entries
abbrev number-in : ℕ → String → ℕ
number-in taken line =
    verdict_number (verdict_on (session (record { design = G; taken = taken }) (replicate 32 0) (replicate 64 (pos 0))) (ascii line))

abbrev number-in-none : ℕ → String → ℕ
number-in-none taken line = verdict_number (verdict_on (session (record { design = G; taken = taken }) [] []) (ascii line))

pub record Worked : Type 0 where
  -- Every cause's number
  pub numbers : map number_of causes
      ≡ 1 ∷ 2 ∷ 3 ∷ 4 ∷ 5 ∷ 6 ∷ 7 ∷ 8 ∷ 9 ∷ 10 ∷ 11 ∷ 12 ∷ 13 ∷ 14 ∷ 15 ∷ 16 ∷ 17 ∷ 18 ∷ 19 ∷ 20 ∷ 21 ∷ 22 ∷ 23 ∷ 24 ∷ []
  -- L for g 4, q 8, w 8: kind 2, x 0, and kind 3, x 255
  pub other-kinds : (value_of 2 8 8 4 0 ≡ value-is 5792 false) × (value_of 3 8 8 4 255 ≡ value-is 2899 false)
  -- Document 02, A7: whole values, at x = 0 of kinds 0, 1 and 3, and elsewhere: the roots of 100/64 and 2·72/64 are 1.25 and 1.5
  pub whole-values : (map (λ kind. value_of kind 8 8 4 0) (0 ∷ 1 ∷ 3 ∷ []) ≡ value-is 4096 true ∷ value-is 4096 true ∷ value-is 4096 true ∷ [])
      × (value_of 1 6 6 4 36 ≡ value-is 1280 true) × (value_of 2 6 6 4 8 ≡ value-is 1536 true)
  -- "Hi takes L(s) in place of L(s)+1" where the value is whole, at x = 0 of kind 0 and at x = 36 of kind 1, and not at x = 0 of kind 4:
  -- floor(4096·65536 / 256) + 1, floor(1280·65536 / 200) + 1, floor(2897·65536 / 512) + 1
  pub whole-slopes : (hi (row_of 0) 8 12 256 ≡ 1048577) × (hi (row_of 1) 6 10 100 ≡ 419431) × (hi (row_of 4) 8 12 256 ≡ 370817)
  -- Offsets that it brings nearer to 0: kind 0, w 9, q 6, g 3, alpha 4, (3,5) has 13, 12 .. -13, -14 for segment 0
  pub nearer-offsets : map (offset_at long-segments 0 0) (0 ∷ 1 ∷ 30 ∷ 31 ∷ []) ≡ pos 13 ∷ pos 12 ∷ negsuc 12 ∷ negsuc 13 ∷ []
  -- ".. and the check's verdict on them is the same": the set as it was filled before, with 13 and -14 there
  pub still-faithful : check_answer long-segments (initial_entries long-segments)
      (set (set (offset_entries long-segments) 1 (pos 13)) 30 (negsuc 13))
      ≡ Ok None
  -- A design that it admits: kind 0, w 7, q 6, g 4, alpha 3, (3,1), (3,3)
  pub now-admitted : Reports "0100070604030203010303DF" "BUDGET 2091668 LIMIT 2097152 BITS 592 ADMITTED\n"
  -- 2 before 3: w 5 with q 5
  pub w-before-q : value_of 0 5 5 4 0 ≡ Err Cause.InputWidth
  -- alpha 13 passes, and so do w 16, q 16, q+g 20 and a+b 12
  pub widest-legal : design_verdict widest ≡ (Ok tt)
  -- (m+2)·2^17 in the budget of two tables
  pub two-tables-budget : budget_answer two-tables ≡ Ok 1318223
  -- and in their report
  pub two-tables-report : Reports "0104080804040204020302D6" "BUDGET 1318223 LIMIT 2097152 BITS 736 ADMITTED\n"
  -- The report of document 01's example, with the budget of document 02, A7
  pub admitted : Reports G-line "BUDGET 1894163 LIMIT 2097152 BITS 896 ADMITTED\n"
  -- The report on G with (2,3): "the report prints `BITS 0`"
  pub not-admitted : Reports "010008080405010203E0" "BUDGET 3006246 LIMIT 2097152 BITS 0 NOT ADMITTED\n"
  -- "two's complement range": 7 bits hold 63 and -64, and neither 64 nor -65; 1 bit holds 0 and -1
  pub ranges : (map (holds 7) (pos 63 ∷ pos 64 ∷ negsuc 63 ∷ negsuc 64 ∷ []) ≡ true ∷ false ∷ true ∷ false ∷ [])
      × (map (holds 1) (pos 0 ∷ pos 1 ∷ negsuc 0 ∷ negsuc 1 ∷ []) ≡ true ∷ false ∷ true ∷ false ∷ [])
  -- "G then has 896 bits": 32·14 + 64·7
  pub size-of-G : size_answer G ≡ Ok 896
  -- "each table at its own width": 32·15 + 8·5 + 16·6 + 16·7, "728 bits"; a root, 16·14 + 4·3 + 4·4 + 8·7, "308 bits"
  pub own-widths : (size_answer three-tables ≡ Ok 728) × (map (offset_bits three-tables) (0 ∷ 1 ∷ 2 ∷ []) ≡ 5 ∷ 6 ∷ 7 ∷ [])
  pub root-widths : (size_answer root-tables ≡ Ok 308) × (map (offset_bits root-tables) (0 ∷ 1 ∷ 2 ∷ []) ≡ 3 ∷ 4 ∷ 7 ∷ [])
  -- "at least 1": offsets that are all 0 or -1, 8·11 + 4·1 + 4·2 + 8·5
  pub one_bit : (size_answer narrow-tables ≡ Ok 140) × (map (offset_bits narrow-tables) (0 ∷ 1 ∷ 2 ∷ []) ≡ 1 ∷ 2 ∷ 5 ∷ [])
  -- "the size call refuses the others with 11, after 9": G with (2,3); with (2,4), whose budget is over the limit, too, and whose b_0 is not 3, 9
  pub size-refused : (size_answer (G-with 4 2 3) ≡ Err Cause.NotAdmitted)
      × (within_limit (G-with 4 2 4) ≡ false) × (size_answer (G-with 4 2 4) ≡ Err Cause.CutSum)
  -- 15: an empty line, one digit too many, lower case, a wrong sum, 34 digits
  pub unsound : map (λ line. report_of (ascii line))
      ("" ∷ "010008080405010303DF0" ∷ "010008080405010303df" ∷ "010008080405010303DE" ∷ "0000000000000000000000000000000000" ∷ [])
      ≡ replicate 5 (text_of (ascii "REFUSED 15\n"))
  -- 16: one pair for m 2
  pub too-short-for-m : Reports "010008080405020303DE" "REFUSED 16\n"
  -- 1 before 2: kind 5 with w 5
  pub kind-first : Reports "010505080405010303DD" "REFUSED 1\n"
  -- 6: m 0
  pub no_table : Reports "01000808040500E6" "REFUSED 6\n"
  -- 7 on all tables before 8: (3,9), (6,1) for alpha 5
  pub seven-before-eight : Reports "0100080804050203090601D1" "REFUSED 7\n"
  -- G's lines: the design
  pub line-0 : Line-of-G 0 G-line
  -- initial entry 0
  pub line-1 : Line-of-G 1 "020000000FD21D"
  -- offset 0
  pub line-33 : Line-of-G 33 "03000000000032CB"
  -- offset 7, a negative one
  pub line-40 : Line-of-G 40 "03000007FFFFCD2B"
  -- the number of frames before the last
  pub line-97 : Line-of-G 97 "0400619B"
  -- The largest T that a legal design has, at the first word of a segment and at its last: one sign and the other
  pub largest-t : (magnitude_at largest-offsets 0 0 255 ≡ 107124) × (offset_at largest-offsets 0 0 0 ≡ pos 107124)
      × (offset_at largest-offsets 0 0 255 ≡ negsuc 107124)
  -- Signs below 0 and above it, where the function falls and where it rises
  pub signs : (map (λ B. sign_of false (odd_number 3 B)) (0 ∷ 3 ∷ 4 ∷ 7 ∷ []) ≡ 0 ∷ 0 ∷ 1 ∷ 1 ∷ [])
      × (map (λ B. sign_of true (odd_number 3 B)) (0 ∷ 3 ∷ 4 ∷ 7 ∷ []) ≡ 1 ∷ 1 ∷ 0 ∷ 0 ∷ [])
  -- Zeros behind m from an 01 line, not the sum byte that follows its pair, nor what stood there before
  pub zeros-behind-m : read_answer
      (session (record { design = two-tables; taken = 0 }) (replicate 32 0) (replicate 64 (pos 0)))
      (ascii G-line)
      ≡ record { verdict = (Ok tt); state = record { design = G; taken = 1 } }
  -- 18 before 14: an initial entry of 2^24 for a line buffer of length 0
  pub width-before-room : write_answer G (2 ^ 24 ∷ initial_entries G) (offset_entries G) 1 0 ≡ Err Cause.EntryWidth
  -- 14 before 12, and its place is 0: two words, the second too great, for an output of length 1
  pub room-before-words : batch_answer G (initial_entries G) (offset_entries G) (0 ∷ 256 ∷ []) 1 ≡ refused_at 0 Cause.OutputShort
  -- the same with room for both: 12, at place 1
  pub second_word : batch_answer G (initial_entries G) (offset_entries G) (0 ∷ 256 ∷ []) 2 ≡ refused_at 1 Cause.WordRange
  -- "initial 0 changed to 4046: faithful": at x 0 Y is 4096, the word 256
  pub just-faithful : check-with 4046 ≡ Ok None
  -- "to 4045: word 0 is named": Y is 4095, the word 255, exactly one unit from 256
  pub one-unit-off : check-with 4045 ≡ Ok (Some 0)
  -- Document 02, A1. The five counts of G's set as it is filled, and with initial entry 0 changed to 4045: word 0 is too low then.
  pub counts : counts_with 4050 ≡ five 0 239 17 0 0
  pub one-too-low : counts_with 4045 ≡ five 0 238 17 1 0
  -- With initial entry 0 changed to 8 and offset 0 to 70 each class has some: inputs 5 to 7 are out of range, 0 to 4 too low (3 and 4 with
  -- a word 0), 16 and 24 too high.
  pub all-classes : count_answer G (set (initial_entries G) 0 8) (set (offset_entries G) 0 (pos 70)) ≡ five 3 228 18 5 2
  -- At x 0 of G the exact value is 256 output units: sums of -4100, whose size would give the word 256, and of 2^14 are out of range, the
  -- words 0 and 255 too low, 256 nearest and 257 too high.
  pub classes : map (class_of G 0) (negsuc 4099 ∷ pos 0 ∷ pos 4095 ∷ pos 4096 ∷ pos 4112 ∷ pos (2 ^ 14) ∷ [])
      ≡ Class.Outside ∷ Class.Low ∷ Class.Low ∷ Class.Nearest ∷ Class.High ∷ Class.Outside ∷ []
  -- At x 1 it is 65536 / 257, a little more than 255: 256 is faithful and not nearest.
  pub only-just : class_of G 1 (pos 4096) ≡ Class.Faithful
  -- An exact half: kind 1, w 14, q 6, x 257 has 64.5, so that 64 and 65 are both nearest, 63 is too low, and 66 is
  -- none of these.
  pub half : (map (is_nearest (row_of 1) 14 6 (2 ^ 14 + 257)) (63 ∷ 64 ∷ 65 ∷ 66 ∷ []) ≡ false ∷ true ∷ true ∷ false ∷ [])
      × (map (is_faithful (row_of 1) 14 6 (2 ^ 14 + 257)) (63 ∷ 64 ∷ 65 ∷ 66 ∷ []) ≡ false ∷ true ∷ true ∷ false ∷ [])
      × (map (is_too_low (row_of 1) 14 6 (2 ^ 14 + 257)) (63 ∷ 64 ∷ 65 ∷ 66 ∷ []) ≡ true ∷ false ∷ false ∷ false ∷ [])
  -- Document 02, A2. The 96 entries of G take 288 bytes, which are 18 data records; with the end record there are 19.
  pub record-count : record_count (byte_count G) ≡ 19
  -- The first, five initial entries and the first byte of the next
  pub record-0 : Record-of-G 0 G-record-0
  -- the second, the other two bytes of that entry, four entries and two bytes of the next
  pub record-1 : Record-of-G 1 G-record-1
  -- the last data record, with offsets in two's complement
  pub record-17 : Record-of-G 17 ":1001100006000002FFFFFDFFFFF9FFFFF5FFFFF103"
  -- the end record
  pub record-18 : Record-of-G 18 end-record
  -- "the last one shorter where fewer are left": twenty entries take 60 bytes, record 3 has the last 12, here of offsets that are -1.
  pub shorter-last : set_record twenty (replicate 4 0) (replicate 16 (negsuc 0)) 3 ≡ ascii ":0C003000FFFFFFFFFFFFFFFFFFFFFFFFD0"
  -- "The reading state is the number of records taken and two bytes, which .. hold the start of an entry cut by a record's end; unused ones
  -- are 0": after one record, and after two
  pub states : (after_one.state ≡ held 1 0 0) × (after_two.state ≡ held 2 0 12)
  -- "such an entry is stored when its third byte comes": entry 5 with the second record, entry 10 not yet
  pub stored : (take 6 after_one.initial ≡ 4050 ∷ 3929 ∷ 3815 ∷ 3707 ∷ 3606 ∷ 0 ∷ [])
      × (take 11 after_two.initial
      ≡ 4050 ∷ 3929 ∷ 3815 ∷ 3707 ∷ 3606 ∷ 3510 ∷ 3419 ∷ 3332 ∷ 3250 ∷ 3172 ∷ 0 ∷ [])
  -- An offset cut by a record's end: record 6 has the offsets 50, 35, 21, 7, -8 and a first byte of 255.
  pub stored-offsets : (after-seven.state ≡ held 7 255 0)
      × (take 6 after-seven.offsets ≡ pos 50 ∷ pos 35 ∷ pos 21 ∷ pos 7 ∷ negsuc 7 ∷ pos 0 ∷ [])
  -- 21: record 0 without its colon, with a semicolon in its place, with a lower case digit, with another sum, with a digit behind it, with
  -- a byte 0 more and one less than its length byte says, and an empty text
  pub unsound-records : map (number-on (held 0 0 0))
      ("10000000000FD2000F59000EE7000E7B000E160005" ∷ ";10000000000FD2000F59000EE7000E7B000E160005"
      ∷ ":10000000000fD2000F59000EE7000E7B000E160005" ∷ ":10000000000FD2000F59000EE7000E7B000E160006"
      ∷ ":10000000000FD2000F59000EE7000E7B000E1600050" ∷ ":10000000000FD2000F59000EE7000E7B000E16000005"
      ∷ ":10000000000FD2000F59000EE7000E7B000E1605" ∷ "" ∷ [])
      ≡ replicate 8 21
  -- 22: record 0 at address 16, of 15 bytes, and of type 01, each with the right sum; and the end record with data due
  pub not-due : map (number-on (held 0 0 0))
      (":10001000000FD2000F59000EE7000E7B000E1600F5" ∷ ":0F000000000FD2000F59000EE7000E7B000E1606"
      ∷ ":10000001000FD2000F59000EE7000E7B000E160004" ∷ end-record ∷ [])
      ≡ replicate 4 22
  -- "A state with more records than the set has, or an unused byte not 0, is not possible": 17 for an empty text. It is 21 where the bytes
  -- that are not 0 are used, and with all 19 records taken.
  pub impossible : map (λ state. number-on state "")
      (held 0 7 0 ∷ held 0 0 7 ∷ held 1 0 7 ∷ held 3 7 0 ∷ held 19 0 7 ∷ held 20 0 0 ∷ held 1 7 0 ∷ held 2 7 7 ∷ held 19 0 0 ∷ [])
      ≡ 17 ∷ 17 ∷ 17 ∷ 17 ∷ 17 ∷ 17 ∷ 21 ∷ 21 ∷ 21 ∷ []
  -- The end record is taken once: with all records taken, none is due.
  pub end-once : (number-on (held 18 0 0) end-record ≡ 0) × (number-on (held 19 0 0) end-record ≡ 22)
  -- "18 for any entry with a byte in the record": both records that hold entry 5, and no other
  pub both_halves : map entry-5-changed (0 ∷ 1 ∷ 2 ∷ [])
      ≡ Err Cause.EntryWidth ∷ Err Cause.EntryWidth ∷ Ok 43 ∷ []
  -- 19 before 14: record 19 for a record buffer of length 0; and 14 for record 18, which has 11 characters, and a buffer of 10
  pub number-before-room : (hex_write_answer G (initial_entries G) (offset_entries G) 19 0 ≡ Err Cause.LineNumber)
      × (hex_write_answer G (initial_entries G) (offset_entries G) 18 10 ≡ Err Cause.OutputShort)
      × (hex_write_answer G (initial_entries G) (offset_entries G) 18 11 ≡ Ok 11)
  -- Document 02, A4: G's limit is 2^14. 16383 is written, 16384 and 2^24 - 1 are refused with 23, and 2^24 with 18, which is tried before;
  -- 23 is tried before 14 and after 10.
  pub limit-written : (map (λ entry. entry-0-changed entry 1 14) (16383 ∷ 16384 ∷ 16777215 ∷ 16777216 ∷ [])
      ≡ Ok 14 ∷ Err Cause.InitialRange ∷ Err Cause.InitialRange ∷ Err Cause.EntryWidth ∷ [])
      × (entry-0-changed 16384 1 0 ≡ Err Cause.InitialRange)
      × (write_answer G (set (initial_entries G) 0 16384) [] 1 14 ≡ Err Cause.TablesShort)
  -- The other lines of such a set are given, and an offset of 16384 is
  pub other-lines : (map (λ n. entry-0-changed 16384 n 20) (0 ∷ 2 ∷ 33 ∷ [])
      ≡ Ok 20 ∷ Ok 14 ∷ Ok 16 ∷ [])
      × (write_answer G (initial_entries G) (set (offset_entries G) 0 (pos 16384)) 33 16 ≡ Ok 16)
  -- The reader, with one line taken: 16383 is taken, 16384 refused with 23, and with 16 at another index; an offset of 16384 is taken
  pub limit-read : (map (number-in 1) ("020000003FFFC0" ∷ "020000004000BE" ∷ "020001004000BD" ∷ []) ≡ 0 ∷ 23 ∷ 16 ∷ [])
      × (number-in 33 "03000000004000BD" ≡ 0)
  -- 23 before 10: into tables that are too short
  pub limit-before-tables : map (number-in-none 1) ("020000003FFFC0" ∷ "020000004000BE" ∷ []) ≡ 10 ∷ 23 ∷ []
  -- "the Intel HEX records still carry it": written, and read
  pub still-carried : (hex_write_answer G (set (initial_entries G) 0 16384) (offset_entries G) 0 43 ≡ Ok 43)
      × (set_record G (set (initial_entries G) 0 16384) (offset_entries G) 0 ≡ ascii G-record-0-over)
      × (number-on (held 0 0 0) G-record-0-over ≡ 0)
      × (take 2 (hex_after G (into-zeros (held 0 0 0)) (ascii G-record-0-over)).initial ≡ 16384 ∷ 3929 ∷ [])
  -- An empty line with none, 1, 97 and all 98 of G's lines taken, and with one more than there are
  pub empty-lines : map (λ taken. number-in taken "") (0 ∷ 1 ∷ 97 ∷ 98 ∷ 99 ∷ []) ≡ 0 ∷ 16 ∷ 16 ∷ 0 ∷ 17 ∷ []
  -- Tables of no entries are no fault there, and neither is a design that is not legal, with no line taken: it stands
  pub empty-untried : (map (λ taken. number-in-none taken "") (0 ∷ 1 ∷ 98 ∷ []) ≡ 0 ∷ 16 ∷ 0 ∷ [])
      × (read_answer (session (at no_kind 0) [] []) [] ≡ record { verdict = (Ok tt); state = at no_kind 0 })
  -- After a finished set the design stands as it came, pairs beyond m too, and no line is taken
  pub empty-after-set : read_answer (session (at behind-m 98) [] []) [] ≡ record { verdict = (Ok tt); state = at behind-m 0 }
  -- A carriage return is no empty line, and the next set's first line is not due before one
  pub not-empty : (verdict_number (verdict_on (session (at G 98) [] []) (13 ∷ [])) ≡ 15) × (number-in 98 G-line ≡ 16)
  -- Input words in decimal: leading zeros, and the greatest
  pub decimal-words : map (λ line. word_in (ascii line)) ("007" ∷ "4294967295" ∷ []) ≡ Some 7 ∷ Some 4294967295 ∷ []
  -- No input words: an empty line, the character before 0, the one after 9, 2^32
  pub no_words : map (λ line. word_in (ascii line)) ("" ∷ "/" ∷ "7:" ∷ "4294967296" ∷ []) ≡ replicate 4 None

pub worked : Worked
unfolding
    calls-opened Hex.digit_value Hex.all_digits Hex.bytes_of Lists.total Line.sum_fails Line.text_fails Line.digits_fail Line.line_fails
    Line.line_checks
    DesignFrame.frame_fails DesignFrame.frame_checks DesignFrame.frame_pair DesignFrame.frame_design DesignFrame.first_checks
    DesignText.design_line_verdict
    Bytes.big_endian Bytes.complement Bytes.fits
    Encode.digit_of Encode.hex_of Encode.sum_byte Encode.with_sum Encode.line_of DesignBytes.pair_bytes DesignBytes.design_bytes
    Slots.line_count Slots.table_of Slots.offset_slot Slots.slot_of Lines.frame_head Lines.entry_width Lines.entry_number Lines.entry_fits
    Lines.entry_over Lines.frame_of Lines.line_at Write.number_check Write.entry_checks Write.asked_checks Write.write_verdict Write.write_answer
    ReadLine.possible ReadLine.state_check ReadLine.finished ReadLine.between ReadLine.empty_check ReadLine.design_after ReadLine.later_fails ReadLine.entry_in ReadLine.later_checks
    ReadLine.due_checks ReadLine.read_verdict ReadLine.verdict_on ReadLine.after ReadLine.read_answer
    ReadLine.begins ReadLine.head_fails Bytes.number_in Bytes.from_complement Bytes.fits_signed
    IntelHex.data_count IntelHex.record_count IntelHex.bytes_before IntelHex.length_at IntelHex.head_of IntelHex.record_head IntelHex.record_text
    IntelHex.data_in IntelHex.record_of SetBytes.entry_count SetBytes.byte_count SetBytes.entry_at SetBytes.entry_fits SetBytes.bytes_below
    SetBytes.set_bytes SetBytes.set_record SetBytes.bytes_check SetBytes.record_set_checks
    Record.size_fails Record.record_fails Record.record_check
    WriteRecord.hex_number_check WriteRecord.has_byte_in WriteRecord.record_fits WriteRecord.hex_write_verdict WriteRecord.hex_write_answer
    ReadRecord.held_count ReadRecord.unused_fail ReadRecord.hex_possible ReadRecord.hex_state_check ReadRecord.record_due_check
    ReadRecord.hex_checks ReadRecord.hex_verdict_on ReadRecord.data_of ReadRecord.stream ReadRecord.holding ReadRecord.hex_after
    Storing.stored_at Storing.stored_from Storing.cut_bytes
    Words.decimal_within Words.decimal Words.text_of Report.line_text Report.design_text Report.refused_text Report.report_of
    Decimal.all_decimal Decimal.is_decimal Decimal.decimal_number Decimal.word_in
worked =
    record {
      numbers = refl;
      other-kinds = (refl, refl);
      whole-values = (refl, refl, refl);
      whole-slopes = (refl, refl, refl);
      nearer-offsets = refl;
      still-faithful = refl;
      now-admitted = refl;
      w-before-q = refl;
      widest-legal = refl;
      two-tables-budget = refl;
      two-tables-report = refl;
      admitted = refl;
      not-admitted = refl;
      ranges = (refl, refl);
      size-of-G = refl;
      own-widths = (refl, refl);
      root-widths = (refl, refl);
      one_bit = (refl, refl);
      size-refused = (refl, refl, refl);
      unsound = refl;
      too-short-for-m = refl;
      kind-first = refl;
      no_table = refl;
      seven-before-eight = refl;
      line-0 = refl;
      line-1 = refl;
      line-33 = refl;
      line-40 = refl;
      line-97 = refl;
      largest-t = (refl, refl, refl);
      signs = (refl, refl);
      zeros-behind-m = refl;
      width-before-room = refl;
      room-before-words = refl;
      second_word = refl;
      just-faithful = refl;
      one-unit-off = refl;
      counts = refl;
      one-too-low = refl;
      all-classes = refl;
      classes = refl;
      only-just = refl;
      half = (refl, refl, refl);
      record-count = refl;
      record-0 = refl;
      record-1 = refl;
      record-17 = refl;
      record-18 = refl;
      shorter-last = refl;
      states = (refl, refl);
      stored = (refl, refl);
      stored-offsets = (refl, refl);
      unsound-records = refl;
      not-due = refl;
      impossible = refl;
      end-once = (refl, refl);
      both_halves = refl;
      number-before-room = (refl, refl, refl);
      limit-written = (refl, refl, refl);
      other-lines = (refl, refl);
      limit-read = (refl, refl);
      limit-before-tables = refl;
      still-carried = (refl, refl, refl, refl);
      empty-lines = refl;
      empty-untried = (refl, refl);
      empty-after-set = refl;
      not-empty = (refl, refl);
      decimal-words = refl;
      no_words = refl;
    }
