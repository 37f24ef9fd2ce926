-- Document 01, "What is turned down, by place", and the new numbers of document 02: the number of each cause. No other definition gives a
-- cause its number.
use Rattle.std.specs.Prelude.{ℕ}
use Rattle.refusal.specs.declared.Cause.{Cause}
use Rattle.refusal.specs.Verdict.{Verdict}
use Rattle.refusal.specs.Checks.{if_passed}

abbrev pub number_of : Cause → ℕ
number_of Cause.Kind = 1
number_of Cause.InputWidth = 2
number_of Cause.OutputWidth = 3
number_of Cause.GuardBits = 4
number_of Cause.InitialBits = 5
number_of Cause.TableCount = 6
number_of Cause.SegmentBits = 7
number_of Cause.OffsetBits = 8
number_of Cause.CutSum = 9
number_of Cause.TablesShort = 10
number_of Cause.NotAdmitted = 11
number_of Cause.WordRange = 12
number_of Cause.SumRange = 13
number_of Cause.OutputShort = 14
number_of Cause.Line = 15
number_of Cause.Frame = 16
number_of Cause.State = 17
number_of Cause.EntryWidth = 18
number_of Cause.LineNumber = 19
-- document 02, A2: "New numbers, which like all later ones join 01's table"
number_of Cause.AddressRange = 20
number_of Cause.Record = 21
number_of Cause.RecordDue = 22
-- document 02, A4
number_of Cause.InitialRange = 23
-- document 02, A5
number_of Cause.NoneAdmitted = 24

-- The number of a verdict; 0 where nothing is turned down.
abbrev pub verdict_number : Verdict → ℕ
verdict_number verdict = if_passed verdict 0 number_of
