-- `records::decode_record` meets its contract: each way out cites the law that refuses or accepts the record.
use Rattle.std.specs.Prelude.{Option, ok_or}
use mathlib.Core.Path.{◌≡◌, sym, ap, ◌∙◌}
use mathlib.Core.List.{List}
use Prim.Native.Nat.{ℕ, ◌-◌}
use lib.ListN.{length, take, drop}
use native.Mathlib.Omega.{arith}
use Rattle.refusal.specs.declared.Cause.{Cause}
use Rattle.frames.specs.declared.Decoded.{Decoded}
use Rattle.frames.specs.Line.{decoded_digits}
use Rattle.records.specs.Record.{digits_in}
use Rattle.records.proofs.RecordLaws.{
  lent-digits,
  colon-refused,
  odd_refused,
  long-refused,
  digits-refused,
  count-refused,
  sound,
}
use Rattle.records.proofs.decode_record.Goals as goal
use Rattle.records.proofs.decode_record.Goals.{then-text-eq0-via-else-text-eq0+else-text-gt-LONGEST_RECORD+then-text-ne58, then-text-eq0-via-else-text-eq0+then-text-gt-LONGEST_RECORD, then-text-eq0-via-then-text-eq0}

-- what is read of the digits behind the colon, with the cause of a refusal
read : (text : List ℕ) {came other : Option Decoded} → came ≡ decoded_digits (take (length text - 1) (drop 1 text)) → came ≡ other
    → ok_or (decoded_digits (digits_in text)) Cause.Record ≡ ok_or other Cause.Record
read text is branch = ap (λ (o : Option Decoded). ok_or o Cause.Record) (sym (rw (lent-digits text) at is) ∙ branch)

pub returns-then-text-eq0 : goal.returns-then-text-eq0
returns-then-text-eq0 c =
    elim c.then-text-eq0.branch [ then-text-eq0-via-then-text-eq0 w ↦ odd_refused _ w.if-text-eq0.true | then-text-eq0-via-else-text-eq0+then-text-gt-LONGEST_RECORD w ↦ long-refused _ w.if-text-gt-LONGEST_RECORD.true | then-text-eq0-via-else-text-eq0+else-text-gt-LONGEST_RECORD+then-text-ne58 w ↦ colon-refused _ w.if-text-ne58.true ]

pub returns-in_default : goal.returns-in_default
returns-in_default c = digits-refused _ (omega (arith, c.if-text-eq0.false)) (read _ c.decode_digits.ensures c.in_default.is)

pub returns-then-decoded : goal.returns-then-decoded
returns-then-decoded c =
    count-refused _ (omega (arith, c.if-text-eq0.false)) (read _ c.decode_digits.ensures c.in-Some.is) c.if-decoded.true

pub returns : goal.returns
returns c =
    sound _ (omega (arith, c.if-text-eq0.false)) (read _ c.decode_digits.ensures c.in-Some.is) c.if-text-ne58.false c.if-decoded.false
