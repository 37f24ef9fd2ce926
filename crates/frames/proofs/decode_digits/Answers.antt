-- `frames::decode_digits` meets its contract: the loop keeps `BytesRead`, and each way out cites a law that refuses or accepts the digits.
use mathlib.Core.Path.{ap, refl, ◌∙◌}
use mathlib.Core.List.{List}
use Prim.Native.Nat.{ℕ}
use Rattle.std.specs.Prelude.{Some}
use mathlib.Core.Logic.{inl, inr}
use native.Mathlib.Omega.{arith}
use Rattle.frames.specs.declared.Decoded.{Decoded}
use Rattle.frames.proofs.HexLaws.{two-digits}
use Rattle.frames.proofs.Decoding.{start, step, step-full, broken, sum-wrong, finished}
use Rattle.frames.proofs.decode_digits.Goals as goal
use Rattle.frames.proofs.decode_digits.Goals.{
  Else-low-ge16,
  else-i-lt-CAPACITY,
  then-high-ge16-via-else-high-ge16+then-low-ge16,
  then-high-ge16-via-then-high-ge16,
  then-i-lt-CAPACITY,
}

-- what is kept, by its parts
abbrev kept : List ℕ → ℕ → Decoded
kept bytes count = record { bytes = bytes; count = count }

pub loop-i-init : goal.loop-i-init
loop-i-init c =
    let items = c.enumerate-i-items.ensures in
    let chunks = c.chunks_exact.ensures in
    rw (c.into_iter-i-iterator.ensures.into_iter_gives, items.source, items.count)
    (record { two = chunks.size; so_far = start _ chunks.rest c.requires; count = refl })

pub returns-then-high-ge16 : goal.returns-then-high-ge16
returns-then-high-ge16 c =
    let from = c.in-Some.ensures.steps.0.1 in
    let pair = two-digits c.in-Some.pair.now from.0 (from.1 ∙ c.loop-i.invariant.two) c.digit-high.ensures c.digit-low.ensures in
    broken c.loop-i.invariant.so_far pair
    (elim c.then-high-ge16.branch [ then-high-ge16-via-then-high-ge16 w ↦ inl w.if-high-ge16.true | then-high-ge16-via-else-high-ge16+then-low-ge16 w ↦ inr w.if-low-ge16.true ])

-- A turn keeps the invariant, whether it stores its byte or has no more room for it.
pub loop-i-preserved : goal.loop-i-preserved
loop-i-preserved c =
    let steps = c.in-Some.ensures.steps in
    let from = steps.0.1 in
    let pair = two-digits c.in-Some.pair.now from.0 (from.1 ∙ c.loop-i.invariant.two) c.digit-high.ensures c.digit-low.ensures in
    let so_far = c.loop-i.invariant.so_far in
    let high = c.if-high-ge16.false in
    let low = c.if-low-ge16.false in
    record {
      two = steps.0.0 ∙ c.loop-i.invariant.two;
      so_far =
          rw steps.2
          (elim c.if-i-lt-CAPACITY.branch [ then-i-lt-CAPACITY w ↦ rw (w.frame-is, steps.1) (step so_far pair high low (omega (arith, w.if-i-lt-CAPACITY.true, steps.1))) | else-i-lt-CAPACITY w ↦ rw w.frame-is (step-full so_far pair high low (omega (arith, w.if-i-lt-CAPACITY.false, steps.1))) ]);
      count =
          elim c.if-i-lt-CAPACITY.branch [ then-i-lt-CAPACITY w ↦ rw w.frame-is c.loop-i.invariant.count | else-i-lt-CAPACITY w ↦ rw w.frame-is c.loop-i.invariant.count ];
    }

pub returns-then-sum-ne0 : goal.returns-then-sum-ne0
returns-then-sum-ne0 c =
    let end = c.in-None.ensures.steps.0.1.0 in
    sum-wrong c.loop-i.invariant.so_far (omega (arith, c.loop-i.invariant.two, end)) c.if-sum-ne0.true

pub returns : goal.returns
returns c =
    let end = c.in-None.ensures.steps.0.1.0 in
    let frame = c.loop-i.frame in
    ap (λ (n : ℕ). Some (kept frame.bytes n)) c.loop-i.invariant.count
    ∙ finished c.loop-i.invariant.so_far (omega (arith, c.loop-i.invariant.two, end)) c.if-sum-ne0.false
