-- `reading::head_fails` meets its contract: after i turns the first i bytes are those that are due.
use mathlib.Core.Path.{◌≡◌, refl, ◌∙◌}
use mathlib.Core.Bool.{true, false, or-true}
use mathlib.Core.List.{List}
use Prim.Native.Nat.{ℕ, ◌+◌, ◌≤◌, ◌<◌}
use native.Mathlib.Omega.{arith}
use borrow.Author.Rules.{rules}
use borrow.Author.Tests.{eq-eqb, ne_eqb}
use lib.ListN.{length, take, get_or}
use lib.Seq.{length-take-le, get_or-take}
use Rattle.frames.specs.Line.{capacity}
use Rattle.encoding.specs.declared.Frame.{Frame}
use Rattle.reading.specs.ReadLine.{begins, head_fails}
use Rattle.reading.proofs.BeginsLaws.{begins-fewer, begins-more, begins-differs}
use Rattle.reading.proofs.head_fails.Goals as goal

-- The head that is due is the first n bytes of `due`.
module _ (n : ℕ) (due : List ℕ) (width : ℕ) (bytes : List ℕ) (count : ℕ) (short : n ≤ length due) where
  -- Another number of bytes is due;
  count-fails : (count ≡ n + width + 1 → ⊥) → true ≡ head_fails (take n due) width bytes count
  unfolding head_fails
  count-fails other = rw (length-take-le n due short, ne_eqb count (n + width + 1) other)

  -- a byte of the head is not the one due;
  byte-fails : (i : ℕ) → i < n → (get_or bytes i 0 ≡ get_or due i 0 → ⊥) → true ≡ head_fails (take n due) width bytes count
  unfolding head_fails
  byte-fails i h other = rw (begins-differs bytes due n i h (omega arith) other, or-true)

  -- the frame is the one due.
  frame-due : (i : ℕ) → n ≤ i → count ≡ n + width + 1 → begins bytes (take i due) ≡ true
      → false ≡ head_fails (take n due) width bytes count
  unfolding head_fails
  frame-due i h right e =
      rw (length-take-le n due short, eq-eqb count (n + width + 1) right, begins-fewer bytes due n i h e)

-- The head has as many bytes as it says.
module _ (head : Frame) (full : length head.bytes ≡ capacity) (fits : head.count ≤ capacity) where
  size : length (take head.count head.bytes) ≡ head.count
  size = length-take-le head.count head.bytes (omega arith)

  byte-is : (i : ℕ) → i < head.count → get_or (take head.count head.bytes) i 0 ≡ get_or head.bytes i 0
  byte-is i h = get_or-take head.count head.bytes i 0 h

pub returns-then-frame-head : goal.returns-then-frame-head
returns-then-frame-head c =
    let full : length c.args.head.now.bytes ≡ capacity = search rules in
    count-fails c.args.head.now.count c.args.head.now.bytes _ _ _ (omega arith) c.if-frame-head.true

pub loop-i-init : goal.loop-i-init
unfolding begins
loop-i-init c = refl

pub returns-then-frame-i : goal.returns-then-frame-i
returns-then-frame-i c =
    let head = c.args.head.now in
    let full : length head.bytes ≡ capacity = search rules in
    let inside : c.loop-i.i < head.count = omega (arith, size head full (omega arith), c.loop-i-test.true) in
    byte-fails head.count head.bytes _ _ _ (omega arith) c.loop-i.i inside
    (rw (byte-is head full (omega arith) c.loop-i.i inside) at c.if-frame-i.true)

pub loop-i-preserved : goal.loop-i-preserved
loop-i-preserved c =
    let head = c.args.head.now in
    let full : length head.bytes ≡ capacity = search rules in
    let whole : length c.args.frame.now.bytes ≡ capacity = search rules in
    let inside : c.loop-i.i < head.count = omega (arith, size head full (omega arith), c.loop-i-test.true) in
    begins-more _ _ c.loop-i.i (omega arith) (c.if-frame-i.false ∙ byte-is head full (omega arith) c.loop-i.i inside) c.loop-i.invariant

pub returns : goal.returns
returns c =
    let head = c.args.head.now in
    let full : length head.bytes ≡ capacity = search rules in
    frame-due head.count head.bytes _ _ _ (omega arith) c.loop-i.i (omega (arith, size head full (omega arith), c.loop-i-test.false))
    c.if-frame-head.false c.loop-i.invariant
