-- `entries::offset_of` meets its contract: |j| is at most 2^b, so the product and T are small. What the entry means is
-- a law of its definition.
use mathlib.Core.Path.{◌≡◌, ap, ap₂, ◌∙◌}
use Prim.Native.Nat.{◌≤◌, ◌^◌}
use native.Mathlib.Omega.{arith}
use lib.IntN.{pos}
use mir.Syntax.{w32}
use mir.Val.{to_z, of_z}
use mir.ValLaws.{to_z-of_z}
use Rattle.entries.specs.Entries.{odd_number, magnitude, offset_of}
use Rattle.entries.specs.Inputs.{WordInput}
use Rattle.entries.specs.Signs.{entry_by}
use Rattle.entries.proofs.EntryBounds.{odd-small, product_small, magnitude-small}
use Rattle.entries.proofs.MeaningLaws.{offset-means}
use Rattle.entries.proofs.SignLaws.{sign_small, signed_by}
use Rattle.entries.proofs.offset_of.Goals as goal
use Rattle.entries.proofs.offset_of.Goals.{After-absolute-size, After-magnitude_of-t, After-with_sign, Start}

-- T, and the result as its bits are read
t-is : (c : After-magnitude_of-t) → let a = c.args in
    c.magnitude_of-t.result ≡ magnitude a.slopes a.p (odd_number a.b a.word)
unfolding magnitude
t-is c =
    let a = c.args in
    c.magnitude_of-t.ensures ∙ ap (λ n. magnitude a.slopes a.p (pos n)) c.absolute-size.ensures

offset-is : (c : After-with_sign) → let a = c.args in
    to_z w32 (of_z w32 c.with_sign.result) ≡ offset_of a.slopes a.b a.p a.rising a.word
unfolding offset_of
offset-is c =
    to_z-of_z w32 _ (record { sfits = c.with_sign.type_inv }) ∙ c.with_sign.ensures
    ∙ ap₂ entry_by c.sign_of.ensures (t-is c.before.before) ∙ signed_by _ _ _

pub returns : goal.returns
returns c =
    let start = c.before.before.before.before in
    record { value = offset-is c; meaning = rw (offset-is c) (offset-means _ _ _ _ _ start.requires.offset_input.slopes-low start.requires.offset_input.b-low start.requires.word_bound) }

word-input : (c : Start) → WordInput c.args.b c.args.word
word-input c = record { b-low = c.requires.offset_input.b-low; b-small = omega (arith, c.requires.offset_input.bits); B-lt = c.requires.word_bound }

pub absolute-size-requires : goal.absolute-size-requires
absolute-size-requires c = word-input c

pub sign_of-requires : goal.sign_of-requires
sign_of-requires c = word-input c.before.before

-- |j| is at most 2^b
size-le : (c : After-absolute-size) → c.absolute-size.result ≤ 2 ^ c.args.b
size-le c = rw c.absolute-size.ensures (odd-small _ _ c.requires.word_bound)

pub magnitude_of-t-requires : goal.magnitude_of-t-requires
magnitude_of-t-requires c =
    let fit = c.requires.offset_input in
    (product_small _ _ _ _ fit.small (size-le c), omega (arith, fit.bits))

pub with_sign-requires : goal.with_sign-requires
with_sign-requires c =
    let p = c.before in (
      rw c.sign_of.ensures (sign_small _ _),
      rw (t-is c.before) (magnitude-small _ _ _ _ p.requires.offset_input.small p.requires.word_bound),
    )
