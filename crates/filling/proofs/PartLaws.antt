-- A part of a table that is lent out and written whole: what it holds, and what the table does.
use mathlib.Core.Path.{◌≡◌, sym, ◌∙◌}
use mathlib.Core.List.{List, ◌++◌, append_assoc, append-nil}
use Prim.Native.Nat.{ℕ, ◌+◌}
use native.Mathlib.Omega.{arith}
use borrow.Rule.Slice.PartMut.{put_mid}
use lib.ListN.{length, take, drop}
use lib.Seq.{drop-drop}
use Rattle.std.proofs.lemmas.List.{drop_all}
use Rattle.general.specs.Lists.{over}
use Rattle.general.proofs.WritingLaws.{over-start}

module _ {A : Type 0} (table entries : List A) where
  -- As many entries as the table has places leave nothing of what it held.
  pub over-whole : length table ≡ length entries → over table 0 entries ≡ entries
  over-whole e = over-start table entries ∙ rw (drop_all (length entries) table (omega arith)) (append-nil entries)

  -- A part of k places from n on, with its k entries
  pub part-over : (n k : ℕ) → length entries ≡ k → put_mid n k table entries ≡ over table n entries
  unfolding over
  part-over n k e =
      rw (← e, drop-drop (length entries) n table) (sym (append_assoc (take n table) entries (drop (n + length entries) table)))

  -- and one from the start
  pub front-over : (k : ℕ) → length entries ≡ k → entries ++ drop k table ≡ over table 0 entries
  front-over k e = rw (← e) (sym (over-start table entries))
