-- A part behind a text: what the whole is, and that the next part still fits.
use mathlib.Core.Path.{◌≡◌}
use mathlib.Core.List.{List, ◌++◌, append_assoc}
use Prim.Native.Nat.{ℕ, zero, suc, ◌+◌, ◌-◌, ◌≤◌}
use native.Mathlib.Nat.{le-add_right, sub-zero, zero-sub, suc-sub-suc, sub-add-eq}
use lib.ListN.{length, drop, replicate, length-append}
use lib.Seq.{drop-drop, take-append_seam, drop-append-add}
use borrow.Rule.Slice.PartMut.{put_mid}
use Rattle.report_text.specs.Words.{text_of}

-- The count of a text lies within its bytes.
pub text-counts : (t : List ℕ) → (text_of t).count ≤ length (text_of t).bytes
unfolding text_of
text-counts t = simp length-append (le-add_right _ _)

drop-replicate : (n m a : ℕ) → drop n (replicate m a) ≡ replicate (m - n) a
drop-replicate zero m a = rw sub-zero
drop-replicate (suc n) zero a = rw zero-sub
drop-replicate (suc n) (suc m) a = rw suc-sub-suc (drop-replicate n m a)

-- A word that was copied behind the text
pub copied_behind : (t word part : List ℕ) (k : ℕ) → part ≡ word → k ≡ length word
    → record {
      bytes = put_mid (text_of t).count k (text_of t).bytes part;
      count = (text_of t).count + length word;
    }
    ≡ text_of (t ++ word)
unfolding text_of
copied_behind t word part k e f =
    rw (e, f)
    (simp (length-append, take-append_seam, drop-drop, drop-append-add, append_assoc, drop-replicate, sub-add-eq))
