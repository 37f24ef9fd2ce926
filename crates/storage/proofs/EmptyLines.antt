-- What an empty line does, by where it comes, and that no line changes the lengths of the tables.
use Rattle.std.specs.Prelude.{Ok, Err}
use mathlib.Core.Path.{◌≡◌, refl, ◌∙◌}
use mathlib.Core.Bool.{Bool, true, false}
use mathlib.Core.List.{List, [], ◌∷◌}
use Prim.Native.Nat.{ℕ, ◌<◌}
use lib.ListN.{length}
use Rattle.general.proofs.Tests.{both}
use Rattle.refusal.specs.declared.Cause.{Cause}
use Rattle.refusal.specs.Verdict.{Verdict}
use Rattle.refusal.specs.Checks.{verdict, if_passed}
use Rattle.frames.specs.Line.{is_empty}
use Rattle.reading.specs.ReadLine.{
  possible,
  state_check,
  finished,
  between,
  empty_check,
  none_taken,
  Session,
  session,
  moved_by,
  verdict_on,
  after,
}
use Rattle.reading.proofs.ReadLaws.{empty-verdict, first-possible, before-set, by-finish, after-set, empty-passes, empty-fails}
use Rattle.storage.specs.Feeding.{Begins, Finished, feed}
use Rattle.storage.proofs.Uniqueness.{initial-length, offsets-length, refused-stands, empty-restarts}
use Rattle.storage.proofs.Unread.{passed_over}

-- An empty line in a possible state is tried by whether the reading is between sets.
module _ (s : Session) (is-possible : possible s.state ≡ true) where
  by_state : verdict_on s [] ≡ verdict (empty_check s.state ∷ [])
  unfolding verdict_on state_check
  by_state = empty-verdict s.state (length s.initial) (length s.offsets) [] refl ∙ rw is-possible

  pub empty-taken : between s.state ≡ true → verdict_on s [] ≡ Ok tt
  empty-taken e = by_state ∙ empty-passes s.state e

  pub empty-refused : 0 < s.state.taken → finished s.state ≡ false
      → (verdict_on s [] ≡ Err Cause.Frame) × (after s [] ≡ s)
  empty-refused some e =
      let refused = by_state ∙ empty-fails s.state (by-finish s.state some ∙ e) in
      (refused, refused-stands s [] Cause.Frame refused)

pub empty-before : (s : Session) → Begins s → (verdict_on s [] ≡ Ok tt) × (after s [] ≡ s)
empty-before s none =
    (empty-taken s (first-possible s.state none) (before-set s.state none), passed_over s [] none refl)

-- The reading after that
abbrev pub restarted : Session → Session
restarted s = session (none_taken s.state) s.initial s.offsets

pub empty-behind : (s : Session) → Finished s → (verdict_on s [] ≡ Ok tt) × (after s [] ≡ restarted s)
unfolding finished
empty-behind s done =
    let passes = empty-taken s (both (possible s.state) _ done).0 (after-set s.state done) in
    (passes, empty-restarts s [] refl passes)

-- No line changes the lengths of the tables.
pub record Kept (s next : Session) : Type 0 where
  pub initial : length next.initial ≡ length s.initial
  pub offsets : length next.offsets ≡ length s.offsets

moved-kept : (s : Session) (line : List ℕ) → Kept s (moved_by s line)
moved-kept s line = go (is_empty line) refl
  where
    go : (empty : Bool) → is_empty line ≡ empty → Kept s (moved_by s line)
    go true f = rw f (record { initial = refl; offsets = refl })
    go false f = rw f (record { initial = initial-length _ _ _; offsets = offsets-length _ _ _ })

after_kept : (v : Verdict) (s : Session) (line : List ℕ) → Kept s (if_passed v (moved_by s line) (λ cause. s))
after_kept (Ok tt) s line = moved-kept s line
after_kept (Err cause) s line = record { initial = refl; offsets = refl }

pub fed-kept : (lines : List (List ℕ)) (s : Session) → Kept s (feed s lines)
unfolding feed after
fed-kept [] s = record { initial = refl; offsets = refl }
fed-kept (line ∷ lines) s =
    let first = after_kept (verdict_on s line) s line in
    let rest = fed-kept lines (after s line) in
    record { initial = rest.initial ∙ first.initial; offsets = rest.offsets ∙ first.offsets }
