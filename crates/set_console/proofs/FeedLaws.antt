-- What lines that are read do to a reading, one after another.
use Rattle.std.specs.Prelude.{Ok, Err}
use mathlib.Core.Path.{◌≡◌, refl, sym, ap, ◌∙◌}
use mathlib.Core.Bool.{Bool, true, false, cond}
use mathlib.Core.List.{List, [], ◌∷◌, ◌++◌, append_assoc, append-nil, map-append}
use Prim.Native.Nat.{ℕ, ◌+◌}
use native.Mathlib.Nat.{not-suc-le-zero}
use native.Mathlib.Omega.{arith}
use lib.ListN.{length, take, length-append}
use lib.Seq.{length-take-le, get_or-take}
use lib.IntN.{ℤ}
use Rattle.general.proofs.JoinedLaws.{all_weaker, all_append}
use Rattle.refusal.specs.declared.Cause.{Cause}
use Rattle.refusal.specs.Verdict.{Verdict}
use Rattle.reading.specs.declared.Reading.{Reading}
use Rattle.reading.specs.declared.Read.{Read}
use Rattle.reading.specs.ReadLine.{finished, Session, session, verdict_on, after, read_answer}
use Rattle.storage.specs.Sets.{Storable}
use Rattle.storage.specs.Feeding.{Begins, Finished, feed, accepted, finished_by, finishes}
use Rattle.storage.specs.Storage.{set_in}
use Rattle.storage.proofs.Stored.{storage}
use Rattle.storage.proofs.Feeds.{feed-append, accepted-append, finishes-append}
use Rattle.storage.proofs.Uniqueness.{refused-stands}
use Rattle.console.specs.declared.line.LineEnd.{LineEnd}
use Rattle.console.specs.declared.line.Line.{Line}
use Rattle.console.specs.Blocks.{Blocks}
use Rattle.console.specs.Reading.{Takes, NoNewline, spelled, LineRead}
use Rattle.console.proofs.TakeLaws.{takes_none, takes-more}
use Rattle.set_console.specs.declared.Came.{Came}
use Rattle.set_console.specs.Reading.{
  Outcome,
  came_of,
  came_by,
  came_on,
  lines_with,
  finished_as,
  InputLine,
  texts_of,
  input_bytes,
  refused_bytes,
  Led,
  Reached,
}

unset : (came : Outcome) (s : Session) → finished_as came s ≡ [] → came ≡ Ok Came.Set → ⊥
unset (Ok Came.Set) s none e = let z : ◌≡◌ {A = ℕ} 0 1 = cc in omega arith
unset (Ok Came.Line) s none e = let z : ◌≡◌ {A = ℕ} 0 1 = cc in omega arith
unset (Ok Came.Nothing) s none e = let z : ◌≡◌ {A = ℕ} 0 1 = cc in omega arith
unset (Err cause) s none e = let z : ◌≡◌ {A = ℕ} 0 1 = cc in omega arith

-- No line came yet, or none comes any more: the reading stands.
no_line : InputLine
no_line = record { line = []; no-newline = λ i h. absurd (not-suc-le-zero h); end = LineEnd.Input }

stands : (s : Session) (from to : Blocks) (n : ℕ) (came : Came) → finished_as (Ok came) s ≡ [] → Takes from [] to → Led s s from to n n (Ok came)
unfolding feed accepted finishes input_bytes
stands s from to n came none takes =
    record {
      lines = [];
      fed = refl;
      all-taken = refl;
      counted = omega arith;
      sets = sym none;
      complete = λ e. absurd (unset (Ok came) s none e);
      line = no_line;
      refused = λ cause e. let z : ◌≡◌ {A = ℕ} 0 1 = cc in absurd (omega arith);
      taken = takes;
      ends = tt;
    }

pub none_yet : (s : Session) (from : Blocks) (n : ℕ) → Led s s from from n n (Ok Came.Line)
none_yet s from n = stands s from from n Came.Line refl (takes_none from)

pub nothing-came : (s : Session) (from to : Blocks) (n : ℕ) → Takes from [] to → Led s s from to n n (Ok Came.Nothing)
nothing-came s from to n takes = stands s from to n Came.Nothing refl takes

-- No newline is among the bytes of a line that was read.
pub no-newlines : (line : Line) (next : Blocks) → LineRead line next → let bytes = take line.count line.bytes in NoNewline bytes (length bytes)
no-newlines line next read i h =
    let n = line.count in
    let long = length-take-le n line.bytes read.counts.0 in
    rw (get_or-take n line.bytes i 0 (omega (arith, long))) (read.no-newline i (omega (arith, long)))

-- A line came, and the reader's answer and tables are these.
module _ (state : Reading) (initial initial' : List ℕ) (offsets offsets' : List ℤ) (line : List ℕ) (read : Read) where
  abbrev s : Session
  s = session state initial offsets

  module _ (answer : read ≡ read_answer s line) (initial-is : initial' ≡ (after s line).initial)
      (offsets-is : offsets' ≡ (after s line).offsets) where
    verdict-told : {v : Verdict} → read.verdict ≡ v → verdict_on s line ≡ v
    unfolding read_answer
    verdict-told e = sym (ap (λ (r : Read). r.verdict) answer) ∙ e

    state-told : read.state ≡ (after s line).state
    unfolding read_answer
    state-told = ap (λ (r : Read). r.state) answer

    -- It was refused: the reading stands,
    pub fed-refused : (cause : Cause) → read.verdict ≡ Err cause
        → (session state initial' offsets' ≡ after s line) × (Err cause ≡ came_on s line)
    fed-refused cause e =
        let told = verdict-told e in
        let stands = refused-stands s line cause told in
        (rw (initial-is, offsets-is, stands), rw told)

    -- or taken: the reading moves on, and may be finished.
    pub fed-taken : read.verdict ≡ (Ok tt)
        → (session read.state initial' offsets' ≡ after s line) × (Ok (came_of (finished read.state)) ≡ came_on s line)
    fed-taken e = (rw (initial-is, offsets-is, state-told), rw (state-told, verdict-told e))

only-finished : (is : Bool) → came_of is ≡ Came.Set → is ≡ true
only-finished true e = refl
only-finished false e = let z : ◌≡◌ {A = ℕ} 0 1 = cc in absurd (omega arith)

-- A line that was accepted is one more.
pub one-line-more : (is : Bool) (n : ℕ) → lines_with (Ok (came_of is)) n ≡ n + 1
one-line-more true n = refl
one-line-more false n = refl

-- What a line does to a reading, and what it comes to
module _ (s : Session) (line : List ℕ) (plain : NoNewline line (length line)) (end : LineEnd) (from to : Blocks)
    (takes : Takes from (spelled end line) to) (over : end ≡ LineEnd.Input → to.ended ≡ true) where
  abbrev came-line : InputLine
  came-line = record { line = line; no-newline = plain; end = end }

  one-finish : (is : Bool) → cond is (after s line ∷ []) [] ++ [] ≡ finished_as (Ok (came_of is)) (after s line)
  one-finish true = refl
  one-finish false = refl

  led-by : (n : ℕ) (v : Verdict) (is : Bool) → verdict_on s line ≡ v → finished (after s line).state ≡ is
      → Led s (after s line) from to n (lines_with (came_by v is) n) (came_by v is)
  unfolding feed accepted finishes finished_by input_bytes
  led-by n (Ok tt) is e f =
      record {
        lines = came-line ∷ [];
        fed = refl;
        all-taken = rw e;
        counted = one-line-more is n;
        sets = rw (e, f) (one-finish is);
        complete = λ set. f ∙ only-finished is (cc);
        line = no_line;
        refused = λ cause same. let z : ◌≡◌ {A = ℕ} 0 1 = cc in absurd (omega arith);
        taken = rw (append-nil (spelled end line), append-nil (spelled end line)) takes;
        ends = (over, tt);
      }
  led-by n (Err cause) is e f =
      rw (refused-stands s line cause e)
      (record {
        lines = [];
        fed = refl;
        all-taken = refl;
        counted = omega arith;
        sets = refl;
        complete = λ set. let z : ◌≡◌ {A = ℕ} 0 1 = cc in absurd (omega arith);
        line = came-line;
        refused = λ other same. e ∙ ap Err (cc);
        taken = takes;
        ends = tt;
      })

  pub led-line : (next : Session) (n m : ℕ) (came : Outcome) → next ≡ after s line → came ≡ came_on s line → m ≡ lines_with came n
      → Led s next from to n m came
  led-line next n m came moved told counted =
      rw (moved, counted, told) (led-by n (verdict_on s line) (finished (after s line).state) refl refl)

-- One line more
bytes-append : (a b : List InputLine) → input_bytes (a ++ b) ≡ input_bytes a ++ input_bytes b
unfolding input_bytes
bytes-append [] b = refl
bytes-append (l ∷ a) b =
    ap (◌++◌ (spelled l.end l.line)) (bytes-append a b) ∙ sym (append_assoc (spelled l.end l.line) (input_bytes a) (input_bytes b))

pub led-more : (s next end : Session) (from mid to : Blocks) (n m k : ℕ) (came : Outcome) → Led s next from mid n m (Ok Came.Line)
    → Led next end mid to m k came → Led s end from to n k came
led-more s next end from mid to n m k came first rest =
    let firsts = texts_of first.lines in
    let rests = texts_of rest.lines in
    let both : texts_of (first.lines ++ rest.lines) ≡ firsts ++ rests = map-append _ first.lines rest.lines in
    let bytes = input_bytes rest.lines ++ refused_bytes came rest.line in
    record {
      lines = first.lines ++ rest.lines;
      fed = rw both (feed-append rests firsts s ∙ rw first.fed rest.fed);
      all-taken = rw both (accepted-append rests firsts s ∙ rw (first.fed, first.all-taken, rest.all-taken));
      counted = omega (arith, first.counted, rest.counted, length-append first.lines rest.lines);
      sets = rw both (finishes-append rests firsts s ∙ rw (first.sets, first.fed) rest.sets);
      complete = rest.complete;
      line = rest.line;
      refused = rest.refused;
      taken =
          rw (bytes-append first.lines rest.lines, append_assoc (input_bytes first.lines) (input_bytes rest.lines) (refused_bytes came rest.line))
          (takes-more from mid to (input_bytes first.lines) bytes (rw (append-nil (input_bytes first.lines)) at first.taken) rest.taken);
      ends =
          all_append _ first.lines rest.lines (all_weaker (λ l ended e. rest.taken.over (ended e)) first.lines first.ends) rest.ends;
    }

-- A reading that began with no line taken, and where lines lead that are fed to it
pub reached-begin : (s : Session) → Begins s → Reached s
unfolding feed
reached-begin s begins = record { start = s; begins = begins; lines = []; fed = refl }

pub reached-more : {s next : Session} {from to : Blocks} {n m : ℕ} {came : Outcome} → Reached s → Led s next from to n m came → Reached next
reached-more r led =
    record {
      start = r.start;
      begins = r.begins;
      lines = r.lines ++ texts_of led.lines;
      fed = feed-append (texts_of led.lines) r.lines r.start ∙ rw r.fed led.fed;
    }

-- A set that it is finished with can be stored.
pub reached-set : {s : Session} → Reached s → Finished s → Storable (set_in s)
reached-set r done =
    let whole = storage.unique r.start r.lines r.begins (rw r.fed done) in
    rw r.fed at whole.storable
