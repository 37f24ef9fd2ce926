-- Records that are fed to a reading keep its state possible and its tables' lengths; so a set that is read is where its records led.
use Rattle.std.specs.Prelude.{Ok, Err}
use mathlib.Core.Path.{◌≡◌, refl, ap, ◌∙◌}
use mathlib.Core.Bool.{Bool, true, false, ◌&&◌}
use mathlib.Core.List.{List, [], ◌∷◌, ◌++◌}
use Prim.Native.Nat.{ℕ, ◌+◌, ◌≤◌}
use native.Mathlib.Omega.{arith}
use lib.ListN.{length, take, length-append}
use lib.Seq.{length-take-le}
use lib.IntN.{ℤ}
use borrow.Author.Tests.{le-leb, ne_eqb}
use Rattle.refusal.specs.Verdict.{Verdict}
use Rattle.design.specs.declared.Design.{Design}
use Rattle.design.specs.Legal.{Legal}
use Rattle.design.specs.Stored.{initial_count}
use Rattle.records.specs.IntelHex.{record_count, data_count}
use Rattle.records.specs.SetBytes.{byte_count}
use Rattle.records.specs.Record.{bytes_in}
use Rattle.records.proofs.AddressLaws.{bytes-few}
use Rattle.records.proofs.CountLaws.{before-none, before-next}
use Rattle.record_reading.specs.Storing.{initial_home, offset_home, cut_bytes}
use Rattle.record_reading.specs.ReadRecord.{
  held_count,
  unused_fail,
  hex_possible,
  hex_finished,
  HexSession,
  hex_session,
  hex_verdict_on,
  data_of,
  stream,
  holding,
  hex_after,
}
use Rattle.record_reading.proofs.StateLaws.{taken-within}
use Rattle.record_reading.proofs.StoringLaws.{cut-length, stored-length}
use Rattle.record_storage.specs.Loading.{no_record, hex_feed}
use Rattle.record_storage.specs.RecordStorage.{Recordable, loaded_in}
use Rattle.record_storage.proofs.Uniqueness.{unique}
use Rattle.record_storage.proofs.Taking.{Came, piece-data, accepted-record}
use Rattle.record_storage.proofs.AfterRecords.{cut-possible}
use Rattle.set_console.specs.Reading.{Outcome}
use Rattle.hex_console.specs.Loaded.{HexStepped, HexCame}

and-none : (b : Bool) → (b && false) ≡ false
and-none true = refl
and-none false = refl

-- A legal design's set has few records, of which no more are taken than there are.
pub few-records : (d : Design) (initial : List ℕ) (offsets : List ℤ) (s : HexSession) → Legal d → HexCame d initial offsets s
    → s.state.taken ≤ 3841
unfolding record_count data_count
few-records d initial offsets s legal came = omega (arith, taken-within (byte_count d) s.state came.is-possible, bytes-few d legal)

module _ (d : Design) where
  abbrev total : ℕ
  total = byte_count d

  -- What stays the same from one reading to a later one
  record HexKept (s next : HexSession) : Type 0 where
    stays-possible : hex_possible total s.state ≡ true → hex_possible total next.state ≡ true
    initial-kept : length next.initial ≡ length s.initial
    offsets-kept : length next.offsets ≡ length s.offsets

  kept_same : (s : HexSession) → HexKept s s
  kept_same s = record { stays-possible = λ p. p; initial-kept = refl; offsets-kept = refl }

  -- An accepted record leaves as many bytes of an entry as are cut after it.
  module _ (s : HexSession) (text : List ℕ) (came : Came d s text) where
    abbrev n : ℕ
    n = s.state.taken

    data_is : data_of total n (bytes_in text) ≡ came.piece
    data_is = rw came.is-text (piece-data total n came.piece came.fits)

    cut-held : length (cut_bytes (stream total s.state (bytes_in text))) ≡ held_count total (n + 1)
    unfolding stream held_count
    cut-held =
        let held = take (held_count total n) (s.state.first ∷ s.state.second ∷ []) in
        omega (
          arith,
          cut-length (stream total s.state (bytes_in text)),
          length-append held (data_of total n (bytes_in text)),
          length-take-le (held_count total n) (s.state.first ∷ s.state.second ∷ []) (omega arith),
          ap length data_is,
          came.fits.size,
          before-next total n,
        )

    next-possible : hex_possible total (holding (n + 1) (cut_bytes (stream total s.state (bytes_in text)))) ≡ true
    next-possible = cut-possible total (n + 1) _ cut-held (omega (arith, came.ready.within))

  kept-after : (s : HexSession) (text : List ℕ) → HexKept s (hex_after d s text)
  unfolding hex_after
  kept-after s text = go (hex_verdict_on d s text) refl
    where
      go : (v : Verdict) → hex_verdict_on d s text ≡ v → HexKept s (hex_after d s text)
      go (Ok tt) e =
          rw e
          (record {
            stays-possible = λ p. next-possible s text (accepted-record d s text e);
            initial-kept = stored-length (initial_home (initial_count d)) _ _ _;
            offsets-kept = stored-length (offset_home (initial_count d)) _ _ _;
          })
      go (Err cause) e = rw e (kept_same s)

  kept-fed : (texts : List (List ℕ)) (s : HexSession) → HexKept s (hex_feed d s texts)
  unfolding hex_feed
  kept-fed [] s = kept_same s
  kept-fed (text ∷ texts) s =
      let first = kept-after s text in
      let rest = kept-fed texts (hex_after d s text) in
      record {
        stays-possible = λ p. rest.stays-possible (first.stays-possible p);
        initial-kept = rest.initial-kept ∙ first.initial-kept;
        offsets-kept = rest.offsets-kept ∙ first.offsets-kept;
      }

  feed-append : (texts more : List (List ℕ)) (s : HexSession) → hex_feed d s (texts ++ more) ≡ hex_feed d (hex_feed d s texts) more
  unfolding hex_feed
  feed-append [] more s = refl
  feed-append (text ∷ texts) more s = feed-append texts more (hex_after d s text)

  -- With no record taken nothing is held.
  begin-possible : hex_possible total no_record ≡ true
  unfolding hex_possible held_count unused_fail
  begin-possible = rw (le-leb 0 (record_count total) (omega arith), before-none total)

  -- It is not finished, since the end record is due at least.
  pub unfinished_none : hex_finished d no_record ≡ false
  unfolding hex_finished record_count
  unfinished_none = rw (ne_eqb 0 (data_count total + 1) (λ e. omega (arith, e))) (and-none _)

  -- A set comes from the records so far and that of one step more.
  pub loaded-none : (initial : List ℕ) (offsets : List ℤ) → HexCame d initial offsets (hex_session no_record initial offsets)
  unfolding hex_feed
  loaded-none initial offsets =
      record { texts = []; fed = refl; is-possible = begin-possible; initial-length = refl; offsets-length = refl }

  pub loaded-more : (initial : List ℕ) (offsets : List ℤ) (s next : HexSession) (outcome : Outcome)
      → HexCame d initial offsets s → HexStepped d s next outcome → HexCame d initial offsets next
  loaded-more initial offsets s next outcome came step =
      let kept : HexKept s next = rw (← step.fed) (kept-fed step.texts s) in
      record {
        texts = came.texts ++ step.texts;
        fed = feed-append came.texts step.texts _ ∙ rw came.fed step.fed;
        is-possible = kept.stays-possible came.is-possible;
        initial-length = kept.initial-kept ∙ came.initial-length;
        offsets-length = kept.offsets-kept ∙ came.offsets-length;
      }

-- Records hold a set that was read from them to its end.
pub loaded-recordable : (d : Design) (initial : List ℕ) (offsets : List ℤ) (end : HexSession) → HexCame d initial offsets end
    → hex_finished d end.state ≡ true → Recordable (loaded_in d end)
loaded-recordable d initial offsets end came finished =
    rw (← came.fed) (unique d (hex_session no_record initial offsets) came.texts refl (rw came.fed finished)).recordable
