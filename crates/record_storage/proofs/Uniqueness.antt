-- A finished reading accepted exactly the writer's records.
use Rattle.std.specs.Prelude.{Ok, Err}
use mathlib.Core.Path.{◌≡◌, refl, sym, ap, ap₂, ◌∙◌}
use mathlib.Core.Bool.{true, false, not}
use mathlib.Core.List.{List, [], ◌∷◌, ◌++◌, append-nil}
use Prim.Native.Nat.{ℕ, ◌+◌, ◌*◌, ◌≤◌, ◌<◌}
use native.Mathlib.Omega.{arith}
use lib.Dec.{leb, eqb}
use lib.ListN.{length, length-append}
use lib.Seq.{append_snoc}
use borrow.Author.Tests.{eqb-true, not-true, not-false}
use Rattle.general.specs.Below.{list_below}
use Rattle.general.proofs.ListLaws.{list-congruence}
use Rattle.general.proofs.Tests.{neither, both}
use Rattle.refusal.specs.Verdict.{Verdict}
use Rattle.refusal.specs.Checks.{verdict, passes}
use Rattle.design.specs.declared.Design.{Design}
use Rattle.design.specs.Stored.{initial_count, offset_total}
use Rattle.design.specs.Legal.{design_checks}
use Rattle.tables.specs.Inputs.{Usable}
use Rattle.encoding.specs.Bytes.{entry_bytes}
use Rattle.encoding.proofs.HexBack.{Bytes, bytes-append}
use Rattle.records.specs.IntelHex.{record_count, bytes_before, record_of, records_of}
use Rattle.records.specs.SetBytes.{entry_count, byte_count, most_bytes, set_bytes, set_records, bytes_check}
use Rattle.records.proofs.CountLaws.{before-none, before-all, before-next}
use Rattle.record_reading.specs.declared.HexReading.{HexReading}
use Rattle.record_reading.specs.Storing.{initial_home, offset_home, stored_from, cut_bytes}
use Rattle.record_reading.specs.ReadRecord.{
  held_count,
  unused_fail,
  hex_possible,
  hex_finished,
  HexSession,
  hex_verdict_on,
  holding,
  hex_after,
}
use Rattle.record_reading.proofs.StoringLaws.{stored-length}
use Rattle.record_reading.proofs.WholeSets.{stored-fits, stored-again}
use Rattle.storage.specs.Feeding.{kept_if}
use Rattle.record_storage.specs.Loading.{no_record, HexFinished, hex_feed, hex_accepted}
use Rattle.record_storage.specs.RecordStorage.{loaded_in, HexCameFrom}
use Rattle.record_storage.proofs.Taking.{Came, accepted-record}
use Rattle.record_storage.proofs.AfterRecords.{read_so, due-moves}
use Rattle.record_storage.proofs.Texts.{text_of, texts-more}
use Rattle.record_storage.proofs.Feeding.{refused-stands}

-- A possible state with no record taken holds nothing.
none-unused : (state : HexReading) → unused_fail 0 state ≡ false → (state.first ≡ 0) × (state.second ≡ 0)
unfolding unused_fail
none-unused state e =
    let tests = neither (not (eqb state.first 0)) (not (eqb state.second 0)) e in
    (eqb-true _ _ (not-false _ tests.0), eqb-true _ _ (not-false _ tests.1))

none-held : (total : ℕ) (state : HexReading) → state.taken ≡ 0 → hex_possible total state ≡ true → state ≡ no_record
unfolding hex_possible held_count
none-held total state none possible =
    let fails = unused_fail (held_count total state.taken) state in
    let tests = both (leb state.taken (record_count total)) (not fails) possible in
    let held : bytes_before total state.taken ≡ 0 = rw none (before-none total) in
    let unused = none-unused state (rw held at (not-true fails tests.1)) in
    rw (none, unused.0, unused.1)

module _ (d : Design) (start : HexSession) where
  abbrev total : ℕ
  total = byte_count d

  abbrev initials : ℕ
  initials = initial_count d

  -- The records that came hold these bytes, one behind the other, and a reading that can go on has stored and holds them.
  record SoFar (s : HexSession) (came : List (List ℕ)) : Type 0 where
    bytes : List ℕ
    small : Bytes bytes
    size : length bytes ≡ bytes_before total s.state.taken
    texts : came ≡ list_below s.state.taken (text_of total bytes)
    stands : hex_possible total s.state ≡ true → s ≡ read_so initials start.initial start.offsets s.state.taken bytes
    tables : 0 < s.state.taken → Usable d (length start.initial) (length start.offsets) × (total ≤ most_bytes)

  -- No record is taken yet.
  none-taken : start.state.taken ≡ 0 → SoFar start []
  unfolding list_below stored_from holding cut_bytes
  none-taken none =
      record {
        bytes = [];
        small = tt;
        size = sym (rw none (before-none total));
        texts = rw none;
        stands = λ possible. rw (none-held total start.state none possible);
        tables = λ h. absurd (omega arith);
      }

  -- An accepted record is one more of the writer's.
  module _ (s : HexSession) (came : List (List ℕ)) (so_far : SoFar s came) (text : List ℕ)
      (passes : hex_verdict_on d s text ≡ Ok tt) where
    abbrev n : ℕ
    n = s.state.taken

    here : Came d s text
    here = accepted-record d s text passes

    abbrev next : HexSession
    next = read_so initials start.initial start.offsets (n + 1) (so_far.bytes ++ here.piece)

    moved : hex_after d s text ≡ next
    moved =
        due-moves d start.initial start.offsets n so_far.bytes so_far.size here.piece here.fits s text
        (so_far.stands here.ready.possible) here.is-text passes

    -- the tables, which the bytes did not make longer or shorter
    tables-long : Usable d (length start.initial) (length start.offsets)
    tables-long =
        let now = so_far.stands here.ready.possible in
        let initial-kept : length s.initial ≡ length start.initial =
        ap (λ (r : HexSession). length r.initial) now ∙ stored-length (initial_home initials) 0 so_far.bytes start.initial in
        let offsets-kept : length s.offsets ≡ length start.offsets =
        ap (λ (r : HexSession). length r.offsets) now ∙ stored-length (offset_home initials) 0 so_far.bytes start.offsets in
        rw (initial-kept, offsets-kept) at here.ready.tables

    one_more : SoFar next (came ++ (text ∷ []))
    unfolding holding
    one_more =
        let piece = here.piece in
        record {
          bytes = so_far.bytes ++ piece;
          small = bytes-append so_far.bytes piece so_far.small here.fits.small;
          size = omega (arith, length-append so_far.bytes piece, so_far.size, here.fits.size, before-next total n);
          texts =
              ap₂ (λ (front : List (List ℕ)) (last : List ℕ). front ++ (last ∷ [])) so_far.texts here.is-text
              ∙ sym (texts-more total n so_far.bytes piece so_far.size here.fits);
          stands = λ possible. refl;
          tables = λ h. (tables-long, here.ready.addressed);
        }

    so-far-accepted : SoFar (hex_after d s text) (came ++ (text ∷ []))
    so-far-accepted = rw moved one_more

  -- So it goes on, record by record.
  abbrev Follows : List (List ℕ) → Type 0
  Follows texts = (s : HexSession) (came : List (List ℕ)) → SoFar s came → SoFar (hex_feed d s texts) (came ++ hex_accepted d s texts)

  one-record : (text : List ℕ) (texts : List (List ℕ)) → Follows texts → Follows (text ∷ texts)
  unfolding hex_feed hex_accepted
  one-record text texts rest s came so_far = go (hex_verdict_on d s text) refl
    where
      go : (v : Verdict) → hex_verdict_on d s text ≡ v
          → SoFar (hex_feed d (hex_after d s text) texts)
          (came ++ kept_if (hex_verdict_on d s text) text (hex_accepted d (hex_after d s text) texts))
      go (Ok tt) e =
          rw (e, ← append_snoc came text (hex_accepted d (hex_after d s text) texts))
          (rest (hex_after d s text) (came ++ (text ∷ [])) (so-far-accepted s came so_far text e))
      go (Err cause) e = rw (e, refused-stands d s text cause e) (rest s came so_far)

  follows : (texts : List (List ℕ)) → Follows texts
  unfolding hex_feed hex_accepted
  follows [] s came so_far = rw (append-nil came) so_far
  follows (text ∷ texts) s came so_far = one-record text texts (follows texts) s came so_far

  -- All records are taken: records can hold the set, and they are its records.
  module _ (s : HexSession) (came : List (List ℕ)) (so_far : SoFar s came) (finished : HexFinished d s) where
    tests : (hex_possible total s.state ≡ true) × (s.state.taken ≡ record_count total)
    unfolding hex_finished
    tests =
        let last = both _ (eqb s.state.taken (record_count total)) finished in
        ((both (passes (verdict (design_checks d ++ bytes_check d ∷ []))) _ last.0).1, eqb-true _ _ last.1)

    long : length so_far.bytes ≡ total
    long = so_far.size ∙ ap (bytes_before total) tests.1 ∙ before-all total

    size : length so_far.bytes ≡ entry_bytes * entry_count d
    unfolding byte_count
    size = long

    begun : 0 < s.state.taken
    unfolding record_count
    begun = omega (arith, tests.1)

    entries : entry_count d ≡ initials + offset_total d
    unfolding entry_count
    entries = refl

    -- the tables that it ends with
    abbrev end : HexSession
    end = read_so initials start.initial start.offsets s.state.taken so_far.bytes

    room : entry_count d ≤ initials + length start.offsets
    room = omega (arith, entries, (so_far.tables begun).0.offsets-long)

    end-bytes : set_bytes d end.initial end.offsets ≡ so_far.bytes
    unfolding set_bytes
    end-bytes =
        stored-again initials (entry_count d) so_far.bytes size so_far.small start.initial start.offsets
        (so_far.tables begun).0.initial-long room

    end-tables : Usable d (length end.initial) (length end.offsets)
    end-tables =
        let initial-kept = stored-length (initial_home initials) 0 so_far.bytes start.initial in
        let offsets-kept = stored-length (offset_home initials) 0 so_far.bytes start.offsets in
        rw (initial-kept, offsets-kept) (so_far.tables begun).0

    -- Their records are those that came.
    all-texts : list_below (record_count total) (text_of total so_far.bytes) ≡ records_of so_far.bytes
    unfolding records_of record_of
    all-texts =
        rw long (list-congruence (text_of total so_far.bytes) (record_of so_far.bytes) (record_count total) (λ k h. rw long))

    end-texts : came ≡ set_records d end.initial end.offsets
    unfolding set_records
    end-texts =
        so_far.texts
        ∙ ap (λ (k : ℕ). list_below k (text_of total so_far.bytes)) tests.1
        ∙ all-texts
        ∙ sym (ap records_of end-bytes)

    end-from : HexCameFrom (loaded_in d end) came
    end-from =
        record {
          recordable =
              record {
                usable = end-tables;
                addressed = (so_far.tables begun).1;
                fits =
                    stored-fits initials (entry_count d) so_far.bytes size so_far.small start.initial start.offsets
                    (so_far.tables begun).0.initial-long room;
              };
          records = end-texts;
        }

    came_from : HexCameFrom (loaded_in d s) came
    came_from = rw (so_far.stands tests.0) end-from

pub unique : (d : Design) (s : HexSession) (texts : List (List ℕ)) → s.state.taken ≡ 0 → HexFinished d (hex_feed d s texts)
    → HexCameFrom (loaded_in d (hex_feed d s texts)) (hex_accepted d s texts)
unique d s texts none finished =
    came_from d s (hex_feed d s texts) (hex_accepted d s texts) (follows d s texts s [] (none-taken d s none)) finished
