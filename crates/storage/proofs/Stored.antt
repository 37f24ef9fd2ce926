-- Demand 2's last sentence and what the fill writes, put together.
use Rattle.std.specs.Prelude.{Ok}
use mathlib.Core.Path.{◌≡◌}
use mathlib.Core.List.{List}
use Prim.Native.Nat.{ℕ, ◌≤◌, ◌<◌}
use native.Mathlib.Omega.{arith}
use lib.ListN.{length}
use Rattle.lines.specs.Slots.{line_count}
use Rattle.lines.specs.Lines.{line_at}
use Rattle.writing.specs.Write.{write_verdict, write_answer, buffer_after}
use Rattle.writing.proofs.WriteLaws.{line-passes, Given, line-given, given}
use Rattle.storage.specs.Sets.{TableSet, Storable}
use Rattle.storage.specs.Storage.{Gives, Storage}
use Rattle.storage.proofs.InOrder.{in_order}
use Rattle.storage.proofs.ReadingBack.{read_back}
use Rattle.storage.proofs.Uniqueness.{unique, no-form, refused-skipped}
use Rattle.storage.proofs.Fitting.{storable-lines, lines-storable}
use Rattle.storage.proofs.FilledFits.{filled-storable, fill-storable}

-- The writer gives each line of a set that has a stored form.
module _ (t : TableSet) (n : ℕ) (buffer : List ℕ) (ok : Storable t) (within : n < line_count t.design)
    (room : length (line_at t.design t.initial t.offsets n) ≤ length buffer) where
  passes : write_verdict t.design t.initial t.offsets n (length buffer) ≡ Ok tt
  passes = line-passes _ _ _ _ _ ok.usable within (storable-lines t ok n within) room

  gives : Gives t n buffer
  unfolding write_answer buffer_after
  gives = record { answer = rw passes; line = rw passes }

-- A set of which the writer gives every line can be written.
module _ (t : TableSet) (buffer : List ℕ) where
  told : (n : ℕ) → Gives t n buffer → Given t.design t.initial t.offsets n (length buffer)
  told n g = given _ _ _ _ _ (line-given _ _ _ _ _ g.answer)

  all-given : ((n : ℕ) → n < line_count t.design → Gives t n buffer) → Storable t
  unfolding line_count
  all-given gives = lines-storable t (told 0 (gives 0 (omega arith))).usable (λ n h. (told n (gives n h)).entry)

-- Demand 2, its last sentence, and what the fill writes
pub storage : Storage
storage =
    record {
      in_order = in_order;
      writes = gives;
      written = all-given;
      reads-back = λ t s ok begins initial offsets. read_back t ok s begins initial offsets;
      unique = unique;
      no-form = no-form;
      refused = λ s lines. let n = refused-skipped s lines in record { comes-to = n.0; accepts = n.1 };
      filled = λ t admitted. filled-storable t admitted.legal;
      fills = fill-storable;
    }
