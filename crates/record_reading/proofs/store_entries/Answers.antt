-- `record_reading::store_entries` meets its contract: after i turns the first i entries are stored.
use mathlib.Core.Path.{ap, ◌∙◌}
use Prim.Native.Nat.{◌≤◌}
use native.Mathlib.Omega.{arith}
use lib.ListN.{length, length-append}
use Rattle.encoding.specs.Bytes.{entry_bytes}
use Rattle.record_reading.proofs.StoreSteps.{storing-start, storing-next, storing-end, entry-in}
use Rattle.record_reading.proofs.store_entries.Goals as goal

pub loop-i-init : goal.loop-i-init
loop-i-init c =
    let items = c.enumerate-i-items.ensures in
    let chunks = c.chunks_exact.ensures in
    rw (c.into_iter-i-iterator.ensures.into_iter_gives, items.source, items.count)
    (record {
      three = chunks.size;
      within = omega (arith, ap length chunks.rest);
      initials = storing-start _ _ _ _ chunks.rest;
      offsets = storing-start _ _ _ _ chunks.rest;
    })

pub number_in-requires : goal.number_in-requires
number_in-requires c = omega (arith, c.in-Some.ensures.steps.0.1.1, c.loop-i.invariant.three)

pub store_entry-requires : goal.store_entry-requires
store_entry-requires c =
    let inv = c.loop-i.invariant in
    let steps = c.in-Some.ensures.steps in
    let from = steps.0.1 in
    let later = c.next.new.self.iter.rest.now in
    let more : entry_bytes ≤ length c.loop-i.i-iterator.iter.rest.now =
    omega (arith, ap length from.0, length-append c.in-Some.bytes.now later, from.1, inv.three) in
    record {
      entry_in = rw steps.1 (entry-in _ _ c.requires inv.initials.kept inv.offsets.kept inv.within more);
      number_bound = rw (from.1 ∙ inv.three) at c.number_in.ensures.upper_bound;
    }

pub loop-i-preserved : goal.loop-i-preserved
loop-i-preserved c =
    let inv = c.loop-i.invariant in
    let steps = c.in-Some.ensures.steps in
    let from = steps.0.1 in
    let three = from.1 ∙ inv.three in
    let number = c.number_in.ensures.value in
    rw steps.2
    (record {
      three = steps.0.0 ∙ inv.three;
      within = omega (arith, inv.within, ap length from.0, length-append c.in-Some.bytes.now c.next.new.self.iter.rest.now, three);
      initials = storing-next _ _ _ _ inv.initials _ _ _ _ from.0 three number (rw steps.1 at c.store_entry.ensures.initial_after);
      offsets = storing-next _ _ _ _ inv.offsets _ _ _ _ from.0 three number (rw steps.1 at c.store_entry.ensures.offsets_after);
    })

pub returns : goal.returns
returns c =
    let inv = c.loop-i.invariant in
    let end = c.in-None.ensures.steps.0.1.0 in
    record {
      initial_after = storing-end _ _ _ _ inv.initials (omega (arith, inv.three, end));
      offsets_after = storing-end _ _ _ _ inv.offsets (omega (arith, inv.three, end));
    }
