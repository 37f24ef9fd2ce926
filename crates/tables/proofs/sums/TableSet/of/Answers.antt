-- `tables::sums::TableSet::of` meets its contract: a set that passes 1 to 10 has all that the fields' facts say.
use mathlib.Core.Path.{sym}
use Rattle.tables.proofs.SetLaws.{usable}
use Rattle.tables.proofs.sums.TableSet.of.Goals as goal

pub invariant_of-tables : goal.invariant_of-tables
invariant_of-tables c =
    let e = c.in_ok-legal.ensures in
    let u = usable _ _ _ (sym e.verdict) in
    record { legal = u.legal; lookups_value = rw e.same at c.lookups_of.ensures; offsets_long = u.offsets-long }

pub invariant_of-result : goal.invariant_of-result
invariant_of-result c = record { initial_long = (usable _ _ _ (sym c.in_ok-legal.ensures.verdict)).initial-long }
