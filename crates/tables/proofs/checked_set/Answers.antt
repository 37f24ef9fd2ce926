-- `tables::checked_set` meets its contract: the design's verdict, then the two lengths.
use mathlib.Core.Path.{sym}
use mathlib.Core.Bool.{true, false}
use Rattle.std.proofs.lemmas.Result.{err_from_is_err_and}
use Rattle.general.proofs.Tests.{tested}
use Rattle.tables.proofs.SetLaws.{set-refused, set-lengths}
use Rattle.tables.proofs.checked_set.Goals as goal

pub returns-in_err-legal : goal.returns-in_err-legal
returns-in_err-legal c =
    let r = err_from_is_err_and c.from_residual.result c.from_residual.ensures.1 in
    rw (r.1, r.2) (record { verdict = sym (set-refused _ _ _ _ (sym c.in_err-legal.ensures.verdict)); same = tt })

pub returns-then-tables_short : goal.returns-then-tables_short
returns-then-tables_short c =
    let e = c.in_ok-legal.ensures in
    record {
      verdict = sym (set-lengths _ _ _ true (sym e.verdict) (rw e.same at (tested c.tables_short.ensures c.if-tables_short.true)));
      same = tt;
    }

pub returns : goal.returns
returns c =
    let e = c.in_ok-legal.ensures in
    record {
      verdict = sym (set-lengths _ _ _ false (sym e.verdict) (rw e.same at (tested c.tables_short.ensures c.if-tables_short.false)));
      same = e.same;
    }
