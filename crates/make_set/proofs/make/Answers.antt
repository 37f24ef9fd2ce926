-- `make_set::make` meets its contract: what an accepted fill leaves can be written.
use mathlib.Core.Path.{sym, ◌∙◌}
use Rattle.storage.proofs.FilledFits.{fill-storable}
use Rattle.make_set.proofs.make.Goals as goal

pub put_set-requires : goal.put_set-requires
put_set-requires g c =
    let e = c.fill.ensures in
    rw (e.initial_table, e.offset_tables) (fill-storable _ _ _ (sym e.answer ∙ c.in_ok-fill.was))
