-- `set_console::texts::put_texts` meets its contract: each text is put behind those before it, up to the last, unless one fails to go out.
use mathlib.Core.Path.{refl, sym, ◌∙◌}
use lib.ListN.{length}
use borrow.Author.Rules.{rules}
use native.Mathlib.Omega.{arith}
use Rattle.console.proofs.PutLaws.{puts-in}
use Rattle.set_console.proofs.PutLaws.{given-passed, given-put, puts-first, puts-next}
use Rattle.set_console.proofs.texts.put_texts.Goals as goal

pub loop-number-init : goal.loop-number-init
loop-number-init g c = record { within = omega arith; so_far = puts-first _ _ _; input = search rules; room = refl }

pub loop-number-preserved : goal.loop-number-preserved
loop-number-preserved g c =
    let inv = c.loop-number.invariant in
    let e = c.put_text.ensures in
    let given = sym e.given ∙ c.if-not-put_text.false in
    let n = c.loop-number.number in
    record {
      within = omega (arith, g.met.T.Texts.within c.args.texts.now n (length c.loop-number.buffer) (given-passed _ given));
      so_far = puts-next _ _ n _ _ _ inv.so_far (puts-in inv.room (given-put _ _ _ _ _ given e.text));
      input = search rules;
      room = search rules;
    }
