-- `set_console::set_lines::put_set` meets its contract: the writer gives each line of a set that can be stored.
use native.Mathlib.Omega.{arith}
use Rattle.lines.specs.Lines.{set_lines}
use Rattle.lines.proofs.TableLaws.{lines-small}
use Rattle.set_console.proofs.LineLaws.{each-given}
use Rattle.set_console.proofs.set_lines.put_set.Goals as goal

pub put_texts-requires : goal.put_texts-requires
put_texts-requires g c =
    record {
      longest = omega arith;
      few = omega (arith, lines-small _ c.requires.usable.legal);
      given = each-given _ c.requires;
    }

pub returns-clause-text : goal.returns-clause-text
unfolding set_lines
returns-clause-text g c went = c.put_texts.ensures.text went
