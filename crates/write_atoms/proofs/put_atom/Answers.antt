-- Assumes nothing.
use lib.ListN.{length}
use mathlib.Core.Path.{sym, ◌∙◌}
use native.Mathlib.Omega.{arith}
use Rattle.write_theory.proofs.SectionLaws.{atom_off, atom-room, atom-on}
use borrow.Author.Rules.{rules}
use Rattle.write_atoms.proofs.put_atom.Goals as goal

pub put_three-requires : goal.put_three-requires
put_three-requires c =
    let a = c.args in
    (atom-room a.kept a.atom (length a.out.now) (sym c.has.ensures ∙ c.if-has.true) c.requires.1, search rules, omega arith, omega arith)

pub returns-then-has : goal.returns-then-has
returns-then-has c =
    let a = c.args in
    atom-on a.kept a.atom _ a.out.now (sym c.has.ensures ∙ c.if-has.true) c.put_three.ensures

pub returns : goal.returns
returns c =
    let a = c.args in
    atom_off a.kept a.atom a.out.now (sym c.has.ensures ∙ c.if-has.false)
