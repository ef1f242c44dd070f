-- Assumes nothing.
use lib.ListN.{length}
use native.Mathlib.Omega.{arith}
use Rattle.write_theory.proofs.ListingLaws.{classes_most}
use Rattle.write_theory.proofs.SectionLaws.{written_as, room_as, role-on}
use Rattle.write_listings.proofs.put_role.Goals as goal

pub put_classes-requires : goal.put_classes-requires
put_classes-requires c =
    let a = c.args in
    let m = classes_most a.permissions.now a.operations a.starts.now a.scratch.now a.head a.role in
    let e = c.list_classes-count.ensures.0 in
    (omega arith, c.requires.operations_bound.3, room_as _ _ (length a.out.now) (role-on a.permissions.now a.operations a.starts.now a.scratch.now a.head a.role _ _ c.list_classes-count.result e c.list_classes-count.ensures.1) c.requires.role_in_bounds)

pub returns : goal.returns
returns c =
    let a = c.args in
    written_as _ _ _ a.out.now c.put_classes.result
    (role-on a.permissions.now a.operations a.starts.now a.scratch.now a.head a.role _ _ c.list_classes-count.result c.list_classes-count.ensures.0 c.list_classes-count.ensures.1) c.put_classes.ensures
