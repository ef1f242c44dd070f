-- Assumes nothing.
use lib.ListN.{length-set, get_or}
use lib.Seq.{sets-eq}
use mathlib.Core.List.{[], ◌∷◌}
use native.Mathlib.Omega.{arith}
use Rattle.write_shape.proofs.put_shape.Goals as goal

pub bounds-out-1 : goal.bounds-out-1
bounds-out-1 c = simp length-set (omega arith)

pub bounds-out-2 : goal.bounds-out-2
bounds-out-2 c = simp length-set (omega arith)

pub bounds-out-3 : goal.bounds-out-3
bounds-out-3 c = simp length-set (omega arith)

pub bounds-out-4 : goal.bounds-out-4
bounds-out-4 c = simp length-set (omega arith)

pub bounds-out-5 : goal.bounds-out-5
bounds-out-5 c = simp length-set (omega arith)

pub bounds-out-6 : goal.bounds-out-6
bounds-out-6 c = simp length-set (omega arith)

pub returns : goal.returns
returns c =
    let a = c.args in
    sets-eq (0x20 ∷ a.sizes.users ∷ a.sizes.resources ∷ a.sizes.operations ∷ a.sizes.roles ∷ get_or a.attributes.now 0 0 ∷ get_or a.attributes.now 1 0 ∷ []) a.out.now 0 c.requires.2
