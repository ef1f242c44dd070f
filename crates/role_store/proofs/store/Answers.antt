use mathlib.Core.Path.{refl, subst}
use native.Mathlib.Omega.{arith}
use Prim.Native.Nat.{◌<◌}
use Rattle.role_record.specs.Cells.{most_operations}
use Rattle.role_store.specs.Storing.{Bounded, stored_by}
use Rattle.role_store.proofs.store.Goals as goal
use Rattle.role_store.proofs.store.Goals.{In-Permit}

pub declare-requires : goal.declare-requires
unfolding Bounded
declare-requires c = subst (Bounded c.args.f.now.attributes) c.in-Declare.is c.requires

pub give-requires : goal.give-requires
unfolding Bounded
give-requires c = subst (Bounded c.args.f.now.attributes) c.in-Give.is c.requires

pub add-requires : goal.add-requires
unfolding Bounded
add-requires c = let h : c.in-Assign.role < 32 = subst (Bounded c.args.f.now.attributes) c.in-Assign.is c.requires in omega arith

-- what a permission knows of its operands
permit_in : (c : In-Permit) → (c.in-Permit.role < 32) × (c.in-Permit.operation < most_operations)
unfolding Bounded
permit_in c = subst (Bounded c.args.f.now.attributes) c.in-Permit.is c.requires

pub overflow_mul-cell : goal.overflow_mul-cell
overflow_mul-cell c = omega (arith, permit_in c)

pub overflow_add-cell : goal.overflow_add-cell
overflow_add-cell c = omega (arith, permit_in c)

pub add-requires-in-Permit : goal.add-requires-in-Permit
add-requires-in-Permit c = omega (arith, permit_in (goal.at.add-requires-in-Permit c).In-Permit)

pub add-requires-in-Line : goal.add-requires-in-Line
unfolding Bounded
add-requires-in-Line c = let h : c.in-Line.junior < 32 = subst (Bounded c.args.f.now.attributes) c.in-Line.is c.requires in omega arith

pub returns-in-Sizes : goal.returns-in-Sizes
unfolding stored_by
returns-in-Sizes c = rw c.in-Sizes.is (refl, refl)

pub returns-in-Declare : goal.returns-in-Declare
unfolding stored_by
returns-in-Declare c = rw (c.in-Declare.is, c.declare.ensures) (refl, refl)

pub returns-in-Give : goal.returns-in-Give
unfolding stored_by
returns-in-Give c = rw (c.in-Give.is, c.give.ensures) (refl, refl)

pub returns-in-Assign : goal.returns-in-Assign
unfolding stored_by
returns-in-Assign c = rw (c.in-Assign.is, c.add.ensures) (refl, refl)

pub returns-in-Permit : goal.returns-in-Permit
unfolding stored_by
returns-in-Permit c = rw (c.in-Permit.is, c.add-in-Permit.ensures) (refl, refl)

pub returns-in-Line : goal.returns-in-Line
unfolding stored_by
returns-in-Line c = rw (c.in-Line.is, c.add-in-Line.ensures) (refl, refl)

pub returns-in-End : goal.returns-in-End
unfolding stored_by
returns-in-End c = rw c.in-End.is (refl, refl)
