-- Assumes nothing.
use Prim.Native.Nat.{ℕ, ◌*◌}
use lib.Dec.{ltb}
use lib.ListN.{get_or}
use mathlib.Core.Path.{ap, ◌∙◌}
use native.Mathlib.Omega.{arith}
use Rattle.mine_words.specs.AtomLaws.{six-most, columns_room, declared_law}
use Rattle.sets.specs.Sets.{mask_of}
use Rattle.mine_words.proofs.declared.Goals as goal

pub overflow_mul-at_most_six : goal.overflow_mul-at_most_six
overflow_mul-at_most_six c = let l = six-most (get_or c.args.attributes.now 0 0) in let e = c.at_most_six.ensures in omega arith

pub overflow_mul-columns : goal.overflow_mul-columns
overflow_mul-columns c =
    let a = c.args in
    let l = columns_room (get_or a.attributes.now 1 0) c.below-columns.result (c.below-columns.ensures ∙ ap (λ (n : ℕ). mask_of 64 (λ k. ltb k n)) c.at_most_six-2.ensures) in
    omega arith

pub returns : goal.returns
returns c =
    declared_law c.args.attributes.now c.below-rows.result c.below-columns.result _
    (c.below-rows.ensures ∙ ap (λ (n : ℕ). mask_of 64 (λ k. ltb k (6 * n))) c.at_most_six.ensures)
    (c.below-columns.ensures ∙ ap (λ (n : ℕ). mask_of 64 (λ k. ltb k n)) c.at_most_six-2.ensures)
    c.meet.ensures
