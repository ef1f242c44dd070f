-- Assumes nothing.
use mathlib.Core.Path.{ap, ◌∙◌}
use native.Mathlib.Omega.{arith}
use Prim.Native.Nat.{◌+◌, ◌*◌, ◌≤◌}
use Rattle.sets.specs.MaskLaws.{size-most}
use Rattle.sets.specs.Sets.{size}
use Rattle.write_theory.proofs.ListingLaws.{side-most, sums_counted}
use Rattle.write_sizes.specs.RuleSizeLaws.{size-within, size-added}
use Rattle.write_sizes.proofs.rule_size.Goals as goal
use Rattle.write_sizes.proofs.rule_size.Goals.{After-struct_known-3-1}

-- the whole fits, and with it each part of it
low : (parts : After-struct_known-3-1)
    → 6 + parts.side_size-users.result.bytes + parts.side_size-resources.result.bytes + 3 * parts.count-atoms.result + 4 * parts.count_parts-parts.result ≤ 12288
low parts =
    let a = parts.args in
    size-within a.distinct.now a.having.now a.inside.now a.kinds.now a.permissions.now a.operations a.starts.now a.scratch.now a.rule.head a.rule.kept parts.side_size-users.result.bytes parts.side_size-resources.result.bytes parts.count-atoms.result parts.count_parts-parts.result parts.side_size-users.ensures.0 parts.side_size-resources.ensures.0 parts.count_parts-parts.ensures parts.atoms_kept.result parts.count-atoms.ensures

-- the sums fit 32 bits
pub overflow_cast-sums : goal.overflow_cast-sums
overflow_cast-sums c =
    let a = c.args in
    let e = c.side_size-users.ensures.1 in
    let w = side-most a.distinct.now a.having.now a.inside.now a.kinds.now a.scratch.now a.rule.head a.rule.kept 0 in
    omega (arith, e, w)

pub overflow_cast-sums-2 : goal.overflow_cast-sums-2
overflow_cast-sums-2 c =
    let a = c.args in
    let e = c.side_size-resources.ensures.1 in
    let w = side-most a.distinct.now a.having.now a.inside.now a.kinds.now a.scratch.now a.rule.head a.rule.kept 1 in
    omega (arith, e, w)

pub overflow_cast-sums-3 : goal.overflow_cast-sums-3
overflow_cast-sums-3 c =
    let e = c.count-ops.ensures in
    let w = size-most c.operations_at.result in
    omega (arith, e, w)

pub overflow_cast-sums-4 : goal.overflow_cast-sums-4
overflow_cast-sums-4 c =
    let e = c.count-atoms.ensures in
    let w = size-most c.atoms_kept.result in
    omega (arith, e, w)

pub overflow_add-result : goal.overflow_add-result
overflow_add-result c = let w = low c in omega (arith, w)

pub overflow_add-result-2 : goal.overflow_add-result-2
overflow_add-result-2 c = let w = low (goal.at.overflow_add-result-2 c).After-struct_known-3-1 in omega (arith, w)

pub overflow_mul-result : goal.overflow_mul-result
overflow_mul-result c = let w = low (goal.at.overflow_mul-result c).After-struct_known-3-1 in omega (arith, w)

pub overflow_add-result-3 : goal.overflow_add-result-3
overflow_add-result-3 c = let w = low (goal.at.overflow_add-result-3 c).After-struct_known-3-1 in omega (arith, w)

pub overflow_mul-result-2 : goal.overflow_mul-result-2
overflow_mul-result-2 c = let w = low (goal.at.overflow_mul-result-2 c).After-struct_known-3-1 in omega (arith, w)

pub overflow_add-result-4 : goal.overflow_add-result-4
overflow_add-result-4 c = let w = low (goal.at.overflow_add-result-4 c).After-struct_known-3-1 in omega (arith, w)

pub returns : goal.returns
returns c =
    let a = c.args in (
      size-added a.distinct.now a.having.now a.inside.now a.kinds.now a.permissions.now a.operations a.starts.now a.scratch.now a.rule.head a.rule.kept c.side_size-users.result.bytes c.side_size-resources.result.bytes c.count-atoms.result c.count_parts-parts.result c.side_size-users.ensures.0 c.side_size-resources.ensures.0 c.count_parts-parts.ensures c.atoms_kept.result c.count-atoms.ensures c.atoms_kept.ensures,
      sums_counted a.distinct.now a.having.now a.inside.now a.kinds.now a.scratch.now a.rule.head a.rule.kept c.side_size-users.ensures.1 c.side_size-resources.ensures.1 (c.count-ops.ensures ∙ ap size c.operations_at.ensures) c.count-atoms.ensures c.atoms_kept.ensures,
    )
