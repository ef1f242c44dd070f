use Prim.Native.Nat.{ℕ, ◌≤◌, ◌<◌}
use borrow.Author.Rules.{rules}
use lib.ListN.{length, length-drop}
use mathlib.Core.Path.{sym, ap, ◌∙◌}
use native.Mathlib.Omega.{arith}
use Rattle.role_file.specs.RoleStateLaws.{tail}
use Rattle.role_record.specs.Record.{table_of}
use Rattle.role_record.specs.RecordLaws.{table-length}
use Rattle.role_lines.specs.CollectingLaws.{collect_none, collect_on, collect_end, whole-some, whole-inside}
use Rattle.role_lines.proofs.lines.Goals as goal
use Rattle.role_lines.proofs.lines.Goals.{In-Ok}

pub loop-c-init : goal.loop-c-init
loop-c-init c =
    let e = c.clear.ensures ∙ ap (λ (n : ℕ). table_of n (λ i. 0)) c.told-lines in
    (ap length e ∙ table-length 32 (λ i. 0), collect_none _ _ e)

-- a command takes some bytes, and not more than are left
inside : (c : In-Ok) → c.in-Ok.w ≤ length c.loop-c.rest.now
inside c = whole-inside _ c.in-Ok.c _ (sym c.decode.ensures ∙ c.in-Ok.is)

some : (c : In-Ok) → 0 < c.in-Ok.w
some c = whole-some c.loop-c.rest.now c.in-Ok.c _ (sym c.decode.ensures ∙ c.in-Ok.is)

pub slice_bounds-rest-count : goal.slice_bounds-rest-count
slice_bounds-rest-count c = inside (goal.at.slice_bounds-rest-count c).In-Ok

pub slice_bounds-rest-start : goal.slice_bounds-rest-start
slice_bounds-rest-start c = let h = inside (goal.at.slice_bounds-rest-start c).In-Ok in omega arith

pub loop-c-smaller : goal.loop-c-smaller
loop-c-smaller c =
    let a = some (goal.at.loop-c-smaller c).In-Ok in
    let b = inside (goal.at.loop-c-smaller c).In-Ok in
    let d = length-drop c.in-Ok.w c.loop-c.rest.now in
    let e = ap length (tail c.in-Ok.w c.loop-c.rest.now) in
    omega arith

pub loop-c-preserved : goal.loop-c-preserved
loop-c-preserved c =
    (search rules, collect_on _ _ _ _ c.loop-c.invariant.1 _ _ (sym c.decode.ensures ∙ c.in-Ok.is) _ _ c.note-roles.ensures.0 c.note-roles.ensures.1)

pub returns : goal.returns
returns c = collect_end _ _ _ _ c.loop-c.invariant.1 _ (sym c.decode.ensures ∙ c.in_default.is)
