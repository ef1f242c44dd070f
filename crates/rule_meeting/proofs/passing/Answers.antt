-- Assumes nothing.
use Prim.Native.Nat.{◌+◌, ◌*◌}
use lib.ListN.{get_or}
use mathlib.Core.Bool.{Bool}
use mathlib.Core.Path.{sym, ap, ◌∙◌}
use Rattle.rule_meeting.specs.Meeting.{order}
use Rattle.sets.specs.Sets.{mask_of}
use Rattle.rule_meeting.proofs.passing.Goals as goal

pub returns-then-contained : goal.returns-then-contained
returns-then-contained c =
    let a = c.args in
    c.passing.ensures ∙ ap (λ (b : Bool). mask_of 64 (λ x. order b a.v (get_or a.values.now (64 * a.column + x) 0))) (sym c.if-contained.true)

pub returns : goal.returns
returns c =
    let a = c.args in
    c.passing-2.ensures ∙ ap (λ (b : Bool). mask_of 64 (λ x. order b a.v (get_or a.values.now (64 * a.column + x) 0))) (sym c.if-contained.false)
