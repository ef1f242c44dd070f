use mathlib.Core.Path.{sym, ap, ◌∙◌}
use Rattle.role_commands.specs.declared.Command.{Command}
use Rattle.role_lines.specs.Collecting.{roles_after, lines_after}
use Rattle.role_lines.specs.CollectingLaws.{line-noted, line-passed}
use Rattle.role_lines.proofs.note.Goals as goal

pub returns-in-Sizes : goal.returns-in-Sizes
returns-in-Sizes c =
    let e = c.in-Sizes.is in
    (sym (ap (λ (x : Command). roles_after x c.args.roles) e), sym (ap (λ (x : Command). lines_after x c.args.lines.now) e))

-- a line that is stored
pub returns-then-junior-lt-ROLES : goal.returns-then-junior-lt-ROLES
returns-then-junior-lt-ROLES c =
    let e = c.in-Line.is in (
      sym (ap (λ (x : Command). roles_after x c.args.roles) e),
      line-noted c.args.lines.now _ _ _ c.if-junior-lt-ROLES.true c.with.ensures ∙ sym (ap (λ (x : Command). lines_after x c.args.lines.now) e),
    )

-- and one that is passed over
pub returns-else-junior-lt-ROLES : goal.returns-else-junior-lt-ROLES
returns-else-junior-lt-ROLES c =
    let e = c.in-Line.is in (
      sym (ap (λ (x : Command). roles_after x c.args.roles) e),
      line-passed c.args.lines.now _ _ c.if-junior-lt-ROLES.false ∙ sym (ap (λ (x : Command). lines_after x c.args.lines.now) e),
    )
