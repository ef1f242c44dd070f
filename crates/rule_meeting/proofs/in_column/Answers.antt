-- Assumes nothing.
use Rattle.rule_meeting.specs.MeetingLaws.{column-met}
use Rattle.rule_meeting.proofs.in_column.Goals as goal

pub returns : goal.returns
returns c =
    column-met c.args.known c.args.values.now c.args.column c.args.count c.args.v c.args.contained c.requires.1
    c.below.ensures c.passing.ensures c.meet-knowing.ensures c.meet.ensures
