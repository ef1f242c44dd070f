use borrow.Author.Tests.{eq-eqb, ne_eqb, lt-ltb, le-ltb}
use Rattle.rule_meeting.specs.Meeting.{meeting_of}
use Rattle.rule_meeting.proofs.meeting.Goals as goal

pub returns-then-v-eq0 : goal.returns-then-v-eq0
unfolding meeting_of
returns-then-v-eq0 c = rw (lt-ltb _ _ c.if-v-lt-ATTRIBUTES.true, eq-eqb _ _ c.if-v-eq0.true) c.in_column.ensures

pub returns-then-v-lt-ATTRIBUTES : goal.returns-then-v-lt-ATTRIBUTES
unfolding meeting_of
returns-then-v-lt-ATTRIBUTES c = rw (lt-ltb _ _ c.if-v-lt-ATTRIBUTES.true, ne_eqb _ _ c.if-v-eq0.false) c.in_column-then-v-lt-ATTRIBUTES.ensures

pub returns-then-v-eq0-2 : goal.returns-then-v-eq0-2
unfolding meeting_of
returns-then-v-eq0-2 c = rw (le-ltb _ _ c.if-v-lt-ATTRIBUTES.false, eq-eqb _ _ c.if-v-eq0-2.true) c.holding_all.ensures

pub returns : goal.returns
unfolding meeting_of
returns c = rw (le-ltb _ _ c.if-v-lt-ATTRIBUTES.false, ne_eqb _ _ c.if-v-eq0-2.false) c.with.ensures
