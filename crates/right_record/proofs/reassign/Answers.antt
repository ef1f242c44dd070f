-- Assumes nothing.
use Rattle.right_record.specs.Reassigned.{an_edit}
use Rattle.right_record.specs.ReassignedLaws.{record-stored}
use Rattle.right_record.proofs.reassign.Goals as goal

pub returns : goal.returns
returns c =
    let a = c.args in
    record-stored a.f.now (an_edit a.gives a.role a.user) c.change.new.assigned c.holders.new.out c.change.ensures c.holders.ensures
