-- Assumes nothing.
use borrow.Author.Rules.{rules}
use Rattle.right_record.specs.ReassignedLaws.{assigned-stored}
use Rattle.right_record.proofs.change.Goals as goal

pub returns : goal.returns
returns c =
    let a = c.args in
    assigned-stored a.assigned.now a.gives a.role a.user c.member.result c.told-assigned (λ i. search rules) c.requires c.member.ensures
