-- Assumes nothing.
use Rattle.mine_corners.specs.Pairing.{words_in}
use Rattle.mine_present.specs.PlaceLaws.{conjunct-allowed, conjunct-refused}
use Rattle.mine_present.proofs.conjunct_at.Goals as goal

pub returns-then-allowed_at : goal.returns-then-allowed_at
returns-then-allowed_at c =
    let a = c.args in
    conjunct-allowed a.knowing.now a.attributes.now (words_in a.g) a.level a.place _ c.allowed_at.ensures c.if-allowed_at.true c.members_at.ensures c.within.ensures

pub returns : goal.returns
returns c =
    let a = c.args in
    conjunct-refused a.knowing.now a.attributes.now (words_in a.g) a.level a.place c.allowed_at.ensures c.if-allowed_at.false
