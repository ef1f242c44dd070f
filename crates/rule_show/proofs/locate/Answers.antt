-- What was read says where the part stands. Assumes nothing.
use Rattle.std.proofs.lemmas.Result.{err_from_is_err_and}
use Rattle.rule_show.specs.RuleShowLaws.{part-within, refused-so, beyond-so, there-so}
use Rattle.rule_show.proofs.locate.Goals as goal

pub returns-in_err-b : goal.returns-in_err-b
returns-in_err-b c =
    let a = c.args in
    let p = err_from_is_err_and c.from_residual.result c.from_residual.ensures.1 in
    rw (p.1, p.2) (refused-so a.file.now a.rules.now a.n _ c.in_err-b.ensures, tt)

pub returns-then-b-n : goal.returns-then-b-n
returns-then-b-n c =
    let a = c.args in
    (beyond-so a.file.now a.rules.now a.n c.in_ok-b.b c.in_ok-b.ensures c.if-b-n.true, tt)

pub returns : goal.returns
returns c =
    let a = c.args in
    let from = c.rule_start-from.ensures in
    let to = c.rule_start-to.ensures in
    (there-so a.file.now a.rules.now a.n c.in_ok-b.b c.in_ok-b.ensures c.if-b-n.false _ _ from to, part-within a.rules.now a.n _ _ from to)
