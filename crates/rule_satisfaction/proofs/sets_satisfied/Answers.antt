-- Assumes nothing.
use mathlib.Core.Bool.{true}
use Rattle.files.specs.RoleFile.{side_by}
use Rattle.files.specs.RuleFile.{values_in}
use Rattle.policy.specs.Policy.{setting_of}
use Rattle.policy.specs.Satisfying.{satisfies_sets}
use Rattle.rule_satisfaction.proofs.SatisfactionLaws.{half-so, sets_mean}
use Rattle.rule_satisfaction.proofs.sets_satisfied.Goals as goal

pub returns : goal.returns
returns c =
    let a = c.args in
    half-so true a.met.now a.kinds.now a.asked a.side a.count c.set_places-places.result c.meet.result c.met_by_all.result
    (λ F ls. satisfies_sets F (side_by a.side) (values_in (setting_of F) ls (side_by a.side)))
    (λ F Z ls h. sets_mean F Z ls h a.side c.requires.0)
    c.set_places-places.ensures c.meet.ensures c.met_by_all.ensures
