-- The part stands where it was found. Assumes nothing.
use Prim.Native.Nat.{◌-◌}
use lib.ListN.{take, drop}
use mathlib.Core.Path.{ap, ◌∙◌}
use Rattle.files.specs.Calls.{shown_part}
use Rattle.rule_show.specs.RuleShowLaws.{told-so}
use Rattle.rule_show.specs.declared.Place.{Place}
use Rattle.rule_show.proofs.show.Goals as goal

pub returns : goal.returns
unfolding shown_part
returns c =
    let a = c.args in
    let rules = a.rules.now in
    let so = told-so a.file.now rules a.n c.locate.result c.locate.ensures.0 in
    (ap (λ (p : Place). take (p.to - p.from) (drop p.from rules)) (c.tell-place.ensures.1 ∙ so.1), c.tell-place.ensures.0 ∙ so.0)
