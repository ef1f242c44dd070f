-- An accepted role file keeps to its limits, and the rule file was accepted. Assumes nothing.
use Rattle.std.proofs.Common.{◌≤◌, length, drop, sym, subst, arith}
use Rattle.role_file.specs.RoleStateLaws.{tail}
use Rattle.rule_file.specs.LegalLaws.{Accepted, both-accepted}
use Rattle.rule_words.specs.Telling.{AcceptedRules}
use Rattle.rule_words.specs.TellingLaws.{both-legal}
use Rattle.rule_words.proofs.tell_files.Goals as goal
use Rattle.rule_words.proofs.tell_files.Goals.{In-Ok}

read : (c : In-Ok) → Accepted c.args.file.now c.args.rules.now c.in-Ok.both
read c = both-accepted _ _ _ c.in-Ok.ensures

-- what stands behind the seven bytes of the first command
behind : (c : In-Ok) → (7 ≤ length c.args.rules.now) × AcceptedRules (drop 7 c.args.rules.now)
behind c = let a = read c in both-legal _ _ a.from.value a.from.is

pub slice_bounds-tell_rules-count : goal.slice_bounds-tell_rules-count
slice_bounds-tell_rules-count c = omega (arith, (behind (goal.at.slice_bounds-tell_rules-count c).In-Ok).0)

pub slice_bounds-tell_rules-start : goal.slice_bounds-tell_rules-start
slice_bounds-tell_rules-start c = omega (arith, (behind (goal.at.slice_bounds-tell_rules-start c).In-Ok).0)

pub tell_rules-told-requires : goal.tell_rules-told-requires
tell_rules-told-requires c =
    let a = (goal.at.tell_rules-told-requires c).In-Ok in
    ((read a).sizes, (read a).attributes, subst AcceptedRules (sym (tail 7 c.args.rules.now)) (behind a).1)
