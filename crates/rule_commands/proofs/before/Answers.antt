use lib.Dec.{eqb, ltb}
use mathlib.Core.Bool.{Bool, true, false, cond, ◌&&◌, ◌||◌}
use mathlib.Core.Path.{◌≡◌, refl, ◌∙◌}
use Rattle.std.specs.declared.cmp.Ordering.TheVariants.{Less, Equal, Greater}
use Rattle.std.specs.Ordering.{is_lt, partial_ordering_then, is_some_and}
use Rattle.std.specs.declared.option.Option.TheVariants.{Some}
use Rattle.rule_commands.specs.Raw.{raw_before}
use Rattle.rule_commands.proofs.before.Goals as goal

-- the first of three comparisons that does not end in a tie decides
decides : (l1 e1 l2 e2 l3 e3 : Bool) → is_some_and is_lt (partial_ordering_then (Some (cond l1 Less (cond e1 Equal Greater))) (partial_ordering_then (Some (cond l2 Less (cond e2 Equal Greater))) (Some (cond l3 Less (cond e3 Equal Greater))))) ≡ (l1 || (e1 && (l2 || (e2 && l3))))
decides true e1 l2 e2 l3 e3 = refl
decides false false l2 e2 l3 e3 = refl
decides false true true e2 l3 e3 = refl
decides false true false false l3 e3 = refl
decides false true false true true e3 = refl
decides false true false true false false = refl
decides false true false true false true = refl

pub returns : goal.returns
unfolding raw_before
returns c =
    let a = c.args.a in
    let b = c.args.b in
    c.lt.ensures ∙ decides (ltb a.byte b.byte) (eqb a.byte b.byte) (ltb a.first b.first) (eqb a.first b.first) (ltb a.second b.second) (eqb a.second b.second)
