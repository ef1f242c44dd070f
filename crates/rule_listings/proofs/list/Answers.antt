use lib.ListN.{get_or, set}
use mathlib.Core.Bool.{true, false}
use mathlib.Core.List.{List}
use mathlib.Core.Path.{◌≡◌, refl, sym, ap, ◌∙◌}
use Prim.Native.Nat.{ℕ}
use Rattle.rule_listings.specs.Listed.{lead_of, seen_after, again_after}
use Rattle.role_record.specs.Record.{marked}
use Rattle.sets.specs.Sets.{bit}
use Rattle.rule_listings.proofs.list.Goals as goal
use Rattle.rule_listings.proofs.list.Goals.{else-has, then-has}

-- what is stored, by the lowest operation
seen_by : (seen : List ℕ) (k m lead word : ℕ) → lead ≡ lead_of m → word ≡ marked (get_or seen k 0) lead → set seen k word ≡ seen_after seen k m
unfolding seen_after
seen_by seen k m lead word e w = ap (set seen k) (w ∙ ap (marked (get_or seen k 0)) e)

again_by : (seen again : List ℕ) (k m lead word : ℕ) → lead ≡ lead_of m → bit (get_or seen k 0) lead ≡ true → word ≡ marked (get_or again k 0) lead → set again k word ≡ again_after seen again k m
unfolding again_after
again_by seen again k m lead word e h w = ap (set again k) (w ∙ ap (marked (get_or again k 0)) e) ∙ rw (← e, h) refl

again_kept : (seen again : List ℕ) (k m lead : ℕ) → lead ≡ lead_of m → bit (get_or seen k 0) lead ≡ false → again ≡ again_after seen again k m
unfolding again_after
again_kept seen again k m lead e h = rw (← e, h) refl

pub returns : goal.returns
returns c =
    let a = c.args in
    let low = c.least-lead in
    let has = c.has in (
      seen_by a.seen.now a.role a.class low.result c.with-2.result low.ensures c.with-2.ensures,
      elim c.if-has.branch [ then-has w ↦ w.again-is ∙ again_by a.seen.now a.again.now a.role a.class low.result w.with.result low.ensures (sym has.ensures ∙ w.if-has.true) w.with.ensures | else-has w ↦ w.again-is ∙ again_kept a.seen.now a.again.now a.role a.class low.result low.ensures (sym has.ensures ∙ w.if-has.false) ],
    )
