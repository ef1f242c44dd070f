-- A part that is no head is in no pair. Assumes nothing.
use Prim.Native.Nat.{◌+◌}
use mathlib.Core.Bool.{Bool, ◌&&◌}
use mathlib.Core.Path.{refl, sym, ap, ◌∙◌}
use Rattle.mine_parts.specs.Layout.{is_head_at}
use native.Mathlib.Omega.{arith}
use Rattle.mine_heads.specs.HeadLaws.{window_in}
use Rattle.mine_heads.specs.Heads.{in_window}
use Rattle.mine_merge.proofs.ProgressLaws.{going-begin, going_end}
use Rattle.mine_search.specs.PartnerSearchLaws.{finds_none, partner-later}
use Rattle.sets.specs.TestLaws.{and_r}
use Rattle.mine_merge.proofs.settle.Goals as goal

pub settle_head-requires : goal.settle_head-requires
settle_head-requires c =
    let a = c.args in
    let p = c.requires in
    (p.0, p.1, p.2, p.3, p.4, p.5, p.6, and_r (in_window a.window.first a.window.end a.start) (is_head_at a.scratch.now a.start) (sym (c.is_marked.ensures ∙ p.6.right a.start) ∙ c.if-is_marked.true))

pub returns : goal.returns
returns c =
    let a = c.args in
    let p = c.requires in
    let none = finds_none a.window.end a.links.now a.matches.now a.knowing.now a.attributes.now a.sizes.users a.sizes.resources a.sizes.operations a.heads.now a.scratch.now a.start (a.start + 1) (c.is_marked.ensures ∙ p.6.right a.start ∙ ap (λ (b : Bool). b && is_head_at a.scratch.now a.start) (window_in a.window.first a.window.end a.start p.3 p.4)) c.if-is_marked.false in (
      refl,
      omega arith,
      p.6,
      (λ F Z P parts old made S. going_end F parts a.window.first a.window.end old (going-begin F Z a.links.now a.matches.now a.knowing.now a.attributes.now a.sizes.users a.sizes.resources a.sizes.operations P parts a.window.first a.window.end old a.scratch.now made a.start a.window.end p.3 p.4
          (partner-later a.links.now a.matches.now a.knowing.now a.attributes.now a.sizes.users a.sizes.resources a.sizes.operations a.scratch.now a.start none.first) S) (omega arith) p.4 (omega arith)),
      (λ i. refl),
    )
