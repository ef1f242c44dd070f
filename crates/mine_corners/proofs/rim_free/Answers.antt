-- Assumes nothing.
use Prim.Native.Nat.{ℕ}
use mathlib.Core.Path.{ap, ◌∙◌}
use Rattle.mine_corners.specs.MayJoinLaws.{first-fails, second_decides}
use Rattle.mine_corners.specs.Pairing.{less, corner_free, rim_free}
use Rattle.mine_corners.proofs.rim_free.Goals as goal

pub returns-then-corner_free : goal.returns-then-corner_free
unfolding rim_free
returns-then-corner_free c =
    let a = c.args in
    second_decides (c.corner_free.ensures ∙ ap (corner_free a.links.now a.atoms a.users) c.without.ensures) c.if-corner_free.true
    (c.corner_free-then-corner_free.ensures ∙ ap (λ (m : ℕ). corner_free a.links.now a.atoms m a.what) c.without-then-corner_free.ensures)

pub returns : goal.returns
unfolding rim_free
returns c =
    let a = c.args in
    first-fails (corner_free a.links.now a.atoms (less a.who a.users) a.what)
    (c.corner_free.ensures ∙ ap (corner_free a.links.now a.atoms a.users) c.without.ensures) c.if-corner_free.false
