use Prim.Native.Nat.{ℕ}
use borrow.Author.Rules.{rules}
use mathlib.Core.Path.{sym, ap, ◌∙◌}
use native.Mathlib.Omega.{arith}
use Rattle.mine_words.specs.AtomLaws.{with_low, keeping, keep_in, keep_out, keep-done}
use Rattle.sets.specs.Sets.{less_one, bit, mask_of}
use Rattle.sets.specs.MemberLaws.{least_in, less-less, bit-less}
use Rattle.sets.specs.TestLaws.{and_l}
use Rattle.mine_heads.specs.HeadLaws.{reaching_begin}
use Rattle.mine_corners.specs.Pairing.{words_in, reaches}
use Rattle.mine_theory.specs.Words.Words.{Words}
use Rattle.mine_heads.proofs.reaching.Invariants.{reaches_it}
use Rattle.mine_heads.proofs.reaching.Goals as goal
use Rattle.mine_heads.proofs.reaching.Goals.{else-reaches, then-reaches}

pub loop-rest-init : goal.loop-rest-init
loop-rest-init c = let a = c.args in (search rules, search rules, reaching_begin (reaches_it a.scratch.now a.word (words_in a.g)) a.marked, λ k b. b)

pub overflow_add-word : goal.overflow_add-word
overflow_add-word c = let t = least_in c.loop-rest.rest c.loop-rest.invariant.1 _ c.least-k.ensures c.loop-rest-test.true in omega arith

pub group_at-requires : goal.group_at-requires
group_at-requires c =
    let t = least_in c.loop-rest.rest c.loop-rest.invariant.1 _ c.least-k.ensures c.loop-rest-test.true in
    let p = c.requires in
    p.1 _ t.0 (c.loop-rest.invariant.3 _ t.1)

pub loop-rest-smaller : goal.loop-rest-smaller
loop-rest-smaller c =
    let turn = c.loop-rest in
    let t = least_in turn.rest turn.invariant.1 _ c.least-k.ensures c.loop-rest-test.true in
    let l = less-less turn.rest turn.invariant.1 _ t.1 in
    let e = c.without_least-rest.ensures ∙ ap (less_one turn.rest) (sym c.least-k.ensures) in
    omega arith

pub loop-rest-preserved : goal.loop-rest-preserved
loop-rest-preserved c =
    let turn = c.loop-rest in
    let a = c.args in
    let t = least_in turn.rest turn.invariant.1 _ c.least-k.ensures c.loop-rest-test.true in
    let e = c.without_least-rest.ensures ∙ ap (less_one turn.rest) (sym c.least-k.ensures) in
    let f = reaches_it a.scratch.now a.word (words_in a.g) in
    let told = sym (c.reaches.ensures ∙ ap (λ (W : Words). reaches W (words_in a.g)) c.group_at.ensures) in (
      elim c.if-reaches.branch [ then-reaches w ↦ with_low turn.m c.least-k.result _ (w.m-is ∙ w.with-m.ensures) | else-reaches w ↦ let same = w.m-is in omega arith ],
      search rules,
      ap (λ (m : ℕ). mask_of 64 (keeping f c.if-reaches.m m)) e
          ∙ elim c.if-reaches.branch [ then-reaches w ↦ keep_in f turn.m turn.rest c.least-k.result turn.invariant.1 t.1 _ (told ∙ w.if-reaches.true) (w.m-is ∙ w.with-m.ensures) | else-reaches w ↦ keep_out f turn.m turn.rest c.least-k.result turn.invariant.1 t.1 _ (told ∙ w.if-reaches.false) w.m-is ]
          ∙ turn.invariant.2,
      λ k b. turn.invariant.3 k (and_l (bit turn.rest k) _ (sym (bit-less turn.rest turn.invariant.1 c.least-k.result k) ∙ ap (λ (m : ℕ). bit m k) (sym e) ∙ b)),
    )

pub returns : goal.returns
returns c =
    let end = c.loop-rest in
    let a = c.args in
    sym (keep-done (reaches_it a.scratch.now a.word (words_in a.g)) end.m end.rest end.invariant.0 (omega arith)) ∙ end.invariant.2
