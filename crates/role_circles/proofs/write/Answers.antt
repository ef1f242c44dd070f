use Prim.Native.Nat.{ℕ, ◌+◌, ◌-◌, ◌<◌}
use borrow.Author.Rules.{rules}
use lib.ListN.{get_or, set, length-set}
use mathlib.Core.List.{List}
use mathlib.Core.Path.{◌≡◌, ◌∙◌}
use native.Mathlib.Omega.{arith}
use Rattle.role_circles.specs.BackLaws.{Listing, list_begin, list_role, list_on, list_end, back_at}
use Rattle.role_circles.specs.BackWords.{next_in, back_word}
use Rattle.sets.specs.Lowest.{lowest_from}
use Rattle.sets.specs.Sets.{bit}
use Rattle.role_circles.proofs.write.Goals as goal

pub loop-i-init : goal.loop-i-init
loop-i-init c =
    let a = c.args in
    (search rules, search rules, list_begin a.lines.now a.roles a.low a.more a.out.now c.requires.1 c.requires.3 c.requires.4)

pub overflow_cast-out-in-loop-i : goal.overflow_cast-out-in-loop-i
overflow_cast-out-in-loop-i c =
    let left : ℕ = c.args.more - 1 - c.loop-i.i in
    let back : List ℕ = c.back_words.new.out in
    let chosen : c.least_next-x.result ≡ lowest_from (bit (next_in c.args.lines.now c.args.low (get_or back left 0) c.loop-i.x)) 0 64 = c.least_next-x.ensures in
    let word : get_or back left 0 ≡ back_word c.args.lines.now c.args.roles c.args.low left = let a = c.args in
    let m = c.requires.2 in
    let k = c.requires.0 in
    back_at a.lines.now a.roles a.low _ (a.more - 1 - c.loop-i.i) c.back_words.ensures (omega arith) in
    let role : c.least_next-x.result < c.args.roles = let a = c.args in
    let r = c.requires.3 in
    let n = length-set a.out.now 0 a.low in
    list_role a.lines.now a.roles a.low a.more c.requires.0 (set a.out.now 0 a.low) c.loop-i.out c.loop-i.i c.loop-i.x c.loop-i-test.true (omega arith) c.loop-i.invariant.2 _ _ word chosen in
    let r = role in let p = c.requires.0 in omega arith

pub bounds-out-i : goal.bounds-out-i
bounds-out-i c =
    let l = c.loop-i.invariant.2.long in
    let r = c.requires.3 in
    let n = length-set c.args.out.now 0 c.args.low in
    let t = c.loop-i-test.true in
    omega arith

pub loop-i-preserved : goal.loop-i-preserved
loop-i-preserved c =
    let left : ℕ = c.args.more - 1 - c.loop-i.i in
    let back : List ℕ = c.back_words.new.out in
    let chosen : c.least_next-x.result ≡ lowest_from (bit (next_in c.args.lines.now c.args.low (get_or back left 0) c.loop-i.x)) 0 64 = c.least_next-x.ensures in
    let word : get_or back left 0 ≡ back_word c.args.lines.now c.args.roles c.args.low left = let a = c.args in
    let m = c.requires.2 in
    let k = c.requires.0 in
    back_at a.lines.now a.roles a.low _ (a.more - 1 - c.loop-i.i) c.back_words.ensures (omega arith) in
    let role : c.least_next-x.result < c.args.roles = let a = c.args in
    let r = c.requires.3 in
    let n = length-set a.out.now 0 a.low in
    list_role a.lines.now a.roles a.low a.more c.requires.0 (set a.out.now 0 a.low) c.loop-i.out c.loop-i.i c.loop-i.x c.loop-i-test.true (omega arith) c.loop-i.invariant.2 _ _ word chosen in
    let next : Listing c.args.lines.now c.args.roles c.args.low c.args.more (set c.args.out.now 0 c.args.low) (set c.loop-i.out (c.loop-i.i + 1) c.least_next-x.result) (c.loop-i.i + 1) c.least_next-x.result = let a = c.args in
    let r = c.requires.3 in
    let n = length-set a.out.now 0 a.low in
    list_on a.lines.now a.roles a.low a.more c.requires.0 (set a.out.now 0 a.low) c.loop-i.out c.loop-i.i c.loop-i.x c.loop-i-test.true (omega arith) c.loop-i.invariant.2 _ _ word chosen in
    (search rules, role, next)

pub shape_of-out : goal.shape_of-out
shape_of-out c = c.loop-i.invariant.2.long ∙ length-set c.args.out.now 0 c.args.low

pub returns : goal.returns
returns c =
    let a = c.args in
    list_end a.lines.now a.roles a.low a.more a.out.now c.loop-i.out c.loop-i.i c.loop-i.x (omega arith) c.loop-i.invariant.2
