-- The rules that are mined lie within the memory that is lent. Assumes nothing.
use Rattle.std.proofs.Common.{length, length-take-le, ◌≤◌, ◌≡◌, ℕ, List, sym, subst, arith}
use Rattle.files.specs.Answer.{accepted, map_answer}
use Rattle.files.specs.Calls.{mine_answer}
use Rattle.files.proofs.AnswerLaws.{map-accepted}
use Rattle.files.proofs.CallLaws.{accepted-output}
use Rattle.policy.specs.declared.Weights.{Weights}
use Rattle.write_answer.specs.MinedNumbers.{mined_of}
use Rattle.write_answer.specs.declared.Mined.{Mined}
use Rattle.mine.proofs.mine_file.Goals as goal

-- no more bytes are written than there is room for
mined-within : (file cuts : List ℕ) (weights : Weights) (scratch : ℕ) (former : List ℕ) (m : Mined)
    → accepted m ≡ map_answer mined_of (mine_answer 2 file cuts weights scratch (length former)) → m.length ≤ length former
mined-within file cuts weights scratch former m h =
    let t = map-accepted mined_of m (mine_answer 2 file cuts weights scratch (length former)) h in
    subst (λ (x : Mined). x.length ≤ length former) (sym t.made) (accepted-output 2 file cuts weights scratch former t.value t.is).inside

pub slice_bounds-out-end : goal.slice_bounds-out-end
slice_bounds-out-end c =
    let l = mined-within c.args.file.now c.args.cuts.now _ _ c.roles_buffer-out.result c.in-Ok.mined c.in-Ok.ensures.0 in
    omega (arith, l)

pub slice_bounds-finish-end : goal.slice_bounds-finish-end
slice_bounds-finish-end c =
    let l = mined-within c.args.file.now c.args.cuts.now _ _ c.roles_buffer-out.result c.in-Ok.mined c.in-Ok.ensures.0 in
    let whole = length-take-le c.in-Ok.mined.length c.mine.new.out (omega (arith, l)) in
    omega (arith, whole)
