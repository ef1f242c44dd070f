-- Assumes nothing.
use lib.ListN.{length}
use mathlib.Core.Path.{refl}
use native.Mathlib.Omega.{arith}
use Rattle.files.proofs.BytesLaws.{Bytes, bytes-all}
use Rattle.files.specs.Answer.{small_scratch, refused, accepted}
use Rattle.files.specs.Cause.{answer_of}
use Rattle.files.specs.declared.refusal.Refusal.TheVariants.{SmallScratch}
use Rattle.std.proofs.Common.{ℕ, List, get_or, Err, Fits, w8}
use Rattle.std.proofs.lemmas.Result.{err_from_is_err_and}
use Rattle.write_answer.proofs.MineLaws.{small, promised}
use Rattle.mining.proofs.mine.Goals as goal

-- a file's bytes are bytes
of-bytes : (file : List ℕ) → ((i : ℕ) → Fits w8 (get_or file i 0)) → Bytes file
of-bytes file f = bytes-all file (λ i. let b = (f i).fits in omega (arith, b))

pub returns-then-small : goal.returns-then-small
returns-then-small c =
    let a = c.args in
    promised a.file.now a.cuts.now (length a.scratch.now) a.out.now (of-bytes a.file.now c.type_inv.file) a.weights (refused small_scratch) (Err SmallScratch) _ refl
    (small a.file.now a.cuts.now (length a.scratch.now) a.out.now c.if-small.true)

pub returns-in_err-written : goal.returns-in_err-written
returns-in_err-written c =
    let a = c.args in
    let p = err_from_is_err_and c.from_residual.result c.from_residual.ensures.1 in
    promised a.file.now a.cuts.now (length a.scratch.now) a.out.now (of-bytes a.file.now c.type_inv.file) a.weights (answer_of c.from_residual.result) c.mine_in-a.result.wrote _ (rw (p.1, p.2, c.in_err-written.was) refl)
    (c.mine_in-a.ensures.0 (length a.scratch.now) c.if-small.false)

pub returns : goal.returns
returns c =
    let a = c.args in
    promised a.file.now a.cuts.now (length a.scratch.now) a.out.now (of-bytes a.file.now c.type_inv.file) a.weights (accepted c.weighed.result) c.mine_in-a.result.wrote _ (rw (c.weighed.ensures, c.in_ok-written.was) refl)
    (c.mine_in-a.ensures.0 (length a.scratch.now) c.if-small.false)
