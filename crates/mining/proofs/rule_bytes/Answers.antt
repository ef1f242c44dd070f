-- Mining without output says how much it would take. Assumes nothing.
use lib.ListN.{length}
use native.Mathlib.Omega.{arith}
use Rattle.write_answer.proofs.MineLaws.{needed-none, needed-some}
use Rattle.mining.proofs.rule_bytes.Goals as goal

pub returns-then-words-lt-SCRATCH : goal.returns-then-words-lt-SCRATCH
returns-then-words-lt-SCRATCH c = let a = c.args in needed-none a.file.now a.cuts.now (length a.scratch.now) c.if-words-lt-SCRATCH.true

pub returns : goal.returns
returns c =
    let a = c.args in
    needed-some a.file.now a.cuts.now (length a.scratch.now) _ (omega (arith, c.if-words-lt-SCRATCH.false)) c.mine_in-a.ensures.1
