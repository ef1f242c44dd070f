-- The file that is made lies within the memory that is lent. Assumes nothing.
use Rattle.std.proofs.Common.{length, length-take-le, ◌≤◌, ◌≡◌, ℕ, List, sym, arith}
use Rattle.files.specs.Answer.{accepted}
use Rattle.files.specs.Load.{load_answer}
use Rattle.files.proofs.LoadLaws.{load_written}
use Rattle.load.proofs.make.Goals as goal

-- no more bytes are written than there is room for
written-within : (seed u r o k : ℕ) (former : List ℕ) (n : ℕ) → accepted n ≡ load_answer 2 seed u r o k (length former) → n ≤ length former
written-within seed u r o k former n h = (load_written 2 seed u r o k former n (sym h)).1

pub slice_bounds-out-end : goal.slice_bounds-out-end
slice_bounds-out-end c = let l = written-within _ _ _ _ _ c.roles_buffer-out.result c.in-Ok.n c.in-Ok.ensures.0 in omega (arith, l)

pub slice_bounds-finish-end : goal.slice_bounds-finish-end
slice_bounds-finish-end c =
    let l = written-within _ _ _ _ _ c.roles_buffer-out.result c.in-Ok.n c.in-Ok.ensures.0 in
    let whole = length-take-le c.in-Ok.n c.generate.new.out (omega (arith, l)) in
    omega (arith, whole)
