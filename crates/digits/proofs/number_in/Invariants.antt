-- The invariant: reading on from here gives the whole number. Assumes nothing.
use Rattle.std.proofs.Common.{◌≡◌, ◌+◌, ◌≤◌, drop}
use Rattle.digits.specs.Digits.{read_digits, number_in}
use Rattle.digits.proofs.number_in.Given as goal

abbrev pub invariant-loop-c : goal.invariant-loop-c
invariant-loop-c l = (l.n ≤ l.last + 1) × (read_digits l.last l.n (drop l.c-index l.text) ≡ number_in l.last l.text)
