-- Bytes stored one run behind the other, as far as memory goes.
-- Assumes nothing.
use Rattle.std.specs.Prelude.{ℕ, suc, ◌+◌, ◌≤◌, ◌<◌, length, get_or, set, take, drop, List, [], ◌∷◌, ◌++◌, ◌≡◌}
use Rattle.std.proofs.lemmas.List.Edits.{sets, sets-eq}
use Rattle.std.proofs.Common.{take-suc, take_all, length-take-le, sym, ap, ◌∙◌, add-zero, zero-add, arith}

-- one run behind the other
pub sets-append : (out : List ℕ) (at : ℕ) (a b : List ℕ) → sets out at (a ++ b) ≡ sets (sets out at a) (at + length a) b
sets-append out at [] b = ap (λ (k : ℕ). sets out k b) (sym (add-zero at))
sets-append out at (x ∷ a) b =
    let e : suc at + length a ≡ at + suc (length a) = omega arith in
    sets-append (set out at x) (suc at) a b ∙ ap (λ (k : ℕ). sets (sets (set out at x) (suc at) a) k b) e

-- a loop that stores one byte after the other: one more
pub stored_next : (bs out : List ℕ) (at i : ℕ) (now : List ℕ) → i < length bs → now ≡ sets out at (take i bs)
    → set now (at + i) (get_or bs i 0) ≡ sets out at (take (i + 1) bs)
stored_next bs out at i now h e =
    let t : take (i + 1) bs ≡ take i bs ++ (get_or bs i 0 ∷ []) = ap (λ (k : ℕ). take k bs) (add-one i) ∙ take-suc bs i 0 h in
    let n : length (take i bs) ≡ i = length-take-le i bs (omega arith) in
    ap (λ (l : List ℕ). set l (at + i) (get_or bs i 0)) e
    ∙ ap (λ (k : ℕ). set (sets out at (take i bs)) (at + k) (get_or bs i 0)) (sym n)
    ∙ sym (sets-append out at (take i bs) (get_or bs i 0 ∷ []))
    ∙ ap (sets out at) (sym t)
  where
    add-one : (i : ℕ) → i + 1 ≡ suc i
    add-one i = omega arith

-- and all of them
pub stored-all : (bs out : List ℕ) (at i : ℕ) (now : List ℕ) → i ≡ length bs → now ≡ sets out at (take i bs) → now ≡ sets out at bs
stored-all bs out at i now h e = e ∙ ap (sets out at) (take_all i bs (omega arith))

-- where there is room the bytes stand at the front, and behind them what stood there before
pub stored-front : (bs out : List ℕ) → length bs ≤ length out → sets out 0 bs ≡ bs ++ drop (length bs) out
stored-front bs out h = sets-eq bs out 0 (omega arith) ∙ ap (λ (k : ℕ). bs ++ drop k out) (zero-add (length bs))
