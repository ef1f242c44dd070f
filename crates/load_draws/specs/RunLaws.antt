-- Runs of draws, one after the other.
-- Assumes nothing.
use Rattle.std.specs.Prelude.{ℕ, zero, suc, ◌+◌, ◌*◌, ◌%◌, ◌≤◌, eqb, length, Bool, true, false, List, [], ◌∷◌, ◌≡◌, refl}
use Rattle.std.proofs.Common.{length-append, sym, ap, ap₂, ◌∙◌, subst, add-zero, add_assoc, mul-suc, arith}
use Rattle.std.proofs.lemmas.List.Edits.{sets}
use Rattle.std.proofs.Math.Seq.{length-sets}
use Rattle.files.specs.Load.{xorshift, Run, draw, follow, times, line_if}
use Rattle.load_bytes.specs.Putting.{Put}
use Rattle.load_bytes.specs.StoreLaws.{sets-append}
use Rattle.load_draws.specs.Runs.{Ran}
use Rattle.load_draws.specs.declared.Drawn.{Drawn}
use Rattle.load_lines.specs.DrawnLines.{line_of}
use Rattle.load_lines.specs.declared.Draws.{Draws}
use Rattle.load_lines.specs.declared.Draws.TheVariants.{Values, Users, Operations, Seniors}

-- none was made
pub ran_none : (f : ℕ → Run) (d : Drawn) (out : List ℕ) → Ran (times 0 f) d out out d
ran_none f d out = ((refl, sym (add-zero d.at)), refl)

-- one draw, and its line
pub ran_draw : (s : Draws) (i : ℕ) (d : Drawn) (out out' : List ℕ) (x at : ℕ) → x ≡ xorshift d.last → Put (line_of s i x) out d.at out' at
    → Ran (draw (line_of s i)) d out out' (record { at = at; last = x })
ran_draw s i d out out' x at e p = (subst (λ (y : ℕ). Put (line_of s i y) out d.at out' at) e p, e)

-- memory keeps its length
pub ran_length : (f : Run) (d r : Drawn) (out out' : List ℕ) → Ran f d out out' r → length out' ≡ length out
ran_length f d r out out' p = ap length p.0.0 ∙ length-sets out d.at (f d.last).0

-- one, and then another
pub ran_on : (f g : Run) (d e r : Drawn) (out out' out'' : List ℕ) → Ran f d out out' e → Ran g e out' out'' r → Ran (follow f g) d out out'' r
ran_on f g d e r out out' out'' p q =
    let a = (f d.last).0 in
    let b = (g (f d.last).1).0 in
    -- the second begins where the first ended
    let z : g e.last ≡ g (f d.last).1 = ap g p.1 in
    let w : out'' ≡ sets (sets out d.at a) (d.at + length a) b =
    q.0.0 ∙ ap₂ (λ (o : List ℕ) (k : ℕ). sets o k (g e.last).0) p.0.0 p.0.1 ∙ ap (λ (y : List ℕ × ℕ). sets (sets out d.at a) (d.at + length a) y.0) z
    in
    let n : r.at ≡ d.at + length a + length b = q.0.1 ∙ ap₂ (λ (k l : ℕ). k + l) p.0.1 (ap (λ (y : List ℕ × ℕ). length y.0) z) in
    ((w ∙ sym (sets-append out d.at a b), n ∙ add_assoc d.at (length a) (length b) ∙ ap (λ (k : ℕ). d.at + k) (sym (length-append a b))), q.1 ∙ ap (λ (y : List ℕ × ℕ). y.1) z)

-- a loop that makes one in each turn
pub ran_next : (f : ℕ → Run) (i : ℕ) (d e r : Drawn) (out out' out'' : List ℕ) → Ran (times i f) d out out' e → Ran (f i) e out' out'' r → Ran (times (i + 1) f) d out out'' r
ran_next f i d e r out out' out'' p q = subst (λ (k : ℕ). Ran (times k f) d out out'' r) (one_more_lem i) (ran_on (times i f) (f i) d e r out out' out'' p q)
  where
    one_more_lem : (i : ℕ) → suc i ≡ i + 1
    one_more_lem i = omega arith

pub ran_end : (f : ℕ → Run) (i n : ℕ) (d r : Drawn) (out out' : List ℕ) → i ≡ n → Ran (times i f) d out out' r → Ran (times n f) d out out' r
ran_end f i n d r out out' e p = subst (λ (k : ℕ). Ran (times k f) d out out' r) e p

-- ---- how many bytes a run writes at most

most_if : (b : Bool) (l : List ℕ) → length l ≤ 6 → length (line_if b l) ≤ 6
most_if true l h = h
most_if false l h = omega arith

-- a run has at most so many
abbrev pub AtMost : ℕ → Run → Type 0
AtMost c f = (x : ℕ) → length (f x).0 ≤ c

pub most-follow : (a b : ℕ) (f g : Run) → AtMost a f → AtMost b g → AtMost (a + b) (follow f g)
most-follow a b f g p q x =
    let n = length-append (f x).0 (g (f x).1).0 in
    let i = p x in
    let j = q (f x).1 in
    omega arith

pub most-times : (c n : ℕ) (f : ℕ → Run) → ((i : ℕ) → AtMost c (f i)) → AtMost (c * n) (times n f)
most-times c zero f p x = omega arith
most-times c (suc n) f p x =
    let h = most-follow (c * n) c (times n f) (f n) (most-times c n f p) (p n) x in
    subst (λ (k : ℕ). length (times (suc n) f x).0 ≤ k) (sym (mul-suc c n)) h

-- a line has at most six
pub most-line : (s : Draws) (i : ℕ) → AtMost 6 (draw (line_of s i))
most-line (Values side) i x = omega arith
most-line (Users k) i x = most_if (eqb (xorshift x % 4) 0) (0x05 ∷ k ∷ i ∷ []) (omega arith)
most-line (Operations k r) i x = most_if (eqb (xorshift x % 2) 0) (0x06 ∷ k ∷ r ∷ i ∷ []) (omega arith)
most-line (Seniors j) i x = most_if (eqb (xorshift x % 16) 0) (0x07 ∷ j ∷ (j + 1 + i) ∷ []) (omega arith)

-- so the next line goes no further
pub ran_within : (c : ℕ) (f : Run) (d r : Drawn) (out out' : List ℕ) → AtMost c f → Ran f d out out' r → r.at ≤ d.at + c
ran_within c f d r out out' h p = let n = h d.last in let e = p.0.1 in omega arith
