-- The circle of seniority lines that is shown of a file with refusal 7. 02, request 3, "Show the circle".
-- Assumes nothing.
use Rattle.std.specs.Prelude.{ℕ, zero, suc, ◌≤◌, ◌<◌, ltb, leb, length, get_or, Bool, true, false, cond, ◌&&◌, not, List, [], ◌∷◌, map, ◌⊎◌, ◌≡◌}
use Rattle.policy.specs.Policy.{Policy, circular}
use Rattle.sets.specs.Sorted.{before}
use Rattle.sets.specs.Tests.{Is, ◌is_in◌, all, keep, each, up_to, elem}

-- "It starts with its lowest role."
abbrev pub starts_lowest : List ℕ → Bool
starts_lowest [] = true
starts_lowest (a ∷ cs) = all (leb a) cs

-- no number stands in the list twice
abbrev pub unrepeated : List ℕ → Bool
unrepeated [] = true
unrepeated (a ∷ cs) = not (elem a cs) && unrepeated cs

-- all lists of n numbers below k, in the order of their bytes
abbrev pub all_lists : ℕ → ℕ → List (List ℕ)
all_lists zero k = [] ∷ []
all_lists (suc n) k = let ls = all_lists n k in each (λ a. map (λ l. a ∷ l) ls) (up_to k)

module _ (line : ℕ → ℕ → Bool) where
  -- from role a through the roles cs to role b: "each the junior of the next in a 07 line of the file"
  abbrev pub chained : ℕ → List ℕ → ℕ → Bool
  chained a [] b = line a b
  chained a (c ∷ cs) b = line a c && chained c cs b

  -- a closed walk of lines: "and the last likewise the junior of the first; a 07 with one role twice is a circle of one"
  abbrev pub closes : List ℕ → Bool
  closes [] = false
  closes (a ∷ cs) = chained a cs a

  -- a circle as it is listed
  abbrev pub is_circle : List ℕ → Bool
  is_circle l = closes l && starts_lowest l

  module _ (k : ℕ) where
    -- the circles of n roles, of those below k, by the bytes as listed
    abbrev pub circles_of : ℕ → List (List ℕ)
    circles_of n = keep is_circle (all_lists n k)

    -- the first circle of n roles; if there is none, the first of n + 1, and so on for m numbers of roles
    abbrev pub circle_from : ℕ → ℕ → List ℕ
    circle_from n zero = []
    circle_from n (suc m) = let r = circle_from (suc n) m in get_or (circles_of n) 0 r

    -- "No other circle in the file has fewer roles; among those as short, it is the first by the bytes as listed"; the empty list if
    -- there is no circle
    unfoldable pub circle_in : List ℕ
    circle_in = circle_from 1 k

-- "the fewest roles that already make a circle" of a file with refusal 7; "accepted files an empty list"
unfoldable pub circle_of : Policy → List ℕ
circle_of F = cond (circular F) (circle_in F.line F.roles) []

-- WHAT REQUEST 3 SAYS of the list of a file with these lines.
pub record Circle (F : Policy) (list : List ℕ) : Type 0 where
  -- it is not empty exactly if the file has refusal 7: "a role is its own senior"
  pub found : circular F ≡ ltb 0 (length list)
  -- "each the junior of the next in a 07 line of the file, and the last likewise the junior of the first"
  pub closed : 0 < length list → Is (closes F.line list)
  -- they are roles of the file, and "It starts with its lowest role."
  pub declared : (r : ℕ) → r is_in list → r < F.roles
  pub lowest : Is (starts_lowest list)
  -- "No other circle in the file has fewer roles": no closed walk of lines at all
  pub fewest : (l : List ℕ) → Is (closes F.line l) → ((r : ℕ) → r is_in l → r < F.roles) → length list ≤ length l
  -- "among those as short, it is the first by the bytes as listed"
  pub first : (l : List ℕ) → Is (closes F.line l) → ((r : ℕ) → r is_in l → r < F.roles) → Is (starts_lowest l) → length l ≡ length list → (l ≡ list) ⊎ Is (before list l)
  -- so no role stands there twice, and there are at most as many as the file has
  pub once : Is (unrepeated list)
  pub few : length list ≤ F.roles
