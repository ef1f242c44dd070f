-- Where the part that is handed back stands, as the code hands it back.
-- Assumes nothing.
use Rattle.std.specs.Prelude.{ℕ, ◌≤◌, length, List, Result, Ok, Err, IfOk}
use Rattle.files.specs.declared.refusal.Refusal.{Refusal}
use Rattle.rule_show.specs.declared.Place.{Place}

-- where a part begins and ends
abbrev pub place_of : ℕ × ℕ → Place
place_of p = record { from = p.0; to = p.1 }

-- it is a part of the rule file
abbrev pub Within : List ℕ → Result Place Refusal → Type 0
Within rules located = IfOk located (λ place. (place.from ≤ place.to) × (place.to ≤ length rules))

-- "on a refusal ... the empty one at the file's start"
abbrev pub place_or_start : Result Place Refusal → Place
place_or_start (Ok place) = place
place_or_start (Err e) = place_of (0, 0)
