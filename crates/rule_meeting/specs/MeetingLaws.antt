-- Who meets a listed value: of the attribute in a column, those whose values pass, narrowed to those who know it; of the roles held, the
-- set of all users, narrowed to the holders of each.
-- Assumes nothing.
use Rattle.std.specs.Prelude.{ℕ, ◌+◌, ◌*◌, ◌≤◌, ltb, get_or, Bool, ◌&&◌, List, ◌≡◌}
use Rattle.std.proofs.Common.{sym, ap, ap₂, ◌∙◌}
use Rattle.rule_meeting.specs.Meeting.{order, meets_at, holds_all}
use Rattle.sets.specs.Sets.{narrowing, bit, mask_of}
use Rattle.sets.specs.MaskLaws.{mask_same, mask_wide}
use Rattle.sets.specs.SetLaws.{bit_mask}
use Rattle.sets.specs.Tests.{imp, all, up_to}

pub holds-narrowed : (users : ℕ) (h : List ℕ) (v n : ℕ) → users ≤ 64 → mask_of 64 (narrowing (mask_of 64 (λ k. ltb k users)) (bit v) (λ k. get_or h k 0) n) ≡ mask_of users (holds_all h n v)
unfolding holds_all
holds-narrowed users h v n l =
    mask_same 64 (narrowing (mask_of 64 (λ k. ltb k users)) (bit v) (λ k. get_or h k 0) n) (λ u. ltb u users && all (λ j. imp (bit v j) (bit (get_or h j 0) u)) (up_to n))
    (λ u k. ap (λ (b : Bool). b && all (λ j. imp (bit v j) (bit (get_or h j 0) u)) (up_to n)) (bit_mask 64 (λ k. ltb k users) u k))
    ∙ sym (mask_wide users 64 (λ u. all (λ j. imp (bit v j) (bit (get_or h j 0) u)) (up_to n)) l)

-- of those whose values pass, the ones who know the attribute and are there
pub column-met : (known : ℕ) (values : List ℕ) (column count v : ℕ) (contained : Bool) {there passing knowing met : ℕ} → count ≤ 64
    → there ≡ mask_of 64 (λ k. ltb k count)
    → passing ≡ mask_of 64 (λ x. order contained v (get_or values (64 * column + x) 0))
    → knowing ≡ mask_of 64 (λ k. bit known k && bit passing k)
    → met ≡ mask_of 64 (λ k. bit there k && bit knowing k)
    → met ≡ mask_of count (meets_at known values column v contained)
unfolding meets_at
column-met known values column count v contained {there} {passing} {knowing} l et ep ek em =
    em ∙ mask_same 64 (λ k. bit there k && bit knowing k) (λ k. ltb k count && meets_at known values column v contained k)
    (λ k h. ap₂ ◌&&◌ (ap (λ (m : ℕ). bit m k) et ∙ bit_mask 64 (λ k. ltb k count) k h)
    (ap (λ (m : ℕ). bit m k) ek ∙ bit_mask 64 (λ k. bit known k && bit passing k) k h
    ∙ ap (λ (b : Bool). bit known k && b) (ap (λ (m : ℕ). bit m k) ep ∙ bit_mask 64 (λ x. order contained v (get_or values (64 * column + x) 0)) k h)))
    ∙ sym (mask_wide count 64 (meets_at known values column v contained) l)
