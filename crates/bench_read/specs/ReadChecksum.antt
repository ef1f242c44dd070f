-- The checksum of what was read.
-- Assumes nothing.
use Rattle.std.specs.Prelude.{ℕ, zero, suc, ◌+◌, ◌%◌, ◌^◌, slice_index}
use Rattle.files.specs.Answer.{number_of, Answer, refused, accepted}
use Rattle.role_record.specs.declared.RoleFile.{RoleFile}

abbrev pub plus : ℕ → ℕ → ℕ
plus a b = (a + b) % 2 ^ 64

-- a word of each of four tables
unfoldable pub weight_of : RoleFile → ℕ → ℕ
weight_of f t = plus (plus (slice_index f.values (t % 768)) (slice_index f.permissions (t % 512))) (plus (slice_index f.seniors (t % 32)) (slice_index f.holders (t % 32)))

-- the weight of the record, or the number of the refusal
abbrev pub sample_of : Answer RoleFile → ℕ → ℕ
sample_of (refused e) t = number_of e
sample_of (accepted f) t = weight_of f t

-- the sum over the turns below n
abbrev pub total : (ℕ → ℕ) → ℕ → ℕ
total f zero = 0
total f (suc n) = plus (total f n) (f n)
