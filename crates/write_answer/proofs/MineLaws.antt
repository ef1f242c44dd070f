-- The answer and the output of mining, by the outcome of each test.
-- Assumes nothing.
use Rattle.std.specs.Prelude.{ℕ, ◌≤◌, ◌<◌, leb, length, drop, take, Bool, false, List, ◌++◌, Result, Ok, Err, ◌≡◌}
use Rattle.std.proofs.Common.{le-leb, ◌∙◌}
use Rattle.std.proofs.lemmas.Bool.{lt-leb}
use Rattle.std.proofs.Math.Bool.{true}
use Rattle.std.proofs.Math.Path.{refl, sym, ap, subst}
use Rattle.files.specs.Beside.{beside_of}
use Rattle.files.specs.Answer.{Answer, map_answer, unless, and_then, small_scratch, short_output, bad_cuts, refused, accepted}
use Rattle.files.proofs.BytesLaws.{Bytes}
use Rattle.files.proofs.CallLaws.{third_demand}
use Rattle.files.specs.Calls.{Counts, cuts_ok, least_scratch, mined_bytes, mined_counts, may_mine, mine_answer, mine_output}
use Rattle.files.specs.Cause.{cause, answer_of}
use Rattle.files.specs.Demand3.{Demand3}
use Rattle.files.specs.RoleFile.{read_roles}
use Rattle.files.specs.declared.refusal.Refusal.{Refusal}
use Rattle.files.specs.declared.refusal.Refusal.TheVariants.{SmallScratch, ShortOutput, BadCuts}
use Rattle.write_answer.specs.MinedNumbers.{mined_of, weighed_by}
use Rattle.write_answer.specs.Stages.{bytes_for, needed_bytes, Outcome}
use Rattle.policy.specs.Policy.{Policy}
use Rattle.policy.specs.declared.Weights.{Weights}
use Rattle.sets.specs.Tests.{Is}
use Rattle.write_answer.specs.declared.Mined.{Mined}
use Rattle.write_answer.specs.declared.Written.{Written}

module _ (file cuts : List ℕ) (scratch : ℕ) (former : List ℕ) where
  -- a refusal
  abbrev output_by : Answer Policy → List ℕ
  output_by a = elim a [ refused e ↦ former | accepted F ↦ mined_bytes 2 F cuts ++ drop (length (mined_bytes 2 F cuts)) former ]

  output-by : (a : Answer Policy) → may_mine 2 file cuts scratch (length former) ≡ a → mine_output 2 file cuts scratch former ≡ output_by a
  unfolding mine_output
  output-by a h = ap output_by h

  refuses : (e : Refusal) → may_mine 2 file cuts scratch (length former) ≡ refused (cause e) → Outcome file cuts scratch former (Err e) former
  unfolding mine_answer
  refuses e h = (λ weights. rw h refl, sym (output-by (refused (cause e)) h))

  may-small : scratch < least_scratch → may_mine 2 file cuts scratch (length former) ≡ refused small_scratch
  unfolding may_mine
  may-small h = ap (λ (b : Bool). unless b small_scratch (and_then (read_roles 2 file) (λ F. unless (cuts_ok cuts F.roles) bad_cuts (unless (leb (length (mined_bytes 2 F cuts)) (length former)) short_output (accepted F))))) (lt-leb least_scratch scratch h)

  -- 8
  pub small : scratch < least_scratch → Outcome file cuts scratch former (Err SmallScratch) former
  small h = refuses SmallScratch (may-small h)

  module _ (h : least_scratch ≤ scratch) where
    may_read : (a : Answer Policy) → read_roles 2 file ≡ a → may_mine 2 file cuts scratch (length former) ≡ and_then a (λ F. unless (cuts_ok cuts F.roles) bad_cuts (unless (leb (length (mined_bytes 2 F cuts)) (length former)) short_output (accepted F)))
    unfolding may_mine
    may_read a e = rw (le-leb least_scratch scratch h) (ap (λ (r : Answer Policy). and_then r (λ F. unless (cuts_ok cuts F.roles) bad_cuts (unless (leb (length (mined_bytes 2 F cuts)) (length former)) short_output (accepted F)))) e)

    -- 1 to 7
    pub unread : (e : Refusal) → read_roles 2 file ≡ refused (cause e) → Outcome file cuts scratch former (Err e) former
    unread e q = refuses e (may_read (refused (cause e)) q)

    module _ (F : Policy) (q : read_roles 2 file ≡ accepted F) where
      may-cut : (b : Bool) → cuts_ok cuts F.roles ≡ b → may_mine 2 file cuts scratch (length former) ≡ unless b bad_cuts (unless (leb (length (mined_bytes 2 F cuts)) (length former)) short_output (accepted F))
      may-cut b e = may_read (accepted F) q ∙ ap (λ (x : Bool). unless x bad_cuts (unless (leb (length (mined_bytes 2 F cuts)) (length former)) short_output (accepted F))) e

      -- 21
      pub bad-cuts : cuts_ok cuts F.roles ≡ false → Outcome file cuts scratch former (Err BadCuts) former
      bad-cuts e = refuses BadCuts (may-cut false e)

      may-room : Is (cuts_ok cuts F.roles) → (b : Bool) → leb (length (mined_bytes 2 F cuts)) (length former) ≡ b → may_mine 2 file cuts scratch (length former) ≡ unless b short_output (accepted F)
      may-room c b e = may-cut true c ∙ ap (λ (x : Bool). unless x short_output (accepted F)) e

      -- 9
      pub short : Is (cuts_ok cuts F.roles) → length former < length (mined_bytes 2 F cuts) → Outcome file cuts scratch former (Err ShortOutput) former
      short c l = refuses ShortOutput (may-room c false (lt-leb (length (mined_bytes 2 F cuts)) (length former) l))

      -- the file is written
      pub written : Is (cuts_ok cuts F.roles) → length (mined_bytes 2 F cuts) ≤ length former → (out : List ℕ) → out ≡ mined_bytes 2 F cuts ++ drop (length (mined_bytes 2 F cuts)) former
          → (w : Written) → ((weights : Weights) → weighed_by weights w ≡ mined_of (mined_counts 2 F cuts weights)) → Outcome file cuts scratch former (Ok w) out
      unfolding mine_answer
      written c l out e w n =
          let m = may-room c true (le-leb (length (mined_bytes 2 F cuts)) (length former) l) in
          (λ weights. ap accepted (n weights) ∙ sym (ap (λ (a : Answer Policy). map_answer mined_of (and_then a (λ F. accepted (mined_counts 2 F cuts weights)))) m), e ∙ sym (output-by (accepted F) m))

  -- the third demand, of the first bytes of the output
  pub demanded : Bytes file → (weights : Weights) (out : List ℕ) → out ≡ mine_output 2 file cuts scratch former → (c : Counts) → mine_answer 2 file cuts weights scratch (length former) ≡ accepted c
      → (F : Policy) × (read_roles 2 file ≡ accepted F) × Demand3 2 cuts weights (beside_of F) (take c.size out) c
  demanded b weights out e c h =
      subst (λ (o : List ℕ). (F : Policy) × (read_roles 2 file ≡ accepted F) × Demand3 2 cuts weights (beside_of F) (take c.size o) c) (sym e) (third_demand 2 file b cuts weights scratch former c h)

  -- by another name for what was written
  pub told-so : {r s : Result Written Refusal} {out : List ℕ} → r ≡ s → Outcome file cuts scratch former s out → Outcome file cuts scratch former r out
  told-so {r} {s} {out} e o = subst (λ (x : Result Written Refusal). Outcome file cuts scratch former x out) (sym e) o

  -- all three together, of what is told of what was written
  pub promised : Bytes file → (weights : Weights) (r : Answer Mined) (w : Result Written Refusal) (out : List ℕ) → r ≡ map_answer (weighed_by weights) (answer_of w) → Outcome file cuts scratch former w out
      → (r ≡ map_answer mined_of (mine_answer 2 file cuts weights scratch (length former))) × (out ≡ mine_output 2 file cuts scratch former)
      × ((c : Counts) → mine_answer 2 file cuts weights scratch (length former) ≡ accepted c → (F : Policy) × (read_roles 2 file ≡ accepted F) × Demand3 2 cuts weights (beside_of F) (take c.size out) c)
  promised b weights r w out n o = (n ∙ o.0 weights, o.1, demanded b weights out o.1)

-- a role file that is refused has no rule file, and with bad cuts none has
pub unread-bytes : (file cuts : List ℕ) (e : Refusal) → read_roles 2 file ≡ refused (cause e) → 0 ≡ bytes_for cuts (read_roles 2 file)
unread-bytes file cuts e q = rw q refl

pub uncut_bytes : (file cuts : List ℕ) (F : Policy) → read_roles 2 file ≡ accepted F → cuts_ok cuts F.roles ≡ false → 0 ≡ bytes_for cuts (read_roles 2 file)
uncut_bytes file cuts F q e = rw (q, e) refl

pub cut-bytes : (file cuts : List ℕ) (F : Policy) → read_roles 2 file ≡ accepted F → Is (cuts_ok cuts F.roles) → length (mined_bytes 2 F cuts) ≡ bytes_for cuts (read_roles 2 file)
cut-bytes file cuts F q e = rw (q, e) refl

-- the length that is needed, by the words of scratch
pub needed-none : (file cuts : List ℕ) (scratch : ℕ) → scratch < least_scratch → 0 ≡ needed_bytes file cuts scratch
unfolding needed_bytes
needed-none file cuts scratch h = rw (lt-leb least_scratch scratch h)

pub needed-some : (file cuts : List ℕ) (scratch n : ℕ) → least_scratch ≤ scratch → n ≡ bytes_for cuts (read_roles 2 file) → n ≡ needed_bytes file cuts scratch
unfolding needed_bytes
needed-some file cuts scratch n h e = rw (le-leb least_scratch scratch h) e
