-- The tables that mining works out of a record are those of its policy, and so is what comes of them.
-- Assumes nothing.
use Rattle.std.specs.Prelude.{ℕ, ◌+◌, ◌*◌, ◌≤◌, length, Bool, List, Ok, ◌≡◌, refl}
use Rattle.std.proofs.Common.{sym, ap, ◌∙◌, subst, arith}
use Rattle.role_record.specs.Record.{Sized, WithinLimits, FewAttributes, sizes_of, attribute_table, record_with, record_of}
use Rattle.mine_distinct.specs.InsideValues.{inside_table}
use Rattle.files.specs.Answer.{accepted}
use Rattle.files.specs.Calls.{cuts_ok, least_scratch, mined_bytes, mined_counts}
use Rattle.files.specs.RoleFile.{read_roles}
use Rattle.grant_grids.specs.Links.{link_table}
use Rattle.mine_matches.specs.Matches.{match_table, known_places}
use Rattle.write_file.specs.FileLaws.{file_means, measure_means}
use Rattle.write_kept.specs.Kept.{KeptTable}
use Rattle.write_measure.specs.FileTable.{file_bytes, measured_of}
use Rattle.write_measure.specs.MeasureLaws.{file-most}
use Rattle.write_shape.specs.ShapedFile.{shaped_bytes}
use Rattle.rule_opening.specs.Opening.{shape_in}
use Rattle.rule_opening.specs.OpeningLaws.{shape-so}
use Rattle.role_record.specs.declared.Sizes.{Sizes}
use Rattle.write_answer.proofs.MineLaws.{written}
use Rattle.write_answer.specs.MinedNumbers.{mined_of, weighed_by}
use Rattle.write_answer.specs.Stages.{OfRecord, Outcome, KeptFor, MergedBy, WrittenBy}
use Rattle.write_lines.specs.Writing.{wrote}
use Rattle.policy.specs.Mined.{merge_count}
use Rattle.policy.specs.Policy.{Policy, setting_of, roles_in}
use Rattle.policy.specs.Rules.{user, resource}
use Rattle.policy.specs.declared.Weights.{Weights}
use Rattle.sets.specs.Tests.{Is}
use Rattle.write_cost.specs.CostSums.{weighed}
use Rattle.mine_groups.specs.Scratch.{Merged, all_parts, Stands}
use Rattle.mine_parts.specs.Layout.{most_parts}
use Rattle.role_record.specs.declared.RoleFile.{RoleFile}
use Rattle.write_measure.specs.declared.Measured.{Measured}
use Rattle.mine_merge.specs.Steps.{Tables}
use Rattle.grant_distinct.specs.Distinct.{distinct_table, having_table}

-- ---- the record

pub stored : (F : Policy) (f : RoleFile) → f ≡ record_of F → (s : Sizes) → s ≡ sizes_of f → OfRecord F f.known f.values f.kinds f.domains f.attributes f.holders f.permissions s.users s.resources s.operations s.roles
stored F f e s z = record {
  of-known = ap (λ (g : RoleFile). g.known) e;
  of_values = ap (λ (g : RoleFile). g.values) e;
  of-kinds = ap (λ (g : RoleFile). g.kinds) e;
  of_domains = ap (λ (g : RoleFile). g.domains) e;
  of-attributes = ap (λ (g : RoleFile). g.attributes) e;
  of-holders = ap (λ (g : RoleFile). g.holders) e;
  of-permissions = ap (λ (g : RoleFile). g.permissions) e;
  of-users = ap (λ (n : Sizes). n.users) z ∙ ap (λ (g : RoleFile). g.users) e;
  of-resources = ap (λ (n : Sizes). n.resources) z ∙ ap (λ (g : RoleFile). g.resources) e;
  of-operations = ap (λ (n : Sizes). n.operations) z ∙ ap (λ (g : RoleFile). g.operations) e;
  of-roles = ap (λ (n : Sizes). n.roles) z ∙ ap (λ (g : RoleFile). g.roles) e;
}

-- ---- the tables

-- the tables of distinct values are those of the policy
module _ (F : Policy) (known values kinds domains attributes holders permissions : List ℕ) (users resources operations roles : ℕ) (s : OfRecord F known values kinds domains attributes holders permissions users resources operations roles) (distinct having inside : List ℕ)
    (d : distinct ≡ distinct_table known values holders users resources roles) (h : having ≡ having_table known values holders users resources roles) (i : inside ≡ inside_table known values holders kinds users resources roles) where
  pub merged_by : MergedBy F known kinds domains attributes holders permissions distinct having users resources operations roles
  merged_by = record {
    of-known = s.of-known;
    of-kinds = s.of-kinds;
    of_domains = s.of_domains;
    of-attributes = s.of-attributes;
    of-holders = s.of-holders;
    of-permissions = s.of-permissions;
    of-distinct = d ∙ rw (s.of-known, s.of_values, s.of-holders, s.of-users, s.of-resources, s.of-roles) refl;
    of-having = h ∙ rw (s.of-known, s.of_values, s.of-holders, s.of-users, s.of-resources, s.of-roles) refl;
    of-users = s.of-users;
    of-resources = s.of-resources;
    of-operations = s.of-operations;
    of-roles = s.of-roles;
  }

  pub written-by : (cuts kept starts t : List ℕ) → Merged F cuts (all_parts starts) t → KeptFor F starts t kept
      → WrittenBy F cuts kept distinct having inside kinds permissions (record { users = users; resources = resources; operations = operations; roles = roles }) attributes starts t
  written-by cuts kept starts t M k = record {
    merged = M;
    of-kept = k;
    of-distinct = merged_by.of-distinct;
    of-having = merged_by.of-having;
    of-inside = i ∙ rw (s.of-known, s.of_values, s.of-holders, s.of-kinds, s.of-users, s.of-resources, s.of-roles) refl;
    of-kinds = s.of-kinds;
    of-permissions = s.of-permissions;
    of-operations = s.of-operations;
    of-shape = rw (s.of-users, s.of-resources, s.of-operations, s.of-roles, s.of-attributes) (shape-so F);
  }

-- ---- merging

module _ (F : Policy) (known kinds domains attributes holders permissions distinct having : List ℕ) (users resources operations roles : ℕ) (m : MergedBy F known kinds domains attributes holders permissions distinct having users resources operations roles) where
  -- the tables of distinct values, as those of a policy's record
  pub distinct-so : distinct ≡ distinct_table known (record_of F).values holders users resources roles
  distinct-so = m.of-distinct ∙ rw (m.of-known, m.of-holders, m.of-users, m.of-resources, m.of-roles) refl

  pub having-so : having ≡ having_table known (record_of F).values holders users resources roles
  having-so = m.of-having ∙ rw (m.of-known, m.of-holders, m.of-users, m.of-resources, m.of-roles) refl

  module _ (links matched places : List ℕ) (p : links ≡ link_table known (record_of F).values kinds domains resources) (q : matched ≡ match_table kinds known (record_of F).values holders users resources roles) (r : places ≡ known_places users resources known) where
    -- the tables by which parts are merged are those of the policy
    pub tables-so : Tables F links matched places attributes holders permissions users resources operations roles
    tables-so = record {
      of-links = p ∙ rw (m.of-known, m.of-kinds, m.of_domains, m.of-resources) refl;
      of_matches = q ∙ rw (m.of-kinds, m.of-known, m.of-holders, m.of-users, m.of-resources, m.of-roles) refl;
      of-known = r ∙ rw (m.of-users, m.of-resources, m.of-known) refl;
      of-attributes = m.of-attributes;
      of-holders = m.of-holders;
      of-permissions = m.of-permissions;
      of-users = m.of-users;
      of-resources = m.of-resources;
      of-operations = m.of-operations;
      of-roles = m.of-roles;
    }

    pub kept-so : (kept starts t : List ℕ) → KeptTable links matched places attributes users resources operations (all_parts starts) t kept → KeptFor F starts t kept
    kept-so kept starts t k i l = k i l ∙ rw (tables-so.of-links, tables-so.of_matches, tables-so.of-known, m.of-attributes, m.of-users, m.of-resources, m.of-operations) refl

-- ---- writing

module _ (F : Policy) (cuts : List ℕ) (Z : Sized F) (kept distinct having inside kinds permissions : List ℕ) (sizes : Sizes) (attributes starts t : List ℕ) (S : Stands t starts)
    (w : WrittenBy F cuts kept distinct having inside kinds permissions sizes attributes starts t) where
  pub file-so : shaped_bytes (shape_in sizes attributes) (file_bytes kept distinct having inside kinds permissions sizes.operations starts t) ≡ mined_bytes 2 F cuts
  file-so =
      ap (λ (shape : List ℕ). shaped_bytes shape (file_bytes kept distinct having inside kinds permissions sizes.operations starts t)) w.of-shape
      ∙ rw (w.of-distinct, w.of-having, w.of-inside, w.of-kinds, w.of-permissions, w.of-operations) (file_means F cuts Z starts t S w.merged kept w.of-kept)

  pub measured-so : (m : Measured) → m ≡ measured_of kept distinct having inside kinds permissions sizes.operations starts t
      → (7 + m.bytes ≡ length (mined_bytes 2 F cuts))
      × ((weights : Weights) → mined_counts 2 F cuts weights ≡ record { size = 7 + m.bytes; parts = all_parts starts; rules = m.rules; merges = merge_count (setting_of F) (roles_in F) cuts; cost = weighed weights m.sums })
  measured-so m e =
      measure_means F cuts Z starts t S w.merged kept w.of-kept m (e ∙ rw (w.of-distinct, w.of-having, w.of-inside, w.of-kinds, w.of-permissions, w.of-operations) refl)

-- what was measured is as long as the rules that are written, and not long
pub measured-long : (kept distinct having inside kinds permissions : List ℕ) (operations : ℕ) (starts t : List ℕ) → Stands t starts → (m : Measured) → m ≡ measured_of kept distinct having inside kinds permissions operations starts t
    → (m.bytes ≡ length (file_bytes kept distinct having inside kinds permissions operations starts t)) × (m.bytes ≤ 12288 * most_parts + 1)
unfolding measured_of
measured-long kept distinct having inside kinds permissions operations starts t S m e =
    let l = ap (λ (x : Measured). x.bytes) e in
    (l, omega (arith, l, S.room, file-most kept distinct having inside kinds permissions operations starts t))

-- the sizes of a loaded record
pub record-sizes : (F : Policy) → Sized F → (f : RoleFile) → f ≡ record_of F → (s : Sizes) → s ≡ sizes_of f → WithinLimits s × FewAttributes f.attributes
unfolding record_of record_with attribute_table
record-sizes F Z f e s z = (
  subst WithinLimits (sym (z ∙ ap sizes_of e)) (Z.many user, Z.many resource, Z.operable, Z.few),
  subst (λ (g : RoleFile). FewAttributes g.attributes) (sym e) (Z.declared user, Z.declared resource),
)

-- cuts between the roles of a loaded record
pub cuts_so : (F : Policy) (f : RoleFile) → f ≡ record_of F → (cuts : List ℕ) (b : Bool) → cuts_ok cuts f.roles ≡ b → cuts_ok cuts F.roles ≡ b
unfolding record_of record_with
cuts_so F f e cuts b h = ap (λ (g : RoleFile). cuts_ok cuts g.roles) (sym e) ∙ h

-- the answer once the file is written
pub answered : (file cuts : List ℕ) (scratch : ℕ) (former : List ℕ) → least_scratch ≤ scratch → (F : Policy) → read_roles 2 file ≡ accepted F → Is (cuts_ok cuts F.roles) → (m : Measured) (parts merges : ℕ)
    → ((weights : Weights) → mined_counts 2 F cuts weights ≡ record { size = 7 + m.bytes; parts = parts; rules = m.rules; merges = merge_count (setting_of F) (roles_in F) cuts; cost = weighed weights m.sums })
    → merges ≡ merge_count (setting_of F) (roles_in F) cuts → length (mined_bytes 2 F cuts) ≤ length former
    → (bytes out : List ℕ) → bytes ≡ mined_bytes 2 F cuts → out ≡ wrote bytes former → Outcome file cuts scratch former (Ok (record { length = 7 + m.bytes; parts = parts; rules = m.rules; merges = merges; sums = m.sums })) out
answered file cuts scratch former h F q c m parts merges e g l bytes out b o =
    written file cuts scratch former h F q c l out (o ∙ ap (λ (x : List ℕ). wrote x former) b) (record { length = 7 + m.bytes; parts = parts; rules = m.rules; merges = merges; sums = m.sums })
    (λ weights. ap (λ (k : ℕ). weighed_by weights (record { length = 7 + m.bytes; parts = parts; rules = m.rules; merges = k; sums = m.sums })) g ∙ ap mined_of (sym (e weights)))
