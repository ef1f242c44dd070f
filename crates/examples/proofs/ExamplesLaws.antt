-- Every row of the table says what 01 says.
-- Assumes nothing.
use Rattle.std.specs.Prelude.{List, [], ◌≡◌, refl}
use Rattle.examples.specs.Examples.{Row, failing, nobody, rows}
use Rattle.files.specs.Calls.{triples, is_triple, rules_grant, parts_grant, first_difference, first_stray_rule, first_stray_part, verdict, mined_lines, cuts_ok, mined_bytes, mined_counts, may_mine, mine_answer, mine_output, role_question, read_both, rule_question, judge, show_answer, shown_place, shown_part, shown_byte, circle_answer, circle_output}
use Rattle.files.specs.Denials.{log_answer, denial_answer, role_denials}
use Rattle.files.specs.Load.{xorshift, value_run, assign_run, resource_run, permit_run, role_run, senior_run, load_run, load_bytes, load_answer, load_output}
use Rattle.files.specs.Edits.{with_edit, edit_answer, summary_word, summary, summary_answer}
use Rattle.files.specs.RoleFile.{blank, with_table, with_kind, with_value, with_assigned, with_permitted, with_line, take_kind, take_value, take_assignment, take_permission, take_line, take_sizes, obey_role, role_format, read_roles, read_commands}
use Rattle.files.specs.RuleFile.{values_in, conjuncts_in, rule_in, lists, parts_in, listings, cond_lines, all_lines, lines_of, whole, finished, follows, legal, levelled, add_line, obey_rule, encode, encode_all, encode_file, opened, rule_format, read_body, read_rules}
use Rattle.files.specs.RulePart.{rule_start}
use Rattle.files.specs.Windows.{window_count, starts, most_in, lowest_start, worst}
use Rattle.policy.specs.Circles.{circle_in, circle_of}
use Rattle.policy.specs.Cost.{single_cost, set_cost, atom_cost, side_cost, rule_cost}
use Rattle.policy.specs.Covering.{all_know, values_of, op_in, pair_in, stands_in, everywhere, conjuncts, atom_conds, cover, fits, level_of}
use Rattle.policy.specs.Merging.{union, mergeable}
use Rattle.policy.specs.Mined.{run_of, part_count, part_at, part_block, segments, mined_groups, merge_count, group_block, rule_of}
use Rattle.policy.specs.Policy.{senior, circular, held, roles_of, is_set_at, value_at, side_of, setting_of, roles_in}
use Rattle.policy.specs.Roles.{alike, leads, is_part, parts, block_of, class_of, roles_grant}
use Rattle.policy.specs.Rules.{meets, attrs_of, holds, grants, allowed, at, rule_level, well_formed, of_section, same_block}
use Rattle.policy.specs.Satisfying.{single_attributes, set_attributes, satisfies_singles, satisfies_sets, satisfies}
use Rattle.policy.specs.Thinning.{trim, trim_cond, grants_just, thinned, written}
use Rattle.renumbering.specs.Renumbered.{renumber}
use Rattle.sets.specs.Lowest.{lowest}
use Rattle.sets.specs.Sets.{bit, subset, mask_of, size}

-- the table of examples
abbrev pub table : List Row
table = rows nobody

pub shown : failing table ≡ []
unfolding mask_of all_know values_of op_in pair_in stands_in everywhere conjuncts atom_conds cover fits level_of lowest union mergeable run_of part_count part_at part_block segments mined_groups merge_count group_block rule_of senior circular held roles_of is_set_at value_at side_of setting_of roles_in alike leads is_part parts block_of class_of roles_grant meets attrs_of holds grants allowed at rule_level well_formed of_section same_block bit subset size trim trim_cond grants_just thinned written single_cost set_cost atom_cost side_cost rule_cost triples is_triple rules_grant parts_grant first_difference first_stray_rule first_stray_part verdict mined_lines cuts_ok mined_bytes mined_counts may_mine mine_answer mine_output role_question read_both rule_question judge blank with_table with_kind with_value with_assigned with_permitted with_line take_kind take_value take_assignment take_permission take_line take_sizes obey_role role_format read_roles values_in conjuncts_in rule_in lists parts_in listings cond_lines lines_of all_lines encode encode_all encode_file opened read_body legal whole finished follows add_line obey_rule rule_format read_rules rule_start show_answer shown_place shown_part shown_byte circle_in circle_of circle_answer circle_output read_commands single_attributes set_attributes satisfies_singles satisfies_sets satisfies xorshift value_run assign_run resource_run permit_run role_run senior_run load_run load_bytes load_answer load_output with_edit edit_answer summary_word summary summary_answer levelled window_count starts most_in lowest_start worst log_answer denial_answer role_denials renumber
shown = refl
