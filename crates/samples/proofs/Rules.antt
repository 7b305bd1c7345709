-- One name for all the rules of judging, and for the rows of the tables: a theorem by computation unfolds it.
use Rattle.laws.specs.First.{first_fault}
use Rattle.laws.specs.Lists
use Rattle.laws.specs.Sorting
use Rattle.laws.specs.Numbers.{le, to_le}
use Rattle.table.specs.Rows.{row_at, row_from, kind_at, is_kind}
use Rattle.table.specs.Flags
use Rattle.table.specs.Index
use Rattle.table.specs.Procedures
use Rattle.rows.specs.Rows
use Rattle.declarations.specs.Program
use Rattle.names.specs.Names
use Rattle.effects.specs.Kinds
use Rattle.effects.specs.Effects
use Rattle.operands.specs.Operands
use Rattle.reach.specs.Reach.{mark, push, sweep, count_true, settle}
use Rattle.flow.specs.Steps as Rules
use Rattle.flow.specs.Places
use Rattle.locals.specs.Locals
use Rattle.steps.specs.Steps
use Rattle.helpers.specs.Marks
use Rattle.helpers.specs.Rounds as Rounds
use Rattle.helpers.specs.Tables as Helpers
use Rattle.leaks.specs.Leaks
use Rattle.policy.specs.Policy
use Rattle.judging.specs.Judging.{judge_of, judge_under, in_order, passes}
use Rattle.operands.specs.Flow.{effect_in}
use Rattle.samples.specs.Tables

unfoldable pub rules : Unit {0}
unfolding judge_of judge_under Policy.rule_byte Policy.not_zero Policy.bad_rule Policy.rule_fault Policy.file_of Policy.covers Policy.rules_for Policy.pair_fault Policy.pairs_of Policy.permits Policy.call_fault Policy.rules_with Policy.rules_of in_order passes first_fault Lists.every Lists.member Lists.none Lists.tabulate Lists.hits Lists.find Lists.nth Lists.count Lists.entry_of Lists.entries Sorting.insert_by Sorting.sort_by le to_le row_at row_from kind_at is_kind Index.run_end Index.owner_at Index.type_at Index.results_start Index.code_start Index.code_end Index.procedure_at Index.index_of Procedures.procedure_row Procedures.rows_between Procedures.in_table Procedures.part_of Rows.form_of Rows.length_of Rows.rows_of Rows.fault_at Rows.row_fault Rows.above_at Rows.below_row Rows.count_below Rows.count_of Rows.owned Rows.may_follow Rows.limits Rows.uses Rows.used_with Rows.uses_a Rows.uses_b Rows.uses_c Rows.uses_d Rows.misplaced Rows.too_many Rows.unused_byte Rows.bad_value Rows.bad_guard Program.is_record Program.is_reference Program.is_writable Program.row_kind Program.kinds_from Program.kinds_of Program.type_in Program.procedure_in Program.field_count Program.field_kinds Program.field_row Program.local_count Program.local_kind Program.is_parameter Program.parameters_end Program.parameter_kinds Program.result_kinds Program.code_of Program.code_length Program.code_verdict Program.over_procedures Program.code_pass Program.jumps_to Program.target_below Program.is_target Names.names Names.missing Names.bad_end Flags.has_type Names.not_lower Names.no_such_type Names.no_such_name Names.name_fault Names.fault_at Names.names_with Kinds.failed Kinds.taken Kinds.pushed Kinds.taken_all Kinds.pushed_all Kinds.top_of Kinds.fault_after Effects.reads Effects.alike Effects.effects Effects.effect_of Effects.applied Effects.kinds_after Operands.named_type Operands.ends_block Operands.last_of_block Operands.foreign Operands.after Operands.kinds_before Operands.code_fault Operands.operands_with Operands.operands_of Names.names_of mark push sweep settle Rules.below Rules.next_of Rules.nexts Places.nodes_at Places.nodes_of Places.succs Places.reached Places.status_after Places.local_moves Places.start_status Places.local_nodes Places.fresh_places Places.within Places.mark_moves Places.place_moves Places.start_places Places.mark_nodes Program.parameter_count Locals.needs_full Locals.nodes_of Locals.leaves_empty Locals.leaves_full Locals.leaves_record Locals.leaves_some Locals.local_fault Locals.locals_of Steps.step_of Steps.step_at Steps.steps_at Steps.marks_of Leaks.in_trusted Leaks.some_marked Helpers.borrows_guarded Helpers.is_private Helpers.is_helper Helpers.procedure_of Helpers.marks_in Marks.parameter_of Marks.result_of Marks.step_under Rounds.up_to Rounds.sends Rounds.nodes_under Rounds.sent_from Rounds.sent Rounds.round Rounds.no_marks Rounds.given_of count_true Leaks.leak_in Leaks.leak_from Leaks.leak_fault Leaks.leaks_of effect_in Tables.row Tables.table Tables.trusted Tables.guest Tables.type Tables.number Tables.guarded Tables.record_field Tables.public Tables.private Tables.parameter Tables.local Tables.result Tables.code Tables.pop Tables.load_const Tables.mv_loc Tables.cp_loc Tables.st_loc Tables.borrow_loc Tables.read_ref Tables.write_ref Tables.borrow_fld Tables.pack Tables.unpack Tables.move_to Tables.move_from Tables.borrow_global Tables.exists Tables.call_procedure Tables.ret Tables.branch Tables.branch_cond Tables.add Tables.subtract Tables.equal Tables.less Tables.freeze Tables.rule Tables.allow Tables.forbid Tables.rows_s Tables.rows_t Tables.rows_round Tables.with_row Tables.without-row Tables.times Tables.rows_lent Tables.rows_shown Tables.rows_takes_one Tables.rows_takes_two Tables.rows_crossed Tables.rows_rotated Tables.rows_swapped Tables.rows_jumped_over Tables.rows_dropped Tables.rows_given_once Tables.rows_returned_at Tables.rows_called_twice Tables.rows_thirteen Tables.rows_marked_on_fall_through Tables.rows_marked_on_jump Tables.rows_overwritten_once Tables.rows_overwritten_twice Tables.rows_guests Tables.rules_guests Tables.rows_within
rules = tt
