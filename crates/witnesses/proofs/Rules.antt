-- One name for all the rules of judging and running, and for the rows of the tables and lists.
use Rattle.semantics.specs.Step.{actions, instruction, effect_at, act}
use Rattle.semantics.specs.Calls
use Rattle.semantics.specs.History.{go, history, last_base}
use Rattle.semantics.specs.Ascii.{ascii}
use Rattle.semantics.specs.Text
use Rattle.semantics.specs.Run.{buffer_of, history_of, answer_with, run_of}
use Rattle.semantics.specs.Words.{module_above, in_guest, guarded_field}
use Rattle.samples.proofs.Rules as Judging
use Rattle.witnesses.specs.Tables

unfoldable pub rules : Unit {0}
unfolding Judging.rules actions instruction effect_at act Calls.arguments Calls.bad_kind Calls.unused_byte Calls.argument_first Calls.all_numbers Calls.no_such_procedure Calls.not_numbers Calls.wrong_count Calls.bad_budget Calls.bad_call Calls.list_fault Calls.list_of Calls.calls_from Calls.calls_of go history last_base ascii Text.digits Text.decimal Text.fields_text Text.entry_line Text.entry_lines Text.call_line Text.call_lines Text.text_of buffer_of history_of answer_with run_of module_above in_guest guarded_field Tables.call Tables.argument Tables.rows_till Tables.calls_till Tables.rows_guest Tables.calls_guest Tables.rows_label Tables.calls_label Tables.rows_handed_out Tables.calls_handed_out Tables.calls_guests
rules = tt
