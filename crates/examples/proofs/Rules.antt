-- One name for all the rules of judging and running, and for the rows of all tables and lists.
use Rattle.witnesses.proofs.Rules as Running
use Rattle.examples.specs.Tables

unfoldable pub rules : Unit {0}
unfolding Running.rules Tables.rows_helped Tables.calls_helped Tables.rows_added Tables.calls_added Tables.calculates Tables.rows_ops Tables.rows_loop Tables.rows_closed Tables.rows_written Tables.rows_two Tables.rows_keys Tables.rows_bare Tables.rows_types Tables.rows_nested Tables.rows_refilled Tables.rows_emptied Tables.rows_returned Tables.rows_stale Tables.rows_seen Tables.rows_frozen_stale Tables.rows_deep Tables.rows_many Tables.rows_full
rules = tt
