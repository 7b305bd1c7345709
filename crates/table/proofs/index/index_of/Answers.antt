use native.Mathlib.Omega.{arith}
use borrow.Author.Rules.{rules}
use Rattle.table.proofs.Laws.{type-within, procedure-within}
use Rattle.table.proofs.Scan.{scan_start, scan_few, scan_module, scan_type, scan_procedure, scan_other, scan_whole}
use Rattle.table.proofs.index.index_of.Goals as goal

pub loop-i-init : goal.loop-i-init
loop-i-init c = (omega arith, scan_start _)

pub overflow_add-modules : goal.overflow_add-modules
overflow_add-modules c = omega (arith, scan_few c.loop-i.invariant.1)

pub loop-i-preserved-in-1 : goal.loop-i-preserved-in-1
loop-i-preserved-in-1 c = (
  omega arith,
  scan_module c.loop-i.invariant.1 c.kind_at-kind.ensures c.in-1.is
      (search rules),
)

pub type_at-entry-requires : goal.type_at-entry-requires
type_at-entry-requires c = (c.indexed_rows-n.ensures, omega arith, c.loop-i.invariant.1.modules.counted)

pub overflow_add-types : goal.overflow_add-types
overflow_add-types c = omega (arith, scan_few c.loop-i.invariant.1)

pub loop-i-smaller-in-2 : goal.loop-i-smaller-in-2
loop-i-smaller-in-2 c = omega (arith, type-within _ _ c.type_at-entry.ensures (omega arith))

pub loop-i-preserved-in-2 : goal.loop-i-preserved-in-2
loop-i-preserved-in-2 c = (
  omega (arith, type-within _ _ c.type_at-entry.ensures (omega arith)),
  scan_type c.loop-i.invariant.1 c.kind_at-kind.ensures (omega arith) c.in-2.is c.type_at-entry.ensures
      (search rules),
)

pub procedure_at-entry-requires : goal.procedure_at-entry-requires
procedure_at-entry-requires c = (c.indexed_rows-n.ensures, omega arith, c.loop-i.invariant.1.modules.counted)

pub overflow_add-procedures : goal.overflow_add-procedures
overflow_add-procedures c = omega (arith, scan_few c.loop-i.invariant.1)

pub loop-i-smaller-in-4 : goal.loop-i-smaller-in-4
loop-i-smaller-in-4 c = omega (arith, procedure-within _ _ c.procedure_at-entry.ensures (omega arith))

pub loop-i-preserved-in-4 : goal.loop-i-preserved-in-4
loop-i-preserved-in-4 c = (
  omega (arith, procedure-within _ _ c.procedure_at-entry.ensures (omega arith)),
  scan_procedure c.loop-i.invariant.1 c.kind_at-kind.ensures (omega arith) c.in-4.is c.procedure_at-entry.ensures
      (search rules),
)

pub loop-i-preserved : goal.loop-i-preserved
loop-i-preserved c = (omega arith, scan_other c.loop-i.invariant.1 c.kind_at-kind.ensures c.in_default.in_default-own.rest.0.0.1 c.in_default.in_default-own.rest.0.1 c.in_default.in_default-own.rest.1)

pub returns : goal.returns
returns c = scan_whole c.loop-i.invariant.1 (omega arith)
