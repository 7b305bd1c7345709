-- What each instruction takes and pushes (document 01, "Opcodes").
use Rattle.std.specs.Prelude.{ℕ, ◌/◌, ◌%◌, Bool, true, false, cond, not, ◌||◌, List, [], ◌∷◌, eqb, get_or}
use Rattle.table.specs.declared.Row.{Row}
use Rattle.table.specs.declared.index.TypeEntry.{TypeEntry}
use Rattle.table.specs.declared.index.ProcedureEntry.{ProcedureEntry}
use Rattle.table.specs.Rows.{row_at}
use Rattle.table.specs.Refusals.{wrong_operand}
use Rattle.declarations.specs.Program.{number, number_ref, record_of, record_ref, reference_to, frozen, is_record, is_reference, is_writable, row_kind, field_row, field_kinds, local_kind, parameter_kinds, result_kinds}
use Rattle.effects.specs.Kinds.{Kinds, failed, taken_all, pushed_all, top_of}

-- the kinds that an instruction takes and pushes, in the order in which they are pushed, and whether its local, or the top operand, is fit for it
pub record Effect : Type 0 where
  pub fit : Bool
  pub takes : List ℕ
  pub gives : List ℕ

abbrev pub effect : List ℕ → List ℕ → Effect
effect takes gives = record { fit = true; takes = takes; gives = gives }

abbrev pub effect_if : Bool → List ℕ → List ℕ → Effect
effect_if fit takes gives = record { fit = fit; takes = takes; gives = gives }

-- whether an operand of kind `top` can be read as a reference of kind k: it is one, or the read-only one to the same
unfoldable pub reads : ℕ → ℕ → Bool
reads k top = eqb top k || eqb top (frozen k)

-- a reference of kind k, read-only where one of kind `top` is
unfoldable pub alike : ℕ → ℕ → ℕ
alike top k = cond (is_writable top) k (frozen k)

-- by opcode, for operand b in procedure `own` of the table t. `named` is the type that b names, `callee` the procedure, `top` the kind of the top operand
unfoldable pub effects : List ℕ → ProcedureEntry → TypeEntry → ProcedureEntry → ℕ → ℕ → List Effect
effects t own named callee b top =
    -- Pop: a number or a reference; LoadConst
    effect_if (not (is_record top)) (top ∷ []) []
    ∷ effect [] (number ∷ [])
    -- MvLoc; CpLoc: a number or a reference; StLoc; BorrowLoc: a number or a record
    ∷ effect [] (local_kind t own b ∷ [])
    ∷ effect_if (not (is_record (local_kind t own b))) [] (local_kind t own b ∷ [])
    ∷ effect (local_kind t own b ∷ []) []
    ∷ effect_if (not (is_reference (local_kind t own b))) [] (reference_to (local_kind t own b) ∷ [])
    -- ReadRef: read-only or not; WriteRef: number, then reference
    ∷ effect_if (reads number_ref top) (top ∷ []) (number ∷ [])
    ∷ effect (number ∷ number_ref ∷ []) []
    -- BorrowFld: b is type times 8 plus field; through a read-only reference it gives a read-only one
    ∷ effect_if (reads (record_ref (b / 8)) top) (top ∷ []) (alike top (reference_to (row_kind (row_at t (field_row named (b % 8))))) ∷ [])
    -- Pack; Unpack: the fields in order
    ∷ effect (field_kinds t named) (record_of b ∷ [])
    ∷ effect (record_of b ∷ []) (field_kinds t named)
    -- MoveTo: record, then address; MoveFrom; BorrowGlobal; Exists: address
    ∷ effect (record_of b ∷ number ∷ []) []
    ∷ effect (number ∷ []) (record_of b ∷ [])
    ∷ effect (number ∷ []) (record_ref b ∷ [])
    ∷ effect (number ∷ []) (number ∷ [])
    -- Call; Ret
    ∷ effect (parameter_kinds t callee) (result_kinds t callee)
    ∷ effect (result_kinds t own) []
    -- Branch; BranchCond; Op: two numbers
    ∷ effect [] []
    ∷ effect (number ∷ []) []
    ∷ effect (number ∷ number ∷ []) (number ∷ [])
    -- Freeze: a reference that can be written through becomes read-only
    ∷ effect_if (is_writable top) (top ∷ []) (frozen top ∷ [])
    ∷ []

-- a number that is no opcode
abbrev pub no_effect : Effect
no_effect = record { fit = false; takes = []; gives = [] }

unfoldable pub effect_of : List ℕ → ProcedureEntry → TypeEntry → ProcedureEntry → Row → ℕ → Effect
effect_of t own named callee row top = get_or (effects t own named callee row.b top) row.a no_effect

-- the kinds after an instruction with this effect, where s are the kinds before: 7 where the local, or the top operand, is unfit
unfoldable pub applied : Effect → Kinds → Kinds
applied e s = cond e.fit (pushed_all e.gives (taken_all e.takes s)) (failed wrong_operand s)

unfoldable pub kinds_after : List ℕ → ProcedureEntry → TypeEntry → ProcedureEntry → Row → Kinds → Kinds
kinds_after t own named callee row s = applied (effect_of t own named callee row (top_of s)) s
