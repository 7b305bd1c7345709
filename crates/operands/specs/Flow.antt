-- What the operands pass gives for each instruction of an accepted table, in the form in which a proof about running uses it.
use Rattle.std.specs.Prelude.{ℕ, ◌+◌, ◌≤◌, ◌≡◌, true, false, List, [], ◌∷◌, ◌⊎◌, length}
use Rattle.table.specs.declared.index.Index.{Index}
use Rattle.table.specs.declared.index.ProcedureEntry.{ProcedureEntry}
use Rattle.table.specs.Format.{max_operands, op_borrow_fld, op_exists, op_call}
use Rattle.table.specs.Rows.{row_at}
use Rattle.declarations.specs.Program.{code_of, procedure_in}
use Rattle.effects.specs.Kinds.{good, top_of}
use Rattle.effects.specs.Effects.{Effect, effect_of}
use Rattle.operands.specs.Operands.{named_type, kinds_before, last_of_block}

-- kinds in the order in which they are pushed, on top of others that are listed the top first
unfoldable pub onto : List ℕ → List ℕ → List ℕ
onto [] rest = rest
onto (k ∷ ks) rest = onto ks (k ∷ rest)

-- the effect of instruction i, where `top` is the kind of the top operand
unfoldable pub effect_in : List ℕ → Index → ProcedureEntry → ℕ → ℕ → Effect
effect_in t ix p top i = effect_of t p (named_type ix (row_at (code_of t p) i)) (procedure_in ix (row_at (code_of t p) i).b) (row_at (code_of t p) i) top

-- instruction i of procedure p: what it takes is there with the kinds taken, and what it pushes is there for the next
pub record Flow (t : List ℕ) (ix : Index) (p : ProcedureEntry) (i : ℕ) : Type 0 where
  -- the kind of the top operand, and what stays under what is taken
  pub top : ℕ
  pub rest : List ℕ
  pub told : top ≡ top_of (kinds_before t ix p i)
  -- its local, or the top operand, is fit
  pub fit : (effect_in t ix p top i).fit ≡ true
  -- the kinds before are those taken, on the rest
  pub before : kinds_before t ix p i ≡ good (onto (effect_in t ix p top i).takes rest)
  -- at most 16 operands after
  pub few : length (onto (effect_in t ix p top i).gives rest) ≤ max_operands
  -- within a block the kinds before the next are those pushed, on the rest
  pub next : last_of_block (code_of t p) i ≡ false → kinds_before t ix p (i + 1) ≡ good (onto (effect_in t ix p top i).gives rest)
  -- at a block's edge nothing is left
  pub edge : last_of_block (code_of t p) i ≡ true → onto (effect_in t ix p top i).gives rest ≡ []
  -- a type worked on is of the own module; a procedure called is public or of the own module
  pub own_type : op_borrow_fld ≤ (row_at (code_of t p) i).a → (row_at (code_of t p) i).a ≤ op_exists → (named_type ix (row_at (code_of t p) i)).owner ≡ p.owner
  pub may_call : (row_at (code_of t p) i).a ≡ op_call
      → ((row_at t (procedure_in ix (row_at (code_of t p) i).b).row).a ≡ 1) ⊎ ((procedure_in ix (row_at (code_of t p) i).b).owner ≡ p.owner)
