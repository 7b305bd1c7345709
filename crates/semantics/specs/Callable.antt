-- What holds of each call of an accepted list (document 01, refusal 16): its procedure takes and gives numbers only, and gets as many as it takes.
use Rattle.std.specs.Prelude.{ℕ, ◌^◌, ◌<◌, ◌≤◌, ◌≡◌, true, List, length}
use Rattle.table.specs.declared.index.Index.{Index}
use Rattle.table.specs.Rows.{row_at}
use Rattle.declarations.specs.Program.{procedure_in, parameter_kinds, result_kinds}
use Rattle.semantics.specs.Calls.{Call, call, all_numbers, max_budget}
use Rattle.semantics.specs.Claim.{All}

-- a call of procedure q with a budget and arguments, in a table with this index
pub record Callable (t : List ℕ) (ix : Index) (q budget : ℕ) (args : List ℕ) : Type 0 where
  pub there : q < ix.procedures
  pub public : (row_at t (procedure_in ix q).row).a ≡ 1
  pub takes : all_numbers (parameter_kinds t (procedure_in ix q)) ≡ true
  pub gives : all_numbers (result_kinds t (procedure_in ix q)) ≡ true
  pub count : length args ≡ length (parameter_kinds t (procedure_in ix q))
  pub funded : 0 < budget
  pub limited : budget ≤ max_budget
  pub words : All (λ (x : ℕ). x < 2 ^ 64) args

-- the same of a call
abbrev pub GoodCall : List ℕ → Index → Call → Type 0
GoodCall t ix (call q budget args) = Callable t ix q budget args
