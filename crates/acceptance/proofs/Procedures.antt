-- What an accepted table gives for each procedure: it has code, and its locals and parameters are declared by its rows, the parameters first.
use Prim.Native.Nat.{ℕ, ◌+◌, ◌-◌, ◌<◌}
use mathlib.Core.Path.{◌≡◌}
use mathlib.Core.Bool.{not}
use mathlib.Core.List.{List, ◌++◌}
use mathlib.Core.Option.{some}
use native.Mathlib.Omega.{arith}
use lib.ListN.{length, get_elem? as nth}
use Rattle.laws.proofs.Lists.{find-within}
use Rattle.table.specs.declared.index.ProcedureEntry.{ProcedureEntry}
use Rattle.table.specs.Rows.{row_count}
use Rattle.table.specs.Index.{index_of}
use Rattle.declarations.specs.Program.{kinds_of, is_parameter, local_count, local_kind, parameters_end, parameter_kinds}
use Rattle.steps.proofs.Laws.{length-kinds}
use Rattle.sizes.proofs.Sizes.{rows_fine, sized}
use Rattle.sizes.proofs.Rows.{own, code-some}
use Rattle.sizes.proofs.Counts.{procedure-few}
use Rattle.sizes.proofs.Inside as Inside
use Rattle.helpers.proofs.Tied.{parameters-length, results-length}
use Rattle.judging.specs.Judging.{AcceptedTable}
use Rattle.judging.proofs.Accepts.{up_to-operands}
use Rattle.acceptance.specs.Judged.{local_kinds, Procedure}
use Rattle.acceptance.proofs.Stretches.{kind-at, kinds-split}
use Rattle.acceptance.proofs.Helpers.{formed}

-- the locals of any procedure
module _ (t : List ℕ) (p : ProcedureEntry) where
  -- its parameters stand first
  locals-split : local_kinds t p ≡ parameter_kinds t p ++ kinds_of t (parameters_end t p) p.results
  unfolding local_kinds parameter_kinds parameters_end
  locals-split =
      let w = find-within (λ (i : ℕ). not (is_parameter t i)) (p.row + 1) (p.results - (p.row + 1)) in
      kinds-split t (p.row + 1) (parameters_end t p) p.results w.0 w.1

  -- how many there are
  locals-length : length (local_kinds t p) ≡ local_count p
  unfolding local_kinds local_count
  locals-length = length-kinds t (p.row + 1) p.results

  -- the kind of local l
  local-kind : (l : ℕ) → l < local_count p → nth (local_kinds t p) l ≡ some (local_kind t p l)
  unfolding local_kinds local_count local_kind
  local-kind l h = kind-at t (p.row + 1) p.results l h

-- an accepted table has fewer than 128 procedures
pub few : (t : List ℕ) → AcceptedTable t → (q : ℕ) → q < (index_of t).procedures → q < 128
few t a = procedure-few t (rows_fine t (row_count t) a.by_rows)

-- procedure q of an accepted table
pub procedure : (t : List ℕ) → AcceptedTable t → (q : ℕ) → q < (index_of t).procedures → Procedure t (index_of t) q
procedure t a q there =
    let u = up_to-operands a in
    record {
      some-code = code-some t q there (few t a q there) (row_count t) a.by_names;
      split = locals-split t (own t q);
      locals = locals-length t (own t q);
      parameters = parameters-length t (own t q);
      local_at = local-kind t (own t q);
      results = omega (arith, results-length t (own t q), Inside.results-few t (formed u) q there);
      low = few t a q there;
      few-locals = (sized t (row_count t) a.by_rows).locals q there;
      few-code = (sized t (row_count t) a.by_rows).instructions q there;
    }
