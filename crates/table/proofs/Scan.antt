-- Laws of the scan that builds the index: counts and entries for the rows above row i.
use Prim.Native.Nat.{ℕ, ◌+◌, ◌<◌, ◌≤◌}
use mathlib.Core.Path.{◌≡◌, refl}
use mathlib.Core.Bool.{false}
use mathlib.Core.List.{List}
use native.Mathlib.Decide.{dec_lt}
use native.Mathlib.Omega.{arith}
use lib.ListN.{replicate}
use Rattle.laws.specs.Lists.{Listed}
use Rattle.laws.proofs.Lists.{count-few, listed_start, listed_skip, listed_pass, listed_next, Stored}
use Rattle.table.specs.declared.index.TypeEntry.{TypeEntry}
use Rattle.table.specs.declared.index.ProcedureEntry.{ProcedureEntry}
use Rattle.table.specs.declared.index.Index.{Index}
use Rattle.table.specs.Format.{module_kind, type_kind, procedure_kind, max_modules, max_types, max_procedures}
use Rattle.table.specs.Rows.{kind_at, is_kind}
use Rattle.table.specs.Index.{indexed_rows, type_at, procedure_at, results_start, code_start, no_type, no_procedure, index_of}
use Rattle.table.proofs.Laws.{is-kind, not-kind, type-within, type-fields, procedure-within, procedure-locals, procedure-results, procedure-code}

-- a row that starts no module, no type and no procedure
record Quiet (t : List ℕ) (j : ℕ) : Type 0 where
  pub no_module : is_kind t module_kind j ≡ false
  pub no-type : is_kind t type_kind j ≡ false
  pub no-procedure : is_kind t procedure_kind j ≡ false

quiet : {t : List ℕ} {j k : ℕ} → k ≡ kind_at t j → type_kind < k → (k ≡ procedure_kind → ⊥) → Quiet t j
quiet e h d = record { no_module = not-kind _ _ _ e (λ z. omega arith); no-type = not-kind _ _ _ e (λ z. omega arith); no-procedure = not-kind _ _ _ e d }

type_quiet : (t : List ℕ) (i j : ℕ) → i < j → j < (type_at t i).end → Quiet t j
type_quiet t i j lo hi = quiet (type-fields t i lo hi) (omega arith) (λ z. omega arith)

procedure_quiet : (t : List ℕ) (i j : ℕ) → i < j → j < (procedure_at t i).end → Quiet t j
unfolding procedure_at
procedure_quiet t i j lo hi = go (dec_lt j (results_start t i)) (dec_lt j (code_start t i))
  where
    go : Dec (j < results_start t i) → Dec (j < code_start t i) → Quiet t j
    go (yes a) b = quiet (procedure-locals t i lo a) (omega arith) (λ z. omega arith)
    go (no a) (yes b) = quiet (procedure-results t i (omega arith) b) (omega arith) (λ z. omega arith)
    go (no a) (no b) = quiet (procedure-code t i (omega arith) hi) (omega arith) (λ z. omega arith)

-- the parts of an index of the rows above row i
pub record Scanned (t : List ℕ) (i m y p : ℕ) (ms : List ℕ) (ys : List TypeEntry) (ps : List ProcedureEntry) : Type 0 where
  pub modules : Listed (is_kind t module_kind) (λ (j : ℕ). j) 0 max_modules i m ms
  pub types : Listed (is_kind t type_kind) (type_at t) no_type max_types i y ys
  pub procedures : Listed (is_kind t procedure_kind) (procedure_at t) no_procedure max_procedures i p ps

pub scan_start : (t : List ℕ) → Scanned t 0 0 0 0 (replicate max_modules 0) (replicate max_types no_type) (replicate max_procedures no_procedure)
scan_start t = record { modules = listed_start _ _ _ _ _ refl; types = listed_start _ _ _ _ _ refl; procedures = listed_start _ _ _ _ _ refl }

-- over quiet rows below row i the parts stay as they are
scan_quiet : {t : List ℕ} {i m y p : ℕ} {ms : List ℕ} {ys : List TypeEntry} {ps : List ProcedureEntry}
    → Scanned t (i + 1) m y p ms ys ps → {e : ℕ} → i < e → ((j : ℕ) → i < j → j < e → Quiet t j) → Scanned t e m y p ms ys ps
scan_quiet s {e} h q = record {
  modules = listed_skip _ _ _ _ _ _ _ s.modules e (omega arith) (λ j lo hi. (q j (omega arith) hi).no_module);
  types = listed_skip _ _ _ _ _ _ _ s.types e (omega arith) (λ j lo hi. (q j (omega arith) hi).no-type);
  procedures = listed_skip _ _ _ _ _ _ _ s.procedures e (omega arith) (λ j lo hi. (q j (omega arith) hi).no-procedure);
}

module _ {t : List ℕ} {i m y p : ℕ} {ms : List ℕ} {ys : List TypeEntry} {ps : List ProcedureEntry} (s : Scanned t i m y p ms ys ps) where
  pub scan_few : (m ≤ i) × (y ≤ i) × (p ≤ i)
  scan_few = (rw s.modules.counted (count-few _ i), rw s.types.counted (count-few _ i), rw s.procedures.counted (count-few _ i))

  pub scan_whole : i ≡ indexed_rows t → ◌≡◌ {A = Index} record { modules = m; types = y; procedures = p; module_rows = ms; type_entries = ys; procedure_entries = ps } (index_of t)
  unfolding index_of
  scan_whole e = cc

  -- over row i, whose kind is k, and the rows below it that are its own
  module _ {k : ℕ} (e : k ≡ kind_at t i) where
    pass_modules : (k ≡ module_kind → ⊥) → Listed (is_kind t module_kind) (λ (j : ℕ). j) 0 max_modules (i + 1) m ms
    pass_modules q = listed_pass _ _ _ _ i m ms s.modules (not-kind _ _ _ e q)

    pass_types : (k ≡ type_kind → ⊥) → Listed (is_kind t type_kind) (type_at t) no_type max_types (i + 1) y ys
    pass_types q = listed_pass _ _ _ _ i y ys s.types (not-kind _ _ _ e q)

    pass_procedures : (k ≡ procedure_kind → ⊥) → Listed (is_kind t procedure_kind) (procedure_at t) no_procedure max_procedures (i + 1) p ps
    pass_procedures q = listed_pass _ _ _ _ i p ps s.procedures (not-kind _ _ _ e q)

    pub scan_other : (k ≡ module_kind → ⊥) → (k ≡ type_kind → ⊥) → (k ≡ procedure_kind → ⊥) → Scanned t (i + 1) m y p ms ys ps
    scan_other a b d = record { modules = pass_modules a; types = pass_types b; procedures = pass_procedures d }

    pub scan_module : {ms' : List ℕ} → k ≡ module_kind → Stored max_modules m ms i ms' → Scanned t (i + 1) (m + 1) y p ms' ys ps
    scan_module q w = record {
      modules = listed_next _ _ _ _ i m ms s.modules (is-kind _ _ _ e q) refl w;
      types = pass_types (λ z. omega arith);
      procedures = pass_procedures (λ z. omega arith);
    }

    pub scan_type : {r : TypeEntry} {ys' : List TypeEntry} → i < indexed_rows t → k ≡ type_kind → r ≡ type_at t i → Stored max_types y ys r ys' → Scanned t r.end m (y + 1) p ms ys' ps
    scan_type h q d w =
        rw d
        (scan_quiet
        (record {
          modules = pass_modules (λ z. omega arith);
          types = listed_next _ _ _ _ i y ys s.types (is-kind _ _ _ e q) d w;
          procedures = pass_procedures (λ z. omega arith);
        })
        (type-within t i refl h).0
        (type_quiet t i))

    pub scan_procedure : {r : ProcedureEntry} {ps' : List ProcedureEntry} → i < indexed_rows t → k ≡ procedure_kind → r ≡ procedure_at t i → Stored max_procedures p ps r ps' → Scanned t r.end m y (p + 1) ms ys ps'
    scan_procedure h q d w =
        rw d
        (scan_quiet
        (record {
          modules = pass_modules (λ z. omega arith);
          types = pass_types (λ z. omega arith);
          procedures = listed_next _ _ _ _ i p ps s.procedures (is-kind _ _ _ e q) d w;
        })
        (procedure-within t i refl h).0
        (procedure_quiet t i))
