-- What an accepted table gives for each instruction: its numbers, the flow of operands, where a walk goes on, what a walk finds, and what it names.
use Prim.Native.Nat.{ℕ, zero, suc, ◌+◌, ◌-◌, ◌*◌, ◌/◌, ◌%◌, ◌^◌, ◌<◌, ◌≤◌}
use mathlib.Core.Path.{◌≡◌, refl, sym, ◌∙◌}
use mathlib.Core.Bool.{Bool, true, false, cond, false≢true}
use mathlib.Core.List.Memᴰ
use mathlib.Core.List.{List, [], ◌∷◌}
use mathlib.Core.Logic.{◌⊎◌, inl, inr, ⊎_elim}
use native.Mathlib.Decide.{dec_lt}
use native.Mathlib.Omega.{arith}
use borrow.Author.Tests.{lt-ltb, ne_eqb}
use lib.Dec.{eqb, ltb}
use lib.ListN.{get_or}
use Rattle.laws.specs.Numbers.{le}
use Rattle.laws.proofs.Numbers.{le_2, le_4, le_8}
use Rattle.table.specs.declared.Row.{Row}
use Rattle.table.specs.Format.{instruction_kind, op_mv_loc, op_borrow_loc, op_borrow_fld, op_pack, op_exists, op_call, op_ret, op_branch, op_branch_cond, op_op, past_opcodes, past_ops}
use Rattle.table.specs.Rows.{row_count, row_at, row_from, kind_at}
use Rattle.table.specs.Index.{index_of, procedure_at, code_start, code_end}
use Rattle.table.proofs.Laws.{row_inside, procedure-code}
use Rattle.declarations.specs.Program.{type_in, field_count, code_of, code_length, instruction_in}
use Rattle.reach.specs.Reach.{Mem, here, there}
use Rattle.names.specs.Names.{nothing, local_number, type_number, names, names_of}
use Rattle.names.specs.Exist.{Exists}
use Rattle.names.proofs.Exist.{names-good}
use Rattle.flow.specs.Steps.{below, next_of, nexts}
use Rattle.sizes.proofs.Sizes.{rows_fine}
use Rattle.sizes.proofs.Rows.{own, row_of, row_below, entry-is, row-kind, row_count_lem, parts, code-count, code_row, code-named}
use Rattle.judging.specs.Judging.{AcceptedTable}
use Rattle.judging.proofs.Accepts.{up_to-operands}
use Rattle.acceptance.proofs.Follow.{next_below, kinds-follow}
use Rattle.acceptance.proofs.Shown.{flow-at}
use Rattle.acceptance.proofs.Walks.{checked}
use Rattle.acceptance.specs.Judged.{Bytes, Instruction}
use Rattle.acceptance.proofs.Counts.{row-opcode, row-op}
use Rattle.acceptance.proofs.Procedures.{few}

-- Numbers of bytes.
module _ (t : List ℕ) (bytes : Bytes t) where
  -- two bytes
  two-low : (o : ℕ) → le t o 2 < 65536
  two-low o = rw le_2 (omega (arith, bytes o, bytes (o + 1)))

  -- four
  four_low : (o : ℕ) → le t o 4 < 4294967296
  four_low o = rw le_4 (omega (arith, two-low o, two-low (o + 2)))

  -- eight
  eight_low : (o : ℕ) → le t o 8 < 2 ^ 64
  eight_low o = rw le_8 (omega (arith, four_low o, four_low (o + 4)))

  -- D of a row
  pub constant-low : (i : ℕ) → i < row_count t → (row_at t i).d < 2 ^ 64
  unfolding row_from
  constant-low i h = rw (row_inside t i h) (eight_low (16 * i + 8))

-- what is in the list, and below n, is in `below n`
below_mem : (n : ℕ) (js : List ℕ) {j : ℕ} → Mem j js → j < n → Mem j (below n js)
unfolding below
below_mem n [] m h = absurd (Memᴰ.not-nil m)
below_mem n (x ∷ xs) {j} m h = go (ltb x n) refl (Memᴰ.cases_cons m) (λ r. below_mem n xs r h)
  where
    go : (b : Bool) → ltb x n ≡ b → (j ≡ x) ⊎ Mem j xs → (Mem j xs → Mem j (below n xs)) → Mem j (cond b (x ∷ below n xs) (below n xs))
    go true e (inl q) ih = here q
    go true e (inr r) ih = there (ih r)
    go false e (inl q) ih = absurd (let z : false ≡ true = sym e ∙ lt-ltb x n (rw q at h) in false≢true z)
    go false e (inr r) ih = ih r

-- what is neither Ret nor Branch goes on at the next instruction
next-falls : (row : Row) (i : ℕ) → (row.a ≡ op_ret → ⊥) → (row.a ≡ op_branch → ⊥) → Mem (i + 1) (next_of row i)
unfolding next_of
next-falls row i r b = rw (ne_eqb row.a op_ret r, ne_eqb row.a op_branch b) (go (eqb row.a op_branch_cond))
  where
    go : (c : Bool) → Mem (i + 1) (cond c ((i + 1) ∷ row.b ∷ []) ((i + 1) ∷ []))
    go true = here refl
    go false = here refl

-- Branch and BranchCond go on at their target
next-jumps : (row : Row) (i : ℕ) → (row.a ≡ op_branch) ⊎ (row.a ≡ op_branch_cond) → Mem row.b (next_of row i)
unfolding next_of
next-jumps row i (inl e) = rw e (here refl)
next-jumps row i (inr e) = rw e (there (here refl))

-- opcodes 2 to 5 name a local: opcode 2 + d
local_from : (d : ℕ) → d < 4 → get_or names (2 + d) nothing ≡ local_number
unfolding names
local_from zero h = refl
local_from (suc zero) h = refl
local_from (suc (suc zero)) h = refl
local_from (suc (suc (suc zero))) h = refl
local_from (suc (suc (suc (suc d)))) h = absurd (omega arith)

-- the same, by the opcode
names-local : (op : ℕ) → op_mv_loc ≤ op → op ≤ op_borrow_loc → get_or names op nothing ≡ local_number
names-local op lo hi = let e : 2 + (op - 2) ≡ op = omega arith in rw e at (local_from (op - 2) (omega arith))

-- opcodes 9 to 14 name a type: opcode 9 + d
type_from : (d : ℕ) → d < 6 → get_or names (9 + d) nothing ≡ type_number
unfolding names
type_from zero h = refl
type_from (suc zero) h = refl
type_from (suc (suc zero)) h = refl
type_from (suc (suc (suc zero))) h = refl
type_from (suc (suc (suc (suc zero)))) h = refl
type_from (suc (suc (suc (suc (suc zero))))) h = refl
type_from (suc (suc (suc (suc (suc (suc d)))))) h = absurd (omega arith)

-- the same, by the opcode
names-type : (op : ℕ) → op_pack ≤ op → op ≤ op_exists → get_or names op nothing ≡ type_number
names-type op lo hi = let e : 9 + (op - 9) ≡ op = omega arith in rw e at (type_from (op - 9) (omega arith))

-- Procedure q of an accepted table.
module _ (t : List ℕ) (a : AcceptedTable t) (q : ℕ) (known : q < (index_of t).procedures) where
  -- the row of its first instruction
  start : ℕ
  start = code_start t (row_of t q known (few t a q known))

  -- the row after its last
  stop : ℕ
  stop = code_end t (row_of t q known (few t a q known))

  -- that is no further than the table's end
  stop_inside : stop ≤ row_count t
  unfolding stop
  stop_inside = omega (arith, parts t q known (few t a q known))

  -- it has as many instructions as there are rows between the two
  between : row_count (code_of t (own t q)) ≡ stop - start
  unfolding start stop
  between = code-count t q known (few t a q known)

  -- its last instruction is Ret or Branch
  last : ((row_at t (stop - 1)).a ≡ op_ret) ⊎ ((row_at t (stop - 1)).a ≡ op_branch)
  unfolding names_of procedure_at stop
  last =
      let f = few t a q known in
      let r = row_of t q known f in
      let g = ((names-good t (index_of t) (row_count t) a.by_names r (omega (arith, row_below t q known f))).ends (row-kind t q known f)).1 in
      rw (row_count_lem t q known f, entry-is t q known f) at g

  -- its length, from its entry
  length-is : code_length (own t q) ≡ row_count (code_of t (own t q))
  unfolding code_length procedure_at start stop
  length-is = rw (between, entry-is t q known (few t a q known))

  -- Instruction i of it.
  module _ (i : ℕ) (h : i < row_count (code_of t (own t q))) where
    -- its row is one of the table
    row_is : instruction_in t (index_of t) q i ≡ row_at t (start + i)
    unfolding start
    row_is = code_row t q known (few t a q known) i h

    -- it lies before the end
    lies : start + i < stop
    lies = omega (arith, between)

    -- it is of kind 7
    kind-is : kind_at t (start + i) ≡ instruction_kind
    unfolding start stop
    kind-is = sym (procedure-code t (row_of t q known (few t a q known)) {j = start + i} (omega arith) lies)

    -- what it names exists
    named : Exists (index_of t) (own t q) (instruction_in t (index_of t) q i).b (get_or names (instruction_in t (index_of t) q i).a nothing)
    named = code-named t q known (few t a q known) (row_count t) a.by_names i h

    -- its opcode
    opcode-is : (instruction_in t (index_of t) q i).a < past_opcodes
    opcode-is = rw row_is (omega (arith, row-opcode t (rows_fine t (row_count t) a.by_rows) (start + i) (omega (arith, lies, stop_inside)) kind-is))

    -- its constant
    constant-is : Bytes t → (instruction_in t (index_of t) q i).d < 2 ^ 64
    constant-is bytes = rw row_is (constant-low t bytes (start + i) (omega (arith, lies, stop_inside)))

    -- the operand of Op
    operation_is : (instruction_in t (index_of t) q i).a ≡ op_op → (instruction_in t (index_of t) q i).b < past_ops
    operation_is e = rw row_is (row-op t (rows_fine t (row_count t) a.by_rows) (start + i) (omega (arith, lies, stop_inside)) kind-is (rw row_is at e))

    -- what is neither Ret nor Branch is not the last
    not_last : ((instruction_in t (index_of t) q i).a ≡ op_ret → ⊥) → ((instruction_in t (index_of t) q i).a ≡ op_branch → ⊥) → i + 1 < row_count (code_of t (own t q))
    not_last r b = go (dec_lt (i + 1) (row_count (code_of t (own t q))))
      where
        go : Dec (i + 1 < row_count (code_of t (own t q))) → i + 1 < row_count (code_of t (own t q))
        go (yes l) = l
        go (no l) =
            let e : stop - 1 ≡ start + i = omega (arith, between) in
            absurd (⊎_elim (λ x. r (rw row_is (rw e at x))) (λ x. b (rw row_is (rw e at x))) last)

    -- it goes on at the next instruction
    falls-on : ((instruction_in t (index_of t) q i).a ≡ op_ret → ⊥) → ((instruction_in t (index_of t) q i).a ≡ op_branch → ⊥) → Mem (i + 1) (nexts (code_of t (own t q)) i)
    unfolding nexts
    falls-on r b = below_mem _ _ (next-falls (instruction_in t (index_of t) q i) i r b) (not_last r b)

    -- a target is there
    target-there : ((instruction_in t (index_of t) q i).a ≡ op_branch) ⊎ ((instruction_in t (index_of t) q i).a ≡ op_branch_cond) → (instruction_in t (index_of t) q i).b < row_count (code_of t (own t q))
    unfolding names
    target-there (inl e) = rw (← length-is) (rw e at named)
    target-there (inr e) = rw (← length-is) (rw e at named)

    -- it goes on there
    jumps-on : ((instruction_in t (index_of t) q i).a ≡ op_branch) ⊎ ((instruction_in t (index_of t) q i).a ≡ op_branch_cond) → Mem (instruction_in t (index_of t) q i).b (nexts (code_of t (own t q)) i)
    unfolding nexts
    jumps-on e = below_mem _ _ (next-jumps (instruction_in t (index_of t) q i) i e) (target-there e)

    -- a field that it names
    field-there : (instruction_in t (index_of t) q i).a ≡ op_borrow_fld
        → ((instruction_in t (index_of t) q i).b / 8 < (index_of t).types) × ((instruction_in t (index_of t) q i).b % 8 < field_count (type_in (index_of t) ((instruction_in t (index_of t) q i).b / 8)))
    unfolding names
    field-there e = rw e at named

    -- a procedure that it calls
    procedure-called : (instruction_in t (index_of t) q i).a ≡ op_call → (instruction_in t (index_of t) q i).b < (index_of t).procedures
    unfolding names
    procedure-called e = rw e at named

-- instruction i of procedure q of an accepted table
pub instruction : (t : List ℕ) → AcceptedTable t → Bytes t → (q i : ℕ) → q < (index_of t).procedures → i < row_count (code_of t (own t q)) → Instruction t (index_of t) q i
instruction t a bytes q i known h =
    let f = flow-at t (up_to-operands a) q known (few t a q known) i h in
    record {
      opcode = opcode-is t a q known i h;
      constant = constant-is t a q known i h bytes;
      flow = f;
      falls = falls-on t a q known i h;
      jumps = jumps-on t a q known i h;
      inside = next_below (code_of t (own t q)) i;
      follow = λ j m. kinds-follow t (index_of t) (own t q) i j f h m;
      checked = λ w. checked t a q known (few t a q known) w;
      local-named = λ lo hi. rw (names-local _ lo hi) at (named t a q known i h);
      field-named = field-there t a q known i h;
      type-named = λ lo hi. rw (names-type _ lo hi) at (named t a q known i h);
      called = procedure-called t a q known i h;
      calculates = operation_is t a q known i h;
    }
