-- Each pass refuses with its own numbers: 1 length; 2, 3, 4, 18, 19 rows; 5, 6 names; 7 to 10 operands; 11, 12 locals; 13, 14 leaks. So the number of a
-- refusal tells which passes accept.
use Prim.Native.Nat.{ℕ, zero, suc, ◌%◌}
use mathlib.Core.Path.{◌≡◌, refl, sym, ◌∙◌}
use mathlib.Core.Bool.{Bool, true, false, cond, not, ◌&&◌, ◌||◌, false≢true}
use mathlib.Core.List.{List, [], ◌∷◌, ◌++◌}
use mathlib.Core.Logic.{◌⊎◌, inl, inr}
use lib.Dec.{eqb, ltb}
use lib.ListN.{length}
use Rattle.laws.specs.Lists.{member, none}
use Rattle.laws.proofs.Lists.{disjoint, not_in, in_first, in_second}
use Rattle.table.specs.declared.Row.{Row}
use Rattle.table.specs.Verdicts.{Verdict, Accepted, Refused, and_then, value_of, pass_over}
use Rattle.table.specs.declared.index.Index.{Index}
use Rattle.table.specs.declared.index.TypeEntry.{TypeEntry}
use Rattle.table.specs.declared.index.ProcedureEntry.{ProcedureEntry}
use Rattle.table.specs.Format.{procedure_kind, max_operands, op_st_loc, op_call, op_ret}
use Rattle.table.specs.Refusals.{bad_length, bad_place, over_limit, dirty_byte, wrong_value, wrong_guard, open_end, not_declared, wrong_operand, too_many_operands, operands_left, foreign_name, empty_local, lost_record, mark_given, mark_returned, length_refusals, row_refusals, name_refusals, operand_refusals, local_refusals, leak_refusals}
use Rattle.table.specs.Rows.{row_count, row_at}
use Rattle.table.specs.Index.{index_of}
use Rattle.rows.specs.declared.Above.{Above}
use Rattle.rows.specs.Rows as rows
use Rattle.declarations.specs.Program.{number, procedure_in, code_pass, code_of, local_count}
use Rattle.declarations.proofs.Passes.{refused-accepted, refused-number, pass_first, over_rows, over_first}
use Rattle.names.specs.Names as names
use Rattle.effects.specs.Kinds.{Kinds, good, bad, failed, taken, pushed, taken_all, pushed_all, fault_after}
use Rattle.effects.specs.Effects.{Effect, applied, kinds_after}
use Rattle.operands.specs.Flow.{effect_in}
use Rattle.operands.specs.Operands.{last_of_block, after, kinds_before, code_fault, operands_of, operands_with}
use Rattle.locals.specs.Locals.{needs_full, leaves_empty, leaves_record, leaves_some, local_fault, locals_of}
use Rattle.steps.specs.Steps.{marks_of}
use Rattle.flow.specs.Places.{operand_marked}
use Rattle.helpers.specs.Tables.{is_private, is_helper, marks_under, marks_in}
use Rattle.leaks.specs.Leaks.{in_trusted, some_marked, leak_in, leak_from, leak_fault, leaks_of}
use Rattle.judging.specs.Judging.{judge_of, in_order, passes, UpToOperands}
use Rattle.judging.proofs.Laws.{accepted-here}
use Rattle.judging.proofs.Accepts.{length-rows, code-rows}

-- no fault, or one of these numbers
abbrev Among : List ℕ → ℕ → Type 0
Among numbers f = (f ≡ 0) ⊎ (member f numbers ≡ true)

-- a test for one of these numbers
one : (b : Bool) (numbers : List ℕ) (k rest : ℕ) → member k numbers ≡ true → Among numbers rest → Among numbers (cond b k rest)
one true numbers k rest h w = inr h
one false numbers k rest h w = w

-- what is no 0 is one of these
is_one : (numbers : List ℕ) (f : ℕ) → Among numbers f → (f ≡ 0 → ⊥) → member f numbers ≡ true
is_one numbers f (inl e) n = absurd (n e)
is_one numbers f (inr h) n = h

-- a pass over rows, and one over instructions, refuse with one of these numbers
over_number : (numbers : List ℕ) (f : ℕ → ℕ) → ((i : ℕ) → Among numbers (f i)) → (n : ℕ) {number row : ℕ} → pass_over f n ≡ Refused number row → member number numbers ≡ true
over_number numbers f w n e =
    let s = over_first f n e in
    rw s.number_is at (is_one numbers _ (w _) s.faulty)

code-number : (numbers : List ℕ) (fault : ℕ → ProcedureEntry → ℕ → ℕ) → ((q : ℕ) (p : ProcedureEntry) (i : ℕ) → Among numbers (fault q p i)) → (ix : Index) (t : List ℕ) {number row : ℕ} → code_pass fault ix t ≡ Refused number row
    → member number numbers ≡ true
code-number numbers fault w ix t e =
    let f = pass_first fault t ix e in
    rw f.here.number_is at (is_one numbers _ (w _ _ _) f.here.faulty)

-- length
pub length-number : (t : List ℕ) {number row : ℕ} → rows.length_of t ≡ Refused number row → member number length_refusals ≡ true
unfolding rows.length_of member
length-number t {number} {row} = go (eqb (length t) 0 || not (eqb (length t % 16) 0) || ltb 32768 (length t))
  where
    go : (b : Bool) → cond b (Refused bad_length 0) (Accepted (row_count t)) ≡ Refused number row → member number length_refusals ≡ true
    go true e = rw (← refused-number e)
    go false e = absurd (refused-accepted (sym e))

-- rows
row_low : (s : Above) (row : Row) → Among row_refusals (rows.row_fault s row)
unfolding rows.row_fault member
row_low s row =
    one (rows.misplaced s row) row_refusals bad_place _ refl (one (rows.too_many s row) row_refusals over_limit _ refl (one (rows.unused_byte row) row_refusals dirty_byte _ refl
    (one (rows.bad_value s row) row_refusals wrong_value _ refl (one (rows.bad_guard s row) row_refusals wrong_guard 0 refl (inl refl)))))

pub rows-number : (t : List ℕ) {number row : ℕ} → rows.rows_of t ≡ Refused number row → member number row_refusals ≡ true
unfolding rows.rows_of rows.fault_at
rows-number t = over_number row_refusals (rows.fault_at t) (λ i. row_low (rows.above_at t i) (row_at t i)) (row_count t)

-- names
name_low : (t : List ℕ) (types procedures above : ℕ) (named : TypeEntry) (own starts : ProcedureEntry) (row : Row) → Among name_refusals (names.name_fault t types procedures above named own starts row)
unfolding names.name_fault member
name_low t types procedures above named own starts row =
    one (eqb row.kind procedure_kind && names.bad_end t starts) name_refusals open_end _ refl (one (names.not_lower above row) name_refusals not_declared _ refl
    (one (names.no_such_type types row) name_refusals not_declared _ refl (one (names.no_such_name types procedures named own row) name_refusals not_declared 0 refl (inl refl))))

pub names-number : (t : List ℕ) {number row : ℕ} → names.names_of t ≡ Refused number row → member number name_refusals ≡ true
unfolding names.names_of names.names_with names.fault_at
names-number t = over_number name_refusals (names.fault_at t (index_of t)) (λ i. name_low t (index_of t).types (index_of t).procedures _ _ _ _ (row_at t i)) (row_count t)

-- operands: the fault that is kept with the kinds is 7 or 8
abbrev kept : Kinds → ℕ
kept (good ks) = 0
kept (bad f) = f

abbrev Low : Kinds → Type 0
Low s = Among operand_refusals (kept s)

low_7 : Low (bad wrong_operand)
unfolding member
low_7 = inr refl

low_8 : Low (bad too_many_operands)
unfolding member
low_8 = inr refl

choice : (b : Bool) (s r : Kinds) → Low s → Low r → Low (cond b s r)
choice true s r x y = x
choice false s r x y = y

taken-low : (k : ℕ) (s : Kinds) → Low s → Low (taken k s)
unfolding taken
taken-low k (good []) w = low_7
taken-low k (good (x ∷ xs)) w = choice (eqb x k) (good xs) (bad wrong_operand) (inl refl) low_7
taken-low k (bad f) w = w

pushed-low : (k : ℕ) (s : Kinds) → Low s → Low (pushed k s)
unfolding pushed
pushed-low k (good xs) w = choice (ltb (length xs) max_operands) (good (k ∷ xs)) (bad too_many_operands) (inl refl) low_8
pushed-low k (bad f) w = w

all_taken_low : (ks : List ℕ) (s : Kinds) → Low s → Low (taken_all ks s)
unfolding taken_all
all_taken_low [] s w = w
all_taken_low (k ∷ ks) s w = taken-low k (taken_all ks s) (all_taken_low ks s w)

all_pushed_low : (ks : List ℕ) (s : Kinds) → Low s → Low (pushed_all ks s)
unfolding pushed_all
all_pushed_low [] s w = w
all_pushed_low (k ∷ ks) s w = all_pushed_low ks (pushed k s) (pushed-low k s w)

failed-low : (s : Kinds) → Low s → Low (failed wrong_operand s)
unfolding failed
failed-low (good ks) w = low_7
failed-low (bad f) w = w

applied-low : (e : Effect) (s : Kinds) → Low s → Low (applied e s)
unfolding applied
applied-low e s w = choice e.fit _ _ (all_pushed_low e.gives (taken_all e.takes s) (all_taken_low e.takes s w)) (failed-low s w)

module _ (t : List ℕ) (ix : Index) (p : ProcedureEntry) where
  after-low : (i : ℕ) (s : Kinds) → Low s → Low (after t ix p i s)
  unfolding after kinds_after
  after-low i s w = applied-low _ s w

  before-low : (i : ℕ) → Low (kinds_before t ix p i)
  unfolding kinds_before
  before-low zero = inl refl
  before-low (suc i) = choice (last_of_block (code_of t p) i) (good []) _ (inl refl) (after-low i _ (before-low i))

  told-low : (s : Kinds) (last other : Bool) → Low s → Among operand_refusals (fault_after s last other)
  unfolding fault_after member
  told-low (bad f) last other w = w
  told-low (good ks) last other w = one (last && not (none ks)) operand_refusals operands_left _ refl (one other operand_refusals foreign_name 0 refl (inl refl))

  code-low : (i : ℕ) → Among operand_refusals (code_fault t ix p i)
  unfolding code_fault
  code-low i = told-low _ _ _ (after-low i _ (before-low i))

pub operands-number : (t : List ℕ) {number row : ℕ} → operands_of t ≡ Refused number row → member number operand_refusals ≡ true
unfolding operands_of operands_with
operands-number t = code-number operand_refusals _ (λ q p i. code-low t (index_of t) p i) (index_of t) t

-- locals
local-low : (t : List ℕ) (p : ProcedureEntry) (i : ℕ) → Among local_refusals (local_fault t p i)
unfolding local_fault member
local-low t p i =
    let row = row_at (code_of t p) i in
    one (needs_full row.a && leaves_empty t p row.b i) local_refusals empty_local _ refl (one (eqb row.a op_st_loc && leaves_record t p row.b i) local_refusals lost_record _ refl
    (one (eqb row.a op_ret && leaves_some t p (local_count p) i) local_refusals lost_record 0 refl (inl refl)))

pub locals-number : (t : List ℕ) {number row : ℕ} → locals_of t ≡ Refused number row → member number local_refusals ≡ true
unfolding locals_of
locals-number t = code-number local_refusals _ (λ q. local-low t) (index_of t) t

-- leaks
leak_low : (t : List ℕ) (ix : Index) (m : List Bool) (q : ℕ) (p : ProcedureEntry) (i : ℕ) → Among leak_refusals (leak_fault t ix m q p i)
unfolding leak_fault leak_from leak_in member
leak_low t ix m q p i =
    let op = (row_at (code_of t p) i).a in
    let helper = is_helper t p (procedure_in ix (row_at (code_of t p) i).b) in
    let marked = some_marked (operand_marked (marks_of t ix (marks_under t m) q p) i) (effect_in t ix p number i).takes in
    when (in_trusted t ix p) _ (one (eqb op op_call && not helper && marked) leak_refusals mark_given _ refl (one (eqb op op_ret && not (is_private t p) && marked) leak_refusals mark_returned 0 refl (inl refl)))
  where
    when : (b : Bool) (f : ℕ) → Among leak_refusals f → Among leak_refusals (cond b f 0)
    when true f w = w
    when false f w = inl refl

pub leaks_number : (t : List ℕ) {number row : ℕ} → leaks_of t ≡ Refused number row → member number leak_refusals ≡ true
unfolding leaks_of
leaks_number t = code-number leak_refusals _ (leak_low t (index_of t) (marks_in t)) (index_of t) t

-- a pass that does not refuse so accepts, and a later one refuses so
passed : (pass : List ℕ → Verdict) (later : List (List ℕ → Verdict)) (t : List ℕ) {number row : ℕ} → in_order (pass ∷ later) t ≡ Refused number row → (pass t ≡ Refused number row → ⊥)
    → (pass t ≡ Accepted (value_of (pass t))) × (in_order later t ≡ Refused number row)
unfolding in_order
passed pass later t {number} {row} e other = go (pass t) (λ z. other z) e
  where
    go : (v : Verdict) → (v ≡ Refused number row → ⊥) → and_then v (in_order later t) ≡ Refused number row → (v ≡ Accepted (value_of v)) × (in_order later t ≡ Refused number row)
    go (Accepted n) other e = (refl, e)
    go (Refused a b) other e = absurd (other e)

-- the passes after rows refuse with their numbers
then_number : (pass : List ℕ → Verdict) (later : List (List ℕ → Verdict)) (own others : List ℕ) (t : List ℕ) {number row : ℕ} → (pass t ≡ Refused number row → member number own ≡ true)
    → (in_order later t ≡ Refused number row → member number others ≡ true) → in_order (pass ∷ later) t ≡ Refused number row → member number (own ++ others) ≡ true
unfolding in_order
then_number pass later own others t {number} {row} mine rest e = go (pass t) (λ z. mine z) e
  where
    go : (v : Verdict) → (v ≡ Refused number row → member number own ≡ true) → and_then v (in_order later t) ≡ Refused number row → member number (own ++ others) ≡ true
    go (Accepted n) mine e = in_second own others number (rest e)
    go (Refused a b) mine e = in_first own others number (mine e)

abbrev pub later_refusals : List ℕ
later_refusals = name_refusals ++ (operand_refusals ++ (local_refusals ++ (leak_refusals ++ [])))

pub after-rows : (t : List ℕ) {number row : ℕ} → in_order (names.names_of ∷ operands_of ∷ locals_of ∷ leaks_of ∷ []) t ≡ Refused number row → member number later_refusals ≡ true
unfolding in_order
after-rows t =
    then_number names.names_of (operands_of ∷ locals_of ∷ leaks_of ∷ []) name_refusals _ t (names-number t) (then_number operands_of (locals_of ∷ leaks_of ∷ []) operand_refusals _ t (operands-number t)
    (then_number locals_of (leaks_of ∷ []) local_refusals _ t (locals-number t) (then_number leaks_of [] leak_refusals [] t (leaks_number t) (λ e. absurd (refused-accepted (sym e))))))

-- a number of one pass is not that of another
pub other : (number : ℕ) (numbers own : List ℕ) → disjoint numbers own ≡ true → member number numbers ≡ true → member number own ≡ true → ⊥
other number numbers own apart h z = false≢true (sym (not_in numbers own number apart h) ∙ z)

module _ (t : List ℕ) {number row : ℕ} where
  -- 2, 3, 4, 18 and 19: length accepts, and rows refuse
  pub by_rows_lem : judge_of t ≡ Refused number row → member number row_refusals ≡ true → (rows.length_of t ≡ Accepted (row_count t)) × (rows.rows_of t ≡ Refused number row)
  unfolding judge_of passes in_order disjoint member
  by_rows_lem e h =
      let l = passed rows.length_of (rows.rows_of ∷ names.names_of ∷ operands_of ∷ locals_of ∷ leaks_of ∷ []) t e (λ z. other number row_refusals length_refusals refl h (length-number t z)) in
      (length-rows t _ l.0, go (rows.rows_of t) l.1)
    where
      go : (v : Verdict) → and_then v (in_order (names.names_of ∷ operands_of ∷ locals_of ∷ leaks_of ∷ []) t) ≡ Refused number row → v ≡ Refused number row
      go (Accepted n) e = absurd (other number row_refusals later_refusals refl h (after-rows t e))
      go (Refused a b) e = e

  -- 11 to 14: the passes before locals accept, and locals or leaks refuse
  pub late : judge_of t ≡ Refused number row → member number (local_refusals ++ leak_refusals) ≡ true → UpToOperands t × (in_order (locals_of ∷ leaks_of ∷ []) t ≡ Refused number row)
  unfolding judge_of passes rows.rows_of names.names_of names.names_with operands_of operands_with disjoint member
  late e h =
      let walks = local_refusals ++ leak_refusals in
      let l = passed rows.length_of _ t e (λ z. other number walks length_refusals refl h (length-number t z)) in
      let r = passed rows.rows_of _ t l.1 (λ z. other number walks row_refusals refl h (rows-number t z)) in
      let n = passed names.names_of _ t r.1 (λ z. other number walks name_refusals refl h (names-number t z)) in
      let o = passed operands_of (locals_of ∷ leaks_of ∷ []) t n.1 (λ z. other number walks operand_refusals refl h (operands-number t z)) in (
        record {
          by_length = length-rows t _ l.0;
          by_rows = over_rows _ (row_count t) _ r.0;
          by_names = over_rows _ (row_count t) _ n.0;
          by_operands = code-rows _ (index_of t) t _ o.0;
        },
        o.1,
      )

-- where they accept, locals and leaks decide
pub locals-next : (t : List ℕ) → UpToOperands t → judge_of t ≡ in_order (locals_of ∷ leaks_of ∷ []) t
unfolding judge_of passes
locals-next t a =
    accepted-here rows.length_of _ t a.by_length ∙ accepted-here rows.rows_of _ t a.by_rows ∙ accepted-here names.names_of _ t a.by_names
    ∙ accepted-here operands_of (locals_of ∷ leaks_of ∷ []) t a.by_operands

-- where locals accept too, leaks decide
pub leaks_next : (t : List ℕ) → UpToOperands t → locals_of t ≡ Accepted (row_count t) → judge_of t ≡ in_order (leaks_of ∷ []) t
leaks_next t a e = locals-next t a ∙ accepted-here locals_of (leaks_of ∷ []) t e

-- what locals do not refuse so, leaks do
pub after-locals : (t : List ℕ) {number row : ℕ} → in_order (locals_of ∷ leaks_of ∷ []) t ≡ Refused number row → (locals_of t ≡ Refused number row) ⊎ ((locals_of t ≡ Accepted (row_count t)) × (leaks_of t ≡ Refused number row))
unfolding in_order locals_of
after-locals t {number} {row} e = go (locals_of t) refl (leaks_of t) e
  where
    last : (w : Verdict) → and_then w (Accepted (row_count t)) ≡ Refused number row → w ≡ Refused number row
    last (Accepted n) e = absurd (refused-accepted (sym e))
    last (Refused a b) e = e

    go : (v : Verdict) → locals_of t ≡ v → (w : Verdict) → and_then v (and_then w (Accepted (row_count t))) ≡ Refused number row → (v ≡ Refused number row) ⊎ ((locals_of t ≡ Accepted (row_count t)) × (w ≡ Refused number row))
    go (Refused a b) q w e = inl e
    go (Accepted n) q w e = inr (code-rows _ (index_of t) t n q, last w e)
