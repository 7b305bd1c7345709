-- Helpers that call each other, worked by computation: by rounds and by the one graph.
use Prim.Native.Nat.{ℕ, ◌+◌, ◌*◌}
use mathlib.Core.Path.{◌≡◌, refl, ◌∙◌, ap, sym}
use mathlib.Core.Bool.{Bool, true, false, cond}
use mathlib.Core.List.{List, [], ◌∷◌}
use lib.Dec.{eqb}
use lib.ListN.{length, get_or}
use Rattle.laws.specs.Lists.{tabulate}
use Rattle.reach.specs.Reach.{mark, push, sweep, rounds, count_true, settle}
use Rattle.table.specs.Format.{op_ret, op_call, op_branch_cond}
use Rattle.flow.specs.Steps.{Step, below}
use Rattle.flow.specs.Places.{nodes_at, nodes_of, succs, reached, fresh_places, within, mark_moves, place_moves, start_places, mark_nodes, operand_marked}
use Rattle.steps.specs.Steps.{no_step}
use Rattle.helpers.specs.Marks.{Procedure, parameter_of, result_of, step_under}
use Rattle.helpers.specs.Rounds.{up_to, sends, sent_from, sent, nodes_under, round, no_marks}
use Rattle.helpers.proofs.Net.{Spot, heads, codes, blank, Layout, rows_from, lower, mark_node, mark_nodes_of, calls_at, after, follow, follows, entry_of, entries, arrived, inside, pushed_at, result_to, edges, graph, source_of, sources, source_set, found, read_off}
use Rattle.reach.proofs.Settle.{settle-iter}

-- an instruction, by its opcode, its operand, how many operands it takes, and the marks of what it pushes
unfoldable ins : ℕ → ℕ → ℕ → List Bool → Step
ins o b t f = record { opcode = o; operand = b; takes = t; fresh = f; carries = false }

unfoldable after_ins : Step → ℕ → List ℕ
after_ins s i = cond (eqb s.opcode op_ret) [] (cond (eqb s.opcode op_branch_cond) ((i + 1) ∷ s.operand ∷ []) ((i + 1) ∷ []))

unfoldable is_helper : List Bool → Step → Bool
is_helper privates s = cond (eqb s.opcode op_call) (get_or privates s.operand false) false

unfoldable procedure : List Bool → ℕ → Bool → List Step → Procedure
procedure privates params hidden code = record {
  next = λ (i : ℕ). below (length code) (after_ins (get_or code i no_step) i);
  step = λ (i : ℕ). get_or code i no_step;
  params = params;
  locals = params;
  size = length code;
  is_private = hidden;
  helper = λ (i : ℕ). is_helper privates (get_or code i no_step);
}

unfoldable no_procedure : Procedure
no_procedure = procedure [] 0 false (ins 16 0 0 [] ∷ [])

unfoldable mv : ℕ → Step
mv l = ins 2 l 0 (false ∷ [])

unfoldable borrow : Step
borrow = ins 8 0 1 (true ∷ [])

-- Two helpers that call each other. 0 returns its parameter or gives it to 1; 1 gives it to 0 and returns what it gets. A public procedure borrows a guarded field,
-- gives the reference to 1 and returns what it gets.
unfoldable pair_private : List Bool
pair_private = true ∷ true ∷ false ∷ []

unfoldable pair : ℕ → Procedure
pair q = get_or (
    procedure pair_private 1 true (ins 1 0 0 (false ∷ []) ∷ ins 18 4 1 [] ∷ mv 0 ∷ ins 16 0 1 [] ∷ mv 0 ∷ ins 15 1 1 (false ∷ []) ∷ ins 16 0 1 [] ∷ [])
    ∷ procedure pair_private 1 true (mv 0 ∷ ins 15 0 1 (false ∷ []) ∷ ins 16 0 1 [] ∷ [])
    ∷ procedure pair_private 1 false (mv 0 ∷ borrow ∷ ins 15 1 1 (false ∷ []) ∷ ins 16 0 1 [] ∷ [])
    ∷ []) q no_procedure

-- 20 places for each procedure, of which the first parameter, the first result and the rest
unfoldable twenty : Bool → Bool → List Bool → List Bool
twenty first result rest =
    first ∷ false ∷ false ∷ false ∷ false ∷ false ∷ false ∷ false ∷ false ∷ false ∷ false ∷ false ∷ false ∷ false ∷ false ∷ false
    ∷ result ∷ false ∷ false ∷ false ∷ rest

unfoldable pair_marks : List Bool
pair_marks = twenty true true (twenty true true (twenty false false []))

unfoldable first_marks : List Bool
first_marks = twenty false false (twenty true false (twenty false false []))

-- the first round marks parameter 0 of procedure 1 only
pair_first : round pair 3 (no_marks 3) ≡ first_marks
unfolding tabulate mark push sweep settle count_true below nodes_at nodes_of succs reached fresh_places within mark_moves place_moves start_places mark_nodes parameter_of result_of step_under nodes_under ins after_ins is_helper procedure no_procedure mv borrow pair_private pair twenty pair_marks up_to sends sent_from sent round no_marks first_marks
pair_first = refl

-- under four marks, those that the search below finds, what the public procedure returns is marked
pair_leaks : operand_marked (nodes_under pair pair_marks 2) 3 0 ≡ true
unfolding tabulate mark push sweep settle count_true below nodes_at nodes_of succs reached fresh_places within mark_moves place_moves start_places mark_nodes parameter_of result_of step_under nodes_under ins after_ins is_helper procedure no_procedure mv borrow pair_private pair twenty pair_marks
pair_leaks = refl

-- under those of one round it is not
early : operand_marked (nodes_under pair first_marks 2) 3 0 ≡ false
unfolding tabulate mark push sweep settle count_true below nodes_at nodes_of succs reached fresh_places within mark_moves place_moves start_places mark_nodes parameter_of result_of step_under nodes_under ins after_ins is_helper procedure no_procedure mv borrow pair_private pair twenty pair_marks first_marks
early = refl

pair_too_early : operand_marked (nodes_under pair (round pair 3 (no_marks 3)) 2) 3 0 ≡ false
pair_too_early = rw pair_first early

-- a module row, then each procedure's own row and its instructions
unfoldable pair_spots : List Spot
pair_spots =
    blank ∷ heads 0 ∷ codes 0 0 ∷ codes 0 1 ∷ codes 0 2 ∷ codes 0 3 ∷ codes 0 4 ∷ codes 0 5 ∷ codes 0 6
    ∷ heads 1 ∷ codes 1 0 ∷ codes 1 1 ∷ codes 1 2
    ∷ heads 2 ∷ codes 2 0 ∷ codes 2 1 ∷ codes 2 2 ∷ codes 2 3 ∷ []

unfoldable pair_at : Layout
pair_at = record { head = λ (q : ℕ). get_or (1 ∷ 9 ∷ 13 ∷ []) q 0; base = λ (q : ℕ). get_or (2 ∷ 10 ∷ 14 ∷ []) q 0; spot = λ (row : ℕ). get_or pair_spots row blank; rows = 18 }

-- the search over the one graph, by rounds that stop where nothing is added, finds the four marks
unfoldable search : (ℕ → Procedure) → Layout → List Bool
search code at = settle (sweep (graph code at)) (32 * at.rows) (source_set code at)

search-found : (code : ℕ → Procedure) (at : Layout) → search code at ≡ found code at
unfolding search found
search-found code at = settle-iter (graph code at) (32 * at.rows) (source_set code at)

searched_marks : read_off pair_at 3 (search pair pair_at) ≡ pair_marks
unfolding tabulate mark push sweep rounds settle count_true below nodes_at nodes_of succs reached fresh_places within mark_moves place_moves start_places mark_nodes parameter_of result_of step_under nodes_under ins after_ins is_helper procedure no_procedure mv borrow pair_private pair twenty pair_marks up_to sends rows_from lower mark_node mark_nodes_of calls_at after follow follows entry_of entries arrived inside pushed_at result_to edges graph source_of sources source_set read_off search pair_at pair_spots
searched_marks = refl

pair_found : read_off pair_at 3 (found pair pair_at) ≡ pair_marks
pair_found = ap (read_off pair_at 3) (sym (search-found pair pair_at)) ∙ searched_marks
