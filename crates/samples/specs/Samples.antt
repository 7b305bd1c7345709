-- Tables, with a rule file or without, and what judging them answers.
use Rattle.std.specs.Prelude.{ℕ, List, [], ◌∷◌, ◌++◌, take, drop, set}
use Rattle.table.specs.Verdicts.{Verdict, Accepted, Refused}
use Rattle.samples.specs.Tables.{row, table, trusted, guest, type, number, guarded, public, private, parameter, local, result, code, pop, load_const, mv_loc, cp_loc, st_loc, borrow_loc, read_ref, write_ref, borrow_fld, pack, unpack, move_to, move_from, exists, call_procedure, ret, branch, branch_cond, freeze, rule, allow, forbid, rows_s, rows_t, rows_round, with_row, without-row, times, rows_lent, rows_shown, rows_takes_one, rows_takes_two, rows_crossed, rows_rotated, rows_swapped, rows_jumped_over, rows_dropped, rows_given_once, rows_returned_at, rows_called_twice, rows_thirteen, rows_marked_on_fall_through, rows_marked_on_jump, rows_overwritten_once, rows_overwritten_twice, rows_guests, rules_guests, rows_within}

-- a sample: whether there is a rule file, and its bytes; the bytes of a table, and its verdict
pub data Sample : Type 0 where
  judging : (has : ℕ) (rules bytes : List ℕ) → Verdict → Sample

-- a table that is judged, without a rule file and under one
abbrev pub gives : List ℕ → Verdict → Sample
gives bytes verdict = judging 0 [] bytes verdict

abbrev pub gives_under : List ℕ → List ℕ → Verdict → Sample
gives_under rules bytes verdict = judging 1 rules bytes verdict

-- length, rows, names and operands: refusals 1 to 10, 18 and 19
unfoldable pub judging_rows : List Sample
judging_rows =
    -- document 01: no bytes; T less one byte; row 0 guest
    gives [] (Refused 1 0)
    ∷ gives (take 255 (table rows_t)) (Refused 1 0)
    ∷ gives (table (with_row 0 guest rows_t)) (Refused 19 2)
    -- 2: row 0 not a module; a kind that is unknown; a field below a module
    ∷ gives (table (type ∷ [])) (Refused 2 0)
    ∷ gives (table (guest ∷ row 8 0 0 0 0 ∷ [])) (Refused 2 1)
    ∷ gives (table (guest ∷ number ∷ [])) (Refused 2 1)
    ∷ gives (table (guest ∷ row 0 0 0 0 0 ∷ [])) (Refused 2 1)
    -- 3: a 17th module; a ninth field; a 17th local
    ∷ gives (table (times 17 guest)) (Refused 3 16)
    ∷ gives (table (guest ∷ type ∷ times 9 number)) (Refused 3 10)
    ∷ gives (table (guest ∷ public ∷ times 17 (local 0 0) ++ (ret ∷ []))) (Refused 3 18)
    -- nine locals in each of two procedures: each has its own
    ∷ gives (table (guest ∷ public ∷ times 9 (local 0 0) ++ (ret ∷ public ∷ times 9 (local 0 0) ++ (ret ∷ [])))) (Accepted 23)
    -- 4: an unused byte; 18: a parameter after another local, C of 256, opcode 21, Op 4, sort 6; 19: a guarded record
    ∷ gives (table (guest ∷ row 2 1 0 0 0 ∷ [])) (Refused 4 1)
    ∷ gives (table (guest ∷ public ∷ local 0 0 ∷ parameter 0 0 ∷ [])) (Refused 18 3)
    ∷ gives (table (guest ∷ public ∷ row 5 0 0 256 0 ∷ [])) (Refused 18 2)
    ∷ gives (table (guest ∷ public ∷ code 21 0 ∷ [])) (Refused 18 2)
    ∷ gives (table (guest ∷ public ∷ code 19 4 ∷ [])) (Refused 18 2)
    ∷ gives (table (guest ∷ public ∷ local 6 0 ∷ ret ∷ [])) (Refused 18 2)
    ∷ gives (table (trusted ∷ type ∷ type ∷ row 3 1 0 1 0 ∷ [])) (Refused 19 3)
    -- two faults on one row: a 17th module with A = 2; on two rows: the upper one decides
    ∷ gives (table (times 16 guest ++ (row 1 2 0 0 0 ∷ []))) (Refused 3 16)
    ∷ gives (table (guest ∷ row 2 1 0 0 0 ∷ row 9 0 0 0 0 ∷ [])) (Refused 4 1)
    -- S: accepted; its row 9 Pop; its row 7 taken out
    ∷ gives (table rows_s) (Accepted 10)
    ∷ gives (table (with_row 9 pop rows_s)) (Refused 5 3)
    ∷ gives (table (without-row 7 rows_s)) (Refused 7 7)
    -- two results; records and references of type 1 in locals and results, and in MoveFrom, Unpack and Exists
    ∷ gives (table (guest ∷ type ∷ type ∷ public ∷ parameter 3 1 ∷ parameter 5 1 ∷ parameter 0 0 ∷ local 1 1 ∷ result 3 1 ∷ result 5 1
    ∷ cp_loc 2 ∷ exists 1 ∷ pop ∷ cp_loc 2 ∷ move_from 1 ∷ st_loc 3 ∷ mv_loc 3 ∷ unpack 1 ∷ mv_loc 0 ∷ mv_loc 1 ∷ ret ∷ [])) (Accepted 21)
    -- 5: no instructions
    ∷ gives (table (guest ∷ public ∷ [])) (Refused 5 1)
    -- 6: a type, a target and a lower type that are not there
    ∷ gives (table (guest ∷ public ∷ parameter 1 0 ∷ ret ∷ [])) (Refused 6 2)
    ∷ gives (table (guest ∷ public ∷ branch 5 ∷ [])) (Refused 6 2)
    ∷ gives (table (guest ∷ type ∷ row 3 1 0 0 0 ∷ [])) (Refused 6 2)
    -- 7: an operand missing; 8: a 17th operand; 9: an operand under the results
    ∷ gives (table (guest ∷ public ∷ pop ∷ ret ∷ [])) (Refused 7 2)
    ∷ gives (table (guest ∷ public ∷ times 17 (load_const 1) ++ (ret ∷ []))) (Refused 8 18)
    ∷ gives (table (guest ∷ public ∷ load_const 1 ∷ ret ∷ [])) (Refused 9 3)
    -- 10: a type, and a private procedure, of another module
    ∷ gives (table (trusted ∷ type ∷ guest ∷ public ∷ pack 0 ∷ ret ∷ [])) (Refused 10 4)
    ∷ gives (table (guest ∷ private ∷ ret ∷ guest ∷ public ∷ call_procedure 0 ∷ ret ∷ [])) (Refused 10 5)
    -- 10 between two trusted modules: Pack, and BorrowFld through a reference
    ∷ gives (table (trusted ∷ type ∷ guarded ∷ trusted ∷ public ∷ load_const 500 ∷ pack 0 ∷ load_const 7 ∷ move_to 0 ∷ ret ∷ [])) (Refused 10 6)
    ∷ gives (table (trusted ∷ type ∷ guarded ∷ trusted ∷ public ∷ parameter 3 0 ∷ mv_loc 0 ∷ borrow_fld 0 0 ∷ read_ref ∷ pop ∷ ret ∷ [])) (Refused 10 7)
    -- two faults on one row: 7 before 10, 9 before 10
    ∷ gives (table (guest ∷ private ∷ parameter 0 0 ∷ ret ∷ guest ∷ public ∷ call_procedure 0 ∷ ret ∷ [])) (Refused 7 6)
    ∷ gives (table (trusted ∷ type ∷ guest ∷ public ∷ pack 0 ∷ branch 1 ∷ [])) (Refused 9 4)
    -- a faulty row that no walk reaches
    ∷ gives (table (guest ∷ public ∷ branch 2 ∷ pop ∷ ret ∷ [])) (Refused 7 3)
    -- a jump in a row that no walk reaches starts a block at its target: the row above it leaves an operand
    ∷ gives (table (guest ∷ public ∷ load_const 0 ∷ pop ∷ ret ∷ branch 1 ∷ [])) (Refused 9 2)
    ∷ []

-- rows: an unused byte, a value not allowed and a guard misplaced, alone and together: refusals 4, 18 and 19
unfoldable pub judging_values : List Sample
judging_values =
    -- 4: B of a number field; C of a result; the second byte of D of a module
    gives (table (guest ∷ type ∷ row 3 0 1 0 0 ∷ [])) (Refused 4 2)
    ∷ gives (table (guest ∷ public ∷ row 6 0 0 1 0 ∷ ret ∷ [])) (Refused 4 2)
    ∷ gives (table (row 1 0 0 0 256 ∷ [])) (Refused 4 0)
    -- 18: A of 2 in a module, in a field and in a procedure; C of 2 in a local
    ∷ gives (table (row 1 2 0 0 0 ∷ [])) (Refused 18 0)
    ∷ gives (table (guest ∷ type ∷ row 3 2 0 0 0 ∷ [])) (Refused 18 2)
    ∷ gives (table (guest ∷ row 4 2 0 0 0 ∷ [])) (Refused 18 1)
    ∷ gives (table (guest ∷ public ∷ row 5 0 0 2 0 ∷ [])) (Refused 18 2)
    -- a parameter below a parameter and two other locals; a procedure starts its locals anew
    ∷ gives (table (guest ∷ public ∷ parameter 0 0 ∷ local 0 0 ∷ local 0 0 ∷ parameter 0 0 ∷ [])) (Refused 18 5)
    ∷ gives (table (guest ∷ public ∷ local 0 0 ∷ ret ∷ public ∷ parameter 0 0 ∷ ret ∷ [])) (Accepted 7)
    -- 19: the nearest module decides: a guard below a guest below a trusted module; below a trusted module below a guest
    ∷ gives (table (trusted ∷ guest ∷ type ∷ guarded ∷ [])) (Refused 19 3)
    ∷ gives (table (guest ∷ trusted ∷ type ∷ guarded ∷ [])) (Accepted 4)
    -- 4 before 18 on one row: opcode 21, and Op 4, with C of 1; a parameter after another local with D of 1
    ∷ gives (table (guest ∷ public ∷ row 7 21 0 1 0 ∷ [])) (Refused 4 2)
    ∷ gives (table (guest ∷ public ∷ row 7 19 4 1 0 ∷ [])) (Refused 4 2)
    ∷ gives (table (guest ∷ public ∷ local 0 0 ∷ row 5 0 0 1 1 ∷ [])) (Refused 4 3)
    -- 4 before 19: a guarded record, and a guard in a guest, with D of 1
    ∷ gives (table (trusted ∷ type ∷ type ∷ row 3 1 0 1 1 ∷ [])) (Refused 4 3)
    ∷ gives (table (guest ∷ type ∷ row 3 0 0 1 1 ∷ [])) (Refused 4 2)
    -- 18 before 19: C of 2 in a guest's field; a guard in a guest on a field whose A is 2
    ∷ gives (table (guest ∷ type ∷ row 3 0 0 2 0 ∷ [])) (Refused 18 2)
    ∷ gives (table (guest ∷ type ∷ row 3 2 0 1 0 ∷ [])) (Refused 18 2)
    -- beside an A that is not allowed, what some allowed A uses counts as used: B and D of an instruction, B and C of a local and of a field, B of a result
    ∷ gives (table (guest ∷ public ∷ row 7 21 1 0 1 ∷ [])) (Refused 18 2)
    ∷ gives (table (guest ∷ public ∷ row 5 6 1 1 0 ∷ [])) (Refused 18 2)
    ∷ gives (table (guest ∷ type ∷ row 3 2 1 1 0 ∷ [])) (Refused 18 2)
    ∷ gives (table (guest ∷ public ∷ row 6 6 1 0 0 ∷ [])) (Refused 18 2)
    -- and what none uses does not: D of a local, C of a result, B of a procedure
    ∷ gives (table (guest ∷ public ∷ row 5 6 0 0 1 ∷ [])) (Refused 4 2)
    ∷ gives (table (guest ∷ public ∷ row 6 6 0 1 0 ∷ [])) (Refused 4 2)
    ∷ gives (table (guest ∷ row 4 2 1 0 0 ∷ [])) (Refused 4 1)
    -- 2 and 3 before 18 and 19 on one row: a field below a module; a ninth field of a guest, guarded
    ∷ gives (table (guest ∷ row 3 2 0 1 0 ∷ [])) (Refused 2 1)
    ∷ gives (table (guest ∷ type ∷ times 8 number ++ (guarded ∷ []))) (Refused 3 10)
    -- on two rows the upper one decides: 19 above 2; 18 above 4; 18 and 19 are of the rows pass, before 5 at an upper row
    ∷ gives (table (guest ∷ type ∷ guarded ∷ row 9 0 0 0 0 ∷ [])) (Refused 19 2)
    ∷ gives (table (guest ∷ public ∷ code 19 4 ∷ row 7 0 1 0 0 ∷ [])) (Refused 18 2)
    ∷ gives (table (guest ∷ public ∷ public ∷ code 21 0 ∷ [])) (Refused 18 3)
    ∷ gives (table (trusted ∷ public ∷ guest ∷ type ∷ guarded ∷ [])) (Refused 19 4)
    ∷ []

-- locals and leaks: refusals 11 to 14
unfoldable pub judging_walks : List Sample
judging_walks =
    -- T hands out a marked reference; T with its field unguarded
    gives (table rows_t) (Refused 14 15)
    ∷ gives (table (with_row 2 number rows_t)) (Accepted 16)
    -- S with MvLoc 0 and Pop put in after row 7
    ∷ gives (table (take 8 rows_s ++ (mv_loc 0 ∷ pop ∷ drop 8 rows_s))) (Refused 11 8)
    -- a marked reference given to an own procedure: private, public
    ∷ gives (table (take 12 rows_t ++ (mv_loc 0 ∷ borrow_fld 0 0 ∷ call_procedure 2 ∷ ret ∷ private ∷ parameter 2 0 ∷ ret ∷ []))) (Accepted 19)
    ∷ gives (table (take 12 rows_t ++ (mv_loc 0 ∷ borrow_fld 0 0 ∷ call_procedure 2 ∷ ret ∷ public ∷ parameter 2 0 ∷ ret ∷ []))) (Refused 13 14)
    -- a mark that travels through three locals round a loop, to a private procedure, to a public one
    ∷ gives (table rows_round) (Accepted 21)
    ∷ gives (table (with_row 18 public rows_round)) (Refused 13 16)
    -- a record left in a local on one of two ways
    ∷ gives (table (trusted ∷ type ∷ public ∷ parameter 0 0 ∷ local 1 0 ∷ mv_loc 0 ∷ branch_cond 4 ∷ pack 0 ∷ st_loc 1 ∷ ret ∷ [])) (Refused 12 9)
    -- a walk goes on past a faulty row
    ∷ gives (table (guest ∷ public ∷ local 0 0 ∷ branch 4 ∷ cp_loc 0 ∷ pop ∷ ret ∷ mv_loc 0 ∷ pop ∷ branch 1 ∷ [])) (Refused 11 4)
    ∷ []

-- leaks: marks on two ways and on two arguments
unfoldable pub judging_marks : List Sample
judging_marks =
    -- a mark that comes on one of two ways only
    gives (table rows_marked_on_fall_through) (Refused 13 13)
    ∷ gives (table rows_marked_on_jump) (Refused 13 14)
    -- a type with two fields, the second guarded: a reference to the first is returned, to the second
    ∷ gives (table (trusted ∷ type ∷ number ∷ guarded ∷ public ∷ parameter 3 0 ∷ result 2 0 ∷ mv_loc 0 ∷ borrow_fld 0 0 ∷ ret ∷ [])) (Accepted 10)
    ∷ gives (table (trusted ∷ type ∷ number ∷ guarded ∷ public ∷ parameter 3 0 ∷ result 2 0 ∷ mv_loc 0 ∷ borrow_fld 0 1 ∷ ret ∷ [])) (Refused 14 9)
    -- the lower of two arguments is marked; the upper
    ∷ gives (table (rows_lent ++ (cp_loc 0 ∷ borrow_fld 0 0 ∷ mv_loc 1 ∷ call_procedure 1 ∷ ret ∷ rows_takes_two))) (Refused 13 10)
    ∷ gives (table (rows_lent ++ (mv_loc 1 ∷ cp_loc 0 ∷ borrow_fld 0 0 ∷ call_procedure 1 ∷ ret ∷ rows_takes_two))) (Refused 13 10)
    ∷ []

-- leaks: marks that are overwritten
unfoldable pub judging_overwritten : List Sample
judging_overwritten =
    -- a mark overwritten by BorrowLoc of a local that was emptied; overwritten on one of two ways; on both
    gives (table (rows_overwritten_once mv_loc)) (Refused 11 12)
    ∷ gives (table (rows_overwritten_once cp_loc)) (Refused 13 15)
    ∷ gives (table rows_overwritten_twice) (Accepted 23)
    ∷ []

-- read-only references
unfoldable pub judging_read_only : List Sample
judging_read_only =
    -- T with Freeze before Ret and a result of sort 4; without the Freeze; a guarded field borrowed through a read-only reference
    gives (table (rows_s ++ (public ∷ parameter 3 0 ∷ result 4 0 ∷ mv_loc 0 ∷ borrow_fld 0 0 ∷ freeze ∷ ret ∷ []))) (Accepted 17)
    ∷ gives (table (rows_s ++ (public ∷ parameter 3 0 ∷ result 4 0 ∷ mv_loc 0 ∷ borrow_fld 0 0 ∷ ret ∷ []))) (Refused 7 15)
    ∷ gives (table (rows_s ++ (public ∷ parameter 5 0 ∷ result 4 0 ∷ mv_loc 0 ∷ borrow_fld 0 0 ∷ ret ∷ []))) (Accepted 16)
    -- WriteRef through sort 4; through what is borrowed from sort 5
    ∷ gives (table (guest ∷ public ∷ parameter 4 0 ∷ load_const 1 ∷ mv_loc 0 ∷ write_ref ∷ ret ∷ [])) (Refused 7 5)
    ∷ gives (table (rows_s ++ (public ∷ parameter 5 0 ∷ load_const 1 ∷ mv_loc 0 ∷ borrow_fld 0 0 ∷ write_ref ∷ ret ∷ []))) (Refused 7 15)
    -- 5 given for 3, and 3 for 5; Freeze of a number and of what is frozen; BorrowLoc of a local of sort 4
    ∷ gives (table (guest ∷ type ∷ public ∷ parameter 5 0 ∷ mv_loc 0 ∷ call_procedure 1 ∷ ret ∷ private ∷ parameter 3 0 ∷ ret ∷ [])) (Refused 7 5)
    ∷ gives (table (guest ∷ type ∷ public ∷ parameter 3 0 ∷ mv_loc 0 ∷ call_procedure 1 ∷ ret ∷ private ∷ parameter 5 0 ∷ ret ∷ [])) (Refused 7 5)
    ∷ gives (table (guest ∷ public ∷ load_const 1 ∷ freeze ∷ pop ∷ ret ∷ [])) (Refused 7 3)
    ∷ gives (table (guest ∷ public ∷ parameter 4 0 ∷ mv_loc 0 ∷ freeze ∷ pop ∷ ret ∷ [])) (Refused 7 4)
    ∷ gives (table (guest ∷ public ∷ parameter 4 0 ∷ borrow_loc 0 ∷ pop ∷ ret ∷ [])) (Refused 7 3)
    -- 6: a type of sort 5 that is not there; 4: an operand of Freeze
    ∷ gives (table (guest ∷ public ∷ parameter 5 0 ∷ ret ∷ [])) (Refused 6 2)
    ∷ gives (table (guest ∷ public ∷ parameter 2 0 ∷ mv_loc 0 ∷ code 20 1 ∷ pop ∷ ret ∷ [])) (Refused 4 4)
    ∷ []

-- leaks: writable and read-only references to a guarded field
unfoldable pub judging_handed : List Sample
judging_handed =
    -- the reference from which a read-only one was made stays marked
    gives (table (rows_lent ++ (mv_loc 0 ∷ borrow_fld 0 0 ∷ st_loc 1 ∷ cp_loc 1 ∷ freeze ∷ pop ∷ mv_loc 1 ∷ call_procedure 1 ∷ ret ∷ rows_takes_one))) (Refused 13 14)
    -- a read-only one to a guarded field above, and below, a writable one to a parameter's number; a writable one to a guarded field below it
    ∷ gives (table (rows_shown ++ (mv_loc 1 ∷ mv_loc 0 ∷ borrow_fld 0 0 ∷ call_procedure 1 ∷ ret ∷ private ∷ parameter 2 0 ∷ parameter 4 0 ∷ ret ∷ []))) (Accepted 15)
    ∷ gives (table (rows_shown ++ (mv_loc 0 ∷ borrow_fld 0 0 ∷ mv_loc 1 ∷ call_procedure 1 ∷ ret ∷ private ∷ parameter 4 0 ∷ parameter 2 0 ∷ ret ∷ []))) (Accepted 15)
    ∷ gives (table (rows_lent ++ (cp_loc 0 ∷ borrow_fld 0 0 ∷ mv_loc 0 ∷ freeze ∷ borrow_fld 0 0 ∷ call_procedure 1 ∷ ret ∷ public ∷ parameter 2 0 ∷ parameter 4 0 ∷ ret ∷ []))) (Refused 13 12)
    -- a local that holds one to a guarded field on one of two ways
    ∷ gives (table (trusted ∷ type ∷ guarded ∷ public ∷ parameter 5 0 ∷ parameter 4 0 ∷ parameter 0 0
    ∷ mv_loc 2 ∷ branch_cond 5 ∷ cp_loc 0 ∷ borrow_fld 0 0 ∷ st_loc 1 ∷ mv_loc 1 ∷ call_procedure 1 ∷ ret ∷ private ∷ parameter 4 0 ∷ ret ∷ [])) (Accepted 18)
    ∷ []

-- leaks: helpers
unfoldable pub judging_helpers : List Sample
judging_helpers =
    -- T with its procedure private; then a public one returns what it gets from it, and one writes through it
    gives (table (with_row 10 private rows_t)) (Accepted 16)
    ∷ gives (table (with_row 10 private rows_t ++ (public ∷ parameter 3 0 ∷ result 2 0 ∷ mv_loc 0 ∷ call_procedure 1 ∷ ret ∷ []))) (Refused 14 21)
    ∷ gives (table (with_row 10 private rows_t ++ (public ∷ parameter 3 0 ∷ load_const 1 ∷ mv_loc 0 ∷ call_procedure 1 ∷ write_ref ∷ ret ∷ []))) (Accepted 23)
    -- of another module a private procedure is none to call, a public one of a guest or of a trusted module no helper
    ∷ gives (table (trusted ∷ type ∷ guarded ∷ public ∷ parameter 3 0 ∷ mv_loc 0 ∷ borrow_fld 0 0 ∷ call_procedure 1 ∷ ret ∷ trusted ∷ private ∷ parameter 2 0 ∷ ret ∷ [])) (Refused 10 7)
    ∷ gives (table (trusted ∷ type ∷ guarded ∷ public ∷ parameter 3 0 ∷ mv_loc 0 ∷ borrow_fld 0 0 ∷ call_procedure 1 ∷ ret ∷ guest ∷ public ∷ parameter 2 0 ∷ ret ∷ [])) (Refused 13 7)
    ∷ gives (table (trusted ∷ type ∷ guarded ∷ public ∷ parameter 3 0 ∷ mv_loc 0 ∷ borrow_fld 0 0 ∷ call_procedure 1 ∷ ret ∷ trusted ∷ public ∷ parameter 2 0 ∷ ret ∷ [])) (Refused 13 7)
    -- of two results the lower is not marked, the upper is
    ∷ gives (table (rows_swapped (pop ∷ ret ∷ []))) (Accepted 21)
    ∷ gives (table (rows_swapped (st_loc 1 ∷ pop ∷ mv_loc 1 ∷ ret ∷ []))) (Refused 14 22)
    -- a Call that no walk arrives at; the same, arrived at; in a private procedure that nothing calls
    ∷ gives (table (rows_jumped_over 5)) (Accepted 22)
    ∷ gives (table (rows_jumped_over 1)) (Refused 14 13)
    ∷ gives (table (with_row 14 private (rows_jumped_over 1))) (Refused 14 13)
    -- a mark that StLoc drops; one that it does not
    ∷ gives (table rows_dropped) (Accepted 20)
    ∷ gives (table (without-row 7 (without-row 7 rows_dropped))) (Refused 14 17)
    ∷ []

-- leaks: one walk that gives or returns a marked reference is enough
unfoldable pub judging_given : List Sample
judging_given =
    -- given to a helper on one of two ways; by one of two procedures, of which the other returns what it gets
    gives (table rows_given_once) (Refused 14 20)
    ∷ gives (table rows_called_twice) (Refused 14 20)
    -- returned by a helper at its second Ret, at its first, at neither
    ∷ gives (table (rows_returned_at 1 0)) (Refused 14 21)
    ∷ gives (table (rows_returned_at 0 1)) (Refused 14 21)
    ∷ gives (table (rows_returned_at 1 1)) (Accepted 22)
    -- of 13 parameters the last is marked: the first is returned, the last
    ∷ gives (table (rows_thirteen 0)) (Accepted 40)
    ∷ gives (table (rows_thirteen 12)) (Refused 14 39)
    ∷ []

-- leaks: marks that come after several rounds
unfoldable pub judging_rounds : List Sample
judging_rounds =
    gives (table rows_crossed) (Refused 14 25)
    ∷ gives (table rows_rotated) (Refused 13 18)
    ∷ []

-- the rule file: refusal 20
unfoldable pub judging_file : List Sample
judging_file =
    -- S under one row for all, which allows or forbids: nothing in S calls
    gives_under (table (allow 0 15 0 15 ∷ [])) (table rows_s) (Accepted 10)
    ∷ gives_under (table (forbid 0 15 0 15 ∷ [])) (table rows_s) (Accepted 10)
    -- 0 says that there is no file, whatever its bytes; every other number that there is one
    ∷ judging 0 (1 ∷ []) (table rows_s) (Accepted 10)
    ∷ judging 1 [] (table rows_s) (Refused 20 0)
    ∷ judging 18446744073709551615 [] (table rows_s) (Refused 20 0)
    -- the length: a row less one byte, one byte more
    ∷ gives_under (take 15 (allow 0 15 0 15)) (table rows_s) (Refused 20 0)
    ∷ gives_under (allow 0 15 0 15 ++ (0 ∷ [])) (table rows_s) (Refused 20 0)
    -- byte 0, byte 1, and the bytes that are zero
    ∷ gives_under (2 ∷ drop 1 (allow 0 15 0 15)) (table rows_s) (Refused 20 0)
    ∷ gives_under (0 ∷ drop 1 (allow 0 15 0 15)) (table rows_s) (Refused 20 0)
    ∷ gives_under (rule 2 0 15 0 15) (table rows_s) (Refused 20 0)
    ∷ gives_under (set (allow 0 15 0 15) 2 1) (table rows_s) (Refused 20 0)
    ∷ gives_under (set (allow 0 15 0 15) 3 1) (table rows_s) (Refused 20 0)
    ∷ gives_under (set (allow 0 15 0 15) 8 1) (table rows_s) (Refused 20 0)
    ∷ gives_under (set (allow 0 15 0 15) 11 1) (table rows_s) (Refused 20 0)
    ∷ gives_under (set (allow 0 15 0 15) 15 255) (table rows_s) (Refused 20 0)
    -- the ranges: the first above the last, module 16
    ∷ gives_under (allow 1 0 0 15) (table rows_s) (Refused 20 0)
    ∷ gives_under (allow 0 15 1 0) (table rows_s) (Refused 20 0)
    ∷ gives_under (allow 0 16 0 15) (table rows_s) (Refused 20 0)
    ∷ gives_under (allow 0 15 0 16) (table rows_s) (Refused 20 0)
    ∷ gives_under (allow 16 16 0 15) (table rows_s) (Refused 20 0)
    -- the lowest bad row is told; before 21, and after the passes over the table
    ∷ gives_under (table (allow 0 0 0 0 ∷ rule 2 0 0 0 0 ∷ allow 1 0 0 0 ∷ [])) (table rows_s) (Refused 20 1)
    ∷ gives_under (table (rule 2 0 15 0 15 ∷ [])) (table (with_row 9 pop rows_s)) (Refused 5 3)
    ∷ []

-- its pairs and the Calls of a table: refusals 21 and 22
unfoldable pub judging_pairs : List Sample
judging_pairs =
    -- 21: the one pair of S under no row; under two, which agree; the called module is asked too
    gives_under (table (allow 1 15 0 15 ∷ [])) (table rows_s) (Refused 21 0)
    ∷ gives_under (table (allow 0 15 0 15 ∷ allow 0 0 0 0 ∷ [])) (table rows_s) (Refused 21 0)
    ∷ gives_under (table (allow 0 15 1 15 ∷ [])) (table rows_s) (Refused 21 0)
    -- rows past the modules that are there: none needed, and several do no harm
    ∷ gives_under (table (allow 0 0 0 0 ∷ [])) (table rows_s) (Accepted 10)
    ∷ gives_under (table (allow 0 0 0 15 ∷ allow 1 15 0 15 ∷ forbid 1 15 0 15 ∷ [])) (table rows_s) (Accepted 10)
    -- two modules: the pairs (0, 1) and (1, 0) are two, and the lowest is told; a pair that no Call uses is asked too
    ∷ gives_under (table (allow 0 0 0 0 ∷ allow 1 1 1 1 ∷ [])) (table (guest ∷ guest ∷ [])) (Refused 21 1)
    ∷ gives_under (table (allow 0 0 0 1 ∷ allow 1 1 1 1 ∷ [])) (table (guest ∷ guest ∷ [])) (Refused 21 16)
    ∷ gives_under (table (allow 0 1 0 1 ∷ [])) (table (guest ∷ guest ∷ [])) (Accepted 2)
    -- 22: module 3 calls module 1 at row 24; without the file, and without module 3, the table is accepted
    ∷ gives_under (table rules_guests) (table rows_guests) (Refused 22 24)
    ∷ gives (table rows_guests) (Accepted 26)
    ∷ gives_under (table rules_guests) (take 336 (table rows_guests)) (Accepted 21)
    -- forbidden the other way round only: module 1 may not call module 3
    ∷ gives_under (table (allow 0 0 0 15 ∷ forbid 1 1 0 15 ∷ allow 2 15 0 15 ∷ [])) (table rows_guests) (Accepted 26)
    -- both Calls are forbidden: the lowest row; no row for the pair (2, 1): 21 before 22
    ∷ gives_under (table (forbid 0 15 0 15 ∷ [])) (table rows_guests) (Refused 22 19)
    ∷ gives_under (table (without-row 2 rules_guests)) (table rows_guests) (Refused 21 33)
    -- a Call within one module, which no walk reaches
    ∷ gives_under (table (forbid 0 0 0 0 ∷ [])) (table rows_within) (Refused 22 5)
    ∷ gives_under (table (allow 0 0 0 0 ∷ [])) (table rows_within) (Accepted 7)
    ∷ []

-- all of them
unfoldable pub samples : List Sample
samples = judging_rows ++ judging_values ++ judging_walks ++ judging_marks ++ judging_overwritten ++ judging_read_only ++ judging_handed ++ judging_helpers ++ judging_given ++ judging_rounds ++ judging_file ++ judging_pairs

-- the verdict that a sample gives, and what a judge answers to it
abbrev pub given : Sample → Verdict
given (judging has r bytes verdict) = verdict

abbrev pub answered : (ℕ → List ℕ → List ℕ → Verdict) → Sample → Verdict
answered judge (judging has r bytes verdict) = judge has r bytes
