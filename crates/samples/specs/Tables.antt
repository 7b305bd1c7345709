-- Tables written row by row: the rows by name, rule files, T and S of document 01, the ways to change them, and the longer tables that are judged.
use Rattle.std.specs.Prelude.{ℕ, zero, suc, ◌+◌, ◌*◌, List, [], ◌∷◌, ◌++◌, take, drop}
use Rattle.laws.specs.Numbers.{to_le}
use Rattle.table.specs.Format.{module_kind, type_kind, field_kind, procedure_kind, local_kind, result_kind, instruction_kind, op_pop, op_load_const, op_mv_loc, op_cp_loc, op_st_loc, op_borrow_loc, op_read_ref, op_write_ref, op_borrow_fld, op_pack, op_unpack, op_move_to, op_move_from, op_borrow_global, op_exists, op_call, op_ret, op_branch, op_branch_cond, op_op, op_freeze}

-- the bytes of a row
unfoldable pub row : ℕ → ℕ → ℕ → ℕ → ℕ → List ℕ
row kind a b c d = kind ∷ a ∷ to_le b 2 ++ to_le c 4 ++ to_le d 8

-- the bytes of a table of rows
unfoldable pub table : List (List ℕ) → List ℕ
table [] = []
table (r ∷ rs) = r ++ table rs

-- rows by their kinds
unfoldable pub trusted : List ℕ
trusted = row module_kind 1 0 0 0

unfoldable pub guest : List ℕ
guest = row module_kind 0 0 0 0

unfoldable pub type : List ℕ
type = row type_kind 0 0 0 0

unfoldable pub number : List ℕ
number = row field_kind 0 0 0 0

unfoldable pub guarded : List ℕ
guarded = row field_kind 0 0 1 0

unfoldable pub record_field : ℕ → List ℕ
record_field y = row field_kind 1 y 0 0

unfoldable pub public : List ℕ
public = row procedure_kind 1 0 0 0

unfoldable pub private : List ℕ
private = row procedure_kind 0 0 0 0

-- a parameter, another local and a result, by sort and type
unfoldable pub parameter : ℕ → ℕ → List ℕ
parameter sort b = row local_kind sort b 1 0

unfoldable pub local : ℕ → ℕ → List ℕ
local sort b = row local_kind sort b 0 0

unfoldable pub result : ℕ → ℕ → List ℕ
result sort b = row result_kind sort b 0 0

-- an instruction, by opcode and operand
unfoldable pub code : ℕ → ℕ → List ℕ
code op b = row instruction_kind op b 0 0

-- instructions by name; BorrowFld by type and field
unfoldable pub pop : List ℕ
pop = code op_pop 0

unfoldable pub load_const : ℕ → List ℕ
load_const d = row instruction_kind op_load_const 0 0 d

unfoldable pub mv_loc : ℕ → List ℕ
mv_loc l = code op_mv_loc l

unfoldable pub cp_loc : ℕ → List ℕ
cp_loc l = code op_cp_loc l

unfoldable pub st_loc : ℕ → List ℕ
st_loc l = code op_st_loc l

unfoldable pub borrow_loc : ℕ → List ℕ
borrow_loc l = code op_borrow_loc l

unfoldable pub read_ref : List ℕ
read_ref = code op_read_ref 0

unfoldable pub write_ref : List ℕ
write_ref = code op_write_ref 0

unfoldable pub borrow_fld : ℕ → ℕ → List ℕ
borrow_fld y j = code op_borrow_fld (y * 8 + j)

unfoldable pub pack : ℕ → List ℕ
pack y = code op_pack y

unfoldable pub unpack : ℕ → List ℕ
unpack y = code op_unpack y

unfoldable pub move_to : ℕ → List ℕ
move_to y = code op_move_to y

unfoldable pub move_from : ℕ → List ℕ
move_from y = code op_move_from y

unfoldable pub borrow_global : ℕ → List ℕ
borrow_global y = code op_borrow_global y

unfoldable pub exists : ℕ → List ℕ
exists y = code op_exists y

unfoldable pub call_procedure : ℕ → List ℕ
call_procedure p = code op_call p

unfoldable pub ret : List ℕ
ret = code op_ret 0

unfoldable pub branch : ℕ → List ℕ
branch i = code op_branch i

unfoldable pub branch_cond : ℕ → List ℕ
branch_cond i = code op_branch_cond i

-- Op, by operand
unfoldable pub add : List ℕ
add = code op_op 0

unfoldable pub subtract : List ℕ
subtract = code op_op 1

unfoldable pub equal : List ℕ
equal = code op_op 2

unfoldable pub less : List ℕ
less = code op_op 3

unfoldable pub freeze : List ℕ
freeze = code op_freeze 0

-- rows of a rule file: the first and the last calling module, the first and the last called module
unfoldable pub rule : ℕ → ℕ → ℕ → ℕ → ℕ → List ℕ
rule choice first last first_called last_called = 1 ∷ choice ∷ 0 ∷ 0 ∷ first ∷ last ∷ first_called ∷ last_called ∷ to_le 0 8

unfoldable pub allow : ℕ → ℕ → ℕ → ℕ → List ℕ
allow = rule 1

unfoldable pub forbid : ℕ → ℕ → ℕ → ℕ → List ℕ
forbid = rule 0

-- S: a credit of 500 kilos is packed and moved to an address
unfoldable pub rows_s : List (List ℕ)
rows_s = trusted ∷ type ∷ guarded ∷ public ∷ parameter 0 0 ∷ load_const 500 ∷ pack 0 ∷ mv_loc 0 ∷ move_to 0 ∷ ret ∷ []

-- T: S, and a procedure that hands out a reference to the guarded kilos
unfoldable pub rows_t : List (List ℕ)
rows_t = rows_s ++ (public ∷ parameter 3 0 ∷ result 2 0 ∷ mv_loc 0 ∷ borrow_fld 0 0 ∷ ret ∷ [])

-- a loop in which a reference to the guarded kilos moves on by one local each time round, and the last local is given to a helper, at row 18
unfoldable pub rows_round : List (List ℕ)
rows_round =
    trusted ∷ type ∷ guarded ∷ public ∷ parameter 3 0 ∷ parameter 2 0 ∷ parameter 2 0 ∷ parameter 2 0
    ∷ cp_loc 2 ∷ st_loc 3 ∷ cp_loc 1 ∷ st_loc 2 ∷ cp_loc 0 ∷ borrow_fld 0 0 ∷ st_loc 1 ∷ cp_loc 3 ∷ call_procedure 1 ∷ branch 0
    ∷ private ∷ parameter 2 0 ∷ ret ∷ []

-- rows with row i replaced
unfoldable pub with_row : ℕ → List ℕ → List (List ℕ) → List (List ℕ)
with_row i r rows = take i rows ++ (r ∷ drop (suc i) rows)

-- rows with row i taken out
unfoldable pub without-row : ℕ → List (List ℕ) → List (List ℕ)
without-row i rows = take i rows ++ drop (suc i) rows

-- n times the same row
unfoldable pub times : ℕ → List ℕ → List (List ℕ)
times zero r = []
times (suc n) r = r ∷ times n r

-- Tables for leaks. A procedure of a trusted module with a reference to a credit, a reference to a number and a number; its code starts at row 7
unfoldable pub rows_lent : List (List ℕ)
rows_lent = trusted ∷ type ∷ guarded ∷ public ∷ parameter 3 0 ∷ parameter 2 0 ∷ parameter 0 0 ∷ []

-- a procedure with a read-only reference to a credit and a reference to a number; its code starts at row 6
unfoldable pub rows_shown : List (List ℕ)
rows_shown = trusted ∷ type ∷ guarded ∷ public ∷ parameter 5 0 ∷ parameter 2 0 ∷ []

-- after these, public procedures that take one reference to a number, and two
unfoldable pub rows_takes_one : List (List ℕ)
rows_takes_one = public ∷ parameter 2 0 ∷ ret ∷ []

unfoldable pub rows_takes_two : List (List ℕ)
rows_takes_two = public ∷ parameter 2 0 ∷ parameter 2 0 ∷ ret ∷ []

-- two helpers that call each other, and a public procedure that returns what it gets from them: its Ret is row 25
unfoldable pub rows_crossed : List (List ℕ)
rows_crossed =
    trusted ∷ type ∷ guarded
    ∷ private ∷ parameter 2 0 ∷ result 2 0 ∷ load_const 0 ∷ branch_cond 4 ∷ mv_loc 0 ∷ ret ∷ mv_loc 0 ∷ call_procedure 1 ∷ ret
    ∷ private ∷ parameter 2 0 ∷ result 2 0 ∷ mv_loc 0 ∷ call_procedure 0 ∷ ret
    ∷ public ∷ parameter 3 0 ∷ result 2 0 ∷ mv_loc 0 ∷ borrow_fld 0 0 ∷ call_procedure 1 ∷ ret ∷ []

-- a helper that hands its three parameters round, (c, a, b) for (a, b, c), and gives the last to a public procedure at row 18; the first of them comes marked
unfoldable pub rows_rotated : List (List ℕ)
rows_rotated =
    trusted ∷ type ∷ guarded
    ∷ public ∷ parameter 2 0 ∷ ret
    ∷ private ∷ parameter 2 0 ∷ parameter 2 0 ∷ parameter 2 0
    ∷ load_const 0 ∷ branch_cond 7 ∷ cp_loc 2 ∷ cp_loc 0 ∷ cp_loc 1 ∷ call_procedure 1 ∷ branch 7 ∷ mv_loc 2 ∷ call_procedure 0 ∷ ret
    ∷ public ∷ parameter 3 0 ∷ parameter 2 0 ∷ mv_loc 0 ∷ borrow_fld 0 0 ∷ cp_loc 1 ∷ mv_loc 1 ∷ call_procedure 1 ∷ ret ∷ []

-- a helper that returns its two parameters the other way round, given a marked reference first; a public procedure takes one result off and returns the other
unfoldable pub rows_swapped : List (List ℕ) → List (List ℕ)
rows_swapped last =
    trusted ∷ type ∷ guarded
    ∷ private ∷ parameter 2 0 ∷ parameter 2 0 ∷ result 2 0 ∷ result 2 0 ∷ mv_loc 1 ∷ mv_loc 0 ∷ ret
    ∷ public ∷ parameter 3 0 ∷ parameter 2 0 ∷ result 2 0 ∷ mv_loc 0 ∷ borrow_fld 0 0 ∷ mv_loc 1 ∷ call_procedure 0 ∷ last

-- a helper that returns its parameter, a public procedure that returns what it gets from it (Ret at row 13), and one whose row 16 jumps to or past a Call that gives a marked reference
unfoldable pub rows_jumped_over : ℕ → List (List ℕ)
rows_jumped_over to =
    trusted ∷ type ∷ guarded
    ∷ private ∷ parameter 2 0 ∷ result 2 0 ∷ mv_loc 0 ∷ ret
    ∷ public ∷ parameter 2 0 ∷ result 2 0 ∷ mv_loc 0 ∷ call_procedure 0 ∷ ret
    ∷ public ∷ parameter 3 0 ∷ branch to ∷ mv_loc 0 ∷ borrow_fld 0 0 ∷ call_procedure 0 ∷ pop ∷ ret ∷ []

-- a helper that stores its second parameter over its first, which comes marked, and returns it
unfoldable pub rows_dropped : List (List ℕ)
rows_dropped =
    trusted ∷ type ∷ guarded
    ∷ private ∷ parameter 2 0 ∷ parameter 2 0 ∷ result 2 0 ∷ mv_loc 1 ∷ st_loc 0 ∷ mv_loc 0 ∷ ret
    ∷ public ∷ parameter 3 0 ∷ parameter 2 0 ∷ result 2 0 ∷ mv_loc 0 ∷ borrow_fld 0 0 ∷ mv_loc 1 ∷ call_procedure 0 ∷ ret ∷ []

-- a helper that returns its parameter; a public procedure gives it a marked reference on the way that does not jump: both ways meet at row 18, and what it gets is returned at row 20
unfoldable pub rows_given_once : List (List ℕ)
rows_given_once =
    trusted ∷ type ∷ guarded
    ∷ private ∷ parameter 2 0 ∷ result 2 0 ∷ mv_loc 0 ∷ ret
    ∷ public ∷ parameter 3 0 ∷ parameter 2 0 ∷ parameter 0 0 ∷ result 2 0
    ∷ mv_loc 2 ∷ branch_cond 5
    ∷ cp_loc 0 ∷ borrow_fld 0 0 ∷ st_loc 1
    ∷ mv_loc 1 ∷ call_procedure 0 ∷ ret ∷ []

-- a helper returns one of its parameters at row 10 and one at row 12, the first of them comes marked; a public procedure returns what it gets from it at row 21
unfoldable pub rows_returned_at : ℕ → ℕ → List (List ℕ)
rows_returned_at one other =
    trusted ∷ type ∷ guarded
    ∷ private ∷ parameter 2 0 ∷ parameter 2 0 ∷ result 2 0 ∷ load_const 0 ∷ branch_cond 4 ∷ mv_loc one ∷ ret ∷ mv_loc other ∷ ret
    ∷ public ∷ parameter 3 0 ∷ parameter 2 0 ∷ result 2 0 ∷ mv_loc 0 ∷ borrow_fld 0 0 ∷ mv_loc 1 ∷ call_procedure 0 ∷ ret ∷ []

-- a public procedure gives a marked reference to a helper, which returns it; another, below the helper, gives it its own parameter and returns what it gets at row 20
unfoldable pub rows_called_twice : List (List ℕ)
rows_called_twice =
    trusted ∷ type ∷ guarded
    ∷ public ∷ parameter 3 0 ∷ mv_loc 0 ∷ borrow_fld 0 0 ∷ call_procedure 1 ∷ pop ∷ ret
    ∷ private ∷ parameter 2 0 ∷ result 2 0 ∷ mv_loc 0 ∷ ret
    ∷ public ∷ parameter 2 0 ∷ result 2 0 ∷ mv_loc 0 ∷ call_procedure 1 ∷ ret ∷ []

-- a helper of 13 parameters returns one of them, the last of them comes marked; a public procedure returns what it gets from it at row 39
unfoldable pub rows_thirteen : ℕ → List (List ℕ)
rows_thirteen returned =
    (trusted ∷ type ∷ guarded ∷ private ∷ times 13 (parameter 2 0))
    ++ (result 2 0 ∷ mv_loc returned ∷ ret ∷ public ∷ parameter 3 0 ∷ parameter 2 0 ∷ result 2 0 ∷ times 12 (cp_loc 1))
    ++ (mv_loc 0 ∷ borrow_fld 0 0 ∷ call_procedure 0 ∷ ret ∷ [])

-- a mark that comes on the way that does not jump: both ways meet at row 12, the Call is row 13
unfoldable pub rows_marked_on_fall_through : List (List ℕ)
rows_marked_on_fall_through =
    rows_lent
    ++ (mv_loc 2 ∷ branch_cond 5
    ∷ cp_loc 0 ∷ borrow_fld 0 0 ∷ st_loc 1
    ∷ mv_loc 1 ∷ call_procedure 1 ∷ ret ∷ rows_takes_one)

-- a mark that comes on the way that jumps: both ways meet at row 13, the Call is row 14
unfoldable pub rows_marked_on_jump : List (List ℕ)
rows_marked_on_jump =
    rows_lent
    ++ (mv_loc 2 ∷ branch_cond 3
    ∷ branch 6
    ∷ cp_loc 0 ∷ borrow_fld 0 0 ∷ st_loc 1
    ∷ mv_loc 1 ∷ call_procedure 1 ∷ ret ∷ rows_takes_one)

-- a marked local, overwritten on the way that does not jump (rows 12 and 13); the ways meet at row 14, the Call is row 15. Row 10 takes the number, by MvLoc or CpLoc
unfoldable pub rows_overwritten_once : (ℕ → List ℕ) → List (List ℕ)
rows_overwritten_once takes =
    rows_lent
    ++ (cp_loc 0 ∷ borrow_fld 0 0 ∷ st_loc 1
    ∷ takes 2 ∷ branch_cond 7
    ∷ borrow_loc 2 ∷ st_loc 1
    ∷ mv_loc 1 ∷ call_procedure 1 ∷ ret ∷ rows_takes_one)

-- a marked local, overwritten on both ways
unfoldable pub rows_overwritten_twice : List (List ℕ)
rows_overwritten_twice =
    rows_lent
    ++ (cp_loc 0 ∷ borrow_fld 0 0 ∷ st_loc 1
    ∷ cp_loc 2 ∷ branch_cond 8
    ∷ borrow_loc 2 ∷ st_loc 1 ∷ branch 10
    ∷ borrow_loc 2 ∷ st_loc 1
    ∷ mv_loc 1 ∷ call_procedure 1 ∷ ret ∷ rows_takes_one)

-- Credits, a mill that tells a price, a guest that publishes a credit and a guest that asks the price; procedures 0 to 3, one in each module. The Calls are rows 19 and 24
unfoldable pub rows_guests : List (List ℕ)
rows_guests = rows_s ++ (trusted ∷ public ∷ result 0 0 ∷ load_const 65 ∷ ret ∷ guest ∷ public ∷ parameter 0 0 ∷ mv_loc 0 ∷ call_procedure 0 ∷ ret ∷ guest ∷ public ∷ result 0 0 ∷ call_procedure 1 ∷ ret ∷ [])

-- rules for it: modules 0 and 1 may call all, the others all but module 1
unfoldable pub rules_guests : List (List ℕ)
rules_guests = allow 0 1 0 15 ∷ allow 2 15 0 0 ∷ forbid 2 15 1 1 ∷ allow 2 15 2 15 ∷ []

-- a guest whose public procedure calls its private one, and a Call of it that no walk reaches
unfoldable pub rows_within : List (List ℕ)
rows_within = guest ∷ private ∷ ret ∷ public ∷ ret ∷ call_procedure 0 ∷ ret ∷ []
