-- Rows of call lists by name, and tables with the lists that are run over them.
use Rattle.std.specs.Prelude.{ℕ, List, [], ◌∷◌, ◌++◌}
use Rattle.semantics.specs.Calls.{call_row, argument_row}
use Rattle.samples.specs.Tables.{row, trusted, guest, type, guarded, public, parameter, local, result, pop, load_const, mv_loc, cp_loc, st_loc, borrow_loc, read_ref, write_ref, borrow_fld, pack, unpack, move_to, move_from, borrow_global, call_procedure, ret, add, subtract, freeze, rows_s}

-- rows of a call list: a call of a procedure with a budget, and an argument
unfoldable pub call : ℕ → ℕ → List ℕ
call procedure budget = row call_row 0 procedure budget 0

unfoldable pub argument : ℕ → List ℕ
argument d = row argument_row 0 0 0 d

-- The till. S; procedure 1 takes kilos out of the credit of an address (the difference is row 18), procedure 2 puts kilos in (the sum is row 32); procedure
-- 3, a guest's, takes twice out of one credit
unfoldable pub rows_till : List (List ℕ)
rows_till =
    rows_s
    ++ (public ∷ parameter 0 0 ∷ parameter 0 0
    ∷ cp_loc 0 ∷ borrow_global 0 ∷ borrow_fld 0 0 ∷ read_ref ∷ mv_loc 1 ∷ subtract
    ∷ mv_loc 0 ∷ borrow_global 0 ∷ borrow_fld 0 0 ∷ write_ref ∷ ret
    ∷ public ∷ parameter 0 0 ∷ parameter 0 0
    ∷ cp_loc 0 ∷ borrow_global 0 ∷ borrow_fld 0 0 ∷ read_ref ∷ mv_loc 1 ∷ add
    ∷ mv_loc 0 ∷ borrow_global 0 ∷ borrow_fld 0 0 ∷ write_ref ∷ ret ∷ guest
    ∷ public ∷ parameter 0 0 ∷ parameter 0 0 ∷ parameter 0 0
    ∷ cp_loc 0 ∷ mv_loc 1 ∷ call_procedure 1 ∷ mv_loc 0 ∷ mv_loc 2 ∷ call_procedure 1 ∷ ret ∷ [])

-- A credit of 500 under 7. 300 and 201 are too much together; all 500; then 1 is too much, with a budget of 100, 6 and 5, and 0 is not; 2^64 - 1 go in, and
-- then 1 is too much
unfoldable pub calls_till : List (List ℕ)
calls_till =
    call 0 100 ∷ argument 7
    ∷ call 3 100 ∷ argument 7 ∷ argument 300 ∷ argument 201
    ∷ call 1 100 ∷ argument 7 ∷ argument 500
    ∷ call 1 100 ∷ argument 7 ∷ argument 1 ∷ call 1 6 ∷ argument 7 ∷ argument 1 ∷ call 1 5 ∷ argument 7 ∷ argument 1
    ∷ call 1 100 ∷ argument 7 ∷ argument 0
    ∷ call 2 100 ∷ argument 7 ∷ argument 18446744073709551615
    ∷ call 2 100 ∷ argument 7 ∷ argument 1 ∷ []

-- a trusted module issues a credit (procedure 0), writes 1 to its kilos (1), publishes it (2), and withdraws and breaks it up (3, MoveFrom is row 26);
-- a guest lets a credit be issued, holds it in a local, and lets it be written and published (4), and lets one be withdrawn twice (5)
unfoldable pub rows_guest : List (List ℕ)
rows_guest =
    trusted ∷ type ∷ guarded
    ∷ public ∷ result 1 0 ∷ load_const 500 ∷ pack 0 ∷ ret
    ∷ public ∷ parameter 3 0 ∷ load_const 1 ∷ mv_loc 0 ∷ borrow_fld 0 0 ∷ write_ref ∷ ret
    ∷ public ∷ parameter 1 0 ∷ parameter 0 0 ∷ mv_loc 0 ∷ mv_loc 1 ∷ move_to 0 ∷ ret
    ∷ public ∷ parameter 0 0 ∷ result 0 0 ∷ mv_loc 0 ∷ move_from 0 ∷ unpack 0 ∷ ret
    ∷ guest
    ∷ public ∷ parameter 0 0 ∷ local 1 0
    ∷ call_procedure 0 ∷ st_loc 1 ∷ borrow_loc 1 ∷ call_procedure 1 ∷ mv_loc 1 ∷ mv_loc 0 ∷ call_procedure 2 ∷ ret
    ∷ public ∷ parameter 0 0
    ∷ cp_loc 0 ∷ call_procedure 3 ∷ pop ∷ mv_loc 0 ∷ call_procedure 3 ∷ pop ∷ ret ∷ []

-- calls of the guest: a credit is published under 7, and then withdrawn twice
unfoldable pub calls_guest : List (List ℕ)
calls_guest = call 4 100 ∷ argument 7 ∷ call 5 100 ∷ argument 7 ∷ []

-- read-only references. S; procedure 1 gives the kilos of an address to a guest, read-only (Freeze is row 16), and returns what the guest gives; procedure 2
-- returns a read-only reference to them; the guest's procedure 3 reads what it is given, and procedure 4 what procedure 2 returns
unfoldable pub rows_label : List (List ℕ)
rows_label =
    rows_s
    ++ (public ∷ parameter 0 0 ∷ result 0 0 ∷ mv_loc 0 ∷ borrow_global 0 ∷ borrow_fld 0 0 ∷ freeze ∷ call_procedure 3 ∷ ret
    ∷ public ∷ parameter 0 0 ∷ result 4 0 ∷ mv_loc 0 ∷ borrow_global 0 ∷ freeze ∷ borrow_fld 0 0 ∷ ret ∷ guest
    ∷ public ∷ parameter 4 0 ∷ result 0 0 ∷ mv_loc 0 ∷ read_ref ∷ ret
    ∷ public ∷ parameter 0 0 ∷ result 0 0 ∷ mv_loc 0 ∷ call_procedure 2 ∷ read_ref ∷ ret ∷ [])

-- a credit is published under 7; the guest reads its kilos in both ways, and the last call ends before Freeze
unfoldable pub calls_label : List (List ℕ)
calls_label = call 0 100 ∷ argument 7 ∷ call 1 100 ∷ argument 7 ∷ call 4 100 ∷ argument 7 ∷ call 1 3 ∷ argument 7 ∷ []

-- S, a procedure that hands out a reference to the kilos under an address (row 16 returns it), and a guest that writes one kilo through it
unfoldable pub rows_handed_out : List (List ℕ)
rows_handed_out =
    rows_s
    ++ (public ∷ parameter 0 0 ∷ result 2 0 ∷ mv_loc 0 ∷ borrow_global 0 ∷ borrow_fld 0 0 ∷ ret ∷ guest
    ∷ public ∷ parameter 0 0 ∷ local 2 0 ∷ mv_loc 0 ∷ call_procedure 1 ∷ st_loc 1 ∷ load_const 1 ∷ mv_loc 1 ∷ write_ref ∷ ret ∷ [])

-- the credit is published, and the guest is called
unfoldable pub calls_handed_out : List (List ℕ)
calls_handed_out = call 0 100 ∷ argument 7 ∷ call 2 100 ∷ argument 7 ∷ []

unfoldable pub calls_guests : List (List ℕ)
calls_guests = call 2 100 ∷ argument 7 ∷ call 3 100 ∷ []
