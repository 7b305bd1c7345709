-- Tables that are run, and longer call lists.
use Rattle.std.specs.Prelude.{ℕ, List, [], ◌∷◌, ◌++◌}
use Rattle.samples.specs.Tables.{trusted, guest, type, number, guarded, record_field, public, private, parameter, local, result, pop, load_const, mv_loc, cp_loc, st_loc, borrow_loc, read_ref, write_ref, borrow_fld, pack, unpack, move_to, move_from, borrow_global, exists, call_procedure, ret, branch, branch_cond, add, subtract, equal, less, freeze, rows_s, times}
use Rattle.witnesses.specs.Tables.{call, argument}

-- Helpers. A private procedure that returns a reference to the kilos of the credit at an address, one that writes, public ones that use them, and a guest that calls a public one
unfoldable pub rows_helped : List (List ℕ)
rows_helped =
    rows_s
    ++ (private ∷ parameter 0 0 ∷ result 2 0 ∷ mv_loc 0 ∷ borrow_global 0 ∷ borrow_fld 0 0 ∷ ret
    ∷ private ∷ parameter 2 0 ∷ parameter 0 0 ∷ mv_loc 1 ∷ mv_loc 0 ∷ write_ref ∷ ret
    ∷ public ∷ parameter 0 0 ∷ parameter 0 0 ∷ mv_loc 0 ∷ call_procedure 1 ∷ mv_loc 1 ∷ call_procedure 2 ∷ ret
    ∷ public ∷ parameter 0 0 ∷ result 0 0 ∷ mv_loc 0 ∷ call_procedure 1 ∷ read_ref ∷ ret ∷ guest
    ∷ public ∷ parameter 0 0 ∷ mv_loc 0 ∷ load_const 9 ∷ call_procedure 3 ∷ ret ∷ [])

unfoldable pub calls_helped : List (List ℕ)
calls_helped =
    call 0 100 ∷ argument 7 ∷ call 3 13 ∷ argument 7 ∷ argument 60 ∷ call 4 100 ∷ argument 7 ∷ call 5 100 ∷ argument 7 ∷ call 4 100 ∷ argument 7
    ∷ call 4 100 ∷ argument 8 ∷ call 3 11 ∷ argument 7 ∷ argument 200 ∷ call 4 100 ∷ argument 7 ∷ []

-- S; a helper adds n, n - 1, .. 1 to the number that it is given a reference to, calling itself with what is left (WriteRef is row 21, the Call row 26); a public procedure gives it the
-- kilos of an address. It does 5 instructions up to its Call, and its Ret is row 36; the helper does 13 up to its own Call and then a Ret, and 3 with n = 0
unfoldable pub rows_added : List (List ℕ)
rows_added =
    rows_s
    ++ (private ∷ parameter 2 0 ∷ parameter 0 0
    ∷ cp_loc 1 ∷ branch_cond 3
    ∷ ret
    ∷ cp_loc 0 ∷ read_ref ∷ cp_loc 1 ∷ add ∷ cp_loc 0 ∷ write_ref
    ∷ mv_loc 0 ∷ mv_loc 1 ∷ load_const 1 ∷ subtract ∷ call_procedure 1 ∷ ret
    ∷ public ∷ parameter 0 0 ∷ parameter 0 0 ∷ mv_loc 0 ∷ borrow_global 0 ∷ borrow_fld 0 0 ∷ mv_loc 1 ∷ call_procedure 1 ∷ ret ∷ [])

-- A credit of 500 under 7. 3 + 2 + 1 are added in 5 + 3 · 14 + 3 + 1 = 51 instructions; 5 + 13 + 8 = 26 end in the third frame, after it has written; 50 before the last Ret; 15 need a 17th frame
unfoldable pub calls_added : List (List ℕ)
calls_added =
    call 0 100 ∷ argument 7 ∷ call 2 51 ∷ argument 7 ∷ argument 3 ∷ call 2 26 ∷ argument 7 ∷ argument 3 ∷ call 2 50 ∷ argument 7 ∷ argument 3
    ∷ call 2 1000 ∷ argument 7 ∷ argument 15 ∷ []

-- Tables that are run. The four Ops, one in each procedure, over two arguments: add at row 7, subtract at row 15, equal, less
unfoldable pub calculates : List ℕ → List (List ℕ)
calculates op = public ∷ parameter 0 0 ∷ parameter 0 0 ∷ result 0 0 ∷ mv_loc 0 ∷ mv_loc 1 ∷ op ∷ ret ∷ []

unfoldable pub rows_ops : List (List ℕ)
rows_ops = guest ∷ calculates add ++ calculates subtract ++ calculates equal ++ calculates less

-- a loop that adds up n, n - 1, .. 1: 2 instructions before it, 11 each time round, 4 at the end; Ret is row 10
unfoldable pub rows_loop : List (List ℕ)
rows_loop =
    guest ∷ public ∷ parameter 0 0 ∷ local 0 0 ∷ result 0 0
    ∷ load_const 0 ∷ st_loc 1
    ∷ cp_loc 0 ∷ branch_cond 6
    ∷ mv_loc 1 ∷ ret
    ∷ mv_loc 1 ∷ cp_loc 0 ∷ add ∷ st_loc 1
    ∷ mv_loc 0 ∷ load_const 1 ∷ subtract ∷ st_loc 0
    ∷ branch 2 ∷ []

-- S, and a procedure 1 that withdraws the credit of an address, if there is one, breaks it up and gives its kilos, else 0
unfoldable pub rows_closed : List (List ℕ)
rows_closed =
    rows_s
    ++ (public ∷ parameter 0 0 ∷ result 0 0
    ∷ cp_loc 0 ∷ exists 0 ∷ branch_cond 5
    ∷ load_const 0 ∷ ret
    ∷ mv_loc 0 ∷ move_from 0 ∷ unpack 0 ∷ ret ∷ [])

-- S; procedure 1 writes the kilos n of an address and then gives 100 - n (row 21); procedure 2 reads the kilos of an address (BorrowGlobal is row 27)
unfoldable pub rows_written : List (List ℕ)
rows_written =
    rows_s
    ++ (public ∷ parameter 0 0 ∷ parameter 0 0 ∷ result 0 0
    ∷ cp_loc 1 ∷ mv_loc 0 ∷ borrow_global 0 ∷ borrow_fld 0 0 ∷ write_ref
    ∷ load_const 100 ∷ mv_loc 1 ∷ subtract ∷ ret
    ∷ public ∷ parameter 0 0 ∷ result 0 0
    ∷ mv_loc 0 ∷ borrow_global 0 ∷ borrow_fld 0 0 ∷ read_ref ∷ ret ∷ [])

-- two credits are published, of 1 and 2 kilos under 7 and 8; then 3 is written to the second
unfoldable pub rows_two : List (List ℕ)
rows_two =
    trusted ∷ type ∷ guarded ∷ public
    ∷ load_const 1 ∷ pack 0 ∷ load_const 7 ∷ move_to 0
    ∷ load_const 2 ∷ pack 0 ∷ load_const 8 ∷ move_to 0
    ∷ load_const 3 ∷ load_const 8 ∷ borrow_global 0 ∷ borrow_fld 0 0 ∷ write_ref ∷ ret ∷ []

-- types 0 and 1 in one module, type 2 in another; a record of type 0 with a number is published under an address (procedure 0, MoveTo is row 12), one
-- of type 1 (1) and one of type 2 (3), and one of type 0 is withdrawn and broken up (2)
unfoldable pub rows_keys : List (List ℕ)
rows_keys =
    guest ∷ type ∷ number ∷ type ∷ number ∷ number
    ∷ public ∷ parameter 0 0 ∷ parameter 0 0 ∷ mv_loc 1 ∷ pack 0 ∷ mv_loc 0 ∷ move_to 0 ∷ ret
    ∷ public ∷ parameter 0 0 ∷ load_const 1 ∷ load_const 2 ∷ pack 1 ∷ mv_loc 0 ∷ move_to 1 ∷ ret
    ∷ public ∷ parameter 0 0 ∷ mv_loc 0 ∷ move_from 0 ∷ unpack 0 ∷ pop ∷ ret ∷ guest ∷ type ∷ number
    ∷ public ∷ parameter 0 0 ∷ load_const 5 ∷ pack 2 ∷ mv_loc 0 ∷ move_to 2 ∷ ret ∷ []

-- type 0 has no fields, type 1 a record of it; one of each is published
unfoldable pub rows_bare : List (List ℕ)
rows_bare = guest ∷ type ∷ type ∷ record_field 0 ∷ public ∷ pack 0 ∷ pack 1 ∷ load_const 7 ∷ move_to 1 ∷ pack 0 ∷ load_const 8 ∷ move_to 0 ∷ ret ∷ []

-- eleven types; a record of type 2 (procedure 0), 9 (1) or 10 (2) is published under an address; 3 and 2 are given (3)
unfoldable pub rows_types : List (List ℕ)
rows_types =
    guest ∷ type ∷ type ∷ type ∷ number ∷ type ∷ type ∷ type ∷ type ∷ type ∷ type ∷ type ∷ number ∷ type ∷ record_field 9 ∷ number
    ∷ public ∷ parameter 0 0 ∷ load_const 20 ∷ pack 2 ∷ mv_loc 0 ∷ move_to 2 ∷ ret
    ∷ public ∷ parameter 0 0 ∷ load_const 90 ∷ pack 9 ∷ mv_loc 0 ∷ move_to 9 ∷ ret
    ∷ public ∷ parameter 0 0 ∷ load_const 91 ∷ pack 9 ∷ load_const 10 ∷ pack 10 ∷ mv_loc 0 ∷ move_to 10 ∷ ret
    ∷ public ∷ result 0 0 ∷ result 0 0 ∷ load_const 3 ∷ load_const 2 ∷ ret ∷ []

-- type 0 has a number, type 1 a number and a record of type 0, type 2 records of types 1 and 0. A record of type 2 is made and published; then 9 is
-- written to the number that stands two records deep in it
unfoldable pub rows_nested : List (List ℕ)
rows_nested =
    guest ∷ type ∷ number ∷ type ∷ number ∷ record_field 0 ∷ type ∷ record_field 1 ∷ record_field 0 ∷ public ∷ parameter 0 0
    ∷ load_const 8 ∷ load_const 5 ∷ pack 0 ∷ pack 1
    ∷ load_const 6 ∷ pack 0 ∷ pack 2
    ∷ cp_loc 0 ∷ move_to 2
    ∷ load_const 9 ∷ mv_loc 0 ∷ borrow_global 2 ∷ borrow_fld 2 0 ∷ borrow_fld 1 1 ∷ borrow_fld 0 0 ∷ write_ref ∷ ret ∷ []

-- references: a local that is emptied and filled again with one more, read through a reference made before
unfoldable pub rows_refilled : List (List ℕ)
rows_refilled =
    guest ∷ public ∷ parameter 0 0 ∷ local 2 0 ∷ result 0 0
    ∷ borrow_loc 0 ∷ st_loc 1
    ∷ mv_loc 0 ∷ load_const 1 ∷ add ∷ st_loc 0
    ∷ mv_loc 1 ∷ read_ref ∷ ret ∷ []

-- a local that stays empty, read through a reference made before (row 7)
unfoldable pub rows_emptied : List (List ℕ)
rows_emptied = guest ∷ public ∷ parameter 0 0 ∷ result 0 0 ∷ borrow_loc 0 ∷ mv_loc 0 ∷ pop ∷ read_ref ∷ ret ∷ []

-- a local of a frame that has returned, read through the reference that it returned (row 4)
unfoldable pub rows_returned : List (List ℕ)
rows_returned =
    guest ∷ public ∷ result 0 0 ∷ call_procedure 1 ∷ read_ref ∷ ret
    ∷ private ∷ local 0 0 ∷ result 2 0 ∷ load_const 5 ∷ st_loc 0 ∷ borrow_loc 0 ∷ ret ∷ []

-- a reference to the kilos of a credit that is broken up; another credit is made in its room; the reference is written through (row 19)
unfoldable pub rows_stale : List (List ℕ)
rows_stale =
    trusted ∷ type ∷ guarded ∷ public ∷ parameter 0 0 ∷ local 1 0 ∷ local 2 0
    ∷ load_const 500 ∷ pack 0 ∷ st_loc 1
    ∷ borrow_loc 1 ∷ borrow_fld 0 0 ∷ st_loc 2
    ∷ mv_loc 1 ∷ unpack 0 ∷ pack 0 ∷ st_loc 1
    ∷ load_const 1 ∷ mv_loc 2 ∷ write_ref
    ∷ mv_loc 1 ∷ mv_loc 0 ∷ move_to 0 ∷ ret ∷ []

-- a read-only reference to a local, into which 9 is written through another
unfoldable pub rows_seen : List (List ℕ)
rows_seen =
    guest ∷ public ∷ parameter 0 0 ∷ local 4 0 ∷ result 0 0
    ∷ borrow_loc 0 ∷ freeze ∷ st_loc 1
    ∷ load_const 9 ∷ borrow_loc 0 ∷ write_ref
    ∷ mv_loc 1 ∷ read_ref ∷ ret ∷ []

-- a reference to the kilos of a credit that was broken up is frozen, and then read (row 18)
unfoldable pub rows_frozen_stale : List (List ℕ)
rows_frozen_stale =
    trusted ∷ type ∷ guarded ∷ public ∷ local 1 0 ∷ local 2 0 ∷ result 0 0
    ∷ load_const 500 ∷ pack 0 ∷ st_loc 0
    ∷ borrow_loc 0 ∷ borrow_fld 0 0 ∷ st_loc 1
    ∷ mv_loc 0 ∷ unpack 0 ∷ pop
    ∷ mv_loc 1 ∷ freeze ∷ read_ref ∷ ret ∷ []

-- limits: a procedure that calls itself n times, one frame in the other (the Call is row 9)
unfoldable pub rows_deep : List (List ℕ)
rows_deep =
    guest ∷ public ∷ parameter 0 0
    ∷ cp_loc 0 ∷ branch_cond 3
    ∷ ret
    ∷ mv_loc 0 ∷ load_const 1 ∷ subtract ∷ call_procedure 0 ∷ ret ∷ []

-- type 0 has no fields, type 1 eight of type 0 (9 records, made by procedure 1), type 2 eight of type 1 (73 records, made by procedure 2). Procedure 0
-- makes one of type 2, six of type 1 and one of type 0, 73 + 54 + 1 = 128 records, and then packs them all (row 39)
unfoldable pub rows_many : List (List ℕ)
rows_many =
    (guest ∷ type ∷ type ∷ times 8 (record_field 0))
    ++ (type ∷ times 8 (record_field 1))
    ++ (type ∷ record_field 2 ∷ times 6 (record_field 1)) ++ (record_field 0 ∷ [])
    ++ (public ∷ parameter 0 0 ∷ call_procedure 2 ∷ times 6 (call_procedure 1)) ++ (pack 0 ∷ pack 3 ∷ mv_loc 0 ∷ move_to 3 ∷ ret ∷ [])
    ++ (private ∷ result 1 1 ∷ times 8 (pack 0)) ++ (pack 1 ∷ ret ∷ [])
    ++ (private ∷ result 1 2 ∷ times 8 (call_procedure 1)) ++ (pack 2 ∷ ret ∷ [])

-- records are published under n, n - 1, .. 1 (MoveTo is row 6), and then another under 1 (MoveTo is row 15)
unfoldable pub rows_full : List (List ℕ)
rows_full =
    guest ∷ type ∷ public ∷ parameter 0 0
    ∷ pack 0 ∷ cp_loc 0 ∷ move_to 0
    ∷ mv_loc 0 ∷ load_const 1 ∷ subtract ∷ st_loc 0
    ∷ cp_loc 0 ∷ branch_cond 0
    ∷ pack 0 ∷ load_const 1 ∷ move_to 0 ∷ ret ∷ []
