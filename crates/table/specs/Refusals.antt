-- The refusals of documents 01 and 02 by name, pass by pass in the order of the passes, and in each pass in the order in which a row earns them.
use Rattle.std.specs.Prelude.{ℕ, List, [], ◌∷◌}

-- length
abbrev pub bad_length : ℕ
bad_length = 1

-- rows: a kind unknown or not allowed there; a limit passed; an unused byte that is not zero; a value not allowed; a guard misplaced
abbrev pub bad_place : ℕ
bad_place = 2

abbrev pub over_limit : ℕ
over_limit = 3

abbrev pub dirty_byte : ℕ
dirty_byte = 4

abbrev pub wrong_value : ℕ
wrong_value = 18

abbrev pub wrong_guard : ℕ
wrong_guard = 19

-- names: a procedure without instructions, or with another last one than Ret and Branch; what is named does not exist
abbrev pub open_end : ℕ
open_end = 5

abbrev pub not_declared : ℕ
not_declared = 6

-- operands: missing, of the wrong kind, or a local unfit; too many; some left; a type or private procedure of another module
abbrev pub wrong_operand : ℕ
wrong_operand = 7

abbrev pub too_many_operands : ℕ
too_many_operands = 8

abbrev pub operands_left : ℕ
operands_left = 9

abbrev pub foreign_name : ℕ
foreign_name = 10

-- locals: one that may be empty; a record that may be lost
abbrev pub empty_local : ℕ
empty_local = 11

abbrev pub lost_record : ℕ
lost_record = 12

-- leaks: a marked reference given to a Call; returned
abbrev pub mark_given : ℕ
mark_given = 13

abbrev pub mark_returned : ℕ
mark_returned = 14

-- rules, where there is a rule file: malformed; a pair of modules under no row of it, or under several; a Call that it forbids
abbrev pub bad_rules : ℕ
bad_rules = 20

abbrev pub unruled_pair : ℕ
unruled_pair = 21

abbrev pub forbidden_call : ℕ
forbidden_call = 22

-- running: the list; a call; the text buffer
abbrev pub bad_list : ℕ
bad_list = 15

abbrev pub bad_call : ℕ
bad_call = 16

abbrev pub small_buffer : ℕ
small_buffer = 17

-- the refusals of each pass over the table
abbrev pub length_refusals : List ℕ
length_refusals = bad_length ∷ []

abbrev pub row_refusals : List ℕ
row_refusals = bad_place ∷ over_limit ∷ dirty_byte ∷ wrong_value ∷ wrong_guard ∷ []

abbrev pub name_refusals : List ℕ
name_refusals = open_end ∷ not_declared ∷ []

abbrev pub operand_refusals : List ℕ
operand_refusals = wrong_operand ∷ too_many_operands ∷ operands_left ∷ foreign_name ∷ []

abbrev pub local_refusals : List ℕ
local_refusals = empty_local ∷ lost_record ∷ []

abbrev pub leak_refusals : List ℕ
leak_refusals = mark_given ∷ mark_returned ∷ []

abbrev pub rule_refusals : List ℕ
rule_refusals = bad_rules ∷ unruled_pair ∷ forbidden_call ∷ []
