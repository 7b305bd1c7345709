-- What demand 3 speaks of happens in the history of one list over one table, and a guest reads a guarded number in that of another, by computation.
use Prim.Native.Nat.{ℕ, zero, suc, ◌≤◌}
use mathlib.Core.Path.{refl, ap}
use mathlib.Core.Bool.{Bool, true, false, false≢true}
use mathlib.Core.List.Memᴰ
use mathlib.Core.List.{List, [], ◌∷◌}
use mathlib.Core.Option.{Option, none, some}
use lib.Dec.{eqb}
use lib.ListN.{take, drop}
use native.Mathlib.Omega.{arith}
use Rattle.reach.specs.Reach.{here as first}
use Rattle.semantics.specs.Machine.{Value, num, obj, refer, to_field, Cell, gone, here, Entry, entry, Frame, frame, State, state, next, stopped}
use Rattle.semantics.specs.History.{base, Event, moment}
use Rattle.semantics.specs.Run.{history_of}
use Rattle.semantics.specs.Words.{operand, Exists}
use Rattle.semantics.specs.Claim.{none_left, also}
use Rattle.witnesses.specs.Speaks.{Speaks, StopsAfterChange, Happens, Makes, BreaksUp, Publishes, Withdraws, Changes, HoldsAboveGuest, Reads, Calculates, table_guest, list_guest, table_label, list_label, table_till, list_till}
use Rattle.witnesses.proofs.Rules.{rules}

-- whether a cell holds a record
is_here : Option Cell → Bool
is_here none = false
is_here (some (gone y)) = false
is_here (some (here y vs)) = true

-- the credit, of so many kilos, as the one record; it is not there at first, nor after it is broken up
abbrev credit : ℕ → List Cell
credit kilos = here 0 (num kilos ∷ []) ∷ []

not_yet : ¬ (Exists [] 0 0)
unfolding is_here
not_yet x = false≢true (ap is_here x.1)

not_since : ¬ (Exists (gone 0 ∷ []) 0 0)
unfolding is_here
not_since x = false≢true (ap is_here x.1)

-- the guest's frames that wait at instruction i: of procedure 4, frame 0, and of procedure 5, frame 4
abbrev issuing : ℕ → List (Option Value) → List Frame
issuing i ls = frame 0 4 i [] ls ∷ []

abbrev redeeming : List Frame
redeeming = frame 4 5 1 [] (some (num 7) ∷ []) ∷ []

-- Pack in procedure 0
made : Happens table_guest list_guest Makes
unfolding rules table_guest list_guest
made = (
  2,
  moment (state (frame 1 0 1 (num 500 ∷ []) [] ∷ issuing 0 (some (num 7) ∷ none ∷ [])) [] [] 2) 6
      (next (state (frame 1 0 2 (obj 0 0 ∷ []) [] ∷ issuing 0 (some (num 7) ∷ none ∷ [])) (credit 500) [] 2)),
  refl,
  (0, 0, (num 500 ∷ [], refl), not_yet),
)

-- WriteRef in procedure 1
abbrev writing : Event
writing =
    moment (state (frame 2 1 3 (refer true (to_field 0 0 0) ∷ num 1 ∷ []) (none ∷ []) ∷ issuing 3 (some (num 7) ∷ some (obj 0 0) ∷ [])) (credit 500) [] 3) 13
    (next (state (frame 2 1 4 [] (none ∷ []) ∷ issuing 3 (some (num 7) ∷ some (obj 0 0) ∷ [])) (credit 1) [] 3))

held : Happens table_guest list_guest (HoldsAboveGuest table_guest)
unfolding rules table_guest list_guest
held = (
  10,
  writing,
  refl,
  (refl, (refer true (to_field 0 0 0), operand (first refl), (0, 0, 0, refl, refl)), (frame 0 4 3 [] (some (num 7) ∷ some (obj 0 0) ∷ []), first refl, refl)),
)

changed : Happens table_guest list_guest (Changes table_guest)
unfolding rules table_guest list_guest
changed = (
  10,
  writing,
  refl,
  (
    0,
    0,
    0,
    500,
    1,
    refl,
    record { fields = num 500 ∷ []; exists = refl; number = refl },
    record { fields = num 1 ∷ []; exists = refl; number = refl },
    λ e. false≢true (ap (eqb 1) e),
  ),
)

-- MoveTo in procedure 2
published : Happens table_guest list_guest Publishes
unfolding rules table_guest list_guest
published = (
  17,
  moment (state (frame 3 2 2 (num 7 ∷ obj 0 0 ∷ []) (none ∷ none ∷ []) ∷ issuing 6 (none ∷ none ∷ [])) (credit 1) [] 4) 20
      (next (state (frame 3 2 3 [] (none ∷ none ∷ []) ∷ issuing 6 (none ∷ none ∷ [])) (credit 1) (entry 0 7 0 ∷ []) 4)),
  refl,
  (0, 7, 0, first refl, Memᴰ.not-nil),
)

-- MoveFrom in procedure 3
abbrev before_withdrawing : State
before_withdrawing = state (frame 5 3 1 (num 7 ∷ []) (none ∷ []) ∷ redeeming) (credit 1) (entry 0 7 0 ∷ []) 6

abbrev after_withdrawing : State
after_withdrawing = state (frame 5 3 2 (obj 0 0 ∷ []) (none ∷ []) ∷ redeeming) (credit 1) [] 6

withdrawn : Happens table_guest list_guest Withdraws
unfolding rules table_guest list_guest
withdrawn = (24, moment before_withdrawing 26 (next after_withdrawing), refl, (0, 7, 0, first refl, Memᴰ.not-nil))

-- Unpack in procedure 3
broken_up : Happens table_guest list_guest BreaksUp
unfolding rules table_guest list_guest
broken_up = (
  25,
  moment after_withdrawing 27 (next (state (frame 5 3 3 (num 1 ∷ []) (none ∷ []) ∷ redeeming) (gone 0 ∷ []) [] 6)),
  refl,
  (0, 0, (num 1 ∷ [], refl), not_since),
)

-- whether there is an entry
some-entry : List Entry → Bool
some-entry [] = false
some-entry (e ∷ es) = true

-- nothing lies past the one record
no_more : (id y : ℕ) → 1 ≤ id → ¬ (Exists (credit 1) id y)
unfolding is_here
no_more zero y h x = absurd (omega (arith, h))
no_more (suc id) y h x = false≢true (ap is_here x.1)

-- the second MoveFrom finds no key
stops : StopsAfterChange table_guest list_guest
unfolding rules table_guest list_guest some-entry
stops = record {
  earlier = take 24 (history_of table_guest list_guest);
  here = before_withdrawing;
  row = 26;
  changed = after_withdrawing;
  meanwhile = take 7 (drop 25 (history_of table_guest list_guest));
  before = base (credit 1) (entry 0 7 0 ∷ []) 4;
  last = state (frame 6 3 1 (num 7 ∷ []) (none ∷ []) ∷ frame 4 5 4 [] (none ∷ []) ∷ []) (gone 0 ∷ []) [] 7;
  last_row = 26;
  number = 34;
  after = base (credit 1) (entry 0 7 0 ∷ []) 7;
  later = [];
  in-history = refl;
  same-call = also tt (also tt (also tt (also tt (also tt (also tt (also tt none_left))))));
  differs = λ e. false≢true (ap some-entry e);
  again = (refl, (λ id c e. e), no_more);
}

pub speaks : Speaks table_guest list_guest
unfolding rules table_guest list_guest
speaks = record {
  accepted = refl;
  good = refl;
  made = made;
  held = held;
  changed = changed;
  published = published;
  withdrawn = withdrawn;
  broken_up = broken_up;
  stops = stops;
}

-- ReadRef in the guest's procedure 3, through what it was given
pub reads : Reads table_label list_label
unfolding rules table_label list_label
reads = record {
  accepted = refl;
  good = refl;
  read = (
    12,
    moment (state (frame 2 3 1 (refer false (to_field 0 0 0) ∷ []) (none ∷ []) ∷ frame 1 1 4 [] (none ∷ []) ∷ []) (credit 500) (entry 0 7 0 ∷ []) 3) 32
        (next (state (frame 2 3 2 (num 500 ∷ []) (none ∷ []) ∷ frame 1 1 4 [] (none ∷ []) ∷ []) (credit 500) (entry 0 7 0 ∷ []) 3)),
    refl,
    record {
      id = 2;
      procedure = 3;
      at = 1;
      under = [];
      locals = none ∷ [];
      frames = frame 1 1 4 [] (none ∷ []) ∷ [];
      records = credit 500;
      store = entry 0 7 0 ∷ [];
      count = 3;
      row = 32;
      record_of = 0;
      type = 0;
      field = 0;
      x = 500;
      is = refl;
      opcode = refl;
      by-guest = refl;
      guarded = refl;
      there = record { fields = num 500 ∷ []; exists = refl; number = refl };
    },
  );
}

-- The guest's second taking out of 500 kilos: 201 of 200; one kilo more than 2^64 - 1
pub calculates : Calculates table_till list_till
unfolding rules table_till list_till
calculates = record {
  accepted = refl;
  good = refl;
  overdrawn = (
    28,
    moment (state (frame 3 1 5 (num 201 ∷ num 200 ∷ []) (some (num 7) ∷ none ∷ []) ∷ frame 1 3 5 [] (none ∷ none ∷ none ∷ []) ∷ []) (credit 200) (entry 0 7 0 ∷ []) 4) 18 (stopped 39),
    refl,
    (refl, (200, 201, (refl, refl, ([], refl)), omega arith)),
  );
  overflown = (
    92,
    moment (state (frame 10 2 5 (num 1 ∷ num 18446744073709551615 ∷ []) (some (num 7) ∷ none ∷ []) ∷ []) (credit 18446744073709551615) (entry 0 7 0 ∷ []) 11) 32 (stopped 32),
    refl,
    (refl, (18446744073709551615, 1, (refl, refl, ([], refl)), omega arith)),
  );
}
