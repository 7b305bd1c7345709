-- A judge without the leaks pass would break demand 3, by computation: the guest's frame comes to hold a reference to the guarded kilos. One that does not ask the
-- rule file would let a guest call the mill.
use mathlib.Core.Path.{◌≡◌, refl}
use mathlib.Core.Bool.{true, true≢false}
use mathlib.Core.List.{[], ◌∷◌}
use mathlib.Core.Option.{none, some}
use native.Mathlib.Omega.{arith}
use lib.ListN.{get_elem? as nth}
use Rattle.reach.specs.Reach.{here as first}
use Rattle.table.specs.Index.{index_of}
use Rattle.policy.specs.Allowed.{byte, Under, MayCall}
use Rattle.semantics.specs.Machine.{num, refer, to_field, here, entry, frame, state, next}
use Rattle.semantics.specs.History.{Event, moment}
use Rattle.semantics.specs.Run.{history_of}
use Rattle.semantics.specs.Words.{operand}
use Rattle.semantics.specs.Claim.{Safe, safe}
use Rattle.semantics.specs.Permitted.{Permitted}
use Rattle.semantics.proofs.Handing.{all_nth}
use Rattle.semantics.proofs.Demand3.{all_head}
use Rattle.samples.specs.Tables.{table, rows_guests, rules_guests}
use Rattle.witnesses.specs.Tables.{rows_handed_out, calls_handed_out, calls_guests}
use Rattle.witnesses.specs.Weaker.{BreaksWithoutLeaks, BreaksWithoutRules}
use Rattle.witnesses.proofs.Rules.{rules}

-- the moment after the Call: the guest's frame, at StLoc, has the reference among its operands
abbrev holding : Event
holding =
    moment (state (frame 1 2 2 (refer true (to_field 0 0 0) ∷ []) (none ∷ none ∷ []) ∷ []) (here 0 (num 500 ∷ []) ∷ []) (entry 0 7 0 ∷ []) 3) 23
    (next (state (frame 1 2 3 [] (none ∷ some (refer true (to_field 0 0 0)) ∷ []) ∷ []) (here 0 (num 500 ∷ []) ∷ []) (entry 0 7 0 ∷ []) 3))

happens : nth (history_of (table rows_handed_out) (table calls_handed_out)) 12 ≡ some holding
unfolding rules
happens = refl

not-safe : Safe (table rows_handed_out) (index_of (table rows_handed_out)) holding → ⊥
unfolding rules
not-safe (safe s o) = true≢false (all_head s.kept (refer true (to_field 0 0 0)) (operand (first refl)) (0, 0, 0, refl, refl)).0

pub breaks : BreaksWithoutLeaks (table rows_handed_out) (table calls_handed_out)
unfolding rules
breaks = record {
  row = 16;
  refused = refl;
  rows = 28;
  otherwise = refl;
  calls = 4;
  good = refl;
  unsafe = λ a. not-safe (all_nth a 12 holding happens);
}

-- the guest of module 3 calls the mill, module 1
abbrev asking : Event
asking =
    moment (state (frame 2 3 0 [] [] ∷ []) (here 0 (num 500 ∷ []) ∷ []) (entry 0 7 0 ∷ []) 3) 24
    (next (state (frame 3 1 0 [] [] ∷ frame 2 3 0 [] [] ∷ []) (here 0 (num 500 ∷ []) ∷ []) (entry 0 7 0 ∷ []) 4))

asked : nth (history_of (table rows_guests) (table calls_guests)) 9 ≡ some asking
unfolding rules
asked = refl

under-two : Under (table rules_guests) 3 1 2
unfolding rules
under-two = omega arith

not_may : MayCall (table rules_guests) 3 1 → ⊥
unfolding rules
not_may (i, u, one, allows) =
    let e : 2 ≡ i = one 2 under-two in
    let z : byte (table rules_guests) 2 1 ≡ 1 = rw (← e) at allows in
    omega (arith, z)

not_permitted : Permitted (table rules_guests) (table rows_guests) asking → ⊥
unfolding rules
not_permitted m = not_may (m.comes_up (omega arith, refl, refl))

pub crosses : BreaksWithoutRules (table rules_guests) (table rows_guests) (table calls_guests)
unfolding rules
crosses = record {
  row = 24;
  refused = refl;
  rows = 26;
  otherwise = refl;
  calls = 3;
  good = refl;
  crossed = λ a. not_permitted (all_nth a 9 asking asked);
}
