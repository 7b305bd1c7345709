-- The text by the interpreter's account is the text of the rules.
use Prim.Native.Nat.{ℕ, zero, suc, ◌+◌, ◌*◌, ◌<◌, ◌≤◌, ◌^◌}
use mathlib.Core.Path.{◌≡◌, refl, sym, ap, subst, ◌∙◌}
use mathlib.Core.Bool.{Bool, true, false, true≢false}
use mathlib.Core.List.{List, [], ◌∷◌, ◌++◌, append_assoc}
use mathlib.Core.Option.{Option, none}
use native.Mathlib.Omega.{arith}
use lib.ListN.{length, get_or, replicate, length-replicate}
use Rattle.table.specs.Index.{index_of}
use Rattle.table.specs.Verdicts.{Accepted}
use Rattle.judging.specs.Judging.{judge_of}
use Rattle.acceptance.specs.Judged.{Bytes, Judged}
use Rattle.acceptance.proofs.Judged.{judged}
use Rattle.semantics.specs.Calls.{Call, call, list_of, calls_of}
use Rattle.semantics.specs.Text.{text_of}
use Rattle.semantics.specs.Run.{history_of}
use Rattle.semantics.specs.Callable.{GoodCall}
use Rattle.semantics.specs.Claim.{All, also}
use Rattle.semantics.proofs.Callable.{list_rows, good-calls}
use Rattle.semantics.proofs.Ends.{calls_in-rows}
use Rattle.state.specs.declared.Operand.{Operand}
use Rattle.state.specs.declared.Operand.TheVariants.{Empty}
use Rattle.state.specs.declared.frames.State.{State}
use Rattle.state.specs.code.Frames.{stop_of}
use Rattle.state.specs.code.Layout.{room_cell, all_cells}
use Rattle.machine.specs.code.Machine.{MRoom}
use Rattle.machine.specs.code.Runs.{MEnd, mgo}
use Rattle.machine.specs.code.Lists.{mnothing, mafter, mbegin, mline, mlines, mlast, mstore_lines, mtext}
use Rattle.machine.specs.code.Views.{tab, room_in, entries_in}
use Rattle.machine.proofs.Lists.{Between, between-nothing, between-after, text_same}
use Rattle.machine.proofs.Views.{tab-same}
use Rattle.frame.specs.code.Turning.{Turning, after}
use Rattle.interpreter.specs.code.Calls.{kept_since, same_restored, call_turn, same_call}
use Rattle.interpreter.proofs.Keeping.{Holds, length_since, since_holds}
use Rattle.interpreter.proofs.Follows.{base_in}
use Rattle.running.specs.code.Lists.{start, all_empty, on_turn, store_text, line_of, text_from, text_in}
use Rattle.running.proofs.Calls.{Lasting, Ended, call-follows}

-- counts that leave room for so many more calls
abbrev Spare : ℕ → State → Type 0
Spare k s = (s.records + 65536 * k < 2 ^ 32) × (s.frames + 65536 * k < 2 ^ 32)

module _ (t : List ℕ) (J : Judged t (index_of t)) where
  -- what lasts before the calls of a list
  record Before (same : Bool) (cs ks : List Operand) (s : State) (left : ℕ) : Type 0 where
    lasting : Lasting cs s
    kept_whole : length ks ≡ all_cells
    holds : same ≡ true → Holds ks cs s
    between : Between t J (base_in cs s)
    spare : Spare left s

  text_follows : (calls : List Call) (i : ℕ) (same : Bool) (cs ks : List Operand) (s : State) → All (GoodCall t (index_of t)) calls → Before same cs ks s (length calls)
      → text_from t (index_of t) i calls same cs ks s ≡ mlines t (index_of t) i calls (base_in cs s) ++ mstore_lines (mlast t (index_of t) calls (base_in cs s))
  unfolding text_from mlines mlast store_text
  text_follows [] i same cs ks s g b = refl
  text_follows (call q budget args ∷ calls) i same cs ks s (also c g) b =
      go (call_turn t (index_of t) cs kept s (call q budget args))
      (call-follows t J cs kept s kept_whole holds b.lasting q budget args c b.between (omega (arith, b.spare.0)) (omega (arith, b.spare.1)))
      (text_follows calls (i + 1))
    where
      kept : List Operand
      kept = kept_since same ks cs s

      kept_whole : length kept ≡ all_cells
      kept_whole = length_since ks cs s b.kept_whole b.lasting.whole b.lasting.stored b.lasting.rooms_low same

      holds : Holds kept cs s
      holds = since_holds ks cs s b.kept_whole b.lasting.whole b.lasting.stored b.lasting.rooms_low same b.holds

      still : Bool
      still = same_call t (index_of t) cs s (call q budget args)

      ended : MEnd
      ended = mgo t (index_of t) budget (mbegin t (index_of t) q args (base_in cs s))

      go : (turn : Turning) → Ended t J cs kept s kept_whole holds b.lasting q budget args c b.between (omega (arith, b.spare.0)) (omega (arith, b.spare.1)) still ended turn
          → ((same' : Bool) (ds ls : List Operand) (z : State) → All (GoodCall t (index_of t)) calls → Before same' ds ls z (length calls)
          → text_from t (index_of t) (i + 1) calls same' ds ls z ≡ mlines t (index_of t) (i + 1) calls (base_in ds z) ++ mstore_lines (mlast t (index_of t) calls (base_in ds z)))
          → on_turn turn (λ (ds : List Operand) (z : State). line_of (index_of t) i ds z ++ text_from t (index_of t) (i + 1) calls (same_restored still (stop_of z)) ds kept z)
          ≡ (mline t (index_of t) i ended ++ mlines t (index_of t) (i + 1) calls (mafter (base_in cs s) ended)) ++ mstore_lines (mlast t (index_of t) calls (mafter (base_in cs s) ended))
      go (after z ds) e rest =
          let later = rest (same_restored still (stop_of z)) ds kept z g (record {
            lasting = e.lasting;
            kept_whole = kept_whole;
            holds = e.holds_still;
            between = rw e.base-is at (between-after t J q budget args (base_in cs s) c b.between);
            spare = (omega (arith, e.records_more, b.spare, c.limited), omega (arith, e.frames_more, b.spare, c.limited));
          }) in
          rw (← e.line-is i, later, e.base-is) (sym (append_assoc (mline t (index_of t) i ended) (mlines t (index_of t) (i + 1) calls (base_in ds z)) (mstore_lines (mlast t (index_of t) calls (base_in ds z)))))

-- all rooms free, and an empty store
empty-at : (i : ℕ) → get_or all_empty i Empty ≡ Empty
empty-at i = go all_cells i
  where
    go : (n i : ℕ) → get_or (replicate n Empty) i Empty ≡ Empty
    go zero i = refl
    go (suc n) zero = refl
    go (suc n) (suc i) = go n i

abbrev no_room : ℕ → Option MRoom
no_room r = none

free-rooms : (b n : ℕ) → tab no_room b n ≡ replicate n none
unfolding tab
free-rooms b zero = refl
free-rooms b (suc n) = ap (λ (l : List (Option MRoom)). none ∷ l) (free-rooms (suc b) n)

start_is : base_in all_empty start ≡ mnothing
unfolding room_in entries_in
start_is = rw (tab-same no_room (room_in all_empty) 0 128 (λ r l m. rw (empty-at (room_cell r))) ∙ free-rooms 0 128)

start-lasts : Lasting all_empty start
start-lasts = record {
  whole = length-replicate all_cells Empty;
  tidy = record { in_use = λ r l. absurd (omega arith); unused = λ r l m. rw (empty-at (room_cell r)); free_low = omega arith };
  rooms_low = omega arith;
  stored = omega arith;
}

-- the text of a good list over an accepted table
pub text_is : (t l : List ℕ) (n k : ℕ) → Bytes t → Bytes l → judge_of t ≡ Accepted n → list_of t (index_of t) l ≡ Accepted k → text_in t (index_of t) l ≡ text_of (history_of t l)
unfolding text_in mtext
text_is t l n k bt bl e d =
    let J = judged t n bt e in
    let few : length (calls_of l) ≤ 256 = omega (arith, calls_in-rows l, list_rows t (index_of t) l k d) in
    text_follows t J (calls_of l) 0 false all_empty all_empty start (good-calls t (index_of t) l k bl d)
    (record { lasting = start-lasts; kept_whole = length-replicate all_cells Empty; holds = λ e. absurd (true≢false (sym e)); between = subst (Between t J) (sym start_is) (between-nothing t J); spare = (omega (arith, few), omega (arith, few)) })
    ∙ rw start_is (sym (text_same t l n k bt bl e d))
