-- Demand 3 for what runs: where a run answers a length, the buffer begins with the text that tells the calls and the store, and every event of the
-- calls, none left out, is safe.
use Prim.Native.Nat.{ℕ, suc}
use mathlib.Core.Path.{◌≡◌, refl, sym, ap, subst}
use mathlib.Core.Bool.{Bool, true, false, cond}
use mathlib.Core.List.{List, [], ◌∷◌, ◌++◌}
use mathlib.Core.Logic.{◌↔◌}
use lib.Dec.{ltb}
use lib.ListN.{length, drop}
use Rattle.table.specs.Verdicts.{Verdict, Accepted, Refused, and_then}
use Rattle.table.specs.Index.{index_of}
use Rattle.judging.specs.Judging.{judge_under}
use Rattle.judging.proofs.Under.{under_accepts}
use Rattle.acceptance.specs.Judged.{Bytes}
use Rattle.semantics.specs.Calls.{list_of, calls_of}
use Rattle.semantics.specs.Text.{text_of}
use Rattle.semantics.specs.Run.{min_text, buffer_of, history_of, answer_with, buffer_with, run_of}
use Rattle.semantics.specs.Machine.{State, stopped}
use Rattle.semantics.specs.History.{Base, Event, ended, nothing}
use Rattle.semantics.specs.Claim.{All, also, StopsAt, SafeEnd, restores, Safe, ends}
use Rattle.semantics.specs.Chain.{Chained, Claimed}
use Rattle.semantics.specs.Told.{Told}
use Rattle.semantics.specs.Permitted.{Permitted}
use Rattle.semantics.proofs.Changes.{clash}
use Rattle.semantics.proofs.Demand3.{demand3}
use Rattle.semantics.proofs.Every.{only-chain}
use Rattle.semantics.proofs.Permitted.{permitted}
use Rattle.semantics.proofs.Told.{text_told}
use Rattle.semantics.proofs.OneText.{one_text}
use Rattle.semantics.proofs.Lines.{StopLine, told_line}
use Rattle.semantics.proofs.EndOf.{EndOf, end_of}
use Rattle.semantics.proofs.Stops.{spent-only, spent_then}

-- what was run: the text stands in the buffer, it tells each call and each entry of the store, in order, and the history that it tells is that of the
-- list's calls, with every event safe and, under a rule file, with no procedure entered by a forbidden pair
pub record SafeRun (has : ℕ) (r t l buffer : List ℕ) (size : ℕ) : Type 0 where
  pub text : (run_of has r t l buffer).buffer ≡ text_of (history_of t l) ++ drop size buffer
  pub whole : size ≡ length (text_of (history_of t l))
  pub told : Told (history_of t l) (text_of (history_of t l))
  pub claimed : Claimed t (index_of t) (calls_of l) (history_of t l)
  pub permitted : (has ≡ 0 → ⊥) → All (Permitted r t) (history_of t l)

pub run_safe : (has : ℕ) (r t l buffer : List ℕ) (size : ℕ) → Bytes t → Bytes l → (run_of has r t l buffer).answer ≡ Accepted size → SafeRun has r t l buffer size
unfolding run_of answer_with buffer_of
run_safe has r t l buffer size bt bl e = judged-go (judge_under has r t) refl e
  where
    written : List ℕ
    written = text_of (history_of t l)

    short_go : (n k : ℕ) → judge_under has r t ≡ Accepted n → list_of t (index_of t) l ≡ Accepted k → (b : Bool) → cond b (Refused 17 0) (Accepted (length written)) ≡ Accepted size → SafeRun has r t l buffer size
    short_go n k j d true q = absurd (clash (cc))
    short_go n k j d false q = let s : length written ≡ size = cc in record { text = ap (λ (v : Verdict). buffer_with v buffer written) e; whole = sym s; told = text_told t l n k bt bl (under_accepts has r t n j) d; claimed = demand3 t l n k bt bl (under_accepts has r t n j) d; permitted = λ h. permitted has r t l n k bt bl h j d }

    listed-go : (n : ℕ) → judge_under has r t ≡ Accepted n → (v : Verdict) → list_of t (index_of t) l ≡ v → and_then v (cond (ltb (length buffer) min_text) (Refused 17 0) (Accepted (length written))) ≡ Accepted size → SafeRun has r t l buffer size
    listed-go n j (Accepted k) d q = short_go n k j d (ltb (length buffer) min_text) q
    listed-go n j (Refused number row) d q = absurd (clash (cc))

    judged-go : (v : Verdict) → judge_under has r t ≡ v → and_then v (and_then (list_of t (index_of t) l) (cond (ltb (length buffer) min_text) (Refused 17 0) (Accepted (length written)))) ≡ Accepted size → SafeRun has r t l buffer size
    judged-go (Accepted n) j q = listed-go n j (list_of t (index_of t) l) refl q
    judged-go (Refused number row) j q = absurd (clash (cc))

-- what is answered and written, with no word of how it is worked out: the buffer begins with the one text that tells the one chain of the list's events
pub run_fixed : (has : ℕ) (r t l buffer : List ℕ) (size : ℕ) → Bytes t → Bytes l → (run_of has r t l buffer).answer ≡ Accepted size
    → (es : List Event) (text : List ℕ) → Chained t (index_of t) (calls_of l) nothing es → Told es text → (size ≡ length text) × ((run_of has r t l buffer).buffer ≡ text ++ drop size buffer)
unfolding history_of
run_fixed has r t l buffer size bt bl e es text c w =
    let s = run_safe has r t l buffer size bt bl e in
    let history-is : es ≡ history_of t l = only-chain t (index_of t) c in
    let told : Told (history_of t l) text = subst (λ (es : List Event). Told es text) history-is w in
    let same : text ≡ text_of (history_of t l) = one_text told s.told in
    rw same (s.whole, s.text)

-- A call that stopped with k at this row, after the events `front`
pub record StoppedCall (has : ℕ) (r t l buffer : List ℕ) (front : List Event) (before after : Base) (s : State) (row k : ℕ) : Type 0 where
  -- its line stands in the buffer, after those of the calls before it, and tells k and the row
  pub line : StopLine 0 front row k (run_of has r t l buffer).buffer
  -- it is that call of the list, and (s, row, k) is its last moment
  pub end : EndOf t (index_of t) (calls_of l) front before s row (stopped k) after
  -- the instruction in the row had this cause to stop, or k is 31, exactly if the budget was spent
  pub why : StopsAt t row s k
  pub budget : (k ≡ 31) ↔ (length end.own ≡ suc end.budget)

pub run_stops : (has : ℕ) (r t l buffer : List ℕ) (size : ℕ) → Bytes t → Bytes l → (run_of has r t l buffer).answer ≡ Accepted size
    → (front rest : List Event) (before after : Base) (s : State) (row k : ℕ) → history_of t l ≡ front ++ (ended before s row (stopped k) after ∷ rest) → StoppedCall has r t l buffer front before after s row k
run_stops has r t l buffer size bt bl e front rest before after s row k h =
    let run = run_safe has r t l buffer size bt bl e in
    let held : All (Safe t (index_of t)) (front ++ (ended before s row (stopped k) after ∷ rest)) = subst (λ (es : List Event). All (Safe t (index_of t)) es) h run.claimed.safe in
    let end = end_of t (index_of t) run.claimed.chained front rest before after s row (stopped k) h in
    record {
      line = told_line before after s row k rest front (history_of t l) (text_of (history_of t l)) (drop size buffer) (run_of has r t l buffer).buffer run.told h run.text;
      end = end;
      why = why (there front held);
      budget = ((λ q. spent-only t (index_of t) end.moments (ap stopped q)), λ n. let z = spent_then t (index_of t) end.moments n in cc (z));
    }
  where
    there : (front : List Event) → All (Safe t (index_of t)) (front ++ (ended before s row (stopped k) after ∷ rest)) → Safe t (index_of t) (ended before s row (stopped k) after)
    there [] (also q a) = q
    there (x ∷ front) (also q a) = there front a

    cause : SafeEnd t (index_of t) before s row (stopped k) after → StopsAt t row s k
    cause (restores c q) = c

    why : Safe t (index_of t) (ended before s row (stopped k) after) → StopsAt t row s k
    why (ends d q) = cause d
