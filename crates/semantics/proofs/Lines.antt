-- The line of a stopped call: where it stands in the text, and what it tells.
use Prim.Native.Nat.{ℕ, suc, ◌+◌}
use mathlib.Core.Path.{◌≡◌, refl, ap, sym, subst, ◌∙◌}
use mathlib.Core.List.{List, [], ◌∷◌, ◌++◌, append_assoc}
use native.Mathlib.Omega.{arith}
use Rattle.semantics.specs.Machine.{State, stopped}
use Rattle.semantics.specs.History.{Base, Event, moment, ended}
use Rattle.semantics.specs.Ascii.{ascii}
use Rattle.semantics.specs.Told.{Decimal, space, CallLines, no_call, goes_on, is-done, is-stopped, Told}
use Rattle.semantics.proofs.Ends.{ends}

-- the line of a stopped call, from its words
abbrev pub stop_text : (call stop row : List ℕ) → List ℕ
stop_text call stop row = ascii "call" ++ space call ++ (space (ascii "stop") ++ space stop ++ space (ascii "row") ++ space row) ++ ascii "\n"

-- After the lines of the calls that ended in `front`, counted from i, comes one that tells stop k and row r
pub record StopLine (i : ℕ) (front : List Event) (r k : ℕ) (text : List ℕ) : Type 0 where
  pub earlier : List ℕ
  pub lines : CallLines i front earlier
  pub call : List ℕ
  pub numbered : Decimal (i + ends front) call
  pub stop : List ℕ
  pub stopped-with : Decimal k stop
  pub row : List ℕ
  pub at_row : Decimal r row
  pub later : List ℕ
  pub stands : text ≡ earlier ++ (stop_text call stop row ++ later)

-- the line of stop k at row r of the call that ends after `front`
module _ (before after : Base) (s : State) (r k : ℕ) (rest : List Event) where
  -- a line p of a call before it
  behind : (i : ℕ) (e : Event) (front : List Event) (p more : List ℕ) → ((x : List ℕ) → CallLines (i + 1) front x → CallLines i (e ∷ front) (p ++ x)) → ends (e ∷ front) ≡ suc (ends front)
      → StopLine (i + 1) front r k more → StopLine i (e ∷ front) r k (p ++ more)
  behind i e front p more f n l = record {
    earlier = p ++ l.earlier;
    lines = f l.earlier l.lines;
    call = l.call;
    numbered = subst (λ (x : ℕ). Decimal x l.call) (omega (arith, n)) l.numbered;
    stop = l.stop;
    stopped-with = l.stopped-with;
    row = l.row;
    at_row = l.at_row;
    later = l.later;
    stands = ap (λ (x : List ℕ). p ++ x) l.stands ∙ sym (append_assoc p l.earlier _);
  }

  stop_line : (i : ℕ) (front : List Event) {text : List ℕ} → CallLines i (front ++ (ended before s r (stopped k) after ∷ rest)) text → StopLine i front r k text
  stop_line i [] (is-stopped {w} {u} {v} {more} d e f c) =
      record { earlier = []; lines = no_call; call = w; numbered = subst (λ (x : ℕ). Decimal x w) (omega arith) d; stop = u; stopped-with = e; row = v; at_row = f; later = more; stands = refl }
  stop_line i (moment z q o ∷ front) (goes_on c) =
      let l = stop_line i front c in
      record { earlier = l.earlier; lines = goes_on l.lines; call = l.call; numbered = l.numbered; stop = l.stop; stopped-with = l.stopped-with; row = l.row; at_row = l.at_row; later = l.later; stands = l.stands }
  stop_line i (ended b z q o a ∷ front) (is-done {w} {u} d e c) =
      behind i _ front (ascii "call" ++ space w ++ (space (ascii "done") ++ u) ++ ascii "\n") _ (λ x y. is-done d e y) refl (stop_line (i + 1) front c)
  stop_line i (ended b z q o a ∷ front) (is-stopped {w} {u} {v} d e f c) =
      behind i _ front (stop_text w u v) _ (λ x y. is-stopped d e f y) refl (stop_line (i + 1) front c)

  -- it stands in what begins with the text
  longer : (front : List Event) (text old : List ℕ) → StopLine 0 front r k text → StopLine 0 front r k (text ++ old)
  longer front text old l = record {
    earlier = l.earlier;
    lines = l.lines;
    call = l.call;
    numbered = l.numbered;
    stop = l.stop;
    stopped-with = l.stopped-with;
    row = l.row;
    at_row = l.at_row;
    later = l.later ++ old;
    stands = ap (λ (x : List ℕ). x ++ old) l.stands ∙ append_assoc l.earlier (stop_text l.call l.stop l.row ++ l.later) old ∙ ap (λ (x : List ℕ). l.earlier ++ x) (append_assoc (stop_text l.call l.stop l.row) l.later old);
  }

  -- in a buffer that begins with the text that tells a history
  pub told_line : (front es : List Event) (text old buffer : List ℕ) → Told es text → es ≡ front ++ (ended before s r (stopped k) after ∷ rest) → buffer ≡ text ++ old → StopLine 0 front r k buffer
  told_line front es text old buffer w e b =
      let l = stop_line 0 front (rw e at w.called) in
      rw b (longer front text old (rw w.whole (longer front w.calls w.lines l)))
