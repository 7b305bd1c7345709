-- What is told fixes the text to the byte.
use Prim.Native.Nat.{ℕ}
use mathlib.Core.Path.{◌≡◌, refl, sym, subst, ◌∙◌}
use mathlib.Core.List.{List}
use native.Mathlib.Omega.{arith}
use Rattle.semantics.specs.Machine.{Value, Cell, Entry}
use Rattle.semantics.specs.History.{base, Event}
use Rattle.semantics.specs.Told.{Decimal, one-digit, more-digits, Values, no_value, a-number, a-record, StoreLines, no_line, a-line, CallLines, no_call, goes_on, is-done, is-stopped, Rearranged, Told}
use Rattle.semantics.proofs.Order.{one-order}

-- a number has one decimal
pub one-decimal : {n : ℕ} {w w' : List ℕ} → Decimal n w → Decimal n w' → w ≡ w'
one-decimal (one-digit l) (one-digit l') = refl
one-decimal (one-digit l) (more-digits e s l' t) = absurd (omega arith)
one-decimal (more-digits e s l t) (one-digit l') = absurd (omega arith)
one-decimal (more-digits {n = n} {d = d} e s l t) (more-digits {n = n'} {d = d'} {w = w'} e' s' l' t') =
    let same : n' ≡ n = omega arith in
    let last : d ≡ d' = omega arith in
    rw (last, one-decimal t (subst (λ (k : ℕ). Decimal k w') same t'))

-- values have one text
one-values : {rs : List Cell} {vs : List Value} {w w' : List ℕ} → Values rs vs w → Values rs vs w' → w ≡ w'
one-values no_value no_value = refl
one-values (a-number d m) (a-number d' m') = rw (one-decimal d d', one-values m m')
one-values {rs} (a-record {fields = fields} e d i m) (a-record {fields = fields'} {inner = inner'} e' d' i' m') =
    let same : fields' ≡ fields = cc in
    rw (one-decimal d d', one-values i (subst (λ (vs : List Value). Values rs vs inner') same i'), one-values m m')

-- entries have one text
one_store : {rs : List Cell} {es : List Entry} {w w' : List ℕ} → StoreLines rs es w → StoreLines rs es w' → w ≡ w'
one_store no_line no_line = refl
one_store {rs} (a-line {fields = fields} e d c u m) (a-line {fields = fields'} {u = text'} e' d' c' u' m') =
    let same : fields' ≡ fields = cc in
    rw (one-decimal d d', one-decimal c c', one-values u (subst (λ (vs : List Value). Values rs vs text') same u'), one_store m m')

-- calls have one text
one-calls : {i : ℕ} {es : List Event} {w w' : List ℕ} → CallLines i es w → CallLines i es w' → w ≡ w'
one-calls no_call no_call = refl
one-calls (goes_on m) (goes_on m') = one-calls m m'
one-calls (is-done d u m) (is-done d' u' m') = rw (one-decimal d d', one-values u u', one-calls m m')
one-calls (is-stopped d k r m) (is-stopped d' k' r' m') = rw (one-decimal d d', one-decimal k k', one-decimal r r', one-calls m m')

-- a history has one text
pub one_text : {es : List Event} {text text' : List ℕ} → Told es text → Told es text' → text ≡ text'
one_text w w' =
    let ends : base w.records w.store w.frames ≡ base w'.records w'.store w'.frames = sym w.at-end ∙ w'.at-end in
    let records : w.records ≡ w'.records = cc in
    let store : w.store ≡ w'.store = cc in
    let printed : w.printed ≡ w'.printed = one-order w.each_once w.ordered (subst (λ (st : List Entry). Rearranged st w'.printed) (sym store) w'.each_once) w'.ordered in
    let lined : StoreLines w'.records w'.printed w.lines = rw (← records, ← printed) w.lined in
    w.whole ∙ rw (one-calls w.called w'.called, one_store lined w'.lined) (sym w'.whole)
