-- Laws of lists that are put together, and of places.
use Prim.Native.Nat.{ℕ, zero, suc, ◌+◌, ◌-◌, ◌<◌}
use mathlib.Core.Path.{◌≡◌, refl, ap}
use mathlib.Core.List.Memᴰ
use mathlib.Core.List.{List, [], ◌∷◌, ◌++◌}
use mathlib.Core.Bool.{Bool, true, false, cond}
use mathlib.Core.Logic.{◌⊎◌, inl, inr, ⊎_elim}
use native.Mathlib.Decide.{ℕ_discrete}
use native.Mathlib.Omega.{arith}
use borrow.Author.Tests.{ltb-true, lt-ltb}
use lib.Dec.{ltb}
use lib.ListN.{length, get_or}
use Rattle.reach.specs.Reach.{Mem, here, there}
use Rattle.flow.specs.Places.{fresh_places, operand_place, within, mark_places}
use Rattle.helpers.specs.Rounds.{up_to}
use Rattle.helpers.proofs.Net.{rows_from, lower}

-- a list that is there only where a test holds
pub cond_mem : {A : Type 0} {x : A} {xs : List A} {b : Bool} → b ≡ true → Mem x xs → Mem x (cond b xs [])
cond_mem e m = rw e m

pub cond_inv : {A : Type 0} {x : A} {xs : List A} (b : Bool) → Mem x (cond b xs []) → (b ≡ true) × Mem x xs
cond_inv true m = (refl, m)
cond_inv false m = absurd (Memᴰ.not-nil m)

pub up_to_mem : {A : Type 0} {x : A} (f : ℕ → List A) (n i : ℕ) → i < n → Mem x (f i) → Mem x (up_to f n)
unfolding up_to
up_to_mem f zero i h m = absurd (omega arith)
up_to_mem {A} {x} f (suc n) i h m = go (ℕ_discrete i n) (λ b. up_to_mem f n i b m)
  where
    go : Dec (i ≡ n) → (i < n → Mem x (up_to f n)) → Mem x (f n ++ up_to f n)
    go (yes e) rest = Memᴰ.append_left (up_to f n) (rw e at m)
    go (no e) rest = Memᴰ.append_right (f n) (rest (omega arith))

pub up_to_inv : {A : Type 0} {x : A} (f : ℕ → List A) (n : ℕ) → Mem x (up_to f n) → (i : ℕ) × (i < n) × Mem x (f i)
unfolding up_to
up_to_inv f zero m = absurd (Memᴰ.not-nil m)
up_to_inv {A = A} {x = x} f (suc n) m =
    ⊎_elim
    (λ a. (n, omega arith, a))
    (λ b. let r : (i : ℕ) × (i < n) × Mem x (f i) = up_to_inv {x = x} f n b in (r.0, omega arith, r.2))
    (Memᴰ.append_cases (f n) m)

-- rows of instructions
pub rows_inv : (b : ℕ) (js : List ℕ) {v : ℕ} → Mem v (rows_from b js) → (j : ℕ) × Mem j js × (v ≡ b + j)
unfolding rows_from
rows_inv b [] {v = v} x' = elim x' [ ]
rows_inv b (j ∷ js) (here e) = (j, here refl, e)
rows_inv b (j ∷ js) (there m) = let r = rows_inv b js m in (r.0, there r.1, r.2)

pub rows_mem : (b : ℕ) {j : ℕ} {js : List ℕ} → Mem j js → Mem (b + j) (rows_from b js)
unfolding rows_from
rows_mem b (here e) = here (ap (λ (y : ℕ). b + y) e)
rows_mem b (there m) = there (rows_mem b m)

-- places of a row
pub lower_mem : {y : ℕ} (xs : List ℕ) → Mem (suc y) xs → Mem y (lower xs)
unfolding lower
lower_mem {y = y} [] x' = elim x' [ ]
lower_mem (zero ∷ xs) (here e) = absurd (omega arith)
lower_mem (zero ∷ xs) (there m) = lower_mem xs m
lower_mem {y} (suc x ∷ xs) (here e) = let q : y ≡ x = omega arith in here q
lower_mem (suc x ∷ xs) (there m) = there (lower_mem xs m)

pub lower_inv : {y : ℕ} (xs : List ℕ) → Mem y (lower xs) → Mem (suc y) xs
unfolding lower
lower_inv {y = y} [] m = elim m [ ]
lower_inv (zero ∷ xs) m = there (lower_inv xs m)
lower_inv (suc x ∷ xs) (here e) = here (ap suc e)
lower_inv (suc x ∷ xs) (there m) = there (lower_inv xs m)

-- a list with an element only where a test holds
pub pass : {A : Type 0} {y : A} {xs : List A} (b : Bool) (x : A) → Mem y xs → Mem y (cond b (x ∷ xs) xs)
pass true x m = there m
pass false x m = m

pub pass_inv : {A : Type 0} {x y : A} {xs : List A} (b : Bool) → Mem y (cond b (x ∷ xs) xs) → ((b ≡ true) × (y ≡ x)) ⊎ Mem y xs
pass_inv true m = ⊎_elim (λ e. inl (refl, e)) (λ r. inr r) (Memᴰ.cases_cons m)
pass_inv false m = inr m

-- places that there are
pub within_inv : (xs : List ℕ) {y : ℕ} → Mem y (within xs) → Mem y xs × (y < mark_places)
unfolding within
within_inv [] {y = y} m = elim m [ ]
within_inv (x ∷ xs) m =
    ⊎_elim
    (λ q. (here q.1, rw q.1 (ltb-true x mark_places q.0)))
    (λ r. let t = within_inv xs r in (there t.0, t.1))
    (pass_inv (ltb x mark_places) m)

pub within_mem : {y : ℕ} {xs : List ℕ} → Mem y xs → y < mark_places → Mem y (within xs)
unfolding within
within_mem (here {x = x} e) h = rw (lt-ltb x mark_places (rw e at h)) (here e)
within_mem (there {x = x} m) h = pass (ltb x mark_places) x (within_mem m h)

-- the places of what is marked of itself, by its number among those that are pushed
pub fresh_mem : (xs : List Bool) (r : ℕ) → r < length xs → get_or xs r false ≡ true → Mem (operand_place (length xs - 1 - r)) (fresh_places xs)
unfolding fresh_places
fresh_mem [] r h e = absurd (omega arith)
fresh_mem (x ∷ xs) zero h e = let z : operand_place (length (x ∷ xs) - 1 - 0) ≡ operand_place (length xs) = omega arith in rw (e, z) (here refl)
fresh_mem (x ∷ xs) (suc r) h e =
    let z : operand_place (length (x ∷ xs) - 1 - suc r) ≡ operand_place (length xs - 1 - r) = omega arith in
    rw z (pass x (operand_place (length xs)) (fresh_mem xs r (omega arith) e))

pub fresh_inv : (xs : List Bool) {y : ℕ} → Mem y (fresh_places xs) → (r : ℕ) × (r < length xs) × (get_or xs r false ≡ true) × (y ≡ operand_place (length xs - 1 - r))
unfolding fresh_places
fresh_inv [] {y = y} m = elim m [ ]
fresh_inv (x ∷ xs) m =
    ⊎_elim
    (λ q. (0, omega arith, q.0, omega (arith, q.1)))
    (λ r. let t = fresh_inv xs r in (suc t.0, omega arith, t.2, omega (arith, t.3)))
    (pass_inv x m)
