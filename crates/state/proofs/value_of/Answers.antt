use Prim.Native.Nat.{ℕ, zero, suc}
use mathlib.Core.Path.{◌≡◌, refl}
use native.Mathlib.Omega.{arith}
use Rattle.state.specs.declared.Operand.TheVariants.{Empty}
use Rattle.state.specs.code.Coding.{value_of, values}
use Rattle.state.proofs.value_of.Goals as goal

-- there are five tags
other : (tag w : ℕ) → (tag ≡ 1 → ⊥) → (tag ≡ 2 → ⊥) → (tag ≡ 3 → ⊥) → (tag ≡ 4 → ⊥) → (tag ≡ 5 → ⊥) → Empty ≡ value_of tag w
unfolding value_of values
other zero w a b c d e = refl
other (suc zero) w a b c d e = absurd (a refl)
other (suc (suc zero)) w a b c d e = absurd (b refl)
other (suc (suc (suc zero))) w a b c d e = absurd (c refl)
other (suc (suc (suc (suc zero)))) w a b c d e = absurd (d refl)
other (suc (suc (suc (suc (suc zero))))) w a b c d e = absurd (e refl)
other (suc (suc (suc (suc (suc (suc n)))))) w a b c d e = refl

pub returns-in_default : goal.returns-in_default
returns-in_default c = other _ _ (λ q. omega arith) (λ q. omega arith) (λ q. omega arith) (λ q. omega arith) (λ q. omega arith)
