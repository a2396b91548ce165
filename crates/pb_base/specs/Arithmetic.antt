-- The arithmetic of the language: integers of 64 bits, and the two faults.
use Rattle.std.specs.Prelude.{suc, zero, ◌^◌, ℤ, pos, negsuc, ◌+ℤ◌, ◌-ℤ◌, ◌*ℤ◌, neg_ℤ, Bool, true, false, not, ◌&&◌}
use Rattle.std.specs.Prelude.{◌||◌, nat_lt, int_lt, int_le, int_div, int_rem, if◌then◌else◌, Result, Ok, Err}
use Rattle.pb_base.specs.declared.operators.FaultKind.{FaultKind}
use Rattle.pb_base.specs.declared.operators.FaultKind.TheVariants.{Divide, Overflow}
use Rattle.pb_base.specs.declared.operators.UnaryOp.{UnaryOp}
use Rattle.pb_base.specs.declared.operators.UnaryOp.TheVariants.{Negate, Not}
use Rattle.pb_base.specs.declared.operators.BinaryOp.{BinaryOp}
use Rattle.pb_base.specs.declared.operators.BinaryOp.TheVariants.{Add, Subtract, Multiply, Quotient, Remainder, Equal}
use Rattle.pb_base.specs.declared.operators.BinaryOp.TheVariants.{Unequal, Less, AtMost, Greater, AtLeast, And, Or}

-- whether an integer is 0
abbrev pub is_zero : ℤ → Bool
is_zero (pos zero) = true
is_zero (pos (suc n)) = false
is_zero (negsuc n) = false

-- 1 for true, 0 for false
abbrev pub truth : Bool → ℤ
truth true = pos 1
truth false = pos 0

-- from the least integer of 64 bits up to the greatest
abbrev pub fits : ℤ → Bool
fits (pos n) = nat_lt n (2 ^ 63)
fits (negsuc n) = nat_lt n (2 ^ 63)

-- a result that does not fit is a fault
abbrev pub checked : ℤ → Result ℤ FaultKind
checked v = if fits v then Ok v else Err Overflow

-- so is a divisor of zero
abbrev pub nonzero : ℤ → Result ℤ FaultKind → Result ℤ FaultKind
nonzero v answer = if is_zero v then Err Divide else answer

-- the quotient is cut toward zero, and the remainder has the dividend's sign; any number but 0 is true
unfoldable pub apply : BinaryOp → ℤ → ℤ → Result ℤ FaultKind
apply Add a b = checked (a +ℤ b)
apply Subtract a b = checked (a -ℤ b)
apply Multiply a b = checked (a *ℤ b)
apply Quotient a b = nonzero b (checked (int_div a b))
apply Remainder a b = nonzero b (checked (int_rem a b))
apply Equal a b = Ok (truth (not (int_lt a b) && not (int_lt b a)))
apply Unequal a b = Ok (truth (int_lt a b || int_lt b a))
apply Less a b = Ok (truth (int_lt a b))
apply AtMost a b = Ok (truth (int_le a b))
apply Greater a b = Ok (truth (int_lt b a))
apply AtLeast a b = Ok (truth (int_le b a))
apply And a b = Ok (truth (not (is_zero a) && not (is_zero b)))
apply Or a b = Ok (truth (not (is_zero a) || not (is_zero b)))

-- minus the operand, which may not fit; `Not` is 1 for 0, and 0 for any other number
unfoldable pub apply_unary : UnaryOp → ℤ → Result ℤ FaultKind
apply_unary Negate a = checked (neg_ℤ a)
apply_unary Not a = Ok (truth (is_zero a))
