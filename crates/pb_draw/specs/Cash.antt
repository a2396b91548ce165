-- The cash of a resource over a run.
use Rattle.std.specs.Prelude.{ℕ, List, length}
use Rattle.pb_base.specs.Banker.{cash}
use Rattle.pb_base.specs.Steppers.{banker_state}
use Rattle.pb_base.specs.declared.pick.Pick.{Pick}
use Rattle.pb_code.specs.Whole.{Code, bank_of}
use Rattle.pb_history.specs.Positions.{state_after}
use Rattle.pb_draw.specs.Curves.{IsCurve}
use Rattle.pb_draw.specs.declared.drawing.CashCurve.{CashCurve}
use Rattle.pb_draw.specs.declared.drawing.CashStep.{CashStep}

-- the cash of resource r after the first i picks
abbrev pub cash_after : Code → List Pick → (r i : ℕ) → ℕ
cash_after code picks r i = cash (banker_state (bank_of code) (state_after code picks i).loans) r

-- up to position n a curve shows these amounts
abbrev pub ShowsCash : (ℕ → ℕ) → (n : ℕ) → List CashStep → Type 0
ShowsCash f n steps = IsCurve (λ s. s.at) (λ s. s.cash) 0 f n steps

-- a curve shows the cash of resource r after each first part of the picks
abbrev pub IsCashCurve : Code → List Pick → (r : ℕ) → CashCurve → Type 0
IsCashCurve code picks r curve =
    ShowsCash (cash_after code picks r) (length picks) curve.steps.items
