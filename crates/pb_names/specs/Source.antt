-- What a program does: each arm rewrites the first item of its list, one indivisible action at a time.
use Rattle.std.specs.Prelude.{◌≡◌, ◌⊎◌, ℕ, suc, ◌+◌, ℤ, pos, List, [], ◌∷◌, ◌++◌, get_or, set, length, map}
use Rattle.std.specs.Prelude.{replicate, Bool, true, false, cond, ◌&&◌, nat_eq, Option, Some, None}
use Rattle.std.specs.Prelude.{option_map, option_and_then, Result, Ok, Err}
use Rattle.pb_base.specs.Arithmetic.{apply, apply_unary, is_zero}
use Rattle.pb_base.specs.declared.operators.FaultKind.{FaultKind}
use Rattle.pb_base.specs.Steppers.{Bundle, Bank}
use Rattle.pb_base.specs.Steppers.{Effect, Silent, Prints, Takes, Returns, Faults, ending, Stepper, Can}
use Rattle.pb_base.specs.Steppers.{opening}
use Rattle.pb_base.specs.declared.event.Event.{Event}
use Rattle.pb_names.specs.Program.{Expr, Number, Variable, Unary, Binary, Stmt}
use Rattle.pb_names.specs.Program.{Block, Skip, Then, Arms, NoArm, AndArm, Process}

-- ---- expressions

-- one step of an expression: it is a number already, becomes another expression, or fails
pub data ExprStep : Type 0 where
  Is : ℤ → ExprStep
  Becomes : Expr → ExprStep
  Fails : FaultKind → ExprStep

-- an operator becomes the number that it results in, or fails
abbrev pub from_result : Result ℤ FaultKind → ExprStep
from_result (Ok v) = Becomes (Number v)
from_result (Err kind) = Fails kind

-- a step of an operand, seen from the expression around it
abbrev pub inside : (Expr → Expr) → ExprStep → ExprStep
inside f (Is v) = Is v
inside f (Becomes e) = Becomes (f e)
inside f (Fails kind) = Fails kind

-- the one next place: in the left operand if that is not a number, else in the right one, else the operator
abbrev pub step_expr : List ℤ → Expr → ExprStep
step_expr vars (Number v) = Is v
step_expr vars (Variable x) = Becomes (Number (get_or vars x (pos 0)))
step_expr vars (Unary op (Number v)) = from_result (apply_unary op v)
step_expr vars (Unary op a) = inside (Unary op) (step_expr vars a)
step_expr vars (Binary op (Number v) (Number w)) = from_result (apply op v w)
step_expr vars (Binary op (Number v) b) = inside (Binary op (Number v)) (step_expr vars b)
step_expr vars (Binary op a b) = inside (λ a'. Binary op a' b) (step_expr vars a)

-- ---- items

-- a statement with what is left of its expression, or a hold that is to be given back
pub data Item : Type 0 where
  Assign : (line x : ℕ) (left : Expr) → Item
  Print : (line : ℕ) (left : Expr) → Item
  If : (line : ℕ) (left : Expr) (then other : Block) → Item
  While : (line : ℕ) (test left : Expr) (body : Block) → Item
  Hold : (line : ℕ) → Bundle → (body : Block) → Item
  GiveBack : (line : ℕ) → Bundle → Item
  Parbegin : (line first : ℕ) → Arms → Item

-- the item of a statement of which nothing is done yet
abbrev pub item_of : Stmt → Item
item_of (Stmt.Assign line x e) = Item.Assign line x e
item_of (Stmt.Print line e) = Item.Print line e
item_of (Stmt.If line e a b) = Item.If line e a b
item_of (Stmt.While line e body) = Item.While line e e body
item_of (Stmt.Hold line bundle body) = Item.Hold line bundle body
item_of (Stmt.Parbegin line first arms) = Item.Parbegin line first arms

-- the items of a block of which nothing is done yet
abbrev pub items_of : Block → List Item
items_of Skip = []
items_of (Then s block) = item_of s ∷ items_of block

-- an arm: a list of items; running arms in front of a list of items; or at its end.
-- The running arms have consecutive numbers from the first
mutual
  pub data Arm : Type 0 where
    Doing : List Item → Arm
    Waiting : (line first : ℕ) → Running → List Item → Arm
    Ended : Arm

  pub data Running : Type 0 where
    Nothing : Running
    Beside : Arm → Running → Running

-- the arms of a parbegin, of which nothing is done yet
abbrev pub begin : Arms → Running
begin NoArm = Nothing
begin (AndArm arm arms) = Beside (Doing (items_of arm)) (begin arms)

-- whether an arm is at its end
abbrev pub is_ended : Arm → Bool
is_ended (Doing items) = false
is_ended (Waiting line first arms items) = false
is_ended Ended = true

-- whether all running arms are
abbrev pub all_ended : Running → Bool
all_ended Nothing = true
all_ended (Beside arm arms) = is_ended arm && all_ended arms

-- the number of running arms
abbrev pub running_arms : Running → ℕ
running_arms Nothing = 0
running_arms (Beside arm arms) = suc (running_arms arms)

-- ---- one step of one arm

-- one step of an arm: it goes on with these integers and with this effect, has a fault, or ends
pub data ArmStep : Type 0 where
  Goes : (vars : List ℤ) → Arm → Effect → ArmStep
  Breaks : FaultKind → ArmStep
  Ends : ArmStep

-- the step of an item by that of its expression: it keeps what is left, is done with the number, or has a fault
abbrev pub evaluate : ExprStep → (Expr → ArmStep) → (ℤ → ArmStep) → ArmStep
evaluate (Is v) keep done = done v
evaluate (Becomes e) keep done = keep e
evaluate (Fails kind) keep done = Breaks kind

-- one step of a list of items, which is that of the first item; an empty list ends its arm
abbrev pub step_items : List ℤ → List Item → ArmStep
step_items vars [] = Ends
step_items vars (Item.Assign line x e ∷ rest) =
    evaluate (step_expr vars e) (λ e'. Goes vars (Doing (Item.Assign line x e' ∷ rest)) Silent)
    (λ v. Goes (set vars x v) (Doing rest) Silent)
step_items vars (Item.Print line e ∷ rest) =
    evaluate (step_expr vars e) (λ e'. Goes vars (Doing (Item.Print line e' ∷ rest)) Silent)
    (λ v. Goes vars (Doing rest) (Prints v))
step_items vars (Item.If line e a b ∷ rest) =
    evaluate (step_expr vars e) (λ e'. Goes vars (Doing (Item.If line e' a b ∷ rest)) Silent)
    (λ v. Goes vars (Doing (items_of (cond (is_zero v) b a) ++ rest)) Silent)
step_items vars (Item.While line test e body ∷ rest) =
    evaluate (step_expr vars e) (λ e'. Goes vars (Doing (Item.While line test e' body ∷ rest)) Silent)
    (λ v. Goes vars (Doing (cond (is_zero v) rest (items_of body ++ Item.While line test test body ∷ rest))) Silent)
step_items vars (Item.Hold line bundle body ∷ rest) =
    Goes vars (Doing (items_of body ++ GiveBack line bundle ∷ rest)) (Takes bundle)
step_items vars (GiveBack line bundle ∷ rest) = Goes vars (Doing rest) (Returns bundle)
step_items vars (Item.Parbegin line first arms ∷ rest) = Goes vars (Waiting line first (begin arms) rest) Silent

-- running arms are removed once all have ended
abbrev pub step_arm : List ℤ → Arm → Option ArmStep
step_arm vars (Doing items) = Some (step_items vars items)
step_arm vars (Waiting line first arms rest) =
    cond (all_ended arms) (Some (Goes vars (Doing rest) Silent)) None
step_arm vars Ended = None

-- ---- the arm with a number, if the given arm has the number n

-- the first arm, or the other if there is no first
abbrev pub first_some : Option Arm → Option Arm → Option Arm
first_some (Some arm) other = Some arm
first_some None other = other

-- the arm with the number a, which is the given arm or inside it; of running arms, n is the number of the first
abbrev mutual
  pub find : ℕ → ℕ → Arm → Option Arm
  find a n (Doing items) = cond (nat_eq a n) (Some (Doing items)) None
  find a n (Waiting line first arms rest) =
      cond (nat_eq a n) (Some (Waiting line first arms rest)) (find_among a first arms)
  find a n Ended = cond (nat_eq a n) (Some Ended) None

  pub find_among : ℕ → ℕ → Running → Option Arm
  find_among a n Nothing = None
  find_among a n (Beside arm arms) = first_some (find a n arm) (find_among a (n + 1) arms)

-- the given arm, or running arms, with a new arm in the place of the one with the number a
abbrev mutual
  pub put : ℕ → Arm → ℕ → Arm → Arm
  put a new n (Doing items) = cond (nat_eq a n) new (Doing items)
  put a new n (Waiting line first arms rest) =
      cond (nat_eq a n) new (Waiting line first (put_among a new first arms) rest)
  put a new n Ended = cond (nat_eq a n) new Ended

  pub put_among : ℕ → Arm → ℕ → Running → Running
  put_among a new n Nothing = Nothing
  put_among a new n (Beside arm arms) = Beside (put a new n arm) (put_among a new (n + 1) arms)

-- ---- one step of a process

-- its integers, and its run: arm 0, or nothing after a fault
pub record SourceProcess : Type 0 where
  pub vars : List ℤ
  pub run : Option Arm

-- what a step of arm a makes of its process, with the effect: a fault leaves nothing of the run
abbrev pub settle : List ℤ → Arm → ℕ → ArmStep → SourceProcess × Effect
settle old run a (Goes vars arm effect) = (record { vars = vars; run = Some (put a arm 0 run) }, effect)
settle old run a (Breaks kind) = (record { vars = old; run = None }, Faults kind)
settle old run a Ends = (record { vars = old; run = Some (put a Ended 0 run) }, ending a)

-- one step of arm a of a run, if there is such an arm and it can step
abbrev pub step_run : List ℤ → ℕ → Arm → Option (SourceProcess × Effect)
step_run vars a run =
    option_and_then (λ arm. option_map (settle vars run a) (step_arm vars arm)) (find a 0 run)

-- one step of a process at arm a; none after a fault
abbrev pub source_step : Stepper SourceProcess
source_step p process a = option_and_then (step_run process.vars a) process.run

-- a process at its start: each integer is 0, and the whole body is to do
abbrev pub source_process : Process → SourceProcess
source_process process = record {
  vars = replicate (length process.integers) (pos 0);
  run = Some (Doing (items_of process.body));
}

-- a process has ended or faulted
abbrev pub source_over : SourceProcess → Type 0
source_over process = (process.run ≡ None) ⊎ (process.run ≡ Some Ended)

-- under this banker the processes can make these events with at most n picks
abbrev pub SourceCanUnder : Bank → List Process → List Event → ℕ → Type 0
SourceCanUnder bank program events n =
    Can bank source_step (opening bank (map source_process program)) events n
