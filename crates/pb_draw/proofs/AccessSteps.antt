-- What the next step of an arm does to an integer.
use Rattle.std.proofs.Common.{◌≡◌, ℕ, suc, ◌+◌, ◌≤◌, List, Bool, true, false, cond, Option, Some, None, sym, ap, ◌∙◌, arith}
use Rattle.std.specs.Prelude.{option_and_then, slice_get}
use Rattle.pb_base.specs.Steppers.{State}
use Rattle.pb_base.specs.declared.lending.Lending.{Lending}
use Rattle.pb_base.specs.declared.pick.Pick.{Pick}
use Rattle.pb_code.specs.Code.{CodeProcess, Idle, Instr, Live, Ended, ProcessCode, Thread, thread}
use Rattle.pb_code.specs.Whole.{Code}
use Rattle.pb_draw.specs.Accesses.{access_at, access_before, access_by, access_in, accesses}
use Rattle.pb_draw.specs.declared.accesses.Access.{Access}
use Rattle.pb_history.specs.Positions.{IsAfterBy, state_after}
use Rattle.pb_machine.specs.Views.{machine_view, place_of_thread}
use Rattle.pb_machine.specs.declared.machine.Machine.{Machine}
use Rattle.pb_verifier.specs.Verified.{VerifiedCode}

-- a live arm is at a place
pub access_at_place : (instrs : List Instr) (t : Thread) (place : ℕ) → Some place ≡ place_of_thread t
    → access_at instrs t ≡ option_and_then access_by (slice_get instrs place)
access_at_place instrs Idle place e = absurd cc
access_at_place instrs (Live at stack) place e =
    let same : place ≡ at = cc in ap (λ (n : ℕ). option_and_then access_by (slice_get instrs n)) (sym same)
access_at_place instrs Ended place e = absurd cc

-- one that is at no place does nothing
pub access_nowhere : (instrs : List Instr) (t : Thread) → None ≡ place_of_thread t → access_at instrs t ≡ None
access_nowhere instrs Idle e = cc
access_nowhere instrs (Live at stack) e = absurd cc
access_nowhere instrs Ended e = cc

-- an arm of a process that is there
pub access_in_is : (codes : List ProcessCode) (processes : List CodeProcess) (p a : ℕ) (code : ProcessCode) (process : CodeProcess)
    (t : Thread) → slice_get codes p ≡ Some code → slice_get processes p ≡ Some process → t ≡ thread process.threads a
    → access_at code.instrs t ≡ access_in (slice_get codes p) (slice_get processes p) a
access_in_is codes processes p a code process t code_there there at =
    ap (access_at code.instrs) at
    ∙ sym (ap (λ (o : Option ProcessCode). access_in o (slice_get processes p) a) code_there ∙ ap (λ (o : Option CodeProcess). access_in (Some code) o a) there)

-- what the arm of a pick does in a machine it does at its position
pub access_here : (lending : Lending) (v : VerifiedCode) (picks : List Pick) (i : ℕ) (pick : Pick) (m : Machine)
    → IsAfterBy lending v picks i m → slice_get picks i ≡ Some pick
    → access_in (slice_get v.code.processes pick.process) (slice_get (machine_view m).processes pick.process) pick.arm
    ≡ access_before v.code picks i
access_here lending v picks i pick m at there =
    ap (λ (s : State CodeProcess). access_in (slice_get v.code.processes pick.process) (slice_get s.processes pick.process) pick.arm) at.state
    ∙ sym (ap (λ (o : Option Pick). option_and_then (λ q. access_in (slice_get v.code.processes q.process) (slice_get (machine_at i) q.process) q.arm) o) there)
  where
    machine_at : (k : ℕ) → List CodeProcess
    machine_at k = (state_after v.code picks k).processes

pub at_most_one : (b : Bool) → cond b 1 0 ≤ 1
at_most_one true = omega arith
at_most_one false = omega arith

-- one more, if the next pick does such a thing
pub accesses_more : (is_such : Option Access → Bool) (code : Code) (picks : List Pick) (i count next : ℕ) (access : Option Access) (such : Bool)
    → count ≡ accesses is_such code picks i → access ≡ access_before code picks i → such ≡ is_such access → next ≡ count + cond such 1 0
    → next ≡ accesses is_such code picks (i + 1)
accesses_more is_such code picks i count next access such before same so is =
    is
    ∙ (ap (λ (n : ℕ). n + cond such 1 0) before
    ∙ (ap (λ (b : Bool). accesses is_such code picks i + cond b 1 0) (so ∙ ap is_such same)
    ∙ ap (accesses is_such code picks) (let e : suc i ≡ i + 1 = omega arith in e)))
