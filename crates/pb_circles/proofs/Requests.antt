-- An arm at a request, by its process and in the state of all processes.
use Rattle.std.proofs.Common.{◌≡◌, ℕ, ◌<◌, length, Some}
use Rattle.std.proofs.Common.{sym, ap, ◌∙◌, subst, arith}
use Rattle.std.specs.Prelude.{slice_get, All}
use Rattle.pb_base.specs.Steppers.{Bundle, State}
use Rattle.pb_base.specs.declared.pick.Pick.{Pick}
use Rattle.pb_code.specs.Code.{Take, ProcessCode, Live, CodeProcess, Thread, thread}
use Rattle.pb_code.specs.Reached.{CodeReachesBy}
use Rattle.pb_code.specs.declared.instr.Instr.TheVariants as given
use Rattle.pb_code.specs.Whole.{Code}
use Rattle.pb_machine.specs.Turns.{IsAtTake, StandsIn}
use Rattle.pb_machine.proofs.Requests.{request_below, request_within_claim}
use Rattle.pb_verifier.specs.Verified.{VerifiedCode, IsVerified}
use Rattle.pb_verifier.specs.declared.fault.VerifyFault.TheVariants.{OutOfLimits}
use Rattle.pb_banker.specs.Lenders.{lender_state}
use Rattle.pb_banker.specs.declared.lender.Lender.{Lender}
use Rattle.pb_base.specs.Banker.{processes, IsWithinClaim}
use Rattle.pb_base.specs.declared.lending.Lending.{Lending}
use Rattle.pb_machine.specs.Views.{machine_view, IsMachineBy}
use Rattle.pb_machine.specs.declared.machine.Machine.{Machine}
use Rattle.pb_machine.proofs.EitherLending.{good_reached}
use Rattle.pb_circles.specs.Links.{bank_at}

-- an arm at a take, by what is shown of it
module _ (code : Code) (s : State CodeProcess) (p a : ℕ) (of : ProcessCode) (process : CodeProcess) (t : Thread)
    (code_there : slice_get code.processes p ≡ Some of) (there : slice_get s.processes p ≡ Some process)
    (at : t ≡ thread process.threads a) where
  abbrev arm : Pick
  arm = record { process = p; arm = a }

  pub asks_in : (bundle : Bundle) → IsAtTake of t bundle → StandsIn code s arm (Take bundle)
  asks_in bundle st = record {
    of = of;
    process = process;
    code_there = code_there;
    there = there;
    stands = record { place = st.place; stack = st.stack; live = sym at ∙ st.live; there = st.there };
  }

  pub asked_so : (bundle : Bundle) → StandsIn code s arm (Take bundle) → IsAtTake of t bundle
  asked_so bundle st =
      let one : Some st.of ≡ Some of = sym st.code_there ∙ code_there in
      let two : Some st.process ≡ Some process = sym st.there ∙ there in
      let code : st.of ≡ of = cc in
      let state : st.process ≡ process = cc in
      let live : thread st.process.threads a ≡ Live st.stands.place st.stands.stack = st.stands.live in
      let instr : slice_get st.of.instrs st.stands.place ≡ Some (Take bundle) = st.stands.there in
      record {
        place = st.stands.place;
        stack = st.stands.stack;
        live = at ∙ subst (λ (q : CodeProcess). thread q.threads a ≡ Live st.stands.place st.stands.stack) state live;
        there = subst (λ (q : ProcessCode). slice_get q.instrs st.stands.place ≡ Some (Take bundle)) code instr;
      }

-- an arm asks for one bundle
pub asks_once : (code : Code) (s : State CodeProcess) (arm : Pick) (one two : Bundle) → StandsIn code s arm (Take one)
    → StandsIn code s arm (Take two) → one ≡ two
asks_once code s arm one two a b =
    let codes : Some a.of ≡ Some b.of = sym a.code_there ∙ b.code_there in
    let states : Some a.process ≡ Some b.process = sym a.there ∙ b.there in
    let code : a.of ≡ b.of = cc in
    let state : a.process ≡ b.process = cc in
    let live : Live a.stands.place a.stands.stack ≡ Live b.stands.place b.stands.stack =
    sym a.stands.live ∙ (ap (λ (q : CodeProcess). thread q.threads arm.arm) state ∙ b.stands.live) in
    let place : a.stands.place ≡ b.stands.place = cc in
    let both : Some (Take one) ≡ Some (Take two) =
    sym a.stands.there
    ∙ (ap (λ (q : ProcessCode). slice_get q.instrs a.stands.place) code ∙ (ap (slice_get b.of.instrs) place ∙ b.stands.there)) in
    let same : Take one ≡ Take two = cc in
    cc

-- a machine has the processes of its code, and what its lender knows is what the state says
module _ (lending : Lending) (v : VerifiedCode) (m : Machine) (is : IsMachineBy lending v m) where
  pub machine_count : length (machine_view m).processes ≡ length v.code.processes
  machine_count = (good_reached v.code is.verified.faultless lending (machine_view m) is.reached).count

  pub rows_count : processes (bank_at v.code (machine_view m)) ≡ length (machine_view m).processes
  rows_count = let rows = (is.verified.faultless OutOfLimits).rows in let n = machine_count in omega (arith, rows, n)

  pub lender_is : (bank : Lender) → bank ≡ m.bank → lender_state bank ≡ bank_at v.code (machine_view m)
  lender_is bank same = ap lender_state same ∙ is.bank

-- what an arm asks for, in a state that the code reaches, is of resources that are there, and within the claim of its process
module _ (lending : Lending) (v : VerifiedCode) (verified : IsVerified v) (s : State CodeProcess)
    (reached : CodeReachesBy lending v.code s) (arm : Pick) (bundle : Bundle) (asks : StandsIn v.code s arm (Take bundle)) where
  pub bundle_below : All (λ pair. pair.resource < length v.code.capital) bundle
  bundle_below = request_below lending v verified s reached arm.process arm.arm asks.of asks.process asks.code_there asks.there bundle asks.stands

  pub bundle_within_claim : IsWithinClaim (bank_at v.code s) arm.process bundle
  bundle_within_claim =
      request_within_claim lending v verified s reached arm.process arm.arm asks.of asks.process asks.code_there asks.there bundle asks.stands
