use Rattle.std.proofs.Common.{◌≡◌, ◌<◌, ℕ, List, length, get_or, take, arith, subst, sym, ◌∙◌}
use Rattle.std.proofs.lemmas.Bool.{false≢true}
use Rattle.std.proofs.lemmas.List.{take_all}
use Rattle.pb_banker.specs.Accounts.{state_of}
use Rattle.pb_banker.proofs.TableCells.{processes_of}
use Rattle.pb_banker.proofs.Walked.{Walked, Walked-start, Walked-next, Walked-room, Walked-in, Walked-out, Walked-all, Walked-short, Walked-well}
use Rattle.pb_banker.proofs.accounts.Accounts.check_order.Goals as goal

pub loop-k-init : goal.loop-k-init
loop-k-init c = Walked-start c.args.self.now c.requires.sound c.args.used.now

pub returns-then-not-used-p : goal.returns-then-not-used-p
returns-then-not-used-p c =
    let l : c.loop-k.k < length c.args.order.now = omega arith in (
      l,
      Walked-well (state_of c.args.self.now) c.args.used.now c.args.order.now c.loop-k.k c.loop-k.waiting c.loop-k.available
          c.loop-k.invariant (omega (arith, l)),
      (λ used. absurd (false≢true (sym c.if-not-used-p.true ∙ used))),
    )

pub returns-then-not-waiting-p : goal.returns-then-not-waiting-p
returns-then-not-waiting-p c =
    let n = processes_of c.args.self.now c.requires.sound in
    let l : c.loop-k.k < length c.args.order.now = omega arith in
    let row = c.requires.rows (get_or c.args.order.now c.loop-k.k 0) c.if-not-used-p.false in (
      l,
      Walked-well (state_of c.args.self.now) c.args.used.now c.args.order.now c.loop-k.k c.loop-k.waiting c.loop-k.available
          c.loop-k.invariant (omega (arith, l)),
      Walked-in (state_of c.args.self.now) c.args.used.now (take c.loop-k.k c.args.order.now) c.loop-k.waiting c.loop-k.available
          (get_or c.args.order.now c.loop-k.k 0) c.loop-k.invariant (omega (arith, n, row)) c.if-not-waiting-p.true,
    )

pub returns-in-Some : goal.returns-in-Some
returns-in-Some c =
    let l : c.loop-k.k < length c.args.order.now = omega arith in (
      l,
      Walked-well (state_of c.args.self.now) c.args.used.now c.args.order.now c.loop-k.k c.loop-k.waiting c.loop-k.available
          c.loop-k.invariant (omega (arith, l)),
      Walked-short (state_of c.args.self.now) c.args.used.now (take c.loop-k.k c.args.order.now) c.loop-k.waiting c.loop-k.available
          (get_or c.args.order.now c.loop-k.k 0) c.in-Some.r c.loop-k.invariant c.in-Some.ensures.some,
    )

pub return_loans-requires-clause-room : goal.return_loans-requires-clause-room
return_loans-requires-clause-room c =
    let row = c.requires.rows (get_or c.args.order.now c.loop-k.k 0) c.if-not-used-p.false in
    Walked-room c.args.self.now c.requires.sound c.args.used.now (take c.loop-k.k c.args.order.now) c.loop-k.waiting c.loop-k.available
    (get_or c.args.order.now c.loop-k.k 0) c.loop-k.invariant row c.if-not-waiting-p.false

pub loop-k-preserved : goal.loop-k-preserved
loop-k-preserved c =
    let l : c.loop-k.k < length c.args.order.now = omega arith in
    let row = c.requires.rows (get_or c.args.order.now c.loop-k.k 0) c.if-not-used-p.false in
    Walked-next c.args.self.now c.requires.sound c.args.used.now c.args.order.now c.loop-k.k c.loop-k.waiting c.loop-k.available
    c.return_loans.new.available c.loop-k.invariant l row c.if-not-used-p.false c.if-not-waiting-p.false c.in_default.ensures.none
    c.return_loans.ensures

pub returns-in-Some-first_waiting : goal.returns-in-Some-first_waiting
returns-in-Some-first_waiting c =
    let n = processes_of c.args.self.now c.requires.sound in
    let all : take c.loop-k.k c.args.order.now ≡ c.args.order.now = take_all c.loop-k.k c.args.order.now (omega arith) in
    let w : Walked (state_of c.args.self.now) c.args.used.now c.args.order.now c.loop-k.waiting c.loop-k.available =
    subst (λ (xs : List ℕ). Walked (state_of c.args.self.now) c.args.used.now xs c.loop-k.waiting c.loop-k.available) all c.loop-k.invariant in
    let row = c.requires.rows c.in-Some-first_waiting.p c.in-Some-first_waiting.ensures.used in (
      Walked-well (state_of c.args.self.now) c.args.used.now c.args.order.now (length c.args.order.now) c.loop-k.waiting
          c.loop-k.available
          (subst (λ (xs : List ℕ). Walked (state_of c.args.self.now) c.args.used.now xs c.loop-k.waiting c.loop-k.available)
          (sym (take_all (length c.args.order.now) c.args.order.now (omega arith))) w) (omega arith),
      record {
        job = c.in-Some-first_waiting.ensures.used;
        missing =
            Walked-out (state_of c.args.self.now) c.args.used.now c.args.order.now c.loop-k.waiting c.loop-k.available
            c.in-Some-first_waiting.p w (omega (arith, n, row)) c.in-Some-first_waiting.ensures.waits;
        first = λ q l used.
            (let there = c.requires.rows q used in
            Walked-in (state_of c.args.self.now) c.args.used.now c.args.order.now c.loop-k.waiting c.loop-k.available q w
            (omega (arith, n, there)) (c.in-Some-first_waiting.ensures.first q l used));
      },
    )

pub returns-in-None : goal.returns-in-None
returns-in-None c =
    let n = processes_of c.args.self.now c.requires.sound in
    let few = c.requires.sound.few in
    let all : take c.loop-k.k c.args.order.now ≡ c.args.order.now = take_all c.loop-k.k c.args.order.now (omega arith) in
    let w : Walked (state_of c.args.self.now) c.args.used.now c.args.order.now c.loop-k.waiting c.loop-k.available =
    subst (λ (xs : List ℕ). Walked (state_of c.args.self.now) c.args.used.now xs c.loop-k.waiting c.loop-k.available) all c.loop-k.invariant in
    Walked-all (state_of c.args.self.now) c.args.used.now c.args.order.now c.loop-k.waiting c.loop-k.available w
    (omega (arith, n, few)) c.in-None.ensures.none
