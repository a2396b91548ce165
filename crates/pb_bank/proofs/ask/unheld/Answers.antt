use Rattle.std.proofs.Common.{◌≡◌, ◌<◌, ◌≤◌, true, false, arith, length, take, All, ap, sym, ◌∙◌, lt-ltb, le-ltb}
use Rattle.std.proofs.lemmas.List.{take_all, drop_all}
use Rattle.pb_base.specs.Banker.{loan}
use Rattle.pb_banker.proofs.Pairs.{All-more-at}
use Rattle.pb_bank.specs.Answers.{unheld}
use Rattle.pb_bank.proofs.PairLemmas.{unheld_next}
use Rattle.pb_bank.proofs.ask.unheld.Goals as goal

pub returns-then-loan-pair-clause-first : goal.returns-then-loan-pair-clause-first
returns-then-loan-pair-clause-first c =
    let l : c.loop-i.i < length c.args.request.now.bundle = omega arith in
    let less : loan c.args.bank.now.state c.args.request.now.job c.get-pair.result.resource < c.get-pair.result.amount = omega arith in
    sym (sym c.loop-i.invariant.first ∙ unheld_next c.args.bank.now.state c.args.request.now.job c.args.request.now.bundle c.loop-i.i c.get-pair.result
    true l c.get-pair.ensures (lt-ltb _ _ less))

pub loop-i-preserved : goal.loop-i-preserved
loop-i-preserved c =
    let l : c.loop-i.i < length c.args.request.now.bundle = omega arith in
    let le : c.get-pair.result.amount ≤ loan c.args.bank.now.state c.args.request.now.job c.get-pair.result.resource = omega arith in
    record {
      first =
          sym (unheld_next c.args.bank.now.state c.args.request.now.job c.args.request.now.bundle c.loop-i.i c.get-pair.result
          false l c.get-pair.ensures (le-ltb _ _ le)) ∙ c.loop-i.invariant.first;
      none =
          All-more-at (λ p. p.amount ≤ loan c.args.bank.now.state c.args.request.now.job p.resource) c.args.request.now.bundle c.loop-i.i
          c.get-pair.result l c.get-pair.ensures c.loop-i.invariant.none le;
    }

pub returns-clause-first : goal.returns-clause-first
returns-clause-first c =
    sym (sym c.loop-i.invariant.first
    ∙ ap (unheld c.args.bank.now.state c.args.request.now.job) (drop_all c.loop-i.i c.args.request.now.bundle (omega arith)))

pub returns-clause-none : goal.returns-clause-none
returns-clause-none c =
    let all : take c.loop-i.i c.args.request.now.bundle ≡ c.args.request.now.bundle = take_all c.loop-i.i c.args.request.now.bundle (omega arith) in
    let inv : All (λ p. p.amount ≤ loan c.args.bank.now.state c.args.request.now.job p.resource) (take c.loop-i.i c.args.request.now.bundle) =
    c.loop-i.invariant.none in
    rw all at inv
