use Rattle.std.proofs.Common.{rules, ◌<◌, ℕ, List, length, arith, sym, ap, ◌∙◌}
use Rattle.std.proofs.lemmas.List.{drop_all}
use Rattle.pb_base.specs.declared.pair.Pair.{Pair}
use Rattle.pb_bank.specs.Answers.{with_amounts}
use Rattle.pb_bank.proofs.PairLemmas.{amounts_next}
use Rattle.pb_bank.proofs.come.row_of.Goals as goal

pub loop-i-preserved : goal.loop-i-preserved
loop-i-preserved c =
    let l : c.loop-i.i < length c.args.bundle.now = omega arith in
    record {
      same = c.loop-i.invariant.same ∙ amounts_next c.args.bundle.now c.loop-i.i c.get-pair.result c.loop-i.row l c.get-pair.ensures;
      long = search rules;
    }

pub returns : goal.returns
returns c =
    let rest : List Pair → List ℕ = with_amounts c.loop-i.row in
    sym (c.loop-i.invariant.same ∙ ap rest (drop_all c.loop-i.i c.args.bundle.now (omega arith)))
