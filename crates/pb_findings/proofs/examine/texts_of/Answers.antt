use Rattle.std.proofs.Common.{◌+◌, List, arith, subst, sym}
use Rattle.pb_findings.specs.Reports.{AreAllFound, AreFound, none}
use Rattle.pb_findings.specs.declared.said.Found.{Found}
use Rattle.pb_findings.proofs.FileLemmas.{cut_shorter}
use Rattle.pb_findings.proofs.ReportLemmas.{IsOnFile, last_one, one_more}
use Rattle.pb_findings.proofs.examine.texts_of.Goals as goal

pub loop-said-init : goal.loop-said-init
loop-said-init c = record {
  are = subst (λ (s : List Found). AreFound c.args.options.warn c.args.file.now 0 c.args.file.now s) (sym c.new-said.ensures.items) none;
  few = omega arith;
}

pub loop-said-preserved : goal.loop-said-preserved
loop-said-preserved c =
    let cut = rw c.in-Some.is at c.first_part-cut.ensures.marked in
    subst (λ (s : List Found). IsOnFile c.args.options.warn c.args.file.now (c.loop-said.count + 1) c.in-Some.more.now s) (sym c.in_ok-push.ensures.items)
    (one_more c.args.options.warn c.args.file.now c.loop-said.count c.loop-said.rest.now c.loop-said.said.items c.loop-said.invariant
    c.first_part-cut.result.part.now c.in-Some.more.now c.in_ok-found_of.field-0 cut c.in_ok-found_of.ensures)

pub loop-said-smaller : goal.loop-said-smaller
loop-said-smaller c =
    let cut = rw c.in-Some.is at c.first_part-cut.ensures.marked in
    cut_shorter c.loop-said.rest.now c.first_part-cut.result.part.now c.in-Some.more.now cut

pub returns-in_default : goal.returns-in_default
returns-in_default c =
    let last = rw c.in_default.is at c.first_part-cut.ensures.whole in
    subst (λ (s : List Found). AreAllFound c.args.options.warn c.args.file.now s) (sym c.in_ok-push.ensures.items)
    (last_one c.args.options.warn c.args.file.now c.loop-said.count c.loop-said.rest.now c.loop-said.said.items c.loop-said.invariant
    c.first_part-cut.result.part.now c.in_ok-found_of.field-0 last.0 last.1 c.in_ok-found_of.ensures)
