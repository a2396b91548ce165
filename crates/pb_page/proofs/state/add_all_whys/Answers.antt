use Rattle.std.proofs.Common.{◌≡◌, ℕ, length, subst, arith}
use Rattle.pb_banker.specs.Lenders.{lending_by}
use Rattle.pb_code.specs.View.{labels_view}
use Rattle.pb_machine.specs.Views.{machine_view}
use Rattle.pb_page.specs.Parts.{ArePartsBelow}
use Rattle.pb_page.specs.States.{AreWhysOf, AreWordsOf, process_at}
use Rattle.pb_page.specs.Texts.{texts}
use Rattle.pb_page.proofs.PartsMore.{are_next}
use Rattle.pb_page.proofs.state.add_all_whys.Goals as goal

pub loop-p-preserved : goal.loop-p-preserved
loop-p-preserved c =
    let v = c.args.verified.now in
    let lending = lending_by c.args.machine.now.bank in
    let s = machine_view c.args.machine.now in
    let whys = c.in_ok-add_whys.ensures.whys in
    let words = c.in_ok-add_whys.ensures.words in
    record {
      whys = are_next (λ p part. AreWhysOf lending v.code s p (process_at s p) part) c.loop-p.p (texts c.args.entries.now.items)
          (texts c.loop-p.entries.items) (texts c.add_whys.new.entries.items) whys.0 c.loop-p.invariant.whys whys.1 whys.2;
      words = are_next (λ p part. AreWordsOf lending v.code (labels_view c.args.labels.now) s p (process_at s p) part) c.loop-p.p
          (texts c.args.words.now.items) (texts c.loop-p.words.items) (texts c.add_whys.new.words.items) words.0 c.loop-p.invariant.words
          words.1 words.2;
    }

pub returns-clause-whys : goal.returns-clause-whys
returns-clause-whys c =
    let s = machine_view c.args.machine.now in
    let many = c.processes-p-end.ensures in
    let test = c.loop-p-test.false in
    let past = c.loop-p.auto.p-end in
    let e : c.loop-p.p ≡ length s.processes = omega (arith, many, test, past) in
    let whys = c.loop-p.invariant.whys in (
      whys.0,
      whys.1,
      subst (λ (n : ℕ). ArePartsBelow (λ p part. AreWhysOf (lending_by c.args.machine.now.bank) c.args.verified.now.code s p (process_at s p) part) n whys.0)
          e whys.2,
    )

pub returns-clause-words : goal.returns-clause-words
returns-clause-words c =
    let s = machine_view c.args.machine.now in
    let many = c.processes-p-end.ensures in
    let test = c.loop-p-test.false in
    let past = c.loop-p.auto.p-end in
    let e : c.loop-p.p ≡ length s.processes = omega (arith, many, test, past) in
    let words = c.loop-p.invariant.words in (
      words.0,
      words.1,
      subst (λ (n : ℕ). ArePartsBelow (λ p part. AreWordsOf (lending_by c.args.machine.now.bank) c.args.verified.now.code
          (labels_view c.args.labels.now) s p (process_at s p) part) n words.0) e words.2,
    )
