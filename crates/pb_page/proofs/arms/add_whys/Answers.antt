use Rattle.std.proofs.Common.{◌≡◌, ℕ, List, [], ◌∷◌, length, refl, ap, subst, arith}
use Rattle.pb_banker.specs.Lenders.{lending_by}
use Rattle.pb_code.specs.Code.{CodeProcess, thread}
use Rattle.pb_code.specs.View.{labels_view}
use Rattle.pb_machine.specs.Views.{machine_view}
use Rattle.pb_page.specs.Parts.{ArePartsBelow}
use Rattle.pb_page.specs.States.{IsWhyText, IsWordsText, process_at}
use Rattle.pb_page.specs.Texts.{texts}
use Rattle.pb_page.proofs.PartsMore.{are_next, process_is}
use Rattle.pb_page.proofs.arms.add_whys.Goals as goal

pub loop-arm-preserved : goal.loop-arm-preserved
loop-arm-preserved c =
    let v = c.args.verified.now in
    let lending = lending_by c.args.machine.now.bank in
    let s = machine_view c.args.machine.now in
    let process = process_at s c.args.p in
    let why = c.in_ok-add_why.ensures.whys in
    let said = c.in_ok-add_why.ensures.words in
    record {
      whys = are_next (λ a one. (text : List ℕ) × IsWhyText lending v.code s c.args.p (thread process.threads a) text
          × (one ≡ text ∷ [])) c.loop-arm.arm (texts c.args.entries.now.items) (texts c.loop-arm.entries.items)
          (texts c.add_why.new.entries.items) (why.0 ∷ []) c.loop-arm.invariant.whys why.2 (why.0, why.1, refl);
      words = are_next (λ a one. (text : List ℕ) × IsWordsText lending v.code (labels_view c.args.labels.now) s c.args.p process a text
          × (one ≡ text ∷ [])) c.loop-arm.arm (texts c.args.words.now.items) (texts c.loop-arm.words.items)
          (texts c.add_why.new.words.items) (said.0 ∷ []) c.loop-arm.invariant.words said.2 (said.0, said.1, refl);
    }

pub returns-clause-whys : goal.returns-clause-whys
returns-clause-whys c =
    let s = machine_view c.args.machine.now in
    let process = process_is s c.args.p _ c.proc.ensures.state in
    let arms = c.arms-arm-end.ensures in
    let same = ap (λ (q : CodeProcess). length q.threads) process in
    let test = c.loop-arm-test.false in
    let past = c.loop-arm.auto.arm-end in
    let e : c.loop-arm.arm ≡ length (process_at s c.args.p).threads = omega (arith, arms, same, test, past) in
    let whys = c.loop-arm.invariant.whys in (
      whys.0,
      whys.1,
      subst (λ (n : ℕ). ArePartsBelow (λ a one. (text : List ℕ) × IsWhyText (lending_by c.args.machine.now.bank) c.args.verified.now.code s c.args.p
          (thread (process_at s c.args.p).threads a) text × (one ≡ text ∷ [])) n whys.0) e whys.2,
    )

pub returns-clause-words : goal.returns-clause-words
returns-clause-words c =
    let s = machine_view c.args.machine.now in
    let process = process_is s c.args.p _ c.proc.ensures.state in
    let arms = c.arms-arm-end.ensures in
    let same = ap (λ (q : CodeProcess). length q.threads) process in
    let test = c.loop-arm-test.false in
    let past = c.loop-arm.auto.arm-end in
    let e : c.loop-arm.arm ≡ length (process_at s c.args.p).threads = omega (arith, arms, same, test, past) in
    let words = c.loop-arm.invariant.words in (
      words.0,
      words.1,
      subst (λ (n : ℕ). ArePartsBelow (λ a one. (text : List ℕ) × IsWordsText (lending_by c.args.machine.now.bank) c.args.verified.now.code
          (labels_view c.args.labels.now) s c.args.p (process_at s c.args.p) a text × (one ≡ text ∷ [])) n words.0) e words.2,
    )
