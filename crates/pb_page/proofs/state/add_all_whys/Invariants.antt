use Rattle.std.proofs.Common.{◌≡◌, ◌++◌, ℕ, List}
use Rattle.pb_banker.specs.Lenders.{lending_by}
use Rattle.pb_code.specs.View.{labels_view}
use Rattle.pb_page.specs.Texts.{texts}
use Rattle.pb_page.specs.Parts.{ArePartsBelow}
use Rattle.pb_page.specs.States as spec
use Rattle.pb_machine.specs.Views.{machine_view}
use Rattle.pb_page.proofs.state.add_all_whys.Given as goal

-- of the processes so far the reasons and the words of all arms are added
abbrev pub invariant-loop-p : goal.invariant-loop-p
invariant-loop-p l = record {
  whys : (whys : List (List ℕ)) × (texts l.entries.items ≡ (texts l.initial.entries.items ++ whys))
      × ArePartsBelow (λ p part. spec.AreWhysOf (lending_by l.machine.bank) l.verified.code (machine_view l.machine) p
      (spec.process_at (machine_view l.machine) p) part) l.p whys;
  words : (said : List (List ℕ)) × (texts l.words.items ≡ (texts l.initial.words.items ++ said))
      × ArePartsBelow (λ p part. spec.AreWordsOf (lending_by l.machine.bank) l.verified.code (labels_view l.labels) (machine_view l.machine) p
      (spec.process_at (machine_view l.machine) p) part) l.p said;
}
