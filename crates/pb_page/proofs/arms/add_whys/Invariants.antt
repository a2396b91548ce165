use Rattle.std.proofs.Common.{◌≡◌, ◌++◌, ◌∷◌, [], ℕ, List}
use Rattle.pb_banker.specs.Lenders.{lending_by}
use Rattle.pb_code.specs.Code.{thread}
use Rattle.pb_code.specs.View.{labels_view}
use Rattle.pb_page.specs.Texts.{texts}
use Rattle.pb_page.specs.Parts.{ArePartsBelow}
use Rattle.pb_page.specs.States as spec
use Rattle.pb_machine.specs.Views.{machine_view}
use Rattle.pb_page.proofs.arms.add_whys.Given as goal

-- of the arms so far the reasons and the words are added
abbrev pub invariant-loop-arm : goal.invariant-loop-arm
invariant-loop-arm l = record {
  whys : (part : List (List ℕ)) × (texts l.entries.items ≡ (texts l.initial.entries.items ++ part))
      × ArePartsBelow (λ a one. (text : List ℕ) × spec.IsWhyText (lending_by l.machine.bank) l.verified.code (machine_view l.machine) l.p
      (thread (spec.process_at (machine_view l.machine) l.p).threads a) text × (one ≡ text ∷ [])) l.arm part;
  words : (part : List (List ℕ)) × (texts l.words.items ≡ (texts l.initial.words.items ++ part))
      × ArePartsBelow (λ a one. (text : List ℕ) × spec.IsWordsText (lending_by l.machine.bank) l.verified.code (labels_view l.labels)
      (machine_view l.machine) l.p (spec.process_at (machine_view l.machine) l.p) a text × (one ≡ text ∷ [])) l.arm part;
}
