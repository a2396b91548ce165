-- What is said of an input, from the message that was made.
use Rattle.std.proofs.Common.{◌≡◌, ◌<◌, ◌≤◌, ℕ, List, [], ◌∷◌, codes, Result, Ok, Err, IfOk, IsTrue, OnOk, arith, length, min, inl, inr, subst}
use Rattle.pb_base.specs.Steppers.{Table}
use Rattle.pb_base.specs.declared.limits.TheConstants.{MAX_INPUT}
use Rattle.pb_capitals.specs.declared.change.Change.{Change}
use Rattle.pb_code.specs.Whole.{Code}
use Rattle.pb_command_io.specs.Parts.{AreParts, AreTwoParts}
use Rattle.pb_joint.specs.Texts.{AreReadAs}
use Rattle.pb_lexer.specs.Cutting.{line_at}
use Rattle.pb_message_stops.specs.Told.{TellsBadLine}
use Rattle.pb_message_stops.specs.declared.ends.Form.TheVariants.{Prints}
use Rattle.pb_messages.proofs.SaidLemmas.{are_before}
use Rattle.pb_messages.specs.Details.{ShowsWording}
use Rattle.pb_messages.specs.Messages.{IsMessage}
use Rattle.pb_mistakes.specs.declared.wording.Wording.{Wording}
use Rattle.pb_messages.specs.Said.{SaysOfTexts, SaysWithin}
use Rattle.pb_names.specs.Program.{Program}
use Rattle.pb_plan_engine.specs.Changed.{undeclared}
use Rattle.pb_search_engine.specs.Requirements.{IsBadAsked}
use Rattle.pb_search_engine.specs.declared.print_lines.PrintFault.TheVariants.{NotPrint}
use Rattle.pb_search_tool.specs.Messages.{SaysOfExpected, SaysOfExpectedText, SaysOfPrintLines, SaysOfTogether, TellsFirstFault, TellsOfRead, change_message, unsaid, unsaid_at}
use Rattle.pb_search_tool.specs.Messages.SaysOfTogether.{refused, read}
use Rattle.pb_tree.specs.Syntax.{ProgramSyntax}

-- what is said of an input that is not too long
pub within : (Says : (bytes told : List ℕ) → Type 0) (bytes told : List ℕ) → length bytes ≤ MAX_INPUT → SaysWithin Says bytes told
    → Says bytes told
within Says bytes told short (inl (long, is)) = absurd (omega (arith, short, long))
within Says bytes told short (inr (fits, says)) = says

module _ {W E : Type 0} (seen : W → List ℕ) where
  -- the message of a line that says no print
  pub print_told : (code : Code) (before : ℕ) (lines : List ℕ) (at : ℕ) (wording : Wording) (made : Result W E)
      → IsBadAsked code lines (NotPrint at) → (IsTrue wording.is_whole → TellsBadLine Prints before lines at wording)
      → IfOk made (λ told. IsMessage (codes "print ") lines (unsaid_at at) (seen told))
      → IfOk made (λ told. ShowsWording (codes "print ") lines (unsaid_at at) wording (seen told))
      → OnOk made (IsTrue wording.is_whole) → IfOk made (λ told. SaysOfPrintLines code before lines (seen told))
  print_told code before lines at wording (Ok told) bad tells message shows whole = unsaid at wording (seen told) bad (tells whole) message shows
  print_told code before lines at wording (Err e) bad tells message shows whole = message

  -- what is said of a text and print lines
  pub text_expected : (before : ℕ) (bytes text lines : List ℕ) (made : Result W E) → AreTwoParts bytes text lines
      → before ≡ line_at bytes (min (length text) (length bytes))
      → IfOk made (λ told. SaysOfExpectedText before text lines (seen told))
      → IfOk made (λ told. SaysOfExpected bytes (seen told))
  text_expected before bytes text lines (Ok told) parts are says =
      (text, lines, parts, subst (λ (n : ℕ). SaysOfExpectedText n text lines (seen told)) (are_before bytes text lines before parts are) says)
  text_expected before bytes text lines (Err e) parts are says = says

  -- what is said of texts that are read as one program, and of the first of them that cannot be
  pub texts_together : (changes : List Change) (bytes : List ℕ) (texts : List (List ℕ)) (trees : List ProgramSyntax) (program : Program)
      (claims : Table) (made : Result W E) → AreParts bytes texts → AreReadAs texts trees program claims
      → IfOk made (λ told. TellsOfRead changes program bytes (seen told))
      → IfOk made (λ told. SaysOfTogether changes bytes (seen told))
  texts_together changes bytes texts trees program claims (Ok told) parts joint says =
      read texts trees program claims (seen told) parts joint says
  texts_together changes bytes texts trees program claims (Err e) parts joint says = says

  pub fault_together : (changes : List Change) (bytes : List ℕ) (texts : List (List ℕ)) (made : Result W E) → AreParts bytes texts
      → IfOk made (λ told. TellsFirstFault texts (seen told)) → IfOk made (λ told. SaysOfTogether changes bytes (seen told))
  fault_together changes bytes texts (Ok told) parts tells = refused texts (seen told) parts tells
  fault_together changes bytes texts (Err e) parts tells = tells

  -- what is said of texts one by one, if there are no changes
  pub texts_unchanged : (changes : List Change) (program : Program) (bytes : List ℕ) (made : Result W E) → changes ≡ []
      → length bytes ≤ MAX_INPUT → IfOk made (λ told. SaysWithin SaysOfTexts bytes (seen told))
      → IfOk made (λ told. TellsOfRead changes program bytes (seen told))
  texts_unchanged [] program bytes (Ok told) none short says = within SaysOfTexts bytes (seen told) short says
  texts_unchanged [] program bytes (Err e) none short says = says
  texts_unchanged (change ∷ changes) program bytes made none short says = absurd cc

  -- what is said of changes
  pub changes_told : (changes : List Change) (program : Program) (bytes : List ℕ) (made : Result W E) → 0 < length changes
      → IfOk made (λ told. seen told ≡ change_message (undeclared changes program))
      → IfOk made (λ told. TellsOfRead changes program bytes (seen told))
  changes_told [] program bytes made some says = absurd (omega (arith, some))
  changes_told (change ∷ changes) program bytes made some says = says
