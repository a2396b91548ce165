-- What a launch gives, and the lines of refusals.
use Rattle.std.proofs.Common.{◌≡◌, ℕ, List, Option, None, refl, sym, ap, ◌∙◌, subst}
use Rattle.pb_accept.specs.ReplayLines.{SaysOfNoPicksBy, refused}
use Rattle.pb_base.specs.Lines.{line}
use Rattle.pb_base.specs.declared.lending.Lending.{Lending}
use Rattle.pb_code.specs.Whole.{Code, ProcessLabels}
use Rattle.pb_codegen.specs.Compiled.{IsCompiled}
use Rattle.pb_command_io.specs.declared.status.Status.{Status}
use Rattle.pb_verifier.specs.Verified.{VerifiedCode}
use Rattle.pb_adapter_requests.specs.declared.counting.Counting.{Counting}
use Rattle.pb_adapter_engine.specs.Waiting.{ArePartsFor, ComesTo, IsUnfit, RefusesPicks, no_picks}
use Rattle.pb_adapter_engine.specs.declared.launched.Launch.{Launch}

-- what is said of lines that say no picks is a line
no_picks_line : (lending : Lending) (code : Code) (lines said : List ℕ) (status : Status) → SaysOfNoPicksBy lending code lines said status
    → (text : List ℕ) × (said ≡ line text)
no_picks_line lending code lines _ _ (refused fault is text of) = (text, refl)

-- it refuses them without its line feed
pub lines_refused : (lending : Lending) (code : Code) (lines said left : List ℕ) (status : Status) → SaysOfNoPicksBy lending code lines said status
    → ((text : List ℕ) → said ≡ line text → left ≡ text) → RefusesPicks None lending code lines left
lines_refused lending code lines said left status says cut =
    let (text, is) = no_picks_line lending code lines said status says in (
      status,
      subst (λ (t : List ℕ). SaysOfNoPicksBy lending code lines t status) (is ∙ ap line (sym (cut text is))) says,
    )

-- ---- what a launch comes to

-- a text that compiles, and no picks of it
pub has_no_picks : (words : List ℕ) (seed : Option ℕ) (lending : Lending) (source lines refusal : List ℕ) (verified v : VerifiedCode)
    (labels : List ProcessLabels) → ArePartsFor seed words source lines → IsCompiled source verified.code labels → v ≡ verified
    → RefusesPicks seed lending v.code lines refusal → IsUnfit words seed lending refusal
has_no_picks words seed lending source lines refusal verified v labels parts compiled same refuses =
    no_picks source lines refusal parts verified.code labels compiled
    (subst (λ (x : VerifiedCode). RefusesPicks seed lending x.code lines refusal) same refuses)

-- what a request asks for is launched
pub comes_to : (words text : List ℕ) (seed : Option ℕ) (lending : Lending) (path shown : List ℕ) (counting counted : Counting)
    (launch made : Launch) → text ≡ words → shown ≡ path → counted ≡ counting → made ≡ launch
    → ComesTo text seed lending shown counted made → ComesTo words seed lending path counting launch
comes_to words text seed lending path shown counting counted launch made is named same_counting same comes =
    subst (λ (m : Launch). ComesTo words seed lending path counting m) same
    (subst (λ (c : Counting). ComesTo words seed lending path c made) same_counting
    (subst (λ (p : List ℕ). ComesTo words seed lending p counted made) named
    (subst (λ (t : List ℕ). ComesTo t seed lending shown counted made) is comes)))
