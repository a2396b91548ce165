-- The warnings of a text, and what is told of them.
use Rattle.std.proofs.Common.{◌≡◌, ◌∙◌, ◌+◌, ◌<◌, ◌++◌, ℕ, List, [], ◌∷◌, Result, Ok, Err, OnErr, OnOk, length, map, take, drop, get_or}
use Rattle.std.proofs.Common.{ap, refl, subst, sym}
use Rattle.std.proofs.lemmas.List.{drop_more, take-append-drop, take_more}
use Rattle.std.proofs.lemmas.Slice.Zip.{AllZip-long}
use Rattle.pb_base.specs.Steppers.{Table}
use Rattle.pb_base.specs.Tables.{width_of}
use Rattle.pb_codegen.proofs.TextOutcomes.{claims_width}
use Rattle.pb_codegen.specs.Numbered.{IsReadAs}
use Rattle.pb_grammar.proofs.ProgramLaws.{one_program}
use Rattle.pb_grammar.specs.Programs.{ReadsProgram}
use Rattle.pb_lexer.proofs.Cuttings.{one_cutting}
use Rattle.pb_lexer.specs.Cutting.{AreTokensOf}
use Rattle.pb_lexer.specs.Tokens.{Token}
use Rattle.pb_names.specs.Program.{Program}
use Rattle.pb_names.specs.Resolves.{ResolvesResource}
use Rattle.pb_tree.specs.Syntax.{ProgramSyntax}
use Rattle.pb_voice.specs.Tellings.{Breaking, Telling}
use Rattle.pb_voice.proofs.TellingLemmas.{breaking_later, telling_then}
use Rattle.pb_warnings.specs.Warnings.{Warning, program_warnings, warning}
use Rattle.pb_warnings.specs.declared.warning.Warning.{Warning as Given}
use Rattle.pb_accept.specs.Sayings.{Saying, Warns}
use Rattle.pb_accept.specs.Warned.{AreWarningsOf}

-- ---- the program of a text

-- a text has one tree
one_tree : (text : List ℕ) (tokens : List Token) (tree : ProgramSyntax) (program : Program) (claims : Table)
    → AreTokensOf text tokens → ReadsProgram tokens tree → (read : IsReadAs text program claims) → read.tree ≡ tree
one_tree text tokens tree program claims cut reads read =
    let same : read.spelled.tokens ≡ tokens = one_cutting text read.spelled.tokens tokens read.spelled.cut.cuts cut.cuts in
    one_program (subst (λ (ts : List Token). ReadsProgram ts read.tree) same read.spelled.read) reads

-- its claims have a column for each of its resources
pub as_wide : (text : List ℕ) (tokens : List Token) (tree : ProgramSyntax) (program : Program) (claims : Table)
    → AreTokensOf text tokens → ReadsProgram tokens tree → IsReadAs text program claims → length tree.resources ≡ width_of claims
as_wide text tokens tree program claims cut reads read =
    ap (λ (t : ProgramSyntax). length t.resources) (sym (one_tree text tokens tree program claims cut reads read))
    ∙ sym (AllZip-long ResolvesResource read.tree.resources program.resources read.numbered.resources)
    ∙ sym (claims_width read.tree program claims read.numbered read.claimed)

-- the warnings of its tree are its own
pub are_warnings : (text : List ℕ) (tokens : List Token) (tree : ProgramSyntax) (program : Program) (claims : Table) (found : List Warning)
    → AreTokensOf text tokens → ReadsProgram tokens tree → IsReadAs text program claims
    → found ≡ program_warnings text tree claims → AreWarningsOf text found
are_warnings text tokens tree program claims found cut reads read is = record {
  program = program;
  claims = claims;
  read = read;
  all = is ∙ ap (λ (t : ProgramSyntax). program_warnings text t claims) (sym (one_tree text tokens tree program claims cut reads read));
}

-- ---- warnings that are told one after another

said_append : (xs ys : List Given) → map Warns (map warning (xs ++ ys)) ≡ map Warns (map warning xs) ++ map Warns (map warning ys)
said_append [] ys = refl
said_append (x ∷ xs) ys = ap (λ (l : List Saying). Warns (warning x) ∷ l) (said_append xs ys)

module _ {T : Type 0} (tells breaks : T → Saying → T → Type 0) (xs : List Given) (i : ℕ) (x : Given) (here : x ≡ get_or xs i x)
    (within : i < length xs) (start mid end : T) (told : Telling tells start (map Warns (map warning (take i xs))) mid) where
  -- one more is told
  pub warning_told : tells mid (Warns (warning x)) end → Telling tells start (map Warns (map warning (take (i + 1) xs))) end
  warning_told step =
      let next : take (i + 1) xs ≡ take i xs ++ x ∷ [] = take_more xs i x within ∙ ap (λ (y : Given). take i xs ++ y ∷ []) (sym here) in
      subst (λ (l : List Saying). Telling tells start l end)
      (sym (ap (λ (l : List Given). map Warns (map warning l)) next ∙ said_append (take i xs) (x ∷ [])))
      (telling_then tells start mid end (map Warns (map warning (take i xs))) (Warns (warning x)) told step)

  -- a write failed at the next
  pub warning_broken : breaks mid (Warns (warning x)) end → Breaking tells breaks start (map Warns (map warning xs)) end
  warning_broken step =
      let rest : drop i xs ≡ x ∷ drop (i + 1) xs =
      drop_more xs i x within ∙ ap (λ (y : Given). y ∷ drop (i + 1) xs) (sym here)
      in
      record {
        first = map Warns (map warning (take i xs));
        one = Warns (warning x);
        later = map Warns (map warning (drop (i + 1) xs));
        mid = mid;
        split = ap (λ (l : List Given). map Warns (map warning l)) (sym (take-append-drop i xs) ∙ ap (λ (l : List Given). take i xs ++ l) rest)
            ∙ said_append (take i xs) (x ∷ drop (i + 1) xs);
        told = told;
        broken = step;
      }

-- ---- one thing is told before others

pub told_before : {T S V E : Type 0} (tells : T → S → T → Type 0) (s m u : T) (one : S) (later : List S) (r : Result V E)
    → tells s one m → OnOk r (Telling tells m later u) → OnOk r (Telling tells s (one ∷ later) u)
told_before tells s m u one later (Ok v) step told = (m, step, told)
told_before tells s m u one later (Err e) step told = tt

pub broken_before : {T S V E : Type 0} (tells breaks : T → S → T → Type 0) (s m u : T) (one : S) (later : List S) (r : Result V E)
    → tells s one m → OnErr r (Breaking tells breaks m later u) → OnErr r (Breaking tells breaks s (one ∷ later) u)
broken_before tells breaks s m u one later (Ok v) step broken = tt
broken_before tells breaks s m u one later (Err e) step broken = breaking_later tells breaks s m u (one ∷ []) later (m, step, refl) broken
