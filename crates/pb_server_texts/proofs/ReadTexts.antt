-- When a text is read, and when it is not.
use Rattle.std.proofs.Common.{◌≡◌, ℕ, ◌⊎◌, inl, inr, List, subst, sym, ap, arith, rules}
use Rattle.serde_json.specs.Data.{Data, null}
use Rattle.serde_json.specs.View.{view}
use Rattle.serde_json.specs.declared.value.Value.{Null, the_lemmas}
use Rattle.pb_lexer.specs.Cutting.{AreTokensOf}
use Rattle.pb_lexer.specs.Tokens.{Token}
use Rattle.pb_lexer.proofs.Cuttings.{one_cutting}
use Rattle.pb_tree.specs.Measure.{program_height, program_nodes}
use Rattle.pb_tree.specs.Syntax.{ProgramSyntax}
use Rattle.pb_grammar.specs.declared.fault.ParseFault.{ParseFault}
use Rattle.pb_grammar.specs.declared.fault.ParseFault.TheVariants as fault
use Rattle.pb_grammar.proofs.ProgramLaws.{one_program}
use Rattle.pb_parser.specs.Limits.{IsNoProgram, IsSyntax, IsTooHigh, IsTooLarge}
use Rattle.pb_parser.specs.Nesting.{NestsTooDeep}
use Rattle.pb_outline.specs.Places.{Place, program_places}
use Rattle.pb_server_texts.specs.Answers.{Answers, read, unread}
use Rattle.pb_server_texts.specs.Reading.{IsRead, IsTreeOf}

-- ---- tokens that are refused are no tree

not_high : (ts : List Token) → IsTooHigh ts → (tree : ProgramSyntax) → IsTreeOf ts tree → ⊥
not_high ts (p, r, high) tree is =
    let same = ap program_height (one_program r is.read) in
    let low = is.small.height in
    absurd (omega arith)

pub no_tree_if_large : (ts : List Token) → IsTooLarge ts → (tree : ProgramSyntax) → IsTreeOf ts tree → ⊥
no_tree_if_large ts (p, r, low, large) tree is =
    let same = ap program_nodes (one_program r is.read) in
    let few = is.small.nodes in
    absurd (omega arith)

pub no_tree_if_deep : (ts : List Token) → NestsTooDeep ts ⊎ IsTooHigh ts → (tree : ProgramSyntax) → IsTreeOf ts tree → ⊥
no_tree_if_deep ts (inl deep) tree is = is.flat deep
no_tree_if_deep ts (inr high) tree is = not_high ts high tree is

pub no_tree_if_syntax : (ts : List Token) (f : ParseFault) (at : ℕ) → f ≡ fault.Syntax at
    → (IsSyntax f → IsNoProgram ts) → (tree : ProgramSyntax) → IsTreeOf ts tree → ⊥
no_tree_if_syntax ts f at same no_program tree is =
    subst (λ (e : ParseFault). IsSyntax e → IsNoProgram ts) same no_program tt tree is.read

-- ---- what is read

pub read_whole : (text : List ℕ) (ts : List Token) (tree : ProgramSyntax) → AreTokensOf text ts → IsTreeOf ts tree
    → IsRead text ts tree
read_whole text ts tree cut is = record { cut = cut; tree_of = is }

pub none_without_tokens : (text : List ℕ) → ((ts : List Token) → AreTokensOf text ts → ⊥)
    → (ts : List Token) (tree : ProgramSyntax) → IsRead text ts tree → ⊥
none_without_tokens text none ts tree is = none ts is.cut

pub none_without_tree : (text : List ℕ) (us : List Token) → AreTokensOf text us
    → ((tree : ProgramSyntax) → IsTreeOf us tree → ⊥)
    → (ts : List Token) (tree : ProgramSyntax) → IsRead text ts tree → ⊥
none_without_tree text us cut none ts tree is =
    none tree (subst (λ (vs : List Token). IsTreeOf vs tree) (one_cutting text ts us is.cut.cuts cut.cuts) is.tree_of)

-- what is known of a text
pub ruleset reading = (read_whole, none_without_tokens, none_without_tree)

-- ---- answers

pub answer_read : (of : List Token → List Place → Data) (otherwise : Data) (text : List ℕ) (d : Data)
    (ts : List Token) (tree : ProgramSyntax) → IsRead text ts tree → d ≡ of ts (program_places tree)
    → Answers of otherwise text d
answer_read of otherwise text d ts tree is same = subst (Answers of otherwise text) (sym same) (read ts tree is)

pub answer_unread : (of : List Token → List Place → Data) (otherwise : Data) (text : List ℕ) (d : Data)
    → ((ts : List Token) (tree : ProgramSyntax) → IsRead text ts tree → ⊥) → d ≡ otherwise
    → Answers of otherwise text d
answer_unread of otherwise text d none same = subst (Answers of otherwise text) (sym same) (unread none)

nothing : view Null ≡ null
nothing = search (rules, the_lemmas)

pub answer_nothing : (of : List Token → List Place → Data) (text : List ℕ)
    → ((ts : List Token) (tree : ProgramSyntax) → IsRead text ts tree → ⊥) → Answers of null text (view Null)
answer_nothing of text none = answer_unread of null text (view Null) none nothing

-- how an answer comes about
pub ruleset answers = (answer_read, answer_unread, answer_nothing)
