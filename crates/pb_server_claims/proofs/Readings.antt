-- What is known of a text that has tokens.
use Rattle.std.proofs.Common.{◌≡◌, ℕ, List, Option, Some, None, subst, sym}
use Rattle.pb_lexer.specs.Cutting.{AreTokensOf}
use Rattle.pb_lexer.specs.Tokens.{tokens}
use Rattle.pb_lexer.specs.declared.token.Token.{Token as Given}
use Rattle.pb_server_claims.specs.Known.{Knows, no_tree, tokens_alone, tree}
use Rattle.pb_server_claims.specs.Numbered.{IsFound, Numbered}
use Rattle.pb_server_texts.specs.Reading.{IsTreeOf}
use Rattle.pb_tree.specs.Syntax.{ProgramSyntax}

-- they are no program
pub known_alone : (text : List ℕ) (given slice : List Given) (t : ProgramSyntax) → slice ≡ given
    → AreTokensOf text (tokens given) → ((other : ProgramSyntax) → IsTreeOf (tokens slice) other → ⊥) → t ≡ no_tree
    → Knows text (Some (record { tokens = tokens given; tree = t; found = None }))
known_alone text given slice t same cut none empty =
    subst (λ (e : ProgramSyntax). Knows text (Some (record { tokens = tokens given; tree = e; found = None }))) (sym empty)
    (tokens_alone (tokens given) cut
    (λ other is. none other (subst (λ (l : List Given). IsTreeOf (tokens l) other) (sym same) is)))

-- they are one
pub known_tree : (text : List ℕ) (given slice : List Given) (t : ProgramSyntax) (found : Option Numbered) → slice ≡ given
    → AreTokensOf text (tokens given) → IsTreeOf (tokens slice) t → IsFound t found
    → Knows text (Some (record { tokens = tokens given; tree = t; found = found }))
known_tree text given slice t found same cut is of =
    tree (record { tokens = tokens given; tree = t; found = found })
    (record { cut = cut; tree_of = subst (λ (l : List Given). IsTreeOf (tokens l) t) same is }) of
