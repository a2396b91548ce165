-- What is known of a text.
use Rattle.std.specs.Prelude.{ℕ, List, [], Option, Some, None, option_map}
use Rattle.pb_lexer.specs.Cutting.{AreTokensOf}
use Rattle.pb_lexer.specs.Tokens.{Token, tokens}
use Rattle.pb_server_claims.specs.Numbered.{IsFound, Numbered, numbered}
use Rattle.pb_server_claims.specs.declared.reading.Reading.{Reading}
use Rattle.pb_server_texts.specs.Reading.{IsRead, IsTreeOf}
use Rattle.pb_tree.specs.Syntax.{ProgramSyntax}
use Rattle.pb_tree.specs.View.{program_view}

-- the tokens of a text, its tree, and its numbered program if there is one
pub record Known : Type 0 where
  pub tokens : List Token
  pub tree : ProgramSyntax
  pub found : Option Numbered

-- what a value of the code knows
abbrev pub known : Reading → Known
known reading = record {
  tokens = tokens reading.tokens.items;
  tree = program_view reading.tree;
  found = option_map numbered reading.found;
}

-- in the place of a tree, if there is none
abbrev pub no_tree : ProgramSyntax
no_tree = record { resources = []; processes = [] }

-- this is known of the text: its tree, and the numbered program unless its names have a fault; or its tokens alone, which
-- are no program; or nothing, since it has no tokens
pub data Knows (text : List ℕ) : Option Known → Type 0 where
  tree : (k : Known) → IsRead text k.tokens k.tree → IsFound k.tree k.found → Knows text (Some k)
  tokens_alone : (ts : List Token) → AreTokensOf text ts → ((t : ProgramSyntax) → IsTreeOf ts t → ⊥)
      → Knows text (Some (record { tokens = ts; tree = no_tree; found = None }))
  nothing : ((ts : List Token) → AreTokensOf text ts → ⊥) → Knows text None
