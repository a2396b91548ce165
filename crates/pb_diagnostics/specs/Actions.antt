-- What an editor may do with a text that is refused: edits with which it gets further.
use Rattle.std.specs.Prelude.{◌≡◌, ℕ, All, List, codes}
use Rattle.serde_json.specs.Data.{Data, array, item, member, no_items, no_members, object, string}
use Rattle.serde_json.specs.View.{items_of}
use Rattle.pb_mends.specs.Mends.{Edit, Mends}
use Rattle.pb_server_names.specs.Values.{range_data}

-- the range of a text that an edit replaces
abbrev pub edit_range : (text : List ℕ) → Edit → Data
edit_range text edit = range_data text edit.start edit.end

-- other bytes in a range
abbrev pub text_edit : (range : Data) → (bytes : List ℕ) → Data
text_edit range bytes = object (member (codes "newText") (string bytes) (member (codes "range") range no_members))

-- one edit of one document
abbrev pub workspace_edit : (uri : List ℕ) → (edit : Data) → Data
workspace_edit uri edit = object (member (codes "changes") (object (member uri (array (item edit no_items)) no_members)) no_members)

-- an edit with what it does in words
abbrev pub action_data : (title : List ℕ) → (edit : Data) → Data
action_data title edit = object (member (codes "edit") edit
    (member (codes "kind") (string (codes "quickfix"))
    (member (codes "title") (string title) no_members)))

-- an action is an edit that mends the text; no definition says in which words
pub record IsAction (uri text : List ℕ) (d : Data) : Type 0 where
  pub edit : Edit
  pub mends : Mends text edit
  pub title : List ℕ
  pub is : d ≡ action_data title (workspace_edit uri (text_edit (edit_range text edit) edit.bytes))

-- a list of such actions
abbrev pub AnswersActions : (uri text : List ℕ) → Data → Type 0
AnswersActions uri text d = (actions : List Data) × All (IsAction uri text) actions × (d ≡ array (items_of actions))
