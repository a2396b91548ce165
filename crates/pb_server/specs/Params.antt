-- What the parameters of a message say of a document.
use Rattle.std.specs.Prelude.{ℕ, List, Option, None, Some, codes, option_and_then}
use Rattle.serde_json.specs.Data.{Data, Items, null, boolean, number, string, array, object, no_items, item}
use Rattle.serde_json.specs.Find.{get, as_array}
use Rattle.pb_adapter_requests.specs.Requests.{number_in, text_in}

-- what the parameters say of a document, if they do
abbrev pub document_in : Option Data → Option Data
document_in params = option_and_then (get (codes "textDocument")) params

-- the name of the document, its version, and the text with which it is opened
abbrev pub uri_in : Option Data → Option (List ℕ)
uri_in params = option_and_then (text_in (codes "uri")) (document_in params)

abbrev pub version_in : Option Data → Option ℕ
version_in params = option_and_then (number_in (codes "version")) (document_in params)

abbrev pub opened_text : Option Data → Option (List ℕ)
opened_text params = option_and_then (text_in (codes "text")) (document_in params)

-- the text of a change, if it is of the whole text and not of a range of it; null is no range
abbrev pub whole_if : (range : Option Data) → Data → Option (List ℕ)
whole_if None change = text_in (codes "text") change
whole_if (Some null) change = text_in (codes "text") change
whole_if (Some (boolean b)) change = None
whole_if (Some (number n)) change = None
whole_if (Some (string s)) change = None
whole_if (Some (array ds)) change = None
whole_if (Some (object ms)) change = None

-- the text of a change, if it is of the whole text
abbrev pub whole_text : Data → Option (List ℕ)
whole_text change = whole_if (get (codes "range") change) change

-- the last of these items, if there are some
abbrev pub last_item : Items → Option Data
last_item no_items = None
last_item (item d no_items) = Some d
last_item (item d (item e ds)) = last_item (item e ds)

-- the changes of a text, and the text that they leave: that of the last one
abbrev pub changes_in : Option Data → Option Items
changes_in params = option_and_then (λ d. option_and_then as_array (get (codes "contentChanges") d)) params

abbrev pub changed_text : Option Data → Option (List ℕ)
changed_text params = option_and_then whole_text (option_and_then last_item (changes_in params))
