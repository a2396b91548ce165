-- The documents that are open.
use Rattle.std.specs.Prelude.{ℕ, List, [], ◌∷◌, ◌++◌, Bool, Option, None, Some, option_map, slice_get, string_bytes}
use Rattle.std.specs.List.{position_from, remove}
use Rattle.std.specs.Str.{bytes_eq}
use Rattle.pb_server.specs.declared.documents.Document.{Document as GivenDocument}

-- a document, by its name, with its text
pub record Document : Type 0 where
  pub uri : List ℕ
  pub text : List ℕ

-- what contracts see of a document
abbrev pub document_view : GivenDocument → Document
document_view d = record { uri = string_bytes d.uri; text = string_bytes d.text }

-- whether a document has this name
abbrev pub is_named : (uri : List ℕ) → Document → Bool
is_named uri d = bytes_eq d.uri uri

-- the place of the first document with this name
abbrev pub place_of : (uri : List ℕ) → List Document → Option ℕ
place_of uri docs = position_from (is_named uri) 0 docs

-- the text of the document in a place, if there is one
abbrev pub text_at : List Document → Option ℕ → Option (List ℕ)
text_at docs None = None
text_at docs (Some i) = option_map (λ d. d.text) (slice_get docs i)

-- the text of the document with this name, if it is open
abbrev pub text_of : (uri : List ℕ) → List Document → Option (List ℕ)
text_of uri docs = text_at docs (place_of uri docs)

-- all documents but the one in a place
abbrev pub without_at : List Document → Option ℕ → List Document
without_at docs None = docs
without_at docs (Some i) = remove docs i

-- all documents but the one with this name
abbrev pub without : (uri : List ℕ) → List Document → List Document
without uri docs = without_at docs (place_of uri docs)

-- the document with this name has this text
abbrev pub with_text : (uri text : List ℕ) → List Document → List Document
with_text uri text docs = without uri docs ++ record { uri = uri; text = text } ∷ []
