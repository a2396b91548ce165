-- What a method is, by its name.
use Rattle.std.specs.Prelude.{ℕ, cond, List, codes}
use Rattle.std.specs.Str.{bytes_eq}
use Rattle.pb_server.specs.declared.method.Method.{Method}
use Rattle.pb_server.specs.declared.method.Method.TheVariants as methods
use Rattle.pb_server.specs.declared.method.Notice.{Notice}
use Rattle.pb_server.specs.declared.method.Notice.TheVariants as notices
use Rattle.pb_server.specs.declared.query.Query.TheVariants as queries

-- what a request asks of the text of a document; else what is given
abbrev pub query_or : List ℕ → Method → Method
query_or m other =
    cond (bytes_eq m (codes "textDocument/diagnostic")) (methods.Query queries.Diagnostic)
    (cond (bytes_eq m (codes "textDocument/definition")) (methods.Query queries.Definition)
    (cond (bytes_eq m (codes "textDocument/references")) (methods.Query queries.References)
    (cond (bytes_eq m (codes "textDocument/rename")) (methods.Query queries.Rename)
    (cond (bytes_eq m (codes "textDocument/documentSymbol")) (methods.Query queries.Symbols)
    (cond (bytes_eq m (codes "textDocument/completion")) (methods.Query queries.Completion)
    (cond (bytes_eq m (codes "textDocument/codeAction")) (methods.Query queries.Actions)
    (cond (bytes_eq m (codes "textDocument/hover")) (methods.Query queries.Hover)
    (cond (bytes_eq m (codes "textDocument/inlayHint")) (methods.Query queries.Hints) other))))))))

-- what a request asks for
abbrev pub method_of : List ℕ → Method
method_of m =
    cond (bytes_eq m (codes "initialize")) methods.Initialize
    (cond (bytes_eq m (codes "shutdown")) methods.Shutdown
    (query_or m methods.Unknown))

-- what a notification says
abbrev pub notice_of : List ℕ → Notice
notice_of m =
    cond (bytes_eq m (codes "textDocument/didOpen")) notices.Opened
    (cond (bytes_eq m (codes "textDocument/didChange")) notices.Changed
    (cond (bytes_eq m (codes "textDocument/didClose")) notices.Closed
    (cond (bytes_eq m (codes "exit")) notices.Exit notices.Other)))
