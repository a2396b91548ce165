use Rattle.std.proofs.Common.{List, ℕ, ◌++◌, codes}
use Rattle.pb_findings.specs.Strings.{list_member, words_text}
use Rattle.std.specs.Prelude.{string_bytes}
use Rattle.pb_findings.proofs.ObjectLemmas.{on_ok, then}
use Rattle.pb_findings.proofs.object.put_notes.Goals as goal

pub returns : goal.returns
returns c =
    let expected : List ℕ = list_member (codes ", \"expected\": ") (λ words. words_text (string_bytes words)) c.args.refusal.now.expected.items in
    let hints : List ℕ = list_member (codes ", \"hints\": ") (λ words. words_text (string_bytes words)) c.args.refusal.now.hints.items in
    let notes : List ℕ = list_member (codes ", \"notes\": ") (λ words. words_text (string_bytes words)) c.args.refusal.now.notes.items in
    on_ok c.put_strings-3.result
    (λ last.
    then c.args.out.now.items c.put_strings.new.out.items c.put_strings-3.new.out.items expected (hints ++ notes)
    (rw c.deref.ensures.value at c.in_ok-put_strings.ensures)
    (then c.put_strings.new.out.items c.put_strings-2.new.out.items c.put_strings-3.new.out.items hints notes
    (rw c.deref-2.ensures.value at c.in_ok-put_strings-2.ensures) (rw c.deref-3.ensures.value at last)))
    c.put_strings-3.ensures
