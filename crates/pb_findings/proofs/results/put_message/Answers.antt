use Rattle.std.proofs.Common.{List, ℕ, [], ◌++◌, codes, string_bytes}
use Rattle.std.specs.List.{flat_map}
use Rattle.pb_findings.specs.Sarif.{note_sarif}
use Rattle.pb_findings.specs.Strings.{inside}
use Rattle.pb_findings.proofs.ObjectLemmas.{on_ok, then}
use Rattle.pb_findings.proofs.results.put_message.Goals as goal

pub returns : goal.returns
returns c =
    let x0 : List ℕ = inside (string_bytes c.args.refusal.now.message) in
    let x1 : List ℕ = flat_map (λ words. note_sarif [] (string_bytes words)) c.args.refusal.now.notes.items in
    let x2 : List ℕ = flat_map (λ words. note_sarif (codes "expected: ") (string_bytes words)) c.args.refusal.now.expected.items in
    let x3 : List ℕ = flat_map (λ words. note_sarif (codes "hint: ") (string_bytes words)) c.args.refusal.now.hints.items in
    on_ok c.put_notes-3.result (λ last. (then c.args.out.now.items c.put_inside.new.out.items c.put_notes-3.new.out.items x0 (x1 ++ (x2 ++ x3)) (rw (c.as_bytes.ensures.value) at c.in_ok-put_inside.ensures)
    (then c.put_inside.new.out.items c.put_notes.new.out.items c.put_notes-3.new.out.items x1 (x2 ++ x3) (rw (c.deref.ensures.value) at c.in_ok-put_notes.ensures)
    (then c.put_notes.new.out.items c.put_notes-2.new.out.items c.put_notes-3.new.out.items x2 x3 (rw (c.deref-2.ensures.value) at c.in_ok-put_notes-2.ensures)
    (rw (c.deref-3.ensures.value) at last)))))
    c.put_notes-3.ensures
