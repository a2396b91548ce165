use Rattle.std.proofs.Common.{List, ℕ, [], ◌++◌, codes, string_bytes}
use Rattle.std.specs.List.{flat_map}
use Rattle.pb_findings.specs.Gcc.{first_start, head_gcc, note_gcc, spots_gcc}
use Rattle.pb_findings.specs.declared.gcc.At.{At}
use Rattle.pb_findings.specs.Rules.{rule_name}
use Rattle.pb_findings.specs.Spots.{spots_of}
use Rattle.pb_findings.proofs.ObjectLemmas.{on_ok, then}
use Rattle.pb_findings.proofs.gcc.put_refusal.Goals as goal

pub returns : goal.returns
returns c =
    let place : At = first_start (spots_of c.args.refusal.now) in
    let x0 : List ℕ = head_gcc c.args.name.now place (codes "error") (rule_name c.args.refusal.now.rule) (string_bytes c.args.refusal.now.message) in
    let x1 : List ℕ = spots_gcc c.args.name.now (spots_of c.args.refusal.now) in
    let x2 : List ℕ = flat_map (λ words. note_gcc c.args.name.now place [] (string_bytes words)) c.args.refusal.now.notes.items in
    let x3 : List ℕ = flat_map (λ words. note_gcc c.args.name.now place (codes "expected: ") (string_bytes words)) c.args.refusal.now.expected.items in
    let x4 : List ℕ = flat_map (λ words. note_gcc c.args.name.now place (codes "hint: ") (string_bytes words)) c.args.refusal.now.hints.items in
    on_ok c.put_notes-3.result (λ last. (then c.args.out.now.items c.put_head.new.out.items c.put_notes-3.new.out.items x0 (x1 ++ (x2 ++ (x3 ++ x4))) (rw (c.begin-place.ensures, c.as_bytes-code.ensures.value, c.name.ensures, c.as_bytes.ensures.value) at c.in_ok-put_head.ensures)
    (then c.put_head.new.out.items c.put_spots.new.out.items c.put_notes-3.new.out.items x1 (x2 ++ (x3 ++ x4)) c.in_ok-put_spots.ensures
    (then c.put_spots.new.out.items c.put_notes.new.out.items c.put_notes-3.new.out.items x2 (x3 ++ x4) (rw (c.begin-place.ensures, c.deref.ensures.value) at c.in_ok-put_notes.ensures)
    (then c.put_notes.new.out.items c.put_notes-2.new.out.items c.put_notes-3.new.out.items x3 x4 (rw (c.begin-place.ensures, c.deref-2.ensures.value) at c.in_ok-put_notes-2.ensures)
    (rw (c.begin-place.ensures, c.deref-3.ensures.value) at last))))))
    c.put_notes-3.ensures
