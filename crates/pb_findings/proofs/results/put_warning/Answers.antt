use Rattle.std.proofs.Common.{List, ℕ, [], ◌∷◌, ◌++◌, codes, string_bytes}
use Rattle.pb_options.specs.Codes.{code_name}
use Rattle.pb_findings.specs.Sarif.{result_head, result_places}
use Rattle.pb_findings.specs.Strings.{inside}
use Rattle.pb_findings.proofs.ObjectLemmas.{on_ok, then}
use Rattle.pb_findings.proofs.results.put_warning.Goals as goal

pub returns : goal.returns
returns c =
    let x0 : List ℕ = result_head (codes "warning") (code_name c.args.warned.now.code) in
    let x1 : List ℕ = inside (string_bytes c.args.warned.now.message) in
    let x2 : List ℕ = result_places c.args.name.now (c.args.warned.now.spot ∷ []) in
    on_ok c.put_places.result (λ last. (then c.args.out.now.items c.put_head.new.out.items c.put_places.new.out.items x0 (x1 ++ x2) (rw (c.as_bytes.ensures.value, c.name.ensures) at c.in_ok-put_head.ensures)
    (then c.put_head.new.out.items c.put_inside.new.out.items c.put_places.new.out.items x1 x2 (rw (c.as_bytes-2.ensures.value) at c.in_ok-put_inside.ensures)
    last)))
    c.put_places.ensures
