use Rattle.std.proofs.Common.{List, ℕ, ◌++◌, codes}
use Rattle.pb_findings.specs.Objects.{warned_text}
use Rattle.pb_findings.specs.Strings.{items_text}
use Rattle.pb_findings.proofs.ObjectLemmas.{on_ok, then}
use Rattle.pb_findings.proofs.object.put_warned_list.Goals as goal

pub returns : goal.returns
returns c =
    let items : List ℕ = items_text warned_text c.args.warned.now in
    let close : List ℕ = codes "]" in
    on_ok c.put-3.result
    (λ last.
    then c.args.out.now.items c.put.new.out.items c.put-3.new.out.items (codes ", \"warnings\": ") (codes "[" ++ (items ++ close)) c.in_ok-put.ensures
    (then c.put.new.out.items c.put-2.new.out.items c.put-3.new.out.items (codes "[") (items ++ close) c.in_ok-put-2.ensures
    (then c.put-2.new.out.items c.put_warned_items.new.out.items c.put-3.new.out.items items close c.in_ok-put_warned_items.ensures last)))
    c.put-3.ensures
