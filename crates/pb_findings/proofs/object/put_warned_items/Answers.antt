use Rattle.std.proofs.Common.{◌++◌, ◌-◌, ◌∙◌, List, ℕ, ap, drop, length, sym, take}
use Rattle.std.specs.List.{flat_map}
use Rattle.pb_findings.specs.Objects.{warned_text}
use Rattle.pb_findings.specs.Strings.{further}
use Rattle.pb_findings.proofs.ObjectLemmas.{first_item, on_ok, then}
use Rattle.pb_findings.proofs.object.put_warned_items.Goals as goal

pub returns-in_ok-put_warned-in-len1-up : goal.returns-in_ok-put_warned-in-len1-up
returns-in_ok-put_warned-in-len1-up c =
    let spots = c.args.warned.now in
    on_ok c.put_further_warned.result
    (λ added. then c.args.out.now.items c.put_warned.new.out.items c.put_further_warned.new.out.items (warned_text c.first-item.result)
    (flat_map (further warned_text) (take (length spots - 1) (drop 1 spots))) c.in_ok-put_warned-in-len1-up.ensures added
    ∙ ap (λ (l : List ℕ). c.args.out.now.items ++ l) (sym (first_item warned_text spots c.first-item.result c.in-len1-up.len_at_least c.first-item.is)))
    c.put_further_warned.ensures
