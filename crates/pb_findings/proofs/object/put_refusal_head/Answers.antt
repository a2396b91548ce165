use Rattle.std.proofs.Common.{List, ℕ, ◌++◌, codes}
use Rattle.std.specs.Prelude.{string_bytes}
use Rattle.pb_findings.specs.Rules.{rule_name}
use Rattle.pb_findings.specs.Strings.{words_member}
use Rattle.pb_findings.proofs.ObjectLemmas.{on_ok, then}
use Rattle.pb_findings.proofs.object.put_refusal_head.Goals as goal

pub returns : goal.returns
returns c =
    let code : List ℕ = words_member (codes ", \"accepted\": false, \"code\": ") (rule_name c.args.refusal.now.rule) in
    let line : List ℕ = words_member (codes ", \"refusal\": ") c.args.refusal.now.line.items in
    let words : List ℕ = words_member (codes ", \"message\": ") (string_bytes c.args.refusal.now.message) in
    on_ok c.put_member-3.result
    (λ last.
    then c.args.out.now.items c.put_member.new.out.items c.put_member-3.new.out.items code (line ++ words)
    (rw (c.as_bytes.ensures.value, c.name.ensures) at c.in_ok-put_member.ensures)
    (then c.put_member.new.out.items c.put_member-2.new.out.items c.put_member-3.new.out.items line words
    (rw c.deref.ensures.value at c.in_ok-put_member-2.ensures) (rw c.as_bytes-2.ensures.value at last)))
    c.put_member-3.ensures
