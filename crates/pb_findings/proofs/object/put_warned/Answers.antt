use Rattle.std.proofs.Common.{List, ℕ, ◌++◌, codes}
use Rattle.std.specs.Prelude.{string_bytes}
use Rattle.pb_options.specs.Codes.{code_name}
use Rattle.pb_findings.specs.Objects.{place_members}
use Rattle.pb_findings.specs.Strings.{words_member}
use Rattle.pb_findings.proofs.ObjectLemmas.{on_ok, then}
use Rattle.pb_findings.proofs.object.put_warned.Goals as goal

pub returns : goal.returns
returns c =
    let code : List ℕ = words_member (codes "{\"code\": ") (code_name c.args.warned.now.code) in
    let line : List ℕ = words_member (codes ", \"warning\": ") c.args.warned.now.line.items in
    let words : List ℕ = words_member (codes ", \"message\": ") (string_bytes c.args.warned.now.message) in
    let place : List ℕ = place_members c.args.warned.now.spot in
    let close : List ℕ = codes "}" in
    let all : List ℕ = codes ", " ++ (place ++ close) in
    on_ok c.put-2.result
    (λ last.
    then c.args.out.now.items c.put_member.new.out.items c.put-2.new.out.items code (line ++ (words ++ all))
    (rw (c.as_bytes.ensures.value, c.name.ensures) at c.in_ok-put_member.ensures)
    (then c.put_member.new.out.items c.put_member-2.new.out.items c.put-2.new.out.items line (words ++ all)
    (rw c.deref.ensures.value at c.in_ok-put_member-2.ensures)
    (then c.put_member-2.new.out.items c.put_member-3.new.out.items c.put-2.new.out.items words all
    (rw c.as_bytes-2.ensures.value at c.in_ok-put_member-3.ensures)
    (then c.put_member-3.new.out.items c.put.new.out.items c.put-2.new.out.items (codes ", ") (place ++ close) c.in_ok-put.ensures
    (then c.put.new.out.items c.put_place.new.out.items c.put-2.new.out.items place close c.in_ok-put_place.ensures last)))))
    c.put-2.ensures
