use Rattle.std.proofs.Common.{List, ℕ, ◌++◌, codes}
use Rattle.std.specs.List.{flat_map}
use Rattle.pb_findings.specs.Sarif.{all_rules, array_text, invocation_sarif, notice_sarif, report_sarif, rule_if}
use Rattle.pb_findings.specs.Strings.{words_text}
use Rattle.pb_findings.proofs.ObjectLemmas.{on_ok, then}
use Rattle.pb_findings.proofs.sarif.put_document.Goals as goal

pub returns : goal.returns
returns c =
    let x0 : List ℕ = codes "{\n  \"$schema\": \"https://json.schemastore.org/sarif-2.1.0.json\",\n  \"version\": \"2.1.0\",\n  \"runs\": [\n    {\n      \"tool\": {\n        \"driver\": {\n          \"name\": \"parbegin\",\n          \"rules\": " in
    let x1 : List ℕ = array_text (codes "\n          ]") (flat_map (rule_if c.args.said.now) all_rules) in
    let x2 : List ℕ = codes ",\n          \"version\": " in
    let x3 : List ℕ = words_text c.args.version.now in
    let x4 : List ℕ = codes "\n        }\n      },\n      \"invocations\": [\n        {\n          \"executionSuccessful\": " in
    let x5 : List ℕ = invocation_sarif (flat_map notice_sarif c.args.said.now) in
    let x6 : List ℕ = codes "\n        }\n      ],\n      \"columnKind\": \"utf16CodeUnits\",\n      \"results\": " in
    let x7 : List ℕ = array_text (codes "\n      ]") (flat_map report_sarif c.args.said.now) in
    let x8 : List ℕ = codes "\n    }\n  ]\n}\n" in
    on_ok c.put-5.result (λ last. (then c.args.out.now.items c.put.new.out.items c.put-5.new.out.items x0 (x1 ++ (x2 ++ (x3 ++ (x4 ++ (x5 ++ (x6 ++ (x7 ++ x8))))))) c.in_ok-put.ensures
    (then c.put.new.out.items c.put_array.new.out.items c.put-5.new.out.items x1 (x2 ++ (x3 ++ (x4 ++ (x5 ++ (x6 ++ (x7 ++ x8)))))) (rw (c.deref.ensures.value, c.in_ok-rules.ensures) at c.in_ok-put_array.ensures)
    (then c.put_array.new.out.items c.put-2.new.out.items c.put-5.new.out.items x2 (x3 ++ (x4 ++ (x5 ++ (x6 ++ (x7 ++ x8))))) c.in_ok-put-2.ensures
    (then c.put-2.new.out.items c.put_words.new.out.items c.put-5.new.out.items x3 (x4 ++ (x5 ++ (x6 ++ (x7 ++ x8)))) c.in_ok-put_words.ensures
    (then c.put_words.new.out.items c.put-3.new.out.items c.put-5.new.out.items x4 (x5 ++ (x6 ++ (x7 ++ x8))) c.in_ok-put-3.ensures
    (then c.put-3.new.out.items c.put_invocation.new.out.items c.put-5.new.out.items x5 (x6 ++ (x7 ++ x8)) (rw (c.deref-2.ensures.value, c.in_ok-notices.ensures) at c.in_ok-put_invocation.ensures)
    (then c.put_invocation.new.out.items c.put-4.new.out.items c.put-5.new.out.items x6 (x7 ++ x8) c.in_ok-put-4.ensures
    (then c.put-4.new.out.items c.put_array-2.new.out.items c.put-5.new.out.items x7 x8 (rw (c.deref-3.ensures.value, c.in_ok-results.ensures) at c.in_ok-put_array-2.ensures)
    last)))))))))
    c.put-5.ensures
