use Rattle.std.proofs.Common.{◌≡◌, ◌<◌, ◌≤◌, ℕ, List, All, length, map, arith, ap, sym, subst, ◌∙◌, refl}
use Rattle.std.proofs.lemmas.List.{length-map}
use Rattle.std.proofs.lemmas.Simd.{map-map}
use Rattle.pb_base.specs.Tables.{HasWidth, width_of}
use Rattle.pb_object.specs.Objects.{ResourceRow, ProcessRow}
use Rattle.pb_object.specs.Rows.{process_row, resource_row}
use Rattle.pb_code.specs.View.{process_view, process_labels_view}
use Rattle.pb_object.proofs.Columns.{small_capitals, claims_width, rows_codes, rows_labels, whole_code}
use Rattle.pb_object.proofs.assemble.assemble.Goals as goal

pub new-requires-clause-small : goal.new-requires-clause-small
new-requires-clause-small c =
    subst (λ (l : List ℕ). All (λ n. n ≤ 1000000) l) (sym (c.deref.ensures.value ∙ c.in_ok-names.ensures.amounts))
    (small_capitals c.args.rows.resources.items c.requires.good.resources)

pub claims_of-requires-clause-some : goal.claims_of-requires-clause-some
claims_of-requires-clause-some c =
    let table : map (λ row. row.items) c.deref-2.result.now ≡ map (λ p. p.claims.items) c.args.rows.processes.items =
    ap (map (λ row. row.items)) c.deref-2.ensures.value ∙ c.in_ok-columns.ensures.claims in
    let count = ap (λ (l : List (List ℕ)). length l) table in
    let some : 0 < length (map process_row c.args.rows.processes.items) = (let s = c.requires.good.some_processes in omega arith) in
    let rows : 0 < length c.args.rows.processes.items = simp length-map at some in
    let same : length c.deref-2.result.now ≡ length c.args.rows.processes.items = simp length-map at count in
    omega (arith, rows, same)

pub claims_of-requires-clause-few_resources : goal.claims_of-requires-clause-few_resources
claims_of-requires-clause-few_resources c =
    let table : map (λ row. row.items) c.deref-2.result.now ≡ map (λ p. p.claims.items) c.args.rows.processes.items =
    ap (map (λ row. row.items)) c.deref-2.ensures.value ∙ c.in_ok-columns.ensures.claims in
    let some : 0 < length (map process_row c.args.rows.processes.items) = (let s = c.requires.good.some_processes in omega arith) in
    let rows : 0 < length c.args.rows.processes.items = simp length-map at some in
    let wide = claims_width c.args.rows.format _ c.args.rows.processes.items rows c.requires.good.few_resources c.requires.good.processes in
    subst (λ (t : List (List ℕ)). width_of t ≤ 16) (sym table) wide.0

pub claims_of-requires-clause-one_length : goal.claims_of-requires-clause-one_length
claims_of-requires-clause-one_length c =
    let table : map (λ row. row.items) c.deref-2.result.now ≡ map (λ p. p.claims.items) c.args.rows.processes.items =
    ap (map (λ row. row.items)) c.deref-2.ensures.value ∙ c.in_ok-columns.ensures.claims in
    let some : 0 < length (map process_row c.args.rows.processes.items) = (let s = c.requires.good.some_processes in omega arith) in
    let rows : 0 < length c.args.rows.processes.items = simp length-map at some in
    let wide = claims_width c.args.rows.format _ c.args.rows.processes.items rows c.requires.good.few_resources c.requires.good.processes in
    subst (λ (t : List (List ℕ)). HasWidth (width_of t) t) (sym table) wide.1

pub returns-clause-code : goal.returns-clause-code
returns-clause-code c =
    let resources = c.args.rows.resources.items in
    let processes = c.args.rows.processes.items in
    whole_code _ _ _ _ _ _ _ _ _ _
    (c.in_ok-columns.ensures.names ∙ sym (map-map (λ (p : ProcessRow). p.name) process_row processes))
    (c.in_ok-names.ensures.names ∙ sym (map-map (λ (r : ResourceRow). r.name) resource_row resources))
    (c.in_ok-capital.ensures ∙ c.deref.ensures.value ∙ c.in_ok-names.ensures.amounts ∙ sym (map-map (λ (r : ResourceRow). r.capital) resource_row resources))
    (c.in_ok-claims.ensures ∙ ap (map (λ row. row.items)) c.deref-2.ensures.value ∙ c.in_ok-columns.ensures.claims ∙
    sym (map-map (λ (p : ProcessRow). p.claims) process_row processes))
    (ap (map process_view) c.in_ok-columns.ensures.codes ∙ rows_codes processes c.requires.fit)
    _ refl

pub returns-clause-labels : goal.returns-clause-labels
returns-clause-labels c = ap (map process_labels_view) c.in_ok-columns.ensures.labels ∙ rows_labels c.args.rows.processes.items c.requires.fit
