use Rattle.std.proofs.Common.{◌≡◌, ◌<◌, [], map, length, true, false, sym, ◌∙◌, arith}
use Rattle.pb_verifier.proofs.LimitTests.{at_mapped, bytes_differ, bytes_same, new_more}
use Rattle.pb_verifier.proofs.limits.is_new.Goals as goal

pub returns-then-eq : goal.returns-then-eq
returns-then-eq c =
    let u : c.loop-j.j < length c.args.names.now = omega arith in
    let one = at_mapped (λ name. name.items) c.args.names.now c.args.k c.index-names-k.result [] c.requires c.index-names-k.is in
    let two = at_mapped (λ name. name.items) c.args.names.now c.loop-j.j c.index-names-j.result [] u c.index-names-j.is in
    let same = sym c.as_slice.ensures.value ∙ bytes_same c.as_slice.result.now c.as_slice-in-loop-j.result.now
    c.if-eq.ensures ∙ c.as_slice-in-loop-j.ensures.value in
    (λ e. let wrong : false ≡ true = e in cc, λ new. absurd (new c.loop-j.j (omega arith) u (one ∙ same ∙ sym two)))

pub loop-j-preserved : goal.loop-j-preserved
loop-j-preserved c =
    let u : c.loop-j.j < length c.args.names.now = omega arith in
    let one = at_mapped (λ name. name.items) c.args.names.now c.args.k c.index-names-k.result [] c.requires c.index-names-k.is in
    let two = at_mapped (λ name. name.items) c.args.names.now c.loop-j.j c.index-names-j.result [] u c.index-names-j.is in
    new_more (map (λ name. name.items) c.args.names.now) c.args.k c.loop-j.j c.loop-j.invariant
    (λ same.
    bytes_differ c.as_slice.result.now c.as_slice-in-loop-j.result.now c.if-eq.ensures
    (c.as_slice.ensures.value ∙ sym one ∙ same ∙ two ∙ sym c.as_slice-in-loop-j.ensures.value))
