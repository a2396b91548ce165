use Rattle.std.proofs.Common.{◌∙◌, ap, subst}
use Rattle.pb_verifier.specs.Verified.{IsVerified, VerifiedCode}
use Rattle.pb_accept.proofs.EmissionLemmas.{has_second_text, is_second}
use Rattle.pb_accept.proofs.emit.second_object.Goals as goal

pub write_object2-requires : goal.write_object2-requires
write_object2-requires c =
    let same = c.code-code.ensures.code ∙ ap (λ (v : VerifiedCode). v.code) c.verified.ensures in
    has_second_text c.args.compiled.now.verified _ c.args.compiled.now.labels _ same c.labels.ensures.labels
    (subst IsVerified c.verified.ensures c.code-code.ensures.verified) c.requires

pub returns : goal.returns
returns c =
    let same = c.code-code.ensures.code ∙ ap (λ (v : VerifiedCode). v.code) c.verified.ensures in
    is_second (λ text. text.items) c.args.compiled.now.verified.code _ c.args.compiled.now.labels _ c.write_object2.result same
    c.labels.ensures.labels c.write_object2.ensures
