use Rattle.std.proofs.Common.{◌∙◌}
use Rattle.pb_generator.proofs.Parts.{put_bundle, got_last}
use Rattle.pb_generator.proofs.writer.Writer.put_take.Goals as goal

pub returns-clause-added : goal.returns-clause-added
returns-clause-added c =
    put_bundle _ _ _ c.len-place.result _ c.requires.sound (c.len-place.ensures ∙ c.args.self.now.bundles.ok.0)
    c.in_ok-push.ensures.items c.in_ok-push-2.ensures.items c.in_ok-push-3.ensures.items

pub returns-clause-bundle : goal.returns-clause-bundle
returns-clause-bundle c =
    got_last _ _ _ c.len-place.result (c.len-place.ensures ∙ c.args.self.now.bundles.ok.0) c.in_ok-push.ensures.items
