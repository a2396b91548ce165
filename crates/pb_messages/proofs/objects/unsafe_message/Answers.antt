use Rattle.std.proofs.Common.{sym}
use Rattle.pb_accept.specs.declared.load.LoadFault.TheVariants.{Unsafe}
use Rattle.pb_messages.proofs.SaidLemmas.{object_told}
use Rattle.pb_messages.proofs.objects.unsafe_message.Goals as goal

pub returns : goal.returns
returns c =
    object_told (λ told. told.items) c.args.bytes.now (Unsafe c.args.fault) c.in-Some.cause c.worded.result
    c.requires (sym c.in-Some.ensures) c.worded.ensures.told
