use Rattle.std.proofs.Common.{refl}
use Rattle.pb_generator.proofs.Parts.{put_at}
use Rattle.pb_generator.proofs.writer.Writer.patch.Goals as goal

pub returns : goal.returns
returns c = put_at c.args.self.now _ c.args.place c.args.instr c.requires.sound c.requires.plain refl refl refl
