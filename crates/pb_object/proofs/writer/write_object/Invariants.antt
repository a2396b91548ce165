use Rattle.std.proofs.Common.{◌≡◌, ◌++◌, take}
use Rattle.pb_code.specs.declared.format.Format.TheVariants.{One}
use Rattle.pb_object.specs.Objects.{Object, code_of}
use Rattle.pb_code.specs.View.{code_view}
use Rattle.pb_object.proofs.WrittenRows.{opening, processes_text}
use Rattle.pb_object.proofs.writer.write_object.Given as goal

abbrev pub invariant-loop-p : goal.invariant-loop-p
invariant-loop-p l = (o : Object) → code_view l.code ≡ code_of o → l.out.items ≡ opening One o ++ processes_text One (take l.p o.processes)
