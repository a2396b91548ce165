use Rattle.std.proofs.Common.{subst, sym}
use Rattle.pb_object.specs.Answers.{HasText}
use Rattle.pb_code.specs.Whole.{Code}
use Rattle.pb_code.specs.View.{labels_view}
use Rattle.pb_code.specs.declared.format.Format.TheVariants.{Two}
use Rattle.pb_accept.specs.Causes.{load_cause}
use Rattle.pb_accept.specs.Migrations.{SaysOfMigration, no_code}
use Rattle.pb_accept.specs.Sayings.{NoCode}
use Rattle.pb_accept.proofs.EmissionLemmas.{migration_is_told}
use Rattle.pb_accept.proofs.InputLemmas.{of_cause}
use Rattle.pb_voice.specs.Held.{at}
use Rattle.pb_accept.proofs.migrate.tell_migration.Goals as goal

pub tell_second_format-status-requires : goal.tell_second_format-status-requires
tell_second_format-status-requires g c =
    subst (λ (code : Code). HasText Two code (labels_view c.in-Ok.labels)) (sym c.code.ensures.code) c.in-Ok.ensures.writable

pub returns-in-Ok : goal.returns-in-Ok
returns-in-Ok g c =
    migration_is_told g.T.Teller.tells g.T.Teller.breaks (at g.O.Output.written g.O.Output.failures c.args.teller.now c.args.output.now)
    (at g.O.Output.written g.O.Output.failures c.tell_second_format-status.new.teller c.tell_second_format-status.new.output) c.tell_second_format-status.result c.args.bytes.now _ _ (labels_view c.in-Ok.labels) c.requires
    c.in-Ok.ensures.loaded c.code.ensures.code c.tell_second_format-status.ensures

pub returns-in-Err : goal.returns-in-Err
returns-in-Err g c =
    of_cause g.T.Teller.tells g.T.Teller.breaks SaysOfMigration (at g.O.Output.written g.O.Output.failures c.args.teller.now c.args.output.now)
    (at g.O.Output.written g.O.Output.failures c.tell_load_fault.new.teller c.tell_load_fault.new.output) c.tell_load_fault.result c.args.bytes.now
    (load_cause c.in-Err.fault) (NoCode c.in-Err.fault) c.requires (λ cause is. no_code c.in-Err.fault cause c.in-Err.ensures.fault is)
    c.tell_load_fault.ensures
