use Rattle.pb_code.specs.View.{process_view}
use Rattle.pb_machine.specs.Views.{thread_view}
use Rattle.pb_debug_texts.proofs.Asking.{none_asked}
use Rattle.pb_debug_texts.proofs.who.amount_asked.Goals as goal

pub returns-in-None : goal.returns-in-None
returns-in-None c =
    none_asked (process_view c.args.code.now) (thread_view c.args.thread.now) c.args.r c.in-None.ensures.none
