use Rattle.std.proofs.Common.{◌≡◌, ◌++◌, drop}
use Rattle.pb_base.specs.Lines.{names_view}
use Rattle.pb_bank.specs.Sayings.{sayings_of}
use Rattle.pb_bank.specs.Words.{words_of}
use Rattle.pb_bank_engine.specs.Forms.{spoken}
use Rattle.pb_bank_engine.proofs.sayings.put_sayings.Given as goal

abbrev pub invariant-loop-said : goal.invariant-loop-said
invariant-loop-said l =
    l.out.items ++ spoken l.form (sayings_of (names_view l.names) (words_of l.text) (drop l.said-index l.all))
    ≡ l.initial.out.items ++ spoken l.form (sayings_of (names_view l.names) (words_of l.text) l.all)
