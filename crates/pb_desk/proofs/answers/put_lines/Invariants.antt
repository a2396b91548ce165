use Rattle.std.proofs.Common.{◌≡◌, ◌++◌, drop}
use Rattle.std.specs.List.{flat_map}
use Rattle.pb_base.specs.Lines.{names_view}
use Rattle.pb_bank.specs.Sayings.{sayings_of}
use Rattle.pb_bank.specs.Tables.{line_of}
use Rattle.pb_bank.specs.Words.{words_of}
use Rattle.pb_desk.proofs.answers.put_lines.Given as goal

abbrev pub invariant-loop-said : goal.invariant-loop-said
invariant-loop-said l =
    l.out.items ++ flat_map line_of (sayings_of (names_view l.names) (words_of l.text) (drop l.said-index l.all))
    ≡ l.initial.out.items ++ flat_map line_of (sayings_of (names_view l.names) (words_of l.text) l.all)
