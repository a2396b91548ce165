use Rattle.std.proofs.Common.{◌≡◌, ◌++◌, drop}
use Rattle.pb_base.specs.Lines.{names_view}
use Rattle.pb_desk.specs.Services.{after_each, notices_of_all}
use Rattle.pb_desk.proofs.notices.notify_all.Given as goal

abbrev pub invariant-loop-said : goal.invariant-loop-said
invariant-loop-said l = record {
  after :
      after_each l.owners (names_view l.names) l.sessions.items (drop l.said-index l.all)
      ≡ after_each l.owners (names_view l.names) l.initial.sessions.items l.all;
  told :
      l.out.items ++ notices_of_all l.owners (names_view l.names) l.sessions.items (drop l.said-index l.all)
      ≡ l.initial.out.items ++ notices_of_all l.owners (names_view l.names) l.initial.sessions.items l.all;
}
