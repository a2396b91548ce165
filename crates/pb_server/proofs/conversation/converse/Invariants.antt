use Rattle.std.proofs.Common.{◌≡◌, ◌≤◌, ◌-◌, ℕ, List, Some}
use Rattle.pb_server.proofs.ConversationLemmas.{SaysSoFar}
use Rattle.pb_server.proofs.conversation.converse.Given as goal

abbrev pub invariant-loop-alloc : goal.invariant-loop-alloc
invariant-loop-alloc g l = record {
  few : l.heard ≤ 4294967296;
  reads : g.I.Input.failures l.input ≡ g.I.Input.failures l.initial.input;
  writes : g.O.Output.failures l.output ≡ g.O.Output.failures l.initial.output;
  says : (bytes : List ℕ) → g.I.Input.rest l.initial.input ≡ Some bytes
      → SaysSoFar g.L.Language.Diagnoses g.L.Language.Finds l.initial.session bytes l.heard (g.I.Input.rest l.input)
      (g.O.Output.written l.initial.output) (g.O.Output.written l.output) l.session;
}

abbrev pub decreases-loop-alloc : goal.decreases-loop-alloc
decreases-loop-alloc g l = 4294967296 - l.heard
