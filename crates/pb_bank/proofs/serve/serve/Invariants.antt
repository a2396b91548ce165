use Rattle.std.proofs.Common.{◌≡◌, ◌++◌, List, take}
use Rattle.pb_bank.specs.Queues.{Serves}
use Rattle.pb_bank.specs.declared.said.Said.{Said}
use Rattle.pb_bank.proofs.serve.serve.Given as goal

abbrev pub invariant-loop-wish : goal.invariant-loop-wish
invariant-loop-wish l = record {
  served : (said : List Said)
      × Serves l.initial.bank.state (take l.wish-index l.wishes) said l.waiting.items l.bank.state
      × (l.out.items ≡ l.initial.out.items ++ said);
  used : l.bank.used ≡ l.initial.bank.used;
  claims : l.bank.state.claims ≡ l.initial.bank.state.claims;
  capital : l.bank.state.capital ≡ l.initial.bank.state.capital;
}
