use Rattle.std.proofs.Common.{Vec, Global, ℕ, List, [], map, ap, ◌∙◌}
use Rattle.pb_banker.specs.Value.{start_state}
use Rattle.pb_bank.proofs.StartDesks.{first_desk}
use Rattle.pb_bank.proofs.desk.Desk.new.Goals as goal

pub invariant_of-result : goal.invariant_of-result
invariant_of-result c =
    first_desk _ (record {
      state = c.new-bank.ensures.state ∙ ap (λ (money : List ℕ). start_state money []) c.in_ok-capital.ensures;
      used = c.new-bank.ensures.used;
      jobs = c.in_ok-processes.ensures;
      resources = ap (λ (ns : List (Vec ℕ Global)). map (λ (n : Vec ℕ Global). n.items) ns) c.new-2.ensures.items;
      wishes = c.new-3.ensures.items;
    })
