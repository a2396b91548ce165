use Rattle.pb_names.specs.Resolves.{assign}
use Rattle.pb_names.proofs.Views.{numbered-Assign}
use Rattle.pb_resolver.proofs.resolver.add_assign.Goals as goal

pub returns : goal.returns
returns g c rs n = record {
  made = _;
  pushed = c.in_ok-push.ensures.items;
  resolves = rw numbered-Assign (assign _ _ _ _ _ c.number_in-target.ensures c.in_ok-value.ensures);
  numbered = rw numbered-Assign tt;
}
