use Rattle.pb_names.specs.Resolves.{while_do}
use Rattle.pb_names.proofs.Views.{numbered-While}
use Rattle.pb_resolver.proofs.resolver.add_while.Goals as goal

pub returns : goal.returns
returns g c rs n a inside numbered = record {
  made = _;
  pushed = c.in_ok-push.ensures.items;
  resolves = rw numbered-While (while_do _ _ _ _ _ c.in_ok-test.ensures inside);
  numbered = rw numbered-While numbered;
}
